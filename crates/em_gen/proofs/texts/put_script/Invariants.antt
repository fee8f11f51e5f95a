use Rattle.std.proofs.Common.{◌≡◌, ◌++◌, codes, string_bytes}
use Rattle.std.specs.List.{flat_map, range_with_len}
use Rattle.em_gen.specs.Workload.{release_text}
use Rattle.em_gen.proofs.texts.put_script.Given as goal

-- the header line and the lines of the releases so far stand after what stood there
abbrev pub invariant-loop-count : goal.invariant-loop-count
invariant-loop-count l =
    string_bytes l.text ≡ string_bytes l.fn.text ++ codes "%script\n" ++ flat_map release_text (range_with_len 0 l.count-counter)

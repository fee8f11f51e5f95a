use Rattle.std.proofs.Common.{◌≡◌, ◌*◌, take, vec_len}
use Rattle.std.specs.List.{flat_map}
use Rattle.em_hart.specs.Hart.{bytes_of}
use Rattle.em_hart.proofs.windows.window_bytes.Given as goal

abbrev pub invariant-loop-word : goal.invariant-loop-word
invariant-loop-word l =
    (l.bytes.items ≡ flat_map (bytes_of 4) (take l.word-index l.first)) × (vec_len l.bytes ≡ 4 * l.word-index)

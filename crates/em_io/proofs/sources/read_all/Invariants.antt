use Rattle.std.proofs.Common.{◌≡◌, ◌≤◌, ◌-◌, ◌+◌, length}
use Rattle.em_io.specs.Bytes.{then_left, input_limit}
use Rattle.em_io.proofs.sources.read_all.Given as goal

-- the bytes so far stand before what is left, are within the limit, and the count of faults has not fallen
abbrev pub invariant-loop-bytes : goal.invariant-loop-bytes
invariant-loop-bytes g l = record {
  taken : g.S.Source.left l.fn.src ≡ then_left l.bytes.items (g.S.Source.left l.src);
  within : length l.bytes.items ≤ input_limit;
  grows : g.S.Source.faults l.fn.src ≤ g.S.Source.faults l.src;
}

abbrev pub decreases-loop-bytes : goal.decreases-loop-bytes
decreases-loop-bytes g l = input_limit + 1 - length l.bytes.items

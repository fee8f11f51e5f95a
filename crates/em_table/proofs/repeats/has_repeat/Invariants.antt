use Rattle.std.proofs.Common.{◌≡◌, length}
use Rattle.em_table.specs.Values.{has_repeat}
use Rattle.em_table.proofs.repeats.has_repeat.Given as goal

abbrev pub invariant-loop-first : goal.invariant-loop-first
invariant-loop-first g l = has_repeat g.T.PartialEq.eq l.items ≡ has_repeat g.T.PartialEq.eq l.rest

abbrev pub decreases-loop-first : goal.decreases-loop-first
decreases-loop-first g l = length l.rest

use Rattle.std.proofs.Common.{◌≡◌, map}
use Rattle.em_base.proofs.lines.lines_of.Given as goal

-- the lines so far are those that were yielded
abbrev pub invariant-loop-line : goal.invariant-loop-line
invariant-loop-line l = l.found ≡ map (λ x. x.now) l.yielded

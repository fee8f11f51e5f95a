use Rattle.std.proofs.Common.{take}
use Rattle.em_base.specs.FirstFault.{AreClear}
use Rattle.em_hint.specs.Hints.{AreHintsOf, HasWrongHint}
use Rattle.em_hint.proofs.finding.hints.Given as goal

abbrev pub invariant-loop-wait : goal.invariant-loop-wait
invariant-loop-wait l =
    AreHintsOf l.fn.image.words l.fn.sems l.fn.own (take l.wait-index l.fn.image.waits) l.found
    × AreClear (HasWrongHint l.fn.image.words l.fn.sems l.fn.own) l.fn.image.waits l.wait-index

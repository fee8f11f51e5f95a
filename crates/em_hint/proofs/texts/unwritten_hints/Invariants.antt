use Rattle.std.proofs.Common.{◌≡◌, ℕ, nat_eq, take}
use Rattle.std.specs.HashMap.{get}
use Rattle.em_hint.specs.Lines.{unwritten_in}
use Rattle.em_hint.proofs.texts.unwritten_hints.Given as goal

-- the hints of the statements so far
abbrev pub invariant-loop-wait : goal.invariant-loop-wait
invariant-loop-wait l = (number : ℕ) → get nat_eq l.due number ≡ unwritten_in l.map (take l.wait-index l.waits) number

use Rattle.std.proofs.Common.{◌≡◌, length}
use Rattle.em_gate.specs.Effects.{without}
use Rattle.em_system.proofs.InPlace.{changed_up_to}
use Rattle.em_system.proofs.owning.disown.Given as goal

-- the owners before s have lost what the task owned
abbrev pub invariant-loop-s : goal.invariant-loop-s
invariant-loop-s l = record {
  owners : l.owners ≡ changed_up_to (without l.t.0) l.s l.fn.owners;
  count : length l.owners ≡ length l.fn.owners;
}

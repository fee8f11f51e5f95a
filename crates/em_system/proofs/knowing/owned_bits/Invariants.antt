use Rattle.std.proofs.Common.{◌≡◌, ℕ, ◌&&◌, nat_lt}
use Rattle.em_base.specs.Selection.{is_task, owner_at}
use Rattle.em_gate.specs.Calls.{has_bit}
use Rattle.em_system.proofs.knowing.owned_bits.Given as goal

-- the bits before s tell what the task owns, and no later one is set
abbrev pub invariant-loop-s : goal.invariant-loop-s
invariant-loop-s l = (r : ℕ) → has_bit l.bits r ≡ (nat_lt r l.s && is_task l.t.0 (owner_at l.owners r))

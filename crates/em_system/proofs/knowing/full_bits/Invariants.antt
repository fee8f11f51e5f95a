use Rattle.std.proofs.Common.{◌≡◌, ℕ, ◌&&◌, nat_lt}
use Rattle.em_gate.specs.Calls.{has_bit}
use Rattle.em_gate.specs.State.{task_at}
use Rattle.em_gate.specs.Tasks.{is_full}
use Rattle.em_system.specs.Held.{tasks_of}
use Rattle.em_system.proofs.knowing.full_bits.Given as goal

-- the bits before u tell which tasks take no release, and no later one is set
abbrev pub invariant-loop-u : goal.invariant-loop-u
invariant-loop-u l = (r : ℕ) → has_bit l.bits r ≡ (nat_lt r l.u && is_full (task_at (tasks_of l.threads) r))

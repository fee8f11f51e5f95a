use Rattle.std.proofs.Common.{◌≡◌, ℕ, ◌&&◌, nat_lt, length}
use Rattle.em_base.specs.Selection.{is_task, owner_at}
use Rattle.em_system.specs.Held.{has_flag}
use Rattle.em_system.proofs.owning.owned_by.Given as goal

-- the flags before s tell what the task owns, and no later one is set
abbrev pub invariant-loop-s : goal.invariant-loop-s
invariant-loop-s l = record {
  flags : (r : ℕ) → has_flag l.flags r ≡ (nat_lt r l.s && is_task l.t.0 (owner_at l.owners r));
  count : length l.flags ≡ 32;
}

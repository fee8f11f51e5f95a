use Rattle.std.proofs.Common.{◌≡◌, length}
use Rattle.em_base.specs.Selection.{is_task, owner_at}
use Rattle.em_system.proofs.Scans.{passing}
use Rattle.em_system.proofs.calling.least_owned.Given as goal

-- the task owns none before s
abbrev pub invariant-loop-s : goal.invariant-loop-s
invariant-loop-s l =
    passing (λ r. is_task l.t.0 (owner_at l.owners r)) 0 (length l.owners)
    ≡ passing (λ r. is_task l.t.0 (owner_at l.owners r)) l.s (length l.owners)

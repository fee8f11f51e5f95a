use Rattle.std.proofs.Common.{◌≡◌, ◌+◌, length, sum_by, take}
use Rattle.em_base.specs.Tables.{releases_of}
use Rattle.em_kernel.proofs.events.most_events.Given as goal

-- the script and the periods of the tasks so far
abbrev pub invariant-loop-row : goal.invariant-loop-row
invariant-loop-row l = l.most ≡ length l.fn.app.script + sum_by (releases_of l.fn.app.table.horizon) (take l.row-index l.fn.app.table.tasks)

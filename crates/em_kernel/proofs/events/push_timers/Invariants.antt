use Rattle.std.proofs.Common.{◌≡◌, ◌++◌, take}
use Rattle.std.specs.List.{flat_map}
use Rattle.em_base.specs.Keys.{numbered}
use Rattle.em_gate.specs.Events.{releases_by}
use Rattle.em_kernel.proofs.events.push_timers.Given as goal

-- the releases of the tasks so far stand at the end
abbrev pub invariant-loop-place : goal.invariant-loop-place
invariant-loop-place l =
    l.events.items
    ≡ l.initial.events.items
    ++ flat_map (λ task. releases_by task.1.kind l.table.horizon task) (take l.place (numbered l.table.tasks))

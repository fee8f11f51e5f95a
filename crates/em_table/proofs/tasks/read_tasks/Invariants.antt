use Rattle.std.proofs.Common.{◌≡◌, map, drop, ◌++◌}
use Rattle.em_table.specs.Faults.{first_of}
use Rattle.em_table.specs.Reading.{groups_of}
use Rattle.em_table.specs.Tests.{task_fault, row_of}
use Rattle.em_table.proofs.tasks.read_tasks.Given as goal

abbrev pub invariant-loop-task : goal.invariant-loop-task
invariant-loop-task l = record {
  faults : first_of (map (task_fault l.semaphores) (groups_of l.tasks))
      ≡ first_of (map (task_fault l.semaphores) (groups_of (drop l.task-index l.tasks)));
  same : map row_of (groups_of l.tasks) ≡ l.rows ++ map row_of (groups_of (drop l.task-index l.tasks));
}

use Rattle.std.proofs.Common.{◌∙◌, ◌++◌, ◌∷◌, [], sym, ap, subst, map, drop, ◌+◌}
use Rattle.toml.specs.View.{table_view}
use Rattle.em_table.specs.Faults.{IsFailBy}
use Rattle.em_table.specs.Reading.{groups_of}
use Rattle.em_table.specs.Tests.{task_fault, row_of}
use Rattle.em_table.proofs.FirstOfTests.{fail_handed_on}
use Rattle.em_table.proofs.NextGroup.{group_clear, group_fails, group_read}
use Rattle.em_table.proofs.tasks.read_tasks.Goals as goal

pub returns-in_err-row : goal.returns-in_err-row
returns-in_err-row c =
    fail_handed_on c.from_residual.result c.in_err-row.field-0.0 _ _ c.from_residual.ensures.0 c.from_residual.ensures.1
    (subst (λ first. IsFailBy first c.in_err-row.field-0.0) (sym c.loop-task.invariant.faults)
    (group_fails (task_fault c.args.semaphores) (λ t. table_view t.now) c.args.tasks.now c.loop-task.task-index c.task-item.result _ c.loop-task-test.true c.task-item.is c.in_err-row.ensures))

pub loop-task-preserved : goal.loop-task-preserved
loop-task-preserved c = record {
  faults = c.loop-task.invariant.faults
      ∙ group_clear (task_fault c.args.semaphores) (λ t. table_view t.now) c.args.tasks.now c.loop-task.task-index c.task-item.result c.loop-task-test.true c.task-item.is c.in_ok-row.ensures.0;
  same =
      group_read row_of (λ t. table_view t.now) c.args.tasks.now c.loop-task.task-index c.task-item.result _ c.loop-task.rows c.loop-task-test.true c.task-item.is c.loop-task.invariant.same
      ∙ ap (λ rows. rows ++ map row_of (groups_of (drop (c.loop-task.task-index + 1) c.args.tasks.now)))
      (sym (c.in_ok-push.ensures.ok ∙ ap (λ row. c.loop-task.rows ++ row ∷ []) c.in_ok-row.ensures.1));
}

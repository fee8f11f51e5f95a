use Rattle.std.proofs.Common.{◌∙◌, ◌≡◌, ◌++◌, ap, sym, subst, map, Some, None}
use Rattle.toml.specs.View.{table_view}
use Rattle.em_table.specs.Faults.{first_of, IsFailBy}
use Rattle.em_table.specs.Tests.{heading_faults, times_faults, counts_faults, uses_faults, places_faults, task_faults}
use Rattle.em_table.proofs.SameRow.{same_row, semaphores_by_number}
use Rattle.em_table.proofs.FirstOfTests.{first_in_front, first_in_rest, fails_in_front, fault_handed_on, fail_handed_on}
use Rattle.em_table.proofs.tasks.read_task.Goals as goal

pub returns-in_err-times : goal.returns-in_err-times
returns-in_err-times c =
    let task = table_view c.args.task.now in
    let e : first_of (task_faults c.args.semaphores task) ≡ Some c.in_err-times.field-0.0
    = first_in_rest (heading_faults task) _ c.in_ok-heading.ensures.ok.0 ∙ first_in_front (times_faults task) _ _ c.in_err-times.ensures.refused in
    fault_handed_on c.from_residual-in_err-times.result _ _ _ c.from_residual-in_err-times.ensures.0 c.from_residual-in_err-times.ensures.1 e

pub returns-in_err-counts : goal.returns-in_err-counts
returns-in_err-counts c =
    let task = table_view c.args.task.now in
    let e : first_of (task_faults c.args.semaphores task) ≡ Some c.in_err-counts.field-0.0
    = first_in_rest (heading_faults task) _ c.in_ok-heading.ensures.ok.0 ∙ (first_in_rest (times_faults task) _ c.in_ok-times.ensures.ok.0
    ∙ first_in_front (counts_faults task) _ _ c.in_err-counts.ensures.refused) in
    fault_handed_on c.from_residual-in_err-counts.result _ _ _ c.from_residual-in_err-counts.ensures.0 c.from_residual-in_err-counts.ensures.1 e

pub returns-in_err-uses : goal.returns-in_err-uses
returns-in_err-uses c =
    let task = table_view c.args.task.now in
    let p : first_of (task_faults c.args.semaphores task) ≡ first_of (uses_faults c.args.semaphores task ++ places_faults task)
    = first_in_rest (heading_faults task) _ c.in_ok-heading.ensures.ok.0 ∙ (first_in_rest (times_faults task) _ c.in_ok-times.ensures.ok.0
    ∙ first_in_rest (counts_faults task) _ c.in_ok-counts.ensures.ok.0) in
    fail_handed_on c.from_residual-in_err-uses.result c.in_err-uses.field-0.0 _ _ c.from_residual-in_err-uses.ensures.0 c.from_residual-in_err-uses.ensures.1
    (subst (λ first. IsFailBy first c.in_err-uses.field-0.0) (sym p) (fails_in_front (uses_faults c.args.semaphores task) (places_faults task) _ c.in_err-uses.ensures))

pub returns-in_err-places : goal.returns-in_err-places
returns-in_err-places c =
    let task = table_view c.args.task.now in
    let e : first_of (task_faults c.args.semaphores task) ≡ Some c.in_err-places.field-0.0
    = first_in_rest (heading_faults task) _ c.in_ok-heading.ensures.ok.0 ∙ (first_in_rest (times_faults task) _ c.in_ok-times.ensures.ok.0
    ∙ (first_in_rest (counts_faults task) _ c.in_ok-counts.ensures.ok.0 ∙ (first_in_rest (uses_faults c.args.semaphores task) _ c.in_ok-uses.ensures.0
    ∙ c.in_err-places.ensures.refused))) in
    fault_handed_on c.from_residual-in_err-places.result _ _ _ c.from_residual-in_err-places.ensures.0 c.from_residual-in_err-places.ensures.1 e

pub returns : goal.returns
returns c =
    let task = table_view c.args.task.now in
    let e : first_of (task_faults c.args.semaphores task) ≡ None
    = first_in_rest (heading_faults task) _ c.in_ok-heading.ensures.ok.0 ∙ (first_in_rest (times_faults task) _ c.in_ok-times.ensures.ok.0
    ∙ (first_in_rest (counts_faults task) _ c.in_ok-counts.ensures.ok.0 ∙ (first_in_rest (uses_faults c.args.semaphores task) _ c.in_ok-uses.ensures.0
    ∙ c.in_ok-places.ensures.ok.0))) in
    let heading = c.in_ok-heading.ensures.ok.1 in
    let times = c.in_ok-times.ensures.ok.1 in
    let counts = c.in_ok-counts.ensures.ok.1 in
    let places = c.in_ok-places.ensures.ok.1 in (
      e,
      same_row (c.in_ok-new.ensures ∙ heading.name) (c.in_ok-new-2.ensures ∙ heading.entry) heading.kind times.period times.phase times.deadline times.cost
          counts.section counts.writes (sym (semaphores_by_number _) ∙ ap (map (λ s. record { 0 = s })) c.in_ok-uses.ensures.1) places.line places.band,
    )

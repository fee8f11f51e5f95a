use Rattle.std.proofs.Common.{◌≡◌, ◌∙◌, ◌++◌, sym, ap, ◌<◌, ◌≤◌, length, All, IfSome, map, subst, None}
use Rattle.toml.specs.View.{table_view}
use Rattle.em_table.specs.Faults.{IsFailBy}
use Rattle.em_table.specs.Reading.{message_in}
use Rattle.em_table.specs.Tests.{top_faults, task_fault, message_fault, across_faults, fault_in, table_of, task_groups, message_groups, rows_of, messages_of}
use Rattle.em_table.specs.Tests.{horizon_of, semaphores_of}
use Rattle.em_table.proofs.FirstOfTests.{first_in_rest, fails_in_front, fail_handed_on}
use Rattle.em_table.proofs.PartsOfTable.{same_table, tasks_tested, rows_read, messages_tested, messages_read, across_tested, message_rows_read}
use Rattle.em_table.proofs.TablesFit.{rows_have_periods, rows_at_most}
use Rattle.em_table.proofs.reading.read_groups.Goals as goal

pub returns-in_err-top : goal.returns-in_err-top
returns-in_err-top c =
    let top = table_view c.args.groups.now in
    fail_handed_on c.from_residual.result c.in_err-top.field-0.0 (fault_in top) _ c.from_residual.ensures.0 c.from_residual.ensures.1
    (fails_in_front (top_faults top) _ _ c.in_err-top.ensures.refused)

pub returns-in_err-tasks : goal.returns-in_err-tasks
returns-in_err-tasks c =
    let m = table_view c.args.groups.now in
    let fail = c.in_err-tasks.field-0.0 in
    let k = c.in_ok-top.ensures.ok in
    let tests = map (task_fault (semaphores_of m)) (task_groups m) in
    let rest = map message_fault (message_groups m) ++ across_faults (horizon_of m) (rows_of m) (messages_of m) in
    fail_handed_on c.from_residual-in_err-tasks.result fail (fault_in m) _ c.from_residual-in_err-tasks.ensures.0 c.from_residual-in_err-tasks.ensures.1
    (subst (λ first. IsFailBy first fail) (sym (first_in_rest (top_faults m) (tests ++ rest) k.0))
    (fails_in_front tests rest fail
    (subst (λ first. IsFailBy first fail) (tasks_tested m c.in_ok-top.top _ k.1 c.as_slice.ensures.value) c.in_err-tasks.ensures)))

pub returns-in_err-messages : goal.returns-in_err-messages
returns-in_err-messages c =
    let m = table_view c.args.groups.now in
    let fail = c.in_err-messages.field-0.0 in
    let k = c.in_ok-top.ensures.ok in
    let tests = map (task_fault (semaphores_of m)) (task_groups m) in
    let more = map message_fault (message_groups m) in
    let rest = across_faults (horizon_of m) (rows_of m) (messages_of m) in
    fail_handed_on c.from_residual-in_err-messages.result fail (fault_in m) _ c.from_residual-in_err-messages.ensures.0 c.from_residual-in_err-messages.ensures.1
    (subst (λ first. IsFailBy first fail)
    (sym (first_in_rest (top_faults m) (tests ++ (more ++ rest)) k.0
    ∙ first_in_rest tests (more ++ rest) (sym (tasks_tested m c.in_ok-top.top _ k.1 c.as_slice.ensures.value) ∙ c.in_ok-tasks.ensures.0)))
    (fails_in_front more rest fail
    (subst (λ first. IsFailBy first fail) (messages_tested m c.in_ok-top.top _ k.1 c.as_slice-2.ensures.value) c.in_err-messages.ensures)))

pub returns-in_err-check : goal.returns-in_err-check
returns-in_err-check c =
    let m = table_view c.args.groups.now in
    let k = c.in_ok-top.ensures.ok in
    let tests = map (task_fault (semaphores_of m)) (task_groups m) in
    let more = map message_fault (message_groups m) in
    let rest = across_faults (horizon_of m) (rows_of m) (messages_of m) in
    let tp = sym (tasks_tested m c.in_ok-top.top _ k.1 c.as_slice.ensures.value) ∙ c.in_ok-tasks.ensures.0 in
    let mp = sym (messages_tested m c.in_ok-top.top _ k.1 c.as_slice-2.ensures.value) ∙ c.in_ok-messages.ensures.0 in
    let rows = c.in_ok-tasks.ensures.1 ∙ rows_read m c.in_ok-top.top _ k.1 c.as_slice.ensures.value in
    let drafts = c.in_ok-messages.ensures.1 ∙ messages_read m c.in_ok-top.top _ k.1 c.as_slice-2.ensures.value in
    let fail = c.in_err-check.field-0.0 in
    let across = across_tested m c.in_ok-top.top.horizon c.as_slice-3.result.now c.as_slice-4.result.now k.1.horizon (c.as_slice-3.ensures ∙ rows)
    (ap (map message_in) c.as_slice-4.ensures ∙ drafts) in
    fail_handed_on c.from_residual-in_err-check.result fail (fault_in m) _ c.from_residual-in_err-check.ensures.0 c.from_residual-in_err-check.ensures.1
    (subst (λ first. IsFailBy first fail)
    (sym (first_in_rest (top_faults m) (tests ++ (more ++ rest)) k.0 ∙ (first_in_rest tests (more ++ rest) tp ∙ (first_in_rest more rest mp ∙ sym across))))
    c.in_err-check.ensures)

pub returns : goal.returns
returns c =
    let m = table_view c.args.groups.now in
    let k = c.in_ok-top.ensures.ok in
    let tests = map (task_fault (semaphores_of m)) (task_groups m) in
    let more = map message_fault (message_groups m) in
    let rest = across_faults (horizon_of m) (rows_of m) (messages_of m) in
    let tp = sym (tasks_tested m c.in_ok-top.top _ k.1 c.as_slice.ensures.value) ∙ c.in_ok-tasks.ensures.0 in
    let mp = sym (messages_tested m c.in_ok-top.top _ k.1 c.as_slice-2.ensures.value) ∙ c.in_ok-messages.ensures.0 in
    let rows = c.in_ok-tasks.ensures.1 ∙ rows_read m c.in_ok-top.top _ k.1 c.as_slice.ensures.value in
    let drafts = c.in_ok-messages.ensures.1 ∙ messages_read m c.in_ok-top.top _ k.1 c.as_slice-2.ensures.value in
    let across = across_tested m c.in_ok-top.top.horizon c.as_slice-3.result.now c.as_slice-4.result.now k.1.horizon (c.as_slice-3.ensures ∙ rows)
    (ap (map message_in) c.as_slice-4.ensures ∙ drafts) in
    let found : fault_in m ≡ None
    = first_in_rest (top_faults m) (tests ++ (more ++ rest)) k.0 ∙ (first_in_rest tests (more ++ rest) tp ∙ (first_in_rest more rest mp ∙ (sym across ∙ c.in_ok-check.ensures.0))) in
    let messages : c.in_ok-messages-2.messages ≡ (table_of m).messages
    = c.in_ok-messages-2.ensures
    ∙ message_rows_read m c.as_slice-5.result.now c.as_slice-6.result.now (c.as_slice-5.ensures ∙ rows) (ap (map message_in) c.as_slice-6.ensures ∙ drafts) in
    (found, same_table k.1.horizon k.1.semaphores k.1.own k.1.shared rows messages)

pub check-requires : goal.check-requires
check-requires c =
    let m = table_view c.args.groups.now in
    let k = c.in_ok-top.ensures.ok in
    let rows = c.as_slice-3.ensures ∙ (c.in_ok-tasks.ensures.1 ∙ rows_read m c.in_ok-top.top _ k.1 c.as_slice.ensures.value) in
    let tp = sym (tasks_tested m c.in_ok-top.top _ k.1 c.as_slice.ensures.value) ∙ c.in_ok-tasks.ensures.0 in
    subst (All (λ row. IfSome row.period (λ n. 0 < n))) (sym rows) (rows_have_periods (semaphores_of m) (task_groups m) tp)

pub message_rows-requires : goal.message_rows-requires
message_rows-requires c =
    let m = table_view c.args.groups.now in
    let k = c.in_ok-top.ensures.ok in
    let rows = c.as_slice-5.ensures ∙ (c.in_ok-tasks.ensures.1 ∙ rows_read m c.in_ok-top.top _ k.1 c.as_slice.ensures.value) in
    subst (λ rows. length rows ≤ 32) (sym rows) (rows_at_most m k.0)

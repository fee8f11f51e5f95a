use Rattle.std.proofs.Common.{◌∙◌, ◌++◌, ◌∷◌, ◌+◌, [], sym, ap, map, drop, get_or, Bor, List, ℕ}
use Rattle.em_base.specs.Text.{texts_of}
use Rattle.em_table.specs.Tests.{task_named}
use Rattle.em_table.proofs.NextGroup.{group_read}
use Rattle.em_table.proofs.NextItem.{same_item}
use Rattle.em_table.proofs.across.tasks_named.Goals as goal

pub loop-name-preserved : goal.loop-name-preserved
loop-name-preserved c =
    let names = c.args.names.now in
    let i = c.loop-name.name-index in
    let name : Bor (List ℕ) = get_or names i (record { ref_ptr = (0, 0); now = [] }) in
    group_read (task_named c.args.rows.now) (λ name. name.now) names i name _ c.loop-name.found c.loop-name-test.true
    (same_item names i _ name c.loop-name-test.true) c.loop-name.invariant
    ∙ ap (λ found. found ++ map (task_named c.args.rows.now) (texts_of (drop (i + 1) names)))
    (sym (c.in_ok-push.ensures.ok ∙ ap (λ task. c.loop-name.found ++ task ∷ []) c.task_named.ensures))

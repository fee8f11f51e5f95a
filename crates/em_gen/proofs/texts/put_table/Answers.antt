use Rattle.std.proofs.Common.{◌++◌, append-nil, ap, sym, ◌∙◌}
use Rattle.std.proofs.lemmas.List.{drop_all}
use Rattle.std.specs.List.{flat_map}
use Rattle.em_gen.specs.Workload.{background_text, head_text, timer_text}
use Rattle.em_gen.proofs.Appended.{three-after}
use Rattle.em_gen.proofs.texts.put_table.Goals as goal

pub loop-task-init : goal.loop-task-init
loop-task-init c =
    let tasks = flat_map timer_text c.args.timers.now in
    three-after c.args.text.now.bytes.items head_text tasks background_text
    ∙ ap (λ text. text ++ tasks ++ background_text) (sym c.in_ok-push_str.ensures.bytes)

pub returns : goal.returns
returns c =
    let text = c.loop-task.text.bytes.items in
    let none = drop_all c.loop-task.task-index c.args.timers.now c.loop-task-test.false in
    c.in_ok-push_str-2.ensures.bytes
    ∙ ap (λ t. t ++ background_text) (sym (append-nil text) ∙ ap (λ tasks. text ++ flat_map timer_text tasks) (sym none))
    ∙ sym c.loop-task.invariant

use Rattle.std.proofs.Common.{◌++◌, ap, ◌∙◌}
use Rattle.em_kernel.proofs.TimerReleases.{tasks-all, tasks-next}
use Rattle.em_kernel.proofs.events.push_timers.Goals as goal

pub loop-place-preserved : goal.loop-place-preserved
loop-place-preserved c =
    let table = c.args.table.now in
    tasks-next table.horizon c.loop-place.place table.tasks c.as_slice-row-items.result.now c.row-item.result c.args.events.now.items c.loop-place.events.items
    c.push_timer.new.events.items c.as_slice-row-items.ensures c.row-item.is c.loop-place-test.true c.loop-place.invariant c.in_ok-push_timer.ensures

pub returns : goal.returns
returns c =
    let all = tasks-all c.args.table.now c.as_slice-row-items.result.now c.loop-place.place c.as_slice-row-items.ensures c.loop-place-test.false in
    c.loop-place.invariant ∙ ap (λ l. c.args.events.now.items ++ l) all

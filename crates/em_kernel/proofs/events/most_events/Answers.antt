use Rattle.std.proofs.Common.{◌≡◌, ◌≤◌, length, sum_by, take, take_all, ap, arith}
use Rattle.em_base.specs.Tables.{releases_of}
use Rattle.em_kernel.proofs.EventCounts.{events-few}
use Rattle.em_kernel.proofs.events.most_events.Goals as goal

pub returns-clause-enough : goal.returns-clause-enough
returns-clause-enough c =
    let app = c.args.app.now in
    let few = events-few app c.requires.app in
    let past : length app.table.tasks ≤ c.loop-row.row-index = omega (arith, c.loop-row-test.false, ap length c.as_slice-row-items.ensures) in
    let all : sum_by (releases_of app.table.horizon) (take c.loop-row.row-index app.table.tasks) ≡ sum_by (releases_of app.table.horizon) app.table.tasks =
    ap (sum_by (releases_of app.table.horizon)) (take_all _ _ past) in
    omega (arith, few, c.loop-row.invariant, all)

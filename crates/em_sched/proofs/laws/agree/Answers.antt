use Rattle.em_sched.specs.Turns.{both_boot, both_run}
use Rattle.em_gate.specs.Boot.{boot}
use Rattle.em_gate.specs.Events.{events_of}
use Rattle.em_kernel.specs.Run.{counted_boot, state_from}
use Rattle.em_sched.specs.Image.{image_beside, image_boot}
use Rattle.em_sched.specs.Traces.{events_in}
use Rattle.em_sched.proofs.Agreeing.{agrees_level, kept_counted, kept_image, level_run, select_alike, simple}
use Rattle.em_sched.proofs.Beside.{beside_from}
use Rattle.em_sched.proofs.Boot.{beside_boot, level_boot}
use Rattle.em_sched.proofs.PlainKept.{plain_kept}
use Rattle.em_sched.proofs.laws.agree.Goals as goal

pub returns-clause-turns : goal.returns-clause-turns
returns-clause-turns c = λ app ports turns is none.
    let both = both_run app (both_boot app ports) turns in
    let level = level_run app (both_boot app ports) turns (simple app is none) (level_boot app ports) in
    agrees_level app both.counted both.image level

pub returns-clause-kept : goal.returns-clause-kept
returns-clause-kept c = λ app ports turns is none.
    let both = both_run app (both_boot app ports) turns in
    let level = level_run app (both_boot app ports) turns (simple app is none) (level_boot app ports) in
    (kept_counted app both.counted both.image level, kept_image app both.counted both.image level)

pub returns-clause-selects : goal.returns-clause-selects
returns-clause-selects c = λ app ports turns is none.
    let both = both_run app (both_boot app ports) turns in
    let level = level_run app (both_boot app ports) turns (simple app is none) (level_boot app ports) in
    select_alike app both.counted both.image level (kept_counted app both.counted both.image level) (kept_image app both.counted both.image level)

pub returns-clause-steps : goal.returns-clause-steps
returns-clause-steps c = λ app ports n is none.
    let beside = beside_from app (boot app ports) (events_in (events_of app)) n (counted_boot app ports) (image_boot app ports) (simple app is none) (beside_boot app ports) in
    agrees_level app (state_from app n (counted_boot app ports)) (image_beside app ports n) beside.level

pub returns-clause-replayed : goal.returns-clause-replayed
returns-clause-replayed c = λ app ports schedule is none. plain_kept app ports schedule (simple app is none)

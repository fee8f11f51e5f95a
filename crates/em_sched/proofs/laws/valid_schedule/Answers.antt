use Rattle.em_kernel.specs.Run.{run_end}
use Rattle.em_sched.specs.Image.{schedule_of}
use Rattle.em_sched.specs.Traces.{events_in}
use Rattle.em_sched.proofs.Agreeing.{simple}
use Rattle.em_sched.proofs.Traced.{at_end}
use Rattle.em_sched.proofs.ValidSchedule.{first_valid}
use Rattle.em_sched.proofs.laws.valid_schedule.Goals as goal

pub returns : goal.returns
returns c = λ app ports is none script words few.
    let beside = at_end app ports (simple app is none) in
    first_valid app (schedule_of app ports) is script words (events_in (run_end app ports).left, beside.first) beside.rising few

use Rattle.em_trace.proofs.OneSchedule.{one_list, one_schedule_refusal, schedule_or_refused, some_answer}
use Rattle.em_trace.proofs.laws.one_schedule.Goals as goal

pub returns : goal.returns
returns c = record { schedule = one_list; refusal = one_schedule_refusal; either = schedule_or_refused; some = some_answer }

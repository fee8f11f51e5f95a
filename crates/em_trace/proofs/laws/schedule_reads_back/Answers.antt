use Rattle.em_trace.proofs.ScheduleBack.{back, back_only}
use Rattle.em_trace.proofs.laws.schedule_reads_back.Goals as goal

pub returns : goal.returns
returns c = record { printed = back; only = back_only }

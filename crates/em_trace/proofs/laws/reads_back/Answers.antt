use Rattle.em_trace.proofs.PrintedBack.{back, back_only}
use Rattle.em_trace.proofs.laws.reads_back.Goals as goal

pub returns : goal.returns
returns c = record { printed = back; only = back_only }

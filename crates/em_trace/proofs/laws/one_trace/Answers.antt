use Rattle.em_trace.proofs.TraceTexts.{one_fault, one_list, some_answer, trace_or_fault}
use Rattle.em_trace.proofs.laws.one_trace.Goals as goal

pub returns : goal.returns
returns c = record { lines = one_list; fault = one_fault; either = trace_or_fault; some = some_answer }

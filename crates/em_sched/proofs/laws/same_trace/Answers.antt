use Rattle.em_sched.proofs.Agreeing.{simple}
use Rattle.em_sched.proofs.Traced.{at_end, end_lines, gives_trace}
use Rattle.em_sched.specs.Traces.{events_in}
use Rattle.em_kernel.specs.Run.{run_end}
use Rattle.em_sched.proofs.laws.same_trace.Goals as goal

pub returns-clause-trace : goal.returns-clause-trace
returns-clause-trace c = λ app ports is none. gives_trace app ports (simple app is none)

pub returns-clause-lines : goal.returns-clause-lines
returns-clause-lines c = end_lines

pub returns-clause-events : goal.returns-clause-events
returns-clause-events c = λ app ports is none. (events_in (run_end app ports).left, (at_end app ports (simple app is none)).first)

pub returns-clause-rises : goal.returns-clause-rises
returns-clause-rises c = λ app ports is none. (at_end app ports (simple app is none)).rising

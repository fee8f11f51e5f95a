use Rattle.em_trace.proofs.TraceTexts.{answers_fault, answers_lines}
use Rattle.em_trace.proofs.reading.read_trace.Goals as goal

pub returns-clause-complete : goal.returns-clause-complete
returns-clause-complete c = λ found a.
    answers_lines c.args.text.now found c.read_lines.result c.read_lines.ensures.trace c.read_lines.ensures.fault a

pub returns-clause-refuses : goal.returns-clause-refuses
returns-clause-refuses c = λ number a.
    answers_fault c.args.text.now number c.read_lines.result c.read_lines.ensures.trace c.read_lines.ensures.fault a

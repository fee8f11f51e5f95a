use Rattle.em_script.proofs.DecimalNumbers.{utf8-digits}
use Rattle.em_script.proofs.lines.number.Goals as goal

pub returns-in-Err : goal.returns-in-Err
returns-in-Err c = λ h. absurd (c.in-Err.ensures.cases.0 (utf8-digits c.args.text.now h.0))

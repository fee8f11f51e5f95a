use Rattle.em_asm_read.proofs.Ascii.{utf8-number}
use Rattle.em_asm_read.proofs.operands.number.Goals as goal

pub returns-in-Err-clause-exact : goal.returns-in-Err-clause-exact
returns-in-Err-clause-exact c = λ z h fits. absurd (c.in-Err.ensures.cases.0 (utf8-number c.args.digits.now z h))

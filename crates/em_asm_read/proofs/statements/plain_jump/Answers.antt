use Rattle.std.proofs.Common.{arith}
use Rattle.std.proofs.lemmas.Bool.Decides.{nat_tests}
use Rattle.em_asm_read.proofs.Counts.{no_target}
use Rattle.em_asm_read.proofs.statements.plain_jump.Goals.{in_default-via-then-operands-lt1, in_default-via-else-operands-lt1+else-operands-lt2}
use Rattle.em_asm_read.proofs.statements.plain_jump.Goals as goal

pub returns-in_default-clause-refused : goal.returns-in_default-clause-refused
returns-in_default-clause-refused c = elim c.in_default.branch [
  | in_default-via-then-operands-lt1 w ↦ no_target c.args.operands.now c.from.result (λ e. grind (arith, nat_tests)) c.from.ensures
  | in_default-via-else-operands-lt1+else-operands-lt2 w ↦ no_target c.args.operands.now c.from.result (λ e. grind (arith, nat_tests)) c.from.ensures
]

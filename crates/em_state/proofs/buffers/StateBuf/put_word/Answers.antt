use Rattle.std.proofs.Common.{arith}
use Rattle.std.proofs.Math.Seq.{take-set-lt}
use Rattle.std.proofs.lemmas.Grind.{common_steps}
use Rattle.em_state.proofs.buffers.StateBuf.put_word.Goals as goal

pub returns-clause-put : goal.returns-clause-put
returns-clause-put c = grind (arith, common_steps, take-set-lt)

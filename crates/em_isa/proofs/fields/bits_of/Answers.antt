use Rattle.std.proofs.Common.{arith}
use Rattle.em_isa.proofs.Joined.{masked}
use Rattle.em_isa.proofs.fields.bits_of.Goals as goal

pub returns : goal.returns
returns c = masked _ _ (omega arith)

use Rattle.std.proofs.Common.{arith}
use Rattle.em_isa.proofs.Joined.{j_joined}
use Rattle.em_isa.proofs.fields.j_bits.Goals as goal

pub returns : goal.returns
returns c =
    let e = j_joined c.bits_of.result c.bits_of-2.result c.bits_of-3.result c.bits_of-4.result
    (omega arith) (omega arith) (omega arith) (omega arith) in
    cc

use Rattle.std.proofs.Common.{arith}
use Rattle.em_isa.proofs.Joined.{j_placed}
use Rattle.em_isa.proofs.encoder.j_bits.Goals as goal

pub returns : goal.returns
returns c =
    let e = j_placed c.bits_of.result c.bits_of-2.result c.bits_of-3.result c.bits_of-4.result
    (omega arith) (omega arith) (omega arith) (omega arith) in
    cc

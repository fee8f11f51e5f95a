use Rattle.em_isa.proofs.Joined.{i_joined}
use Rattle.em_isa.proofs.encoder.i_word.Goals as goal

pub returns : goal.returns
returns c = rw (c.from.ensures, c.from-2.ensures, c.from-3.ensures) (
    i_joined _ _ _ _ _ c.requires.imm c.requires.rs1 c.requires.funct3 c.requires.rd c.requires.opcode
    )

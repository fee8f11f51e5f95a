use Rattle.em_isa.proofs.Joined.{r_joined}
use Rattle.em_isa.proofs.encoder.r_word.Goals as goal

pub returns : goal.returns
returns c = rw (c.from.ensures, c.from-2.ensures) (
    r_joined _ _ _ _ _ _ c.requires.funct7 c.requires.rs2 c.requires.rs1 c.requires.funct3 c.requires.rd c.requires.opcode
    )

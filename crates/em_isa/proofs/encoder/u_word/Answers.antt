use Rattle.em_isa.proofs.Joined.{u_joined}
use Rattle.em_isa.proofs.encoder.u_word.Goals as goal

pub returns : goal.returns
returns c = rw c.from.ensures (u_joined _ _ _ c.requires.imm c.requires.rd c.requires.opcode)

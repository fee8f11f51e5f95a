use Rattle.em_isa.proofs.Signs.{masked_bits}
use Rattle.em_isa.proofs.fields.unsigned.Goals as goal

pub returns : goal.returns
returns c = masked_bits _ _ _ c.requires.some c.requires.few c.requires.number c.ranges.number c.cast_unsigned.ensures

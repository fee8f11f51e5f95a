use Rattle.em_isa.proofs.Signs.{difference_fits}
use Rattle.em_isa.proofs.fields.signed.Goals as goal

pub overflow_sub-result : goal.overflow_sub-result
overflow_sub-result c = difference_fits _ _ c.requires.field c.requires.few

use Rattle.em_asm.proofs.Loading.{parts-load}
use Rattle.em_asm.proofs.laws.loads_value.Goals as goal

pub returns : goal.returns
returns c = parts-load

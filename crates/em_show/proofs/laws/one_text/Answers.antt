use Rattle.em_show.proofs.OneListing.{one-text}
use Rattle.em_show.proofs.laws.one_text.Goals as goal

pub returns : goal.returns
returns c = one-text c.one_instruction.ensures.same

use Rattle.em_plain.proofs.Parts.{passes}
use Rattle.em_plain.proofs.laws.passes_parts.Goals as goal

pub returns : goal.returns
returns c = passes

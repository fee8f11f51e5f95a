use Rattle.em_roots.proofs.Roots.{selects_root}
use Rattle.em_roots.proofs.laws.selects_root.Goals as goal

pub returns : goal.returns
returns c = selects_root

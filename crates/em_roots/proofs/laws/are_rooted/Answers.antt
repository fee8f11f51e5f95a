use Rattle.em_roots.proofs.Chains.{rooted}
use Rattle.em_roots.proofs.laws.are_rooted.Goals as goal

pub returns : goal.returns
returns c = rooted

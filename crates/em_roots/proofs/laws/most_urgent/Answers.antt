use Rattle.em_roots.proofs.Least.{found_iff, none_iff}
use Rattle.em_roots.proofs.laws.most_urgent.Goals as goal

pub returns : goal.returns
returns c = record { some = found_iff; none = none_iff }

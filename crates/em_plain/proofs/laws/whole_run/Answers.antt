use Rattle.em_plain.proofs.Follow.{whole_part}
use Rattle.em_plain.proofs.laws.whole_run.Goals as goal

pub returns : goal.returns
returns c = whole_part

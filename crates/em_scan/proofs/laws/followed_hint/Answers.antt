use Rattle.em_scan.proofs.Follows.{hint_is_followed}
use Rattle.em_scan.proofs.laws.followed_hint.Goals as goal

pub returns : goal.returns
returns c = λ code after sems own s hint words registers memory shared there count base bytes.
    hint_is_followed code after sems own s hint words registers memory shared there count (base, bytes)

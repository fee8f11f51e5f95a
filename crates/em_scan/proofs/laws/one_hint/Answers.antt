use Rattle.em_scan.specs.Hint.{most_branches, most_members}
use Rattle.em_scan.specs.Known.{nothing_known}
use Rattle.em_scan.specs.Private.{learned, next}
use Rattle.em_scan.proofs.Back.{agreed_or_none, one_agreed}
use Rattle.em_scan.proofs.Below.{hint_below}
use Rattle.em_scan.proofs.laws.one_hint.Goals as goal

pub returns-clause-same : goal.returns-clause-same
returns-clause-same c = λ code after sems own one other.
    one_agreed (next code sems own) (learned code) most_members most_branches after nothing_known one other

pub returns-clause-decided : goal.returns-clause-decided
returns-clause-decided c = λ code after sems own.
    agreed_or_none (next code sems own) (learned code) most_members most_branches after nothing_known

pub returns-clause-below : goal.returns-clause-below
returns-clause-below c = hint_below

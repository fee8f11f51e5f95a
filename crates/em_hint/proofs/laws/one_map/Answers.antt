use Rattle.em_hint.proofs.Maps.{same_hints, some_hints}
use Rattle.em_hint.proofs.Right.{one_mishinted, right_and_refused, right_or_refused}
use Rattle.em_hint.proofs.laws.one_map.Goals as goal

pub returns-clause-some : goal.returns-clause-some
returns-clause-some c = some_hints c.one_hint.ensures.decided c.one_hint.ensures.same

pub returns-clause-same : goal.returns-clause-same
returns-clause-same c = same_hints

pub returns-clause-decided : goal.returns-clause-decided
returns-clause-decided c = right_or_refused c.one_hint.ensures.decided c.one_hint.ensures.same

pub returns-clause-refusal : goal.returns-clause-refusal
returns-clause-refusal c = one_mishinted

pub returns-clause-either : goal.returns-clause-either
returns-clause-either c = right_and_refused

use Rattle.em_hint.proofs.Sound.{has_each, is_map}
use Rattle.em_hint.proofs.laws.sound_map.Goals as goal

pub returns-clause-each : goal.returns-clause-each
returns-clause-each c = λ image sems own map whole h. has_each image.words sems own image.waits map whole.rising h

pub returns-clause-valid : goal.returns-clause-valid
returns-clause-valid c = λ image sems own map whole h. is_map c.one_hint.ensures.below image.words sems own image.waits map whole.rising h

use Rattle.em_script.proofs.ValidScript.{valid_script}
use Rattle.em_script.proofs.laws.in_words.Goals as goal

pub returns : goal.returns
returns c = λ rows lines events script. (valid_script rows lines events script).words

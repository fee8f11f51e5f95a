use Rattle.em_script.proofs.OneScript.{one_list, one_script_refusal, script_or_refused, some_answer}
use Rattle.em_script.proofs.laws.one_script.Goals as goal

pub returns : goal.returns
returns c = record { events = one_list; refusal = one_script_refusal; either = script_or_refused; some = some_answer }

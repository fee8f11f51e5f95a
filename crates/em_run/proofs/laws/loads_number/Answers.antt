use Rattle.em_run.proofs.TaskLoading.{number-loads}
use Rattle.em_run.proofs.laws.loads_number.Goals as goal

pub returns : goal.returns
returns c = number-loads c.carries_out.ensures.upper c.carries_out.ensures.addition c.loads_value.ensures

use Rattle.em_bundle.proofs.EndedLines.{all-ended}
use Rattle.em_bundle.proofs.ScheduleBehind.{app-behind}
use Rattle.em_bundle.proofs.laws.replayable.Goals as goal

pub returns : goal.returns
returns c = record { lines = λ bytes. (all-ended bytes).same; app = app-behind c.schedule_reads_back.ensures.printed }

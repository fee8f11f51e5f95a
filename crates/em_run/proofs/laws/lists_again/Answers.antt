use Rattle.em_run.proofs.ListsAgain.{assembles-again, no-headers}
use Rattle.em_run.proofs.laws.lists_again.Goals as goal

pub returns-clause-part : goal.returns-clause-part
returns-clause-part c = no-headers record { word = c.reads_back.ensures.word; no_header = c.reads_back.ensures.no_header }

pub returns-clause-image : goal.returns-clause-image
returns-clause-image c = assembles-again record { word = c.reads_back.ensures.word; no_header = c.reads_back.ensures.no_header }

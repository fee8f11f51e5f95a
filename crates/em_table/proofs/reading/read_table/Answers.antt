use Rattle.toml.specs.View.{table_view}
use Rattle.em_table.proofs.TablesFit.{answer_fits}
use Rattle.em_table.proofs.reading.read_table.Goals as goal

pub returns-in-Ok-clause-valid : goal.returns-in-Ok-clause-valid
returns-in-Ok-clause-valid c = answer_fits c.read_groups.result (table_view c.in-Ok.groups) c.read_groups.ensures

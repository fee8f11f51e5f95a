use Rattle.std.proofs.Common.{◌∙◌}
use Rattle.toml.specs.View.{view}
use Rattle.em_table.specs.Values.{is_integer}
use Rattle.em_table.proofs.MappedTests.{all-map}
use Rattle.em_table.proofs.lists.are_integers.Goals as goal

pub returns : goal.returns
returns c = c.each_is_integer.ensures ∙ all-map is_integer view c.args.values.now

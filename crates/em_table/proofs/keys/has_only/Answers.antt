use Rattle.std.proofs.Common.{◌∙◌}
use Rattle.em_table.proofs.KeysAmong.{are_among-keys}
use Rattle.em_table.proofs.keys.has_only.Goals as goal

pub returns : goal.returns
returns c = c.each_is_among.ensures ∙ are_among-keys c.args.allowed.now c.args.table.now.entries

use Rattle.std.proofs.Common.{◌∙◌, ap}
use Rattle.std.specs.List.{before_first}
use Rattle.em_base.specs.Text.{is_hash, trimmed}
use Rattle.em_asm_read.proofs.OneMeaning.{is-line, is-refused}
use Rattle.em_asm_read.proofs.lines.read_line.Goals as goal

pub returns-clause-read : goal.returns-clause-read
returns-clause-read c = is-line c.args.text.now c.trim.result.now c.read_trimmed_line.result (c.trim.ensures ∙ ap trimmed (c.before-2.ensures ∙ ap (before_first is_hash) c.as_bytes.ensures.value)) c.read_trimmed_line.ensures.read

pub returns-clause-refused : goal.returns-clause-refused
returns-clause-refused c = is-refused c.args.text.now c.trim.result.now c.read_trimmed_line.result (c.trim.ensures ∙ ap trimmed (c.before-2.ensures ∙ ap (before_first is_hash) c.as_bytes.ensures.value)) c.read_trimmed_line.ensures.refused

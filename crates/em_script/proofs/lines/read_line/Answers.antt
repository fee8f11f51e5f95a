use Rattle.std.proofs.Common.{◌∙◌, ap}
use Rattle.std.specs.List.{before_first}
use Rattle.em_base.specs.Text.{is_hash}
use Rattle.em_script.specs.Lines.{meaning_of_words, words_in}
use Rattle.em_script.proofs.lines.read_line.Goals as goal

pub returns : goal.returns
returns c = c.read_words.ensures ∙ ap (λ t. meaning_of_words (words_in t)) (c.before-2.ensures ∙ ap (before_first is_hash) c.as_bytes.ensures.value)

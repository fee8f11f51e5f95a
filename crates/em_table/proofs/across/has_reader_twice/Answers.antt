use Rattle.std.proofs.Common.{◌∙◌, ap}
use Rattle.std.specs.Str.{bytes_eq}
use Rattle.em_table.specs.Values.{has_repeat}
use Rattle.em_base.specs.Text.{texts_of}
use Rattle.em_table.proofs.MappedTests.{has_repeat-map}
use Rattle.em_table.proofs.across.has_reader_twice.Goals as goal

pub returns : goal.returns
returns c =
    c.has_repeat.ensures ∙ (has_repeat-map bytes_eq (λ text. text.now) c.as_slice.result.now
    ∙ ap (λ texts. has_repeat bytes_eq (texts_of texts)) c.as_slice.ensures.value)

use Rattle.std.proofs.Common.{◌∷◌, ap, sym, ◌∙◌}
use Rattle.em_trace.proofs.LineTexts.{too_many}
use Rattle.em_trace.specs.Words.{line_of_words}
use Rattle.em_trace.proofs.reading.read_line.Goals as goal

pub returns-in-Some-cut-3 : goal.returns-in-Some-cut-3
returns-in-Some-cut-3 c =
    let name = c.in_ok-name.name.now in
    let first = c.in-Some.first.now in
    let second = c.in-Some-cut.second.now in
    let third = c.in-Some-cut-2.third.now in
    let last = c.in-Some-cut-3.field-0 in
    let words =
    c.in_ok-name.ensures ∙ ap (λ ws. name ∷ ws) (c.in-Some.ensures ∙ ap (λ ws. first ∷ ws) (c.in-Some-cut.ensures
    ∙ ap (λ ws. second ∷ ws) (c.in-Some-cut-2.ensures ∙ ap (λ ws. third ∷ ws) c.in-Some-cut-3.ensures))) in
    sym (ap line_of_words words ∙ too_many name first second third last.0.now last.1.now)

use Rattle.std.proofs.Common.{◌∷◌, ap, sym, ◌∙◌}
use Rattle.em_trace.proofs.SaidLines.{too_many}
use Rattle.em_trace.specs.ScheduleWords.{said_of_words}
use Rattle.em_trace.proofs.schedule_lines.said_of.Goals as goal

pub returns-in-Some-cut-2 : goal.returns-in-Some-cut-2
returns-in-Some-cut-2 c =
    let count = c.in_ok-count.count.now in
    let verb = c.in-Some.verb.now in
    let first = c.in-Some-cut.first.now in
    let second = c.in_ok-second.second.now in
    let last = c.in-Some-cut-2.field-0 in
    let words =
    c.in_ok-count.ensures ∙ ap (λ ws. count ∷ ws) (c.in-Some.ensures ∙ ap (λ ws. verb ∷ ws) (c.in-Some-cut.ensures
    ∙ ap (λ ws. first ∷ ws) (c.in_ok-second.ensures ∙ ap (λ ws. second ∷ ws) c.in-Some-cut-2.ensures))) in
    sym (ap said_of_words words ∙ too_many count verb first second last.0.now last.1.now)

use Rattle.std.proofs.Common.{◌∙◌, ap}
use Rattle.em_trace.specs.ScheduleFaults.{is_numeral}
use Rattle.em_trace.specs.ScheduleWords.{number_of, number_or, large_of}
use Rattle.em_trace.proofs.schedule_lines.number_of.Goals as goal

pub returns-in-Some : goal.returns-in-Some
unfolding number_of
returns-in-Some c = ap (λ o. number_or o (is_numeral c.args.text.now)) c.in-Some.ensures

pub returns-in-None : goal.returns-in-None
unfolding number_of
returns-in-None c =
    c.large_of.ensures ∙ ap large_of c.is_numeral.ensures ∙ ap (λ o. number_or o (is_numeral c.args.text.now)) c.in-None.ensures

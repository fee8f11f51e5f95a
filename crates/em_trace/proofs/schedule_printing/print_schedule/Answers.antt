use Rattle.std.proofs.Common.{◌++◌, codes, ap, ◌∙◌}
use Rattle.std.specs.List.{flat_map}
use Rattle.em_trace.specs.Schedules.{end_text, event_text}
use Rattle.em_trace.proofs.ScheduleBack.{printed}
use Rattle.em_trace.proofs.schedule_printing.print_schedule.Goals as goal

pub returns : goal.returns
returns c =
    let last = end_text c.args.s.now.last ++ codes "\n" in
    c.in_ok-put_end.ensures ∙ ap (λ text. text ++ last) c.in_ok-put_events.ensures
    ∙ ap (λ text. (text ++ flat_map (λ event. event_text event ++ codes "\n") c.as_slice.result.now) ++ last) c.new-text.ensures.bytes
    ∙ ap (λ events. flat_map (λ event. event_text event ++ codes "\n") events ++ last) c.as_slice.ensures
    ∙ printed c.args.s.now.events c.args.s.now.last

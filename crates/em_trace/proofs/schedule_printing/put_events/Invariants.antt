use Rattle.std.proofs.Common.{◌≡◌, ◌++◌, codes, drop, string_bytes}
use Rattle.std.specs.List.{flat_map}
use Rattle.em_trace.specs.Schedules.{event_text}
use Rattle.em_trace.proofs.schedule_printing.put_events.Given as goal

-- the text so far and that of the events that are left are that of all events, after what stood there
abbrev pub invariant-loop-event : goal.invariant-loop-event
invariant-loop-event l =
    string_bytes l.fn.text ++ flat_map (λ event. event_text event ++ codes "\n") l.events
    ≡ string_bytes l.text ++ flat_map (λ event. event_text event ++ codes "\n") (drop l.event-index l.events)

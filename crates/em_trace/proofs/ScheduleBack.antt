-- The text of a schedule has the lines of this schedule, and of no other.
use Rattle.std.proofs.Common.{◌≡◌, ℕ, List, [], ◌∷◌, ◌++◌, codes, sym, ap, ◌∙◌, append_assoc, append-nil}
use Rattle.std.specs.List.{flat_map}
use Rattle.std.specs.Str.Lines.{lines}
use Rattle.em_base.specs.declared.events.Event.{Event}
use Rattle.em_base.specs.declared.events.Schedule.{Schedule}
use Rattle.em_trace.proofs.FoundLines.{plain-end, plain-event}
use Rattle.em_trace.proofs.LineTexts.{joined-printed}
use Rattle.em_trace.proofs.OneSchedule.{one_list}
use Rattle.em_trace.proofs.PrintedBack.{lines-printed}
use Rattle.em_trace.specs.Schedules.{AreEvents, IsSchedule, IsScheduleOf, end_text, end_words, event_text, event_words, lines_of, schedule_text}

-- lines, each followed by a line feed
abbrev pub with_feeds : List (List ℕ) → List ℕ
with_feeds texts = flat_map (λ line. line ++ codes "\n") texts

lines-back : (tasks least : ℕ) (events : List (ℕ × Event)) (last : ℕ) → AreEvents tasks least events last
    → lines (with_feeds (lines_of events last)) ≡ lines_of events last
lines-back tasks least [] last h =
    ap lines (append_assoc (end_text last) (10 ∷ []) [])
    ∙ lines-printed (end_text last) [] (joined-printed (end_words last) (plain-end last h.1))
lines-back tasks least (event ∷ events) last h =
    ap lines (append_assoc (event_text event) (10 ∷ []) (with_feeds (lines_of events last)))
    ∙ lines-printed (event_text event) (with_feeds (lines_of events last))
    (joined-printed (event_words event.0 event.1) (plain-event event.0 tasks event.1 h.0.1 h.0.2))
    ∙ ap (λ ts. event_text event ∷ ts) (lines-back tasks event.0 events last h.1)

-- the text of a schedule has its lines
pub back : (tasks : ℕ) (s : Schedule) → IsSchedule tasks s → IsScheduleOf tasks (lines (schedule_text s)) s
back tasks s h = record { spelled = sym (lines-back tasks 0 s.events s.last h); valid = h }

-- and those of no other
pub back_only : (tasks : ℕ) (s other : Schedule) → IsSchedule tasks s → IsScheduleOf tasks (lines (schedule_text s)) other → other ≡ s
back_only tasks s other h a = one_list tasks (lines (schedule_text s)) other s a (back tasks s h)

-- the lines of the events, and then the last one
pub printed : (events : List (ℕ × Event)) (last : ℕ)
    → flat_map (λ event. event_text event ++ codes "\n") events ++ (end_text last ++ codes "\n") ≡ with_feeds (lines_of events last)
printed [] last = sym (append-nil (end_text last ++ codes "\n"))
printed (event ∷ events) last =
    append_assoc (event_text event ++ codes "\n") (flat_map (λ e. event_text e ++ codes "\n") events) (end_text last ++ codes "\n")
    ∙ ap (λ text. (event_text event ++ codes "\n") ++ text) (printed events last)

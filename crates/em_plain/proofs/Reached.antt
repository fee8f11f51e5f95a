-- Where the machine is after a step, and after an event.
use Rattle.std.specs.Bool.{⊤}
use Rattle.std.proofs.Common.{◌≡◌, ◌∙◌, ◌++◌, false, List, Option, None, Result, Ok, Err, IsErr, IsErrAnd, append-nil, sym, ap, subst, refl}
use Rattle.std.proofs.lemmas.Bool.{false≢true}
use Rattle.em_base.specs.declared.events.Event.{Event}
use Rattle.em_base.specs.declared.events.Event.TheVariants.{Release, Unplug}
use Rattle.em_base.specs.declared.ids.TaskId.{TaskId}
use Rattle.em_ports.specs.Ports.{Places}
use Rattle.em_trace.specs.declared.lines.Line.{Line}
use Rattle.em_gate.specs.Effects.{after_outcome, gives, line_by, option_list}
use Rattle.em_gate.specs.Events.{after_event, event_line}
use Rattle.em_gate.specs.Outcome.{Outcome, Works, Falls, Refuses, Ends, Gets, Blocks, Frees, Puts, Publishes, Fetches, Signals, Leaves}
use Rattle.em_gate.specs.State.{Plain, task_at}
use Rattle.em_plain.specs.declared.machine.Halt.{Halt}
use Rattle.em_plain.specs.declared.machine.Halt.TheVariants.{NoMemory}
use Rattle.em_plain.specs.Reached.{HasTaken, Reached}
use Rattle.em_plain.specs.Runs.{is_full}

-- the line of a step stands behind the others
pub lines_of_step : (o : Outcome) (t : TaskId) (p : Plain) → p.lines ++ option_list (line_by o t (task_at p.tasks t.0) p) ≡ (after_outcome o t p).lines
unfolding gives
lines_of_step (Works class core shared) t p = refl
lines_of_step (Falls cause) t p = refl
lines_of_step (Refuses code) t p = refl
lines_of_step Ends t p = refl
lines_of_step (Gets s) t p = refl
lines_of_step (Blocks s) t p = refl
lines_of_step (Frees s) t p = refl
lines_of_step (Puts port word) t p = refl
lines_of_step (Publishes m at count) t p = refl
lines_of_step (Fetches m at) t p = refl
lines_of_step (Signals u word) t p = refl
lines_of_step Leaves t p = refl

-- and so does that of an event
pub lines_of_event : (event : Event) (p : Plain) → p.lines ++ option_list (event_line event p) ≡ (after_event event p).lines
lines_of_event event p = refl

-- an event publishes nothing
pub event_values : (event : Event) (p : Plain) → (after_event event p).values ≡ p.values
event_values (Release t time word) p = refl
event_values (Unplug port) p = refl

-- one line more
pub line_more : (p : Plain) (lines lines' : List Line) (line line' : Option Line) → lines ≡ p.lines → line ≡ line' → lines' ≡ lines ++ option_list line
    → lines' ≡ p.lines ++ option_list line'
line_more p lines lines' line line' e f g = g ∙ ap (λ xs. xs ++ option_list line) e ∙ ap (λ one. p.lines ++ option_list one) f

-- no line more
pub line_none : (p : Plain) (lines : List Line) (line : Option Line) → lines ≡ p.lines → None ≡ line → lines ≡ p.lines ++ option_list line
line_none p lines line e f = e ∙ sym (append-nil p.lines) ∙ ap (λ one. p.lines ++ option_list one) f

-- an event has come, and memory ran out for its line
pub taken_part : (event : Event) (p : Plain) (result : Result ⊤ Halt) (at : Reached) (places : Places) → is_full p ≡ false
    → IsErr result → IsErrAnd result (λ h. h ≡ NoMemory) → places ≡ (after_event event p).ports → HasTaken event p result at places
taken_part event p (Ok done) at places f err and seen = absurd (false≢true err)
taken_part event p (Err halt) at places f err and seen = subst (λ h. HasTaken event p (Err h) at places) (sym and) (f, seen)

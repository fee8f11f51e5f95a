-- What is held after an event.
use Rattle.std.proofs.Common.{◌≡◌, ℕ, List, Option, Some, sym, ap, subst}
use Rattle.em_base.specs.declared.apps.App.{App}
use Rattle.em_base.specs.declared.events.Event.{Event}
use Rattle.em_base.specs.declared.events.Event.TheVariants.{Release}
use Rattle.em_base.specs.declared.ids.SemId.{SemId}
use Rattle.em_base.specs.declared.ids.TaskId.{TaskId}
use Rattle.em_ports.specs.Ports.{Places}
use Rattle.em_trace.specs.declared.lines.Line.{Line}
use Rattle.em_gate.specs.State.{Plain, task_at}
use Rattle.em_gate.specs.Effects.{given}
use Rattle.em_gate.specs.Events.{after_event, event_line, release_line}
use Rattle.em_system.specs.Held.{Held, Holds}
use Rattle.em_system.specs.Promises.{promises_after_event, promises_given}

-- what is held, the ports and the line are those after an event
abbrev pub Happens : Held → Places → Option Line → App → Plain → List (Option SemId) → Event → Type 0
Happens held places line app p promises event =
    Holds held (after_event event p) (promises_after_event app event p promises)
    × (places ≡ (after_event event p).ports)
    × (line ≡ event_line event p)

-- a release has happened
pub released : (app : App) (p : Plain) (promises : List (Option SemId)) {held : Held} {places : Places} {line : Line} {event : Event} (t : TaskId) (time word : ℕ)
    → event ≡ Release t time word → Holds held (given t.0 time word p) (promises_given app t.0 p promises) → places ≡ p.ports
    → line ≡ release_line t time word (task_at p.tasks t.0)
    → Happens held places (Some line) app p promises event
released app p promises {held} {places} {line} t time word is s seen e =
    subst (Happens held places (Some line) app p promises) (sym is)
    (record { tasks = s.tasks; promised = s.promised; owners = s.owners; shared = s.shared }, seen, ap Some e)

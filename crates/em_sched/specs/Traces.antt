-- When a plain run gives the lines of another run, and what of the events of a run stands in its schedule. This project's own.
use Rattle.std.specs.Prelude.{◌≡◌, ℕ, ◌≤◌, List, [], ◌∷◌, ◌++◌, map}
use Rattle.std.specs.List.{flat_map}
use Rattle.em_base.specs.declared.apps.App.{App}
use Rattle.em_base.specs.declared.events.Event.{Event}
use Rattle.em_base.specs.declared.events.Schedule.{Schedule}
use Rattle.em_base.specs.declared.events.Timed.{Timed}
use Rattle.em_trace.specs.declared.lines.Line.{Line}
use Rattle.em_gate.specs.Effects.{option_list}
use Rattle.em_gate.specs.Events.{events_of}
use Rattle.em_kernel.specs.declared.did.Did.{Did}
use Rattle.em_plain.specs.Runs.{Went, On, Full, Misfit}

-- the lines that steps give to the trace
abbrev pub lines_in : List Did → List Line
lines_in steps = flat_map (λ did. option_list did.line) steps

-- a plain run gives these lines: it comes to its last count, or to a full trace, and is no misfit
abbrev pub Gives : Went → List Line → Type 0
Gives (On p count) lines = p.lines ≡ lines
Gives (Full p count) lines = p.lines ≡ lines
Gives (Misfit p count) lines = ⊥

-- the events, without their times, and without the steps before them
abbrev pub events_in : List Timed → List Event
events_in events = map (λ timed. timed.event) events

abbrev pub events_put : List (ℕ × Event) → List Event
events_put events = map (λ event. event.1) events

-- the events of a schedule are the first ones of an application, in their order
abbrev pub AreFirstOf : App → Schedule → Type 0
AreFirstOf app schedule = (rest : List Event) × (events_in (events_of app) ≡ events_put schedule.events ++ rest)

-- the counts of events don't fall, from the least that there may be to the last
abbrev pub IsRising : ℕ → List (ℕ × Event) → ℕ → Type 0
IsRising least [] last = least ≤ last
IsRising least (event ∷ events) last = (least ≤ event.0) × IsRising event.0 events last

-- What a schedule is asks of the machine that follows it.
use Rattle.std.proofs.Common.{ℕ, ◌≤◌, List, [], ◌∷◌, All, arith}
use Rattle.std.proofs.lemmas.List.Elements.{All-cons, All-nil}
use Rattle.em_base.specs.declared.events.Event.{Event}
use Rattle.em_base.specs.declared.events.Event.TheVariants.{Release, Unplug}
use Rattle.em_trace.specs.Schedules.{AreEvents, IsEvent}
use Rattle.em_system.specs.Possible.{IsPossible}

-- its counts aren't above the limit
pub counts_within : (tasks least : ℕ) (events : List (ℕ × Event)) (last : ℕ) → AreEvents tasks least events last → All (λ e. e.0 ≤ 100000000) events
counts_within tasks least [] last h = All-nil (λ e. e.0 ≤ 100000000)
counts_within tasks least (event ∷ events) last h =
    All-cons (λ e. e.0 ≤ 100000000) event events h.0.1 (counts_within tasks event.0 events last h.1)

-- nor is its last count
pub last_within : (tasks least : ℕ) (events : List (ℕ × Event)) (last : ℕ) → AreEvents tasks least events last → last ≤ 100000000
last_within tasks least [] last h = h.1
last_within tasks least (event ∷ events) last h = last_within tasks event.0 events last h.1

event_possible : (tasks : ℕ) (event : Event) → IsEvent tasks event → IsPossible tasks event
event_possible tasks (Release task time word) h = (h.1, omega (arith, h.2))
event_possible tasks (Unplug port) h = h

-- each of its events can come
pub events_possible : (tasks least : ℕ) (events : List (ℕ × Event)) (last : ℕ) → AreEvents tasks least events last → All (λ e. IsPossible tasks e.1) events
events_possible tasks least [] last h = All-nil (λ e. IsPossible tasks e.1)
events_possible tasks least (event ∷ events) last h =
    All-cons (λ e. IsPossible tasks e.1) event events (event_possible tasks event.1 h.0.2) (events_possible tasks event.0 events last h.1)

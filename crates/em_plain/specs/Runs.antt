-- The plain run: the machine of plain priority inheritance under a schedule, which says after how many steps each event comes. It has no
-- clock, no charge and no promise. This project's own.
use Rattle.std.specs.Prelude.{ℕ, zero, suc, ◌-◌, min, Bool, nat_le, List, [], ◌∷◌, length, take, drop, None, Some, if◌then◌else◌}
use Rattle.em_base.specs.declared.apps.App.{App}
use Rattle.em_base.specs.declared.events.Event.{Event}
use Rattle.em_base.specs.declared.events.Schedule.{Schedule}
use Rattle.em_ports.specs.Ports.{Places}
use Rattle.em_gate.specs.Boot.{boot}
use Rattle.em_gate.specs.Effects.{after_step}
use Rattle.em_gate.specs.Events.{after_event}
use Rattle.em_gate.specs.Selecting.{plain_selected}
use Rattle.em_gate.specs.State.{Plain, most_lines}

-- how far the machine went: it is at a state, after so many steps; or it stopped there, since the trace is full where a step or an event is
-- left, or since no task is selected where a step is
pub data Went : Type 0 where
  On : Plain → ℕ → Went
  Full : Plain → ℕ → Went
  Misfit : Plain → ℕ → Went

-- the state to which it went
abbrev pub state_of : Went → Plain
state_of (On p count) = p
state_of (Full p count) = p
state_of (Misfit p count) = p

-- it goes on, where it hasn't stopped
abbrev pub and_then : Went → (Plain → ℕ → Went) → Went
and_then (On p count) next = next p count
and_then (Full p count) next = Full p count
and_then (Misfit p count) next = Misfit p count

-- the trace has as many lines as there may be
abbrev pub is_full : Plain → Bool
is_full p = nat_le most_lines (length p.lines)

-- so many steps of the selected task, from a state on before which so many were taken
unfoldable pub steps : App → ℕ → Plain → ℕ → Went
steps app zero p count = On p count
steps app (suc n) p count =
    if is_full p then Full p count
    else elim (plain_selected app.table.tasks p) as (λ _. Went) [
      | None ↦ Misfit p count
      | Some t ↦ steps app n (after_step app.table app.image.words (record { 0 = t }) p) (suc count)
    ]

-- the events, each after as many steps as it says
unfoldable pub events : App → Plain → ℕ → List (ℕ × Event) → Went
events app p count [] = On p count
events app p count (e ∷ rest) =
    and_then (steps app (e.0 - count) p count) (λ p' count'.
    if is_full p' then Full p' count' else events app (after_event e.1 p') count' rest)

-- from a state on, before which no step was taken: the events of a schedule, and then steps up to its last count
abbrev pub run_from : App → Plain → Schedule → Went
run_from app p schedule =
    and_then (events app p 0 schedule.events) (λ p' count. steps app (schedule.last - count) p' count)

-- so many steps, but none past this count
abbrev pub steps_before : App → ℕ → ℕ → Plain → ℕ → Went
steps_before app next k p count = steps app (min k (next - count)) p count

-- the count up to which there are steps before the first of these events, or before the end
abbrev pub next_count : List (ℕ × Event) → ℕ → ℕ
next_count [] last = last
next_count (e ∷ rest) last = e.0

-- the first so many events, and so many steps more, but none past the next event or the last count
abbrev pub part_from : App → Plain → Schedule → ℕ × ℕ → Went
part_from app p schedule part =
    let next = next_count (drop part.0 schedule.events) schedule.last in
    and_then (events app p 0 (take part.0 schedule.events)) (λ p' count. steps_before app next part.1 p' count)

-- from a state on, to which the first so many events and maybe steps have led: the other events, and then steps up to the last count
abbrev pub rest_from : App → Schedule → ℕ → Plain → ℕ → Went
rest_from app schedule i p count =
    and_then (events app p count (drop i schedule.events)) (λ p' count'. steps app (schedule.last - count') p' count')

-- the plain run, from the boot on
abbrev pub plain_run : App → Places → Schedule → Went
plain_run app places schedule = run_from app (boot app places) schedule

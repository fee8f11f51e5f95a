-- The parts that a run passes.
use Rattle.std.proofs.Common.{◌≡◌, ◌∙◌, ◌≤◌, ◌-◌, ℕ, List, [], ◌∷◌, min, take, drop, sym, ap}
use Rattle.std.proofs.Math.Nat.{min-le_right}
use Rattle.std.proofs.lemmas.List.{take-append-drop}
use Rattle.em_base.specs.declared.apps.App.{App}
use Rattle.em_base.specs.declared.events.Event.{Event}
use Rattle.em_base.specs.declared.events.Schedule.{Schedule}
use Rattle.em_gate.specs.State.{Plain}
use Rattle.em_plain.specs.Runs.{Went, On, and_then, events, next_count, part_from, rest_from, run_from, steps}
use Rattle.em_plain.proofs.Went.{and_no_more, and_then_again, and_then_same, events_append, steps_ahead, takes}

-- these events, and then steps up to the last count
abbrev rest_by : App → List (ℕ × Event) → ℕ → Plain → ℕ → Went
rest_by app es last p count = and_then (events app p count es) (λ q n. steps app (last - n) q n)

-- steps up to the last count
abbrev up_to : App → ℕ → Plain → ℕ → Went
up_to app last p count = steps app (last - count) p count

-- some of the steps up to what comes next come first
ahead : (app : App) (es : List (ℕ × Event)) (last j : ℕ) (p : Plain) (count : ℕ) → j ≤ next_count es last - count
    → rest_by app es last p count ≡ and_then (steps app j p count) (rest_by app es last)
unfolding events
ahead app [] last j p count h =
    sym (and_no_more (up_to app last p count))
    ∙ steps_ahead app last j p count (λ q n. On q n) h
    ∙ and_then_same (steps app j p count) (λ q n. and_then (up_to app last q n) (λ q' n'. On q' n')) (up_to app last) (λ q n. and_no_more (up_to app last q n))
ahead app (e ∷ rest) last j p count h =
    and_then_again (steps app (e.0 - count) p count) (takes app e rest) (up_to app last)
    ∙ steps_ahead app e.0 j p count (λ q n. and_then (takes app e rest q n) (up_to app last)) h
    ∙ and_then_same (steps app j p count) (λ q n. and_then (steps app (e.0 - n) q n) (λ q' n'. and_then (takes app e rest q' n') (up_to app last)))
    (rest_by app (e ∷ rest) last) (λ q n. sym (and_then_again (steps app (e.0 - n) q n) (takes app e rest) (up_to app last)))

-- the run is a part of it, and then the rest
pub passes : (app : App) (p : Plain) (schedule : Schedule) (part : ℕ × ℕ)
    → run_from app p schedule ≡ and_then (part_from app p schedule part) (rest_from app schedule part.0)
passes app p schedule (i, k) =
    let so_far = events app p 0 (take i schedule.events) in
    let others = drop i schedule.events in
    let last = schedule.last in
    let next = next_count others last in
    ap (λ es. and_then (events app p 0 es) (λ q n. steps app (last - n) q n)) (sym (take-append-drop i schedule.events))
    ∙ ap (λ went. and_then went (λ q n. steps app (last - n) q n)) (events_append app p 0 (take i schedule.events) others)
    ∙ and_then_again so_far (λ q n. events app q n others) (λ q n. steps app (last - n) q n)
    ∙ and_then_same so_far (rest_by app others last) (λ q n. and_then (steps app (min k (next - n)) q n) (rest_by app others last))
    (λ q n. ahead app others last (min k (next - n)) q n (min-le_right k (next - n)))
    ∙ sym (and_then_again so_far (λ q n. steps app (min k (next - n)) q n) (rest_by app others last))

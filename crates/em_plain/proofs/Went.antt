-- How far the plain machine goes, one part after the other.
use Rattle.std.proofs.Common.{◌≡◌, ◌∙◌, ◌≤◌, ℕ, zero, suc, ◌+◌, ◌-◌, ◌++◌, if◌then◌else◌, Bool, true, false, List, [], ◌∷◌, Option, None, Some, sym, ap, refl, arith}
use Rattle.em_base.specs.declared.apps.App.{App}
use Rattle.em_base.specs.declared.events.Event.{Event}
use Rattle.em_gate.specs.Effects.{after_step}
use Rattle.em_gate.specs.Events.{after_event}
use Rattle.em_gate.specs.Selecting.{plain_selected}
use Rattle.em_gate.specs.State.{Plain}
use Rattle.em_plain.specs.Runs.{Went, On, Full, Misfit, and_then, events, is_full, steps}

-- one thing and then two more, or two and then one more
pub and_then_again : (went : Went) (f g : Plain → ℕ → Went) → and_then (and_then went f) g ≡ and_then went (λ p count. and_then (f p count) g)
and_then_again (On p count) f g = refl
and_then_again (Full p count) f g = refl
and_then_again (Misfit p count) f g = refl

-- one thing, and then the same by another name
pub and_then_same : (went : Went) (f g : Plain → ℕ → Went) → ((p : Plain) (count : ℕ) → f p count ≡ g p count) → and_then went f ≡ and_then went g
and_then_same (On p count) f g same = same p count
and_then_same (Full p count) f g same = refl
and_then_same (Misfit p count) f g same = refl

-- one thing, and then no more
pub and_no_more : (went : Went) → and_then went (λ p count. On p count) ≡ went
and_no_more (On p count) = refl
and_no_more (Full p count) = refl
and_no_more (Misfit p count) = refl

-- by what it came to, where a step is left
abbrev step_by : App → ℕ → Plain → ℕ → Option ℕ → Went
step_by app n p count selected = elim selected as (λ _. Went) [
  | None ↦ Misfit p count
  | Some t ↦ steps app n (after_step app.table app.image.words (record { 0 = t }) p) (suc count)
]

abbrev move_by : App → ℕ → Plain → ℕ → Bool → Option ℕ → Went
move_by app n p count full selected = if full then Full p count else step_by app n p count selected

-- so many steps, and so many more
pub steps_add : (app : App) (k j : ℕ) (p : Plain) (count : ℕ) → steps app (k + j) p count ≡ and_then (steps app k p count) (λ p' count'. steps app j p' count')
unfolding steps
steps_add app zero j p count =
    let same : 0 + j ≡ j = omega arith in
    ap (λ n. steps app n p count) same
steps_add app (suc k) j p count =
    let same : suc k + j ≡ suc (k + j) = omega arith in
    ap (λ n. steps app n p count) same ∙ by_full (λ t. steps_add app k j (after_step app.table app.image.words (record { 0 = t }) p) (suc count)) (is_full p) (plain_selected app.table.tasks p)
  where
    by_full : ((t : ℕ) → step_by app (k + j) p count (Some t) ≡ and_then (step_by app k p count (Some t)) (λ p' count'. steps app j p' count'))
        → (full : Bool) (selected : Option ℕ)
        → move_by app (k + j) p count full selected ≡ and_then (move_by app k p count full selected) (λ p' count'. steps app j p' count')
    by_full more true selected = refl
    by_full more false None = refl
    by_full more false (Some t) = more t

-- after so many steps the count is higher by as many
steps_counted : (app : App) (k : ℕ) (p : Plain) (count : ℕ) (f : Plain → ℕ → Went)
    → and_then (steps app k p count) f ≡ and_then (steps app k p count) (λ q n. f q (count + k))
unfolding steps
steps_counted app zero p count f =
    let same : count ≡ count + 0 = omega arith in
    ap (λ n. f p n) same
steps_counted app (suc k) p count f =
    by_full (λ t. steps_counted app k (after_step app.table app.image.words (record { 0 = t }) p) (suc count) f) (is_full p) (plain_selected app.table.tasks p)
  where
    by_full : ((t : ℕ) → and_then (step_by app k p count (Some t)) f ≡ and_then (step_by app k p count (Some t)) (λ q n. f q (suc count + k)))
        → (full : Bool) (selected : Option ℕ)
        → and_then (move_by app k p count full selected) f ≡ and_then (move_by app k p count full selected) (λ q n. f q (count + suc k))
    by_full more true selected = refl
    by_full more false None = refl
    by_full more false (Some t) =
        let same : suc count + k ≡ count + suc k = omega arith in
        more t ∙ ap (λ m. and_then (step_by app k p count (Some t)) (λ q n. f q m)) same

-- steps up to a count, and some of them first
pub steps_ahead : (app : App) (target j : ℕ) (p : Plain) (count : ℕ) (f : Plain → ℕ → Went) → j ≤ target - count
    → and_then (steps app (target - count) p count) f ≡ and_then (steps app j p count) (λ q n. and_then (steps app (target - n) q n) f)
steps_ahead app target j p count f h =
    let left = target - count - j in
    let parts : target - count ≡ j + (target - count - j) = omega (arith, h) in
    let same : target - count - j ≡ target - (count + j) = omega arith in
    ap (λ k. and_then (steps app k p count) f) parts
    ∙ ap (λ went. and_then went f) (steps_add app j left p count)
    ∙ and_then_again (steps app j p count) (λ q n. steps app left q n) f
    ∙ steps_counted app j p count (λ q n. and_then (steps app left q n) f)
    ∙ ap (λ k. and_then (steps app j p count) (λ q n. and_then (steps app k q (count + j)) f)) same
    ∙ sym (steps_counted app j p count (λ q n. and_then (steps app (target - n) q n) f))

-- a step that is left where the trace is full
pub stops_full : (app : App) (n : ℕ) (p : Plain) (count : ℕ) → is_full p ≡ true → steps app (suc n) p count ≡ Full p count
unfolding steps
stops_full app n p count e = ap (λ full. move_by app n p count full (plain_selected app.table.tasks p)) e

-- a step that is left where no task is selected
pub stops_misfit : (app : App) (n : ℕ) (p : Plain) (count : ℕ) → is_full p ≡ false → plain_selected app.table.tasks p ≡ None → steps app (suc n) p count ≡ Misfit p count
unfolding steps
stops_misfit app n p count e f = ap (λ full. move_by app n p count full (plain_selected app.table.tasks p)) e ∙ ap (λ selected. step_by app n p count selected) f

-- a step of the selected task
pub takes_step : (app : App) (n : ℕ) (p : Plain) (count t : ℕ) → is_full p ≡ false → plain_selected app.table.tasks p ≡ Some t
    → steps app (suc n) p count ≡ steps app n (after_step app.table app.image.words (record { 0 = t }) p) (suc count)
unfolding steps
takes_step app n p count t e f = ap (λ full. move_by app n p count full (plain_selected app.table.tasks p)) e ∙ ap (λ selected. step_by app n p count selected) f

-- no step
pub no_step : (app : App) (p : Plain) (count : ℕ) → steps app 0 p count ≡ On p count
unfolding steps
no_step app p count = refl

-- no event
pub no_event : (app : App) (p : Plain) (count : ℕ) → events app p count [] ≡ On p count
unfolding events
no_event app p count = refl

abbrev event_by : App → (ℕ × Event) → List (ℕ × Event) → Plain → ℕ → Bool → Went
event_by app e rest p count full = if full then Full p count else events app (after_event e.1 p) count rest

-- what comes where there are steps no more: an event, unless the trace is full, and those behind it
abbrev pub takes : App → ℕ × Event → List (ℕ × Event) → Plain → ℕ → Went
takes app e rest p count = if is_full p then Full p count else events app (after_event e.1 p) count rest

-- an event, and those behind it
pub next_event : (app : App) (p : Plain) (count : ℕ) (e : ℕ × Event) (rest : List (ℕ × Event))
    → events app p count (e ∷ rest) ≡ and_then (steps app (e.0 - count) p count) (λ p' count'. if is_full p' then Full p' count' else events app (after_event e.1 p') count' rest)
unfolding events
next_event app p count e rest = refl

-- so many events, and others behind them
pub events_append : (app : App) (p : Plain) (count : ℕ) (xs ys : List (ℕ × Event))
    → events app p count (xs ++ ys) ≡ and_then (events app p count xs) (λ p' count'. events app p' count' ys)
unfolding events
events_append app p count [] ys = refl
events_append app p count (e ∷ rest) ys =
    by_went (λ q n. events_append app q n rest ys) (steps app (e.0 - count) p count)
  where
    by_full : (p' : Plain) (count' : ℕ)
        → (events app (after_event e.1 p') count' (rest ++ ys) ≡ and_then (events app (after_event e.1 p') count' rest) (λ p'' count''. events app p'' count'' ys))
        → (full : Bool)
        → event_by app e (rest ++ ys) p' count' full ≡ and_then (event_by app e rest p' count' full) (λ p'' count''. events app p'' count'' ys)
    by_full p' count' more true = refl
    by_full p' count' more false = more

    by_went : ((q : Plain) (n : ℕ) → events app q n (rest ++ ys) ≡ and_then (events app q n rest) (λ p'' count''. events app p'' count'' ys))
        → (went : Went)
        → and_then went (λ p' count'. if is_full p' then Full p' count' else events app (after_event e.1 p') count' (rest ++ ys))
        ≡ and_then (and_then went (λ p' count'. if is_full p' then Full p' count' else events app (after_event e.1 p') count' rest)) (λ p'' count''. events app p'' count'' ys)
    by_went more (On p' count') = by_full p' count' (more (after_event e.1 p') count') (is_full p')
    by_went more (Full p' count') = refl
    by_went more (Misfit p' count') = refl

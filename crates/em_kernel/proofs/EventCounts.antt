-- An application has no more events than the periods of its tasks and its script may give.
use Rattle.std.proofs.Common.{◌≡◌, ◌≢◌, ℕ, zero, suc, ◌+◌, ◌<◌, ◌≤◌, ◌⊎◌, inl, inr, if◌then◌else◌, List, [], ◌∷◌, ◌++◌, length, sum_by, ap, refl, arith, length-append}
use Rattle.std.specs.List.{flat_map, range_with_len}
use Rattle.std.proofs.lemmas.Bool.{cases_eq, eq-eqb, ne_eqb}
use Rattle.em_base.specs.declared.apps.App.{App}
use Rattle.em_base.specs.declared.events.Timed.{Timed}
use Rattle.em_base.specs.Apps.{IsApp}
use Rattle.em_base.specs.Tables.{releases_of}
use Rattle.em_gate.specs.Events.{at_time, events_of, timer_releases}
use Rattle.em_kernel.proofs.TimerReleases.{rows-few}

-- how many events there are at so many times from a on
abbrev at_times : ℕ → ℕ → List Timed → ℕ
at_times a n events = length (flat_map (λ time. at_time time events) (range_with_len a n))

next_time : (a n : ℕ) (events : List Timed) → at_times a (suc n) events ≡ length (at_time a events) + at_times (a + 1) n events
next_time a n events = length-append (at_time a events) (flat_map (λ time. at_time time events) (range_with_len (a + 1) n))

-- an event before these times is at none of them
before : (a n : ℕ) (event : Timed) (events : List Timed) → event.time < a → at_times a n (event ∷ events) ≡ at_times a n events
before a zero event events less = refl
before a (suc n) event events less =
    let here : length (at_time a (event ∷ events)) ≡ length (at_time a events) =
    ap (λ b. length (if b then event ∷ at_time a events else at_time a events)) (ne_eqb event.time a (omega (arith, less))) in
    let rest = before (a + 1) n event events (omega (arith, less)) in
    omega (arith, here, rest, next_time a n (event ∷ events), next_time a n events)

-- and any other at one at most
one_at_most : (a n : ℕ) (event : Timed) (events : List Timed) → at_times a n (event ∷ events) ≤ suc (at_times a n events)
one_at_most a zero event events = omega arith
one_at_most a (suc n) event events = by_time (one_at_most (a + 1) n event events) (cases_eq event.time a)
  where
    by_time : at_times (a + 1) n (event ∷ events) ≤ suc (at_times (a + 1) n events) → (event.time ≡ a) ⊎ (event.time ≢ a)
        → at_times a (suc n) (event ∷ events) ≤ suc (at_times a (suc n) events)
    by_time most (inl same) =
        let here : length (at_time a (event ∷ events)) ≡ suc (length (at_time a events)) =
        ap (λ b. length (if b then event ∷ at_time a events else at_time a events)) (eq-eqb event.time a same) in
        let rest = before (a + 1) n event events (omega (arith, same)) in
        omega (arith, here, rest, next_time a n (event ∷ events), next_time a n events)
    by_time most (inr other) =
        let here : length (at_time a (event ∷ events)) ≡ length (at_time a events) =
        ap (λ b. length (if b then event ∷ at_time a events else at_time a events)) (ne_eqb event.time a other) in
        omega (arith, here, most, next_time a n (event ∷ events), next_time a n events)

none_at : (a n : ℕ) → at_times a n [] ≡ 0
none_at a zero = refl
none_at a (suc n) = none_at (a + 1) n

-- no event is at two times
all_at_most : (a n : ℕ) (events : List Timed) → at_times a n events ≤ length events
all_at_most a n [] = let none = none_at a n in omega (arith, none)
all_at_most a n (event ∷ events) =
    let rest = all_at_most a n events in
    let one = one_at_most a n event events in
    omega (arith, rest, one)

pub events-few : (app : App) → IsApp app → length (events_of app) ≤ length app.script + sum_by (releases_of app.table.horizon) app.table.tasks
events-few app is =
    let all = all_at_most 0 app.table.horizon (timer_releases app.table ++ app.script) in
    let parts = length-append (timer_releases app.table) app.script in
    let timers = rows-few app.table.horizon app.table.semaphores 0 app.table.tasks is.table.tasks in
    omega (arith, all, parts, timers)

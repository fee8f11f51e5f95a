-- The machine under a schedule.
use Rattle.std.specs.Bool.{⊤}
use Rattle.std.proofs.Common.{◌≡◌, ◌∙◌, ℕ, zero, suc, ◌+◌, ◌-◌, ◌<◌, ◌≤◌, ◌++◌, if◌then◌else◌, false, min, List, [], ◌∷◌, length, take, drop, slice_index_or, All, Result, Ok, Err, IsErr, IsErrAnd, sym, ap, subst, refl, arith}
use Rattle.std.proofs.Math.ListN.{drop_of_length-le}
use Rattle.std.proofs.Math.Seq.{drop-cons}
use Rattle.std.proofs.lemmas.Bool.{false≢true}
use Rattle.std.proofs.lemmas.List.{take-append-drop}
use Rattle.em_base.specs.declared.apps.App.{App}
use Rattle.em_base.specs.declared.events.Event.{Event}
use Rattle.em_base.specs.declared.events.Schedule.{Schedule}
use Rattle.em_ports.specs.Ports.{Places}
use Rattle.em_gate.specs.Events.{after_event}
use Rattle.em_gate.specs.State.{Plain}
use Rattle.em_system.specs.Held.{tasks_of}
use Rattle.em_system.specs.Sound.{IsSound}
use Rattle.em_plain.specs.declared.machine.Halt.{Halt}
use Rattle.em_plain.specs.declared.machine.Halt.TheVariants.{Full as FullHalt, Misfit as MisfitHalt, NoMemory}
use Rattle.em_plain.specs.Reached.{HasGone, HasTaken, IsAt, Reached}
use Rattle.em_plain.specs.Runs.{Went, On, Full, Misfit, and_then, events, is_full, next_count, part_from, run_from, state_of, steps, steps_before}
use Rattle.em_plain.proofs.Went.{events_append, next_event, no_event, no_step, takes}

-- so many events have come, and no step was taken behind the last
pub record Following (first : Reached) (places : Places) (schedule : Schedule) (i : ℕ) (at : Reached) (places' : Places) : Type 0 where
  pub app : at.held.app ≡ first.held.app
  pub early : at.count ≤ 100000000
  pub sound : (n : ℕ) × (n ≤ at.count + i) × All (IsSound n) (tasks_of at.held.threads)
  pub gone : (p : Plain) → IsAt first places p
      → (p' : Plain) × (events first.held.app p 0 (take i schedule.events) ≡ On p' at.count) × IsAt at places' p'

-- before the first event
pub begins : (first : Reached) (places : Places) (schedule : Schedule) → first.count ≡ 0 → All (IsSound 0) (tasks_of first.held.threads) → Following first places schedule 0 first places
begins first places schedule e sound = record {
  app = refl;
  early = omega (arith, e);
  sound = (0, omega arith, sound);
  gone = λ p at. (p, no_event first.held.app p 0 ∙ ap (λ n. On p n) (sym e), at);
}

-- the events so far, the next one, and those behind it
next_is : {A : Type 0} (xs : List A) (i : ℕ) (d : A) → i < length xs → xs ≡ take i xs ++ slice_index_or xs i d ∷ drop (suc i) xs
next_is xs i d h = sym (take-append-drop i xs) ∙ ap (λ rest. take i xs ++ rest) (drop-cons xs i d h)

take_more : {A : Type 0} (xs : List A) (i : ℕ) (d : A) → i < length xs → take (suc i) xs ≡ take i xs ++ slice_index_or xs i d ∷ []
take_more [] i d h = absurd (omega (arith, h))
take_more (x ∷ xs) zero d h = refl
take_more (x ∷ xs) (suc i) d h = ap (λ rest. x ∷ rest) (take_more xs i d (omega (arith, h)))

all_taken : {A : Type 0} (xs : List A) (i : ℕ) → length xs ≤ i → take i xs ≡ xs
all_taken [] zero h = refl
all_taken [] (suc i) h = refl
all_taken (x ∷ xs) zero h = absurd (omega (arith, h))
all_taken (x ∷ xs) (suc i) h = ap (λ rest. x ∷ rest) (all_taken xs i (omega (arith, h)))

-- the rest of the run, from where so many events have come
rest_is : (app : App) (schedule : Schedule) (i : ℕ) (d : ℕ × Event) (p p' : Plain) (count : ℕ) → i < length schedule.events
    → events app p 0 (take i schedule.events) ≡ On p' count
    → let e = slice_index_or schedule.events i d in
    run_from app p schedule
    ≡ and_then (and_then (steps app (e.0 - count) p' count) (takes app e (drop (suc i) schedule.events))) (λ q n. steps app (schedule.last - n) q n)
rest_is app schedule i d p p' count h gone =
    let e = slice_index_or schedule.events i d in
    let rest = drop (suc i) schedule.events in
    ap (λ went. and_then went (λ q n. steps app (schedule.last - n) q n))
    (ap (λ es. events app p 0 es) (next_is schedule.events i d h)
    ∙ events_append app p 0 (take i schedule.events) (e ∷ rest)
    ∙ ap (λ went. and_then went (λ q n. events app q n (e ∷ rest))) gone
    ∙ next_event app p' count e rest)

-- the count of the next event
next_at : (schedule : Schedule) (i : ℕ) (d : ℕ × Event) → i < length schedule.events
    → next_count (drop i schedule.events) schedule.last ≡ (slice_index_or schedule.events i d).0
next_at schedule i d h = ap (λ es. next_count es schedule.last) (drop-cons schedule.events i d h)

-- or the last count, where there is no event more
next_last : (schedule : Schedule) (i : ℕ) → length schedule.events ≤ i → next_count (drop i schedule.events) schedule.last ≡ schedule.last
next_last schedule i h = ap (λ es. next_count es schedule.last) (drop_of_length-le schedule.events h)

-- a part of the way to what comes next is one of the run
part_is : (app : App) (schedule : Schedule) (i k next : ℕ) (p p' : Plain) (count : ℕ) → events app p 0 (take i schedule.events) ≡ On p' count
    → next_count (drop i schedule.events) schedule.last ≡ next → part_from app p schedule (i, k) ≡ steps_before app next k p' count
part_is app schedule i k next p p' count gone e =
    ap (λ went. and_then went (λ q n. steps_before app (next_count (drop i schedule.events) schedule.last) k q n)) gone ∙ ap (λ m. steps_before app m k p' count) e

-- no part of it
part_none : (app : App) (schedule : Schedule) (i : ℕ) (p p' : Plain) (count : ℕ) → events app p 0 (take i schedule.events) ≡ On p' count
    → part_from app p schedule (i, 0) ≡ On p' count
part_none app schedule i p p' count gone =
    let next = next_count (drop i schedule.events) schedule.last in
    let none : min 0 (next_count (drop i schedule.events) schedule.last - count) ≡ 0 = omega arith in
    part_is app schedule i 0 next p p' count gone refl ∙ ap (λ k. steps app k p' count) none ∙ no_step app p' count

-- where the way to the next event ends, the run does
pub halts_before : (first at at' : Reached) (places places' places'' : Places) (schedule : Schedule) (i : ℕ) (d : ℕ × Event) (p : Plain) (halt : Halt) (result : Result ⊤ Halt)
    → Following first places schedule i at places' → i < length schedule.events
    → ((q : Plain) → IsAt at places' q → HasGone (λ k. steps_before at.held.app (slice_index_or schedule.events i d).0 k q at.count) (steps at.held.app ((slice_index_or schedule.events i d).0 - at.count) q at.count) (Err halt) at' places'')
    → IsErr result → IsErrAnd result (λ h. h ≡ halt) → IsAt first places p
    → HasGone (part_from first.held.app p schedule) (run_from first.held.app p schedule) result at' places''
halts_before first at at' places places' places'' schedule i d p halt (Ok done) f h way err and is = absurd (false≢true err)
halts_before first at at' places places' places'' schedule i d p halt (Err other) f h way err and is =
    let (p', gone, here) = f.gone p is in
    let app : App = first.held.app in
    subst (λ o. HasGone (part_from app p schedule) (run_from app p schedule) (Err o) at' places'') (sym and)
    (by_halt halt p' gone
    (subst (λ (a : App). HasGone (λ k. steps_before a (slice_index_or schedule.events i d).0 k p' at.count) (steps a ((slice_index_or schedule.events i d).0 - at.count) p' at.count) (Err halt) at' places'') f.app (way p' here)))
  where
    by_halt : (o : Halt) (p' : Plain) → events first.held.app p 0 (take i schedule.events) ≡ On p' at.count
        → HasGone (λ k. steps_before first.held.app (slice_index_or schedule.events i d).0 k p' at.count) (steps first.held.app ((slice_index_or schedule.events i d).0 - at.count) p' at.count) (Err o) at' places''
        → HasGone (part_from first.held.app p schedule) (run_from first.held.app p schedule) (Err o) at' places''
    by_halt FullHalt p' gone (q, went, there) = (
      q,
      rest_is first.held.app schedule i d p p' at.count h gone
          ∙ ap (λ w. and_then (and_then w (takes first.held.app (slice_index_or schedule.events i d) (drop (suc i) schedule.events))) (λ q n. steps first.held.app (schedule.last - n) q n)) went,
      there,
    )
    by_halt MisfitHalt p' gone (q, went, there) = (
      q,
      rest_is first.held.app schedule i d p p' at.count h gone
          ∙ ap (λ w. and_then (and_then w (takes first.held.app (slice_index_or schedule.events i d) (drop (suc i) schedule.events))) (λ q n. steps first.held.app (schedule.last - n) q n)) went,
      there,
    )
    by_halt NoMemory p' gone (k, seen) =
        ((i, k), seen ∙ ap (λ w. (state_of w).ports) (sym (part_is first.held.app schedule i k _ p p' at.count gone (next_at schedule i d h))))

-- the events up to the next one, where the machine has come to its count
next_gone : (app : App) (schedule : Schedule) (i : ℕ) (d : ℕ × Event) (p p' p'' : Plain) (count count' : ℕ) → i < length schedule.events
    → events app p 0 (take i schedule.events) ≡ On p' count
    → steps app ((slice_index_or schedule.events i d).0 - count) p' count ≡ On p'' count' → is_full p'' ≡ false
    → events app p 0 (take (suc i) schedule.events) ≡ On (after_event (slice_index_or schedule.events i d).1 p'') count'
next_gone app schedule i d p p' p'' count count' h gone went full =
    let e = slice_index_or schedule.events i d in
    ap (λ es. events app p 0 es) (take_more schedule.events i d h)
    ∙ events_append app p 0 (take i schedule.events) (e ∷ [])
    ∙ ap (λ w. and_then w (λ q n. events app q n (e ∷ []))) gone
    ∙ next_event app p' count e []
    ∙ ap (λ w. and_then w (takes app e [])) went
    ∙ ap (λ b. if b then Full p'' count' else events app (after_event e.1 p'') count' []) full
    ∙ no_event app (after_event e.1 p'') count'

-- where the next event doesn't come, the run ends
pub halts_at : (first at at' at'' : Reached) (places places' places'' places''' : Places) (schedule : Schedule) (i : ℕ) (d : ℕ × Event) (p : Plain) (done : ⊤) (halt : Halt) (result : Result ⊤ Halt)
    → Following first places schedule i at places' → i < length schedule.events
    → ((q : Plain) → IsAt at places' q → HasGone (λ k. steps_before at.held.app (slice_index_or schedule.events i d).0 k q at.count) (steps at.held.app ((slice_index_or schedule.events i d).0 - at.count) q at.count) (Ok done) at' places'')
    → ((q : Plain) → IsAt at' places'' q → HasTaken (slice_index_or schedule.events i d).1 q (Err halt) at'' places''') → at''.count ≡ at'.count
    → IsErr result → IsErrAnd result (λ h. h ≡ halt) → IsAt first places p
    → HasGone (part_from first.held.app p schedule) (run_from first.held.app p schedule) result at'' places'''
halts_at first at at' at'' places places' places'' places''' schedule i d p done halt (Ok x) f h way comes same err and is = absurd (false≢true err)
halts_at first at at' at'' places places' places'' places''' schedule i d p done halt (Err other) f h way comes same err and is =
    let (p', gone, here) = f.gone p is in
    let app : App = first.held.app in
    let e = slice_index_or schedule.events i d in
    let (p'', went, there) = subst (λ (a : App). HasGone (λ k. steps_before a e.0 k p' at.count) (steps a (e.0 - at.count) p' at.count) (Ok done) at' places'') f.app (way p' here) in
    subst (λ o. HasGone (part_from app p schedule) (run_from app p schedule) (Err o) at'' places''') (sym and)
    (by_halt halt p' p'' gone went (comes p'' there))
  where
    by_halt : (o : Halt) (p' p'' : Plain) → events first.held.app p 0 (take i schedule.events) ≡ On p' at.count
        → steps first.held.app ((slice_index_or schedule.events i d).0 - at.count) p' at.count ≡ On p'' at'.count
        → HasTaken (slice_index_or schedule.events i d).1 p'' (Err o) at'' places'''
        → HasGone (part_from first.held.app p schedule) (run_from first.held.app p schedule) (Err o) at'' places'''
    by_halt FullHalt p' p'' gone went (full, there) =
        let app = first.held.app in
        let e = slice_index_or schedule.events i d in
        let rest = drop (suc i) schedule.events in (
          p'',
          rest_is app schedule i d p p' at.count h gone
              ∙ ap (λ w. and_then (and_then w (takes app e rest)) (λ q n. steps app (schedule.last - n) q n)) went
              ∙ ap (λ b. and_then (if b then Full p'' at'.count else events app (after_event e.1 p'') at'.count rest) (λ q n. steps app (schedule.last - n) q n)) full
              ∙ ap (λ n. Full p'' n) (sym same),
          there,
        )
    by_halt MisfitHalt p' p'' gone went none = absurd none
    by_halt NoMemory p' p'' gone went (full, seen) =
        let app = first.held.app in
        let e = slice_index_or schedule.events i d in
        let after = next_gone app schedule i d p p' p'' at.count at'.count h gone went full in (
          (suc i, 0),
          seen ∙ ap (λ w. (state_of w).ports) (sym (part_none app schedule (suc i) p (after_event e.1 p'') at'.count after)),
        )

-- one event more
pub follows : (first at at' at'' : Reached) (places places' places'' places''' : Places) (schedule : Schedule) (i : ℕ) (d : ℕ × Event) (done took : ⊤)
    → Following first places schedule i at places' → i < length schedule.events → (slice_index_or schedule.events i d).0 ≤ 100000000
    → ((q : Plain) → IsAt at places' q → HasGone (λ k. steps_before at.held.app (slice_index_or schedule.events i d).0 k q at.count) (steps at.held.app ((slice_index_or schedule.events i d).0 - at.count) q at.count) (Ok done) at' places'')
    → ((q : Plain) → IsAt at' places'' q → HasTaken (slice_index_or schedule.events i d).1 q (Ok took) at'' places''')
    → at'.count ≡ at.count + ((slice_index_or schedule.events i d).0 - at.count) → at''.count ≡ at'.count → at'.held.app ≡ at.held.app → at''.held.app ≡ at'.held.app
    → ((n : ℕ) → All (IsSound n) (tasks_of at.held.threads) → All (IsSound (n + ((slice_index_or schedule.events i d).0 - at.count))) (tasks_of at'.held.threads))
    → ((n : ℕ) → All (IsSound n) (tasks_of at'.held.threads) → All (IsSound (n + 1)) (tasks_of at''.held.threads))
    → Following first places schedule (suc i) at'' places'''
follows first at at' at'' places places' places'' places''' schedule i d done took f h few way comes count same app app' sound sound' =
    let e = slice_index_or schedule.events i d in
    record {
      app = app' ∙ app ∙ f.app;
      early = omega (arith, few, f.early, count, same);
      sound =
          let (n, most, all) = f.sound in
          (n + (e.0 - at.count) + 1, omega (arith, most, count, same), sound' (n + (e.0 - at.count)) (sound n all));
      gone = λ p is.
          let (p', gone, here) = f.gone p is in
          let (p'', went, there) = subst (λ (a : App). HasGone (λ k. steps_before a e.0 k p' at.count) (steps a (e.0 - at.count) p' at.count) (Ok done) at' places'') f.app (way p' here) in
          let (full, after) = comes p'' there in
          (after_event e.1 p'', next_gone first.held.app schedule i d p p' p'' at.count at'.count h gone went full ∙ ap (λ n. On (after_event e.1 p'') n) (sym same), after);
    }

-- the way from the last event to the last count is the end of the run
pub ends : (first at at' : Reached) (places places' places'' : Places) (schedule : Schedule) (i : ℕ) (p : Plain) (result : Result ⊤ Halt)
    → Following first places schedule i at places' → length schedule.events ≤ i
    → ((q : Plain) → IsAt at places' q → HasGone (λ k. steps_before at.held.app schedule.last k q at.count) (steps at.held.app (schedule.last - at.count) q at.count) result at' places'')
    → IsAt first places p
    → HasGone (part_from first.held.app p schedule) (run_from first.held.app p schedule) result at' places''
ends first at at' places places' places'' schedule i p result f h way is =
    let (p', gone, here) = f.gone p is in
    by_result result p' gone
    (subst (λ (a : App). HasGone (λ k. steps_before a schedule.last k p' at.count) (steps a (schedule.last - at.count) p' at.count) result at' places'') f.app (way p' here))
  where
    whole : (p' : Plain) → events first.held.app p 0 (take i schedule.events) ≡ On p' at.count
        → run_from first.held.app p schedule ≡ steps first.held.app (schedule.last - at.count) p' at.count
    whole p' gone =
        ap (λ es. and_then (events first.held.app p 0 es) (λ q n. steps first.held.app (schedule.last - n) q n)) (sym (all_taken schedule.events i h))
        ∙ ap (λ w. and_then w (λ q n. steps first.held.app (schedule.last - n) q n)) gone

    by_result : (r : Result ⊤ Halt) (p' : Plain) → events first.held.app p 0 (take i schedule.events) ≡ On p' at.count
        → HasGone (λ k. steps_before first.held.app schedule.last k p' at.count) (steps first.held.app (schedule.last - at.count) p' at.count) r at' places''
        → HasGone (part_from first.held.app p schedule) (run_from first.held.app p schedule) r at' places''
    by_result (Ok done) p' gone (q, went, there) = (q, whole p' gone ∙ went, there)
    by_result (Err FullHalt) p' gone (q, went, there) = (q, whole p' gone ∙ went, there)
    by_result (Err MisfitHalt) p' gone (q, went, there) = (q, whole p' gone ∙ went, there)
    by_result (Err NoMemory) p' gone (k, seen) =
        ((i, k), seen ∙ ap (λ w. (state_of w).ports) (sym (part_is first.held.app schedule i k _ p p' at.count gone (next_last schedule i h))))

-- ---- the same by an equal list of events

-- the schedule of these events and this last count
abbrev pub made : List (ℕ × Event) → ℕ → Schedule
made es last = record { events = es; last = last }

pub same_following : (first at : Reached) (places places' : Places) (es fs : List (ℕ × Event)) (last i : ℕ) → es ≡ fs
    → Following first places (made es last) i at places' → Following first places (made fs last) i at places'
same_following first at places places' es fs last i e f = subst (λ xs. Following first places (made xs last) i at places') e f

pub same_gone : (app : App) (p : Plain) (result : Result ⊤ Halt) (at : Reached) (places : Places) (es fs : List (ℕ × Event)) (last : ℕ) → es ≡ fs
    → HasGone (part_from app p (made es last)) (run_from app p (made es last)) result at places
    → HasGone (part_from app p (made fs last)) (run_from app p (made fs last)) result at places
same_gone app p result at places es fs last e gone = subst (λ xs. HasGone (part_from app p (made xs last)) (run_from app p (made xs last)) result at places) e gone

pub same_place : (first at : Reached) (places places' : Places) (schedule : Schedule) (i j : ℕ) → i ≡ j → Following first places schedule i at places' → Following first places schedule j at places'
same_place first at places places' schedule i j e f = subst (λ k. Following first places schedule k at places') e f

-- ---- the whole run

-- the whole run is a part of itself
pub whole_part : (app : App) (p : Plain) (schedule : Schedule) → (part : ℕ × ℕ) × (run_from app p schedule ≡ part_from app p schedule part)
whole_part app p schedule =
    let k = length schedule.events in
    let (more, same) = by_went (events app p 0 schedule.events) in (
      (k, more),
      same
          ∙ ap (λ es. and_then (events app p 0 es) (λ q n. steps_before app schedule.last more q n)) (sym (all_taken schedule.events k (omega arith)))
          ∙ ap (λ m. and_then (events app p 0 (take k schedule.events)) (λ q n. steps_before app m more q n)) (sym (next_last schedule k (omega arith))),
    )
  where
    by_went : (went : Went) → (more : ℕ) × (and_then went (λ q n. steps app (schedule.last - n) q n) ≡ and_then went (λ q n. steps_before app schedule.last more q n))
    by_went (On q n) =
        let all : schedule.last - n ≡ min (schedule.last - n) (schedule.last - n) = omega arith in
        (schedule.last - n, ap (λ k. steps app k q n) all)
    by_went (Full q n) = (0, refl)
    by_went (Misfit q n) = (0, refl)

-- nothing of it
pub no_part : (app : App) (p : Plain) (schedule : Schedule) → part_from app p schedule (0, 0) ≡ On p 0
no_part app p schedule = part_none app schedule 0 p p 0 (no_event app p 0)

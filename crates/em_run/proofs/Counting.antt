-- The counter beside a run: the steps that it has seen are those of the run so far.
use Rattle.std.proofs.Common.{◌≡◌, ◌⊎◌, inl, inr, ◌∙◌, ℕ, suc, ◌+◌, ◌<◌, ◌≤◌, ◌++◌, Bool, true, false, if◌then◌else◌, List, [], ◌∷◌, length, slice_index_or, sym, ap, subst, refl, arith, length-append}
use Rattle.std.proofs.lemmas.Bool.{cases_lt}
use Rattle.std.proofs.lemmas.List.{get_or_append_left, length-map, map-append}
use Rattle.em_base.specs.declared.apps.App.{App}
use Rattle.em_base.specs.declared.events.Schedule.{Schedule}
use Rattle.em_base.specs.Apps.{IsApp}
use Rattle.em_ports.specs.Ports.{Places}
use Rattle.em_gate.specs.Effects.{option_list}
use Rattle.em_gate.specs.State.{Counted}
use Rattle.em_kernel.specs.declared.did.Did.{Did}
use Rattle.em_kernel.specs.declared.did.What.{What}
use Rattle.em_kernel.specs.declared.did.What.TheVariants.{Delivered, Stepped, Idled, Ended}
use Rattle.em_kernel.specs.Kept.{Kept, Stands, kept_fuel}
use Rattle.em_kernel.specs.Run.{counted_boot, fuel, is_end, state_from, steps_from}
use Rattle.em_kernel.specs.Step.{step}
use Rattle.em_sched.specs.Image.{image_beside, is_copying, schedule_of, scheduled}
use Rattle.em_sched.specs.Seen.{IsSeen, Sight, StandsFor, Tally, put_by, steps_by}
use Rattle.em_sched.specs.Traces.{events_in}
use Rattle.em_sched.proofs.CountedSteps.{came, step_turn}
use Rattle.em_trace.specs.declared.lines.Line.{Line}
use Rattle.em_run.proofs.Stepping.{Come, Ends, at_boot, at_boot_count, counted_up, next_state, on_same, on_same_count, one_more, one_more_count, steps_next}

-- a counter stands for so many steps of a run, each seen with a kernel that stood for the state after it; and its count and its places are
-- enough for what is left
pub record Counting (app : App) (ports : Places) (tally : Tally) (kernel : Kept) (n : ℕ) : Type 0 where
  pub sights : List Sight
  pub many : length sights ≡ n
  pub stands : StandsFor app tally sights
  pub seen : IsSeen app ports sights
  pub early : tally.count + kept_fuel kernel ≤ 20300000
  pub places : length tally.events + length kernel.left ≤ tally.places

-- ---- the bounds of one step

put_count : (what : What) (count : ℕ) → length (put_by what count) ≡ length (came what)
put_count (Delivered event) count = refl
put_count (Stepped t kind) count = refl
put_count Idled count = refl
put_count (Ended cause) count = refl

steps_few : (what : What) → steps_by what ≤ 1
steps_few (Delivered event) = omega arith
steps_few (Stepped t kind) = by_kind (is_copying kind)
  where
    by_kind : (b : Bool) → (if b then 0 else 1) ≤ 1
    by_kind true = omega arith
    by_kind false = omega arith
steps_few Idled = omega arith
steps_few (Ended cause) = omega arith

-- an event that a step delivers is one of those left
pub left_falls : (app : App) (c : Counted) → length c.left ≡ length (came (step app c).did.what) + length (step app c).state.left
left_falls app c =
    let turn = step_turn app c in
    sym (length-map c.left (λ timed. timed.event))
    ∙ ap length turn.left
    ∙ length-append (came (step app c).did.what) (events_in (step app c).state.left)
    ∙ ap (λ n. length (came (step app c).did.what) + n) (length-map (step app c).state.left (λ timed. timed.event))

-- ---- one step more

abbrev pub sight_of : Did → Kept → Sight
sight_of did kernel = record { did = did; kernel = kernel }

-- there is one more of them
pub count_more : (sights : List Sight) (sight : Sight) → length (sights ++ sight ∷ []) ≡ suc (length sights)
count_more sights sight = let long = length-append sights (sight ∷ []) in omega (arith, long)

last_sight : (sights : List Sight) (sight other : Sight) → slice_index_or (sights ++ sight ∷ []) (length sights) other ≡ sight
last_sight [] sight other = refl
last_sight (s ∷ sights) sight other = last_sight sights sight other

-- a kernel stands for a state with the state's own ports
own_ports : (kernel : Kept) (places : Places) (c : Counted) → Stands kernel places c → Stands kernel c.plain.ports c
own_ports kernel places c h = subst (λ ports. Stands kernel ports c) h.ports h

-- the steps with the next one at their end are seen so
pub seen_more : (app : App) (ports places : Places) (lines : List Line) (switches : ℕ) (c : Counted) (come : Come app ports lines switches c)
    (sights : List Sight) (did : Did) (kernel : Kept) → length sights ≡ come.count → IsSeen app ports sights → did ≡ (step app c).did
    → Stands kernel places (step app c).state → IsSeen app ports (sights ++ sight_of did kernel ∷ [])
seen_more app ports places lines switches c come sights did kernel many seen is stands = record {
  did =
      map-append (λ sight. sight.did) sights (sight_of did kernel ∷ [])
      ∙ ap (λ ds. ds ++ did ∷ []) (seen.did ∙ ap (λ n. steps_from app n (counted_boot app ports)) many)
      ∙ ap (λ d. steps_from app come.count (counted_boot app ports) ++ d ∷ []) is
      ∙ sym (steps_next app ports lines switches c come)
      ∙ ap (λ n. steps_from app n (counted_boot app ports)) (sym (count_more sights (sight_of did kernel) ∙ ap suc many));
  kernels = λ i other h. by_place i other (cases_lt i (length sights)) (omega (arith, h, count_more sights (sight_of did kernel)));
}
  where
    state : state_from app (suc (length sights)) (counted_boot app ports) ≡ (step app c).state
    state =
        let one : suc (length sights) ≡ come.count + 1 = omega (arith, many) in
        ap (λ n. state_from app n (counted_boot app ports)) one ∙ next_state app ports lines switches c come

    by_place : (i : ℕ) (other : Sight) → (i < length sights) ⊎ (length sights ≤ i) → i ≤ length sights
        → let s = state_from app (suc i) (counted_boot app ports) in
        Stands (slice_index_or (sights ++ sight_of did kernel ∷ []) i other).kernel s.plain.ports s
    by_place i other (inl before) h =
        let s : Counted = state_from app (suc i) (counted_boot app ports) in
        subst (λ (sight : Sight). Stands sight.kernel s.plain.ports s) (sym (get_or_append_left sights (sight_of did kernel ∷ []) other i before))
        (seen.kernels i other before)
    by_place i other (inr past) h =
        let here : i ≡ length sights = omega (arith, past, h) in
        subst (λ n. let s = state_from app (suc n) (counted_boot app ports) in
        Stands (slice_index_or (sights ++ sight_of did kernel ∷ []) n other).kernel s.plain.ports s) (sym here)
        (subst (λ (sight : Sight). let s = state_from app (suc (length sights)) (counted_boot app ports) in Stands sight.kernel s.plain.ports s)
        (sym (last_sight sights (sight_of did kernel) other))
        (subst (λ (s : Counted). Stands kernel s.plain.ports s) (sym state) (own_ports kernel places (step app c).state stands)))

-- what the counter says of one step more
abbrev pub StandsForMore : App → Tally → Tally → Did → Kept → Type 0
StandsForMore app tally tally' did kernel =
    (sights : List Sight) → StandsFor app tally sights → StandsFor app tally' (sights ++ sight_of did kernel ∷ [])

-- the fuel of a kernel is a small number
pub fuel_few : (kernel : Kept) (app : App) → kernel.app ≡ app → IsApp app → length kernel.left ≤ 300000 → kept_fuel kernel ≤ 20300000
fuel_few kernel app same is few =
    let horizon : kernel.app.table.horizon ≡ app.table.horizon = ap (λ (a : App). a.table.horizon) same in
    omega (arith, horizon, is.table.horizon.1, few)

-- at boot
pub counting_first : (app : App) (ports : Places) (tally : Tally) (kernel : Kept) → StandsFor app tally [] → tally.count ≡ 0 → tally.events ≡ []
    → length kernel.left ≤ tally.places → kept_fuel kernel ≤ 20300000 → Counting app ports tally kernel 0
unfolding steps_from
counting_first app ports tally kernel stands count events places few = record {
  sights = [];
  many = refl;
  stands = stands;
  seen = record { did = refl; kernels = λ i other h. absurd (omega (arith, h)) };
  early = omega (arith, count, few);
  places = let none = ap length events in omega (arith, none, places);
}

-- the counter has a place for what the next step delivers
pub place_enough : (app : App) (ports : Places) (places : Places) (c : Counted) (tally : Tally) (kernel : Kept) (n : ℕ) (did : Did)
    → Counting app ports tally kernel n → Stands kernel places c → did ≡ (step app c).did
    → length tally.events + length (put_by did.what tally.count) ≤ tally.places
place_enough app ports places c tally kernel n did counting stands is =
    let put = put_count did.what tally.count in
    let same : length (came did.what) ≡ length (came (step app c).did.what) = ap (λ (d : Did). length (came d.what)) is in
    let left = ap length stands.left in
    let falls = left_falls app c in
    omega (arith, put, same, left, falls, counting.places)

-- one step more, which doesn't end the run
pub counting_more : (app : App) (ports places places' : Places) (lines : List Line) (switches : ℕ) (c : Counted) (come : Come app ports lines switches c)
    (tally tally' : Tally) (kernel kernel' : Kept) (did : Did)
    → Counting app ports tally kernel come.count → Stands kernel places c → Stands kernel' places' (step app c).state → did ≡ (step app c).did
    → StandsForMore app tally tally' did kernel'
    → tally'.count ≡ tally.count + steps_by did.what → tally'.events ≡ tally.events ++ put_by did.what tally.count → tally'.places ≡ tally.places
    → kept_fuel kernel' < kept_fuel kernel → Counting app ports tally' kernel' (suc come.count)
counting_more app ports places places' lines switches c come tally tally' kernel kernel' did counting before after is more count events same falls = record {
  sights = counting.sights ++ sight_of did kernel' ∷ [];
  many = count_more counting.sights (sight_of did kernel') ∙ ap suc counting.many;
  stands = more counting.sights counting.stands;
  seen = seen_more app ports places' lines switches c come counting.sights did kernel' counting.many counting.seen is after;
  early = let few = steps_few did.what in omega (arith, counting.early, count, few, falls);
  places =
      let put = put_count did.what tally.count in
      let put_same : length (came did.what) ≡ length (came (step app c).did.what) = ap (λ (d : Did). length (came d.what)) is in
      let left = ap length before.left in
      let left' = ap length after.left in
      let gone = left_falls app c in
      let long = ap length events in
      let parts = length-append tally.events (put_by did.what tally.count) in
      omega (arith, counting.places, put, put_same, left, left', gone, long, parts, same);
}

-- ---- both

-- a run has come to a state with these lines and switches, and the counter stands for its steps
abbrev pub Goes : App → Places → List Line → ℕ → Counted → Tally → Kept → Type 0
Goes app ports lines switches c tally kernel =
    (come : Come app ports lines switches c) × Counting app ports tally kernel come.count

-- the same after as many steps
as_many : (app : App) (ports : Places) (tally : Tally) (kernel : Kept) (n m : ℕ) → m ≡ n → Counting app ports tally kernel n → Counting app ports tally kernel m
as_many app ports tally kernel n m e counting = subst (Counting app ports tally kernel) (sym e) counting

pub goes_first : (app : App) (ports : Places) (lines : List Line) (switches : ℕ) (tally : Tally) (kernel : Kept) → lines ≡ [] → switches ≡ 0
    → Counting app ports tally kernel 0 → Goes app ports lines switches (counted_boot app ports) tally kernel
goes_first app ports lines switches tally kernel l s counting =
    let first = at_boot app ports in (
      on_same app ports [] lines 0 switches (counted_boot app ports) l s first,
      as_many app ports tally kernel 0 _ (on_same_count app ports [] lines 0 switches (counted_boot app ports) l s first ∙ at_boot_count app ports) counting,
    )

pub goes_on : (app : App) (ports : Places) (lines lines' : List Line) (switches switches' : ℕ) (c : Counted) (tally : Tally) (kernel : Kept)
    (e : is_end (step app c).did.what ≡ false) (falls : fuel app (step app c).state < fuel app c) (come : Come app ports lines switches c)
    → lines' ≡ lines ++ option_list (step app c).did.line → switches' ≡ counted_up (step app c).did.switched switches
    → Counting app ports tally kernel (suc come.count) → Goes app ports lines' switches' (step app c).state tally kernel
goes_on app ports lines lines' switches switches' c tally kernel e falls come l s counting =
    let more = one_more app ports lines switches c e falls come in
    let before = lines ++ option_list (step app c).did.line in
    let switched = counted_up (step app c).did.switched switches in (
      on_same app ports before lines' switched switches' (step app c).state l s more,
      as_many app ports tally kernel (suc come.count) _
          (on_same_count app ports before lines' switched switches' (step app c).state l s more ∙ one_more_count app ports lines switches c e falls come) counting,
    )

-- the schedule of all steps is that of the run
pub finish_is : (app : App) (ports : Places) (lines : List Line) (switches : ℕ) (c : Counted) (n : ℕ) (sights : List Sight) (sight : Sight) (schedule : Schedule)
    → length sights ≡ n → schedule ≡ scheduled (image_beside app ports (length (sights ++ sight ∷ []))) → Ends app ports lines switches c n
    → schedule ≡ schedule_of app ports
finish_is app ports lines switches c n sights sight schedule many is ends =
    is ∙ ap (λ k. scheduled (image_beside app ports k)) (count_more sights sight ∙ ap suc many) ∙ sym ends.schedule_is

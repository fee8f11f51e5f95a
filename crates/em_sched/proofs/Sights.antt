-- One more step that is seen: the counter that stood for those before stands for all.
use Rattle.std.proofs.Common.{◌≡◌, ◌∙◌, ℕ, zero, suc, ◌+◌, ◌++◌, if◌then◌else◌, Bool, true, false, List, [], ◌∷◌, length, map, sym, ap, subst, refl, arith}
use Rattle.std.proofs.lemmas.List.{get_or_append_left, length-append, length-map, map-append}
use Rattle.em_base.specs.declared.apps.App.{App}
use Rattle.em_base.specs.declared.events.Event.{Event}
use Rattle.em_base.specs.declared.events.Schedule.{Schedule}
use Rattle.em_base.specs.Tables.{IsTable}
use Rattle.em_ports.specs.Ports.{Places}
use Rattle.em_gate.specs.Boot.{boot}
use Rattle.em_gate.specs.Events.{events_of}
use Rattle.em_gate.specs.State.{Counted}
use Rattle.em_kernel.specs.declared.did.Did.{Did}
use Rattle.em_kernel.specs.declared.did.What.{What}
use Rattle.em_kernel.specs.declared.did.What.TheVariants.{Delivered, Stepped, Idled, Ended}
use Rattle.em_kernel.specs.Kept.{Kept, Stands}
use Rattle.em_kernel.specs.Run.{counted_boot, is_end, state_from, steps_from}
use Rattle.em_kernel.specs.Step.{step}
use Rattle.em_sched.specs.Image.{Image, image_after, image_beside, image_boot, image_from, is_copying, scheduled, stepped_on}
use Rattle.em_sched.specs.Seen.{IsSeen, Sight, StandsFor, Tally, Tracks, put_by, steps_by}
use Rattle.em_sched.specs.Traces.{events_in}
use Rattle.em_sched.proofs.Agreeing.{simple}
use Rattle.em_sched.proofs.Beside.{beside_from}
use Rattle.em_sched.proofs.Boot.{beside_boot}
use Rattle.em_sched.proofs.CountedSteps.{step_turn}
use Rattle.em_sched.proofs.Levels.{Fits, image_is, plainly}

-- ---- the last of some steps

-- after so many steps, of which none has ended the run, one more was this
pub record IsLast (app : App) (n : ℕ) (c : Counted) (image : Image) (before : List Did) (did : Did) : Type 0 where
  pub steps : before ≡ steps_from app n c
  pub last : did ≡ (step app (state_from app n c)).did
  pub moved : image_from app (suc n) c image
      ≡ image_after app (state_from app n c) (step app (state_from app n c)).state (step app (state_from app n c)).did.what (image_from app n c image)

-- one more, from the state behind
not_none : (xs : List Did) (x : Did) → [] ≡ xs ++ x ∷ [] → ⊥
not_none [] x e = cc
not_none (y ∷ xs) x e = cc

head_is : (x y : Did) (xs ys : List Did) → x ∷ xs ≡ y ∷ ys → x ≡ y
head_is x y xs ys e = cc

tail_is : (x y : Did) (xs ys : List Did) → x ∷ xs ≡ y ∷ ys → xs ≡ ys
tail_is x y xs ys e = cc

pub last_step : (app : App) (n : ℕ) (c : Counted) (image : Image) (before : List Did) (did : Did) → length before ≡ n
    → before ++ did ∷ [] ≡ steps_from app (suc n) c → IsLast app n c image before did
unfolding steps_from state_from image_from
last_step app zero c image [] did few e = record {
  steps = refl;
  last = head_is did (step app c).did [] [] (e ∙ one (is_end (step app c).did.what));
  moved = same (is_end (step app c).did.what);
}
  where
    one : (b : Bool) → (if b then (step app c).did ∷ [] else (step app c).did ∷ []) ≡ (step app c).did ∷ []
    one true = refl
    one false = refl

    after : Image
    after = image_after app c (step app c).state (step app c).did.what image

    same : (b : Bool) → (if b then after else after) ≡ after
    same true = refl
    same false = refl
last_step app zero c image (x ∷ before) did few e = absurd (omega (arith, few))
last_step app (suc n) c image [] did few e = absurd (omega (arith, few))
last_step app (suc n) c image (x ∷ before) did few e =
    by_end (last_step app n (step app c).state (image_after app c (step app c).state (step app c).did.what image) before did (omega (arith, few)))
    (is_end (step app c).did.what) refl e
  where
    after : Image
    after = image_after app c (step app c).state (step app c).did.what image

    More : Type 0
    More = before ++ did ∷ [] ≡ steps_from app (suc n) (step app c).state → IsLast app n (step app c).state after before did

    by_end : More → (b : Bool) → is_end (step app c).did.what ≡ b
        → x ∷ (before ++ did ∷ []) ≡ (if b then (step app c).did ∷ [] else (step app c).did ∷ steps_from app (suc n) (step app c).state)
        → IsLast app (suc n) c image (x ∷ before) did
    by_end rest true q e = absurd (not_none before did (sym (tail_is x (step app c).did (before ++ did ∷ []) [] e)))
    by_end rest false q e =
        let more = rest (tail_is x (step app c).did (before ++ did ∷ []) _ e) in
        let state : state_from app (suc n) c ≡ state_from app n (step app c).state = ap (λ b. if b then (step app c).state else state_from app n (step app c).state) q in
        let steps : steps_from app (suc n) c ≡ (step app c).did ∷ steps_from app n (step app c).state =
        ap (λ b. if b then (step app c).did ∷ [] else (step app c).did ∷ steps_from app n (step app c).state) q in
        let here : image_from app (suc n) c image ≡ image_from app n (step app c).state after =
        ap (λ b. if b then after else image_from app n (step app c).state after) q in
        let next : image_from app (suc (suc n)) c image ≡ image_from app (suc n) (step app c).state after =
        ap (λ b. if b then after else image_from app (suc n) (step app c).state after) q in
        record {
          steps =
              ap (λ d. d ∷ before) (head_is x (step app c).did (before ++ did ∷ []) _ e)
              ∙ ap (λ ds. (step app c).did ∷ ds) more.steps ∙ sym steps;
          last = more.last ∙ ap (λ (s : Counted). (step app s).did) (sym state);
          moved =
              next ∙ more.moved
              ∙ ap (λ (s : Counted). image_after app s (step app s).state (step app s).did.what (image_from app n (step app c).state after)) (sym state)
              ∙ ap (λ i. image_after app (state_from app (suc n) c) (step app (state_from app (suc n) c)).state (step app (state_from app (suc n) c)).did.what i) (sym here);
        }

-- ---- sights

dids_more : (sights : List Sight) (sight : Sight) → map (λ s. s.did) (sights ++ sight ∷ []) ≡ map (λ s. s.did) sights ++ sight.did ∷ []
dids_more sights sight = map-append (λ s. s.did) sights (sight ∷ [])

length_more : (sights : List Sight) (sight : Sight) → length (sights ++ sight ∷ []) ≡ suc (length sights)
length_more sights sight = let long = length-append sights (sight ∷ []) in omega (arith, long)

-- the last step of those that were seen
seen_last : (app : App) (ports : Places) (sights : List Sight) (sight : Sight) → IsSeen app ports (sights ++ sight ∷ [])
    → IsLast app (length sights) (counted_boot app ports) (image_boot app ports) (map (λ s. s.did) sights) sight.did
seen_last app ports sights sight seen =
    last_step app (length sights) (counted_boot app ports) (image_boot app ports) (map (λ s. s.did) sights) sight.did
    (length-map sights (λ s. s.did))
    (sym (dids_more sights sight) ∙ seen.did ∙ ap (λ n. steps_from app n (counted_boot app ports)) (length_more sights sight))

-- those before it were seen
seen_before : (app : App) (ports : Places) (sights : List Sight) (sight : Sight) → IsSeen app ports (sights ++ sight ∷ []) → IsSeen app ports sights
seen_before app ports sights sight seen = record {
  did = (seen_last app ports sights sight seen).steps;
  kernels = λ n other h.
      let long = length_more sights sight in
      let c : Counted = state_from app (suc n) (counted_boot app ports) in
      subst (λ (s : Sight). Stands s.kernel c.plain.ports c) (get_or_append_left sights (sight ∷ []) other n h)
      (seen.kernels n other (omega (arith, h, long)));
}

-- ---- one more step

abbrev one_unless : Bool → ℕ
one_unless b = if b then 0 else 1

none_more : {A : Type 0} (xs : List A) → xs ++ [] ≡ xs
none_more [] = refl
none_more (x ∷ xs) = ap (λ ys. x ∷ ys) (none_more xs)

-- a step that fits adds its own steps and events to what an image has
tracks_plainly : (app : App) (c : Counted) (what : What) (tally tally' : Tally) (image : Image) → Fits app c what → Tracks tally image
    → tally'.count ≡ tally.count + steps_by what → tally'.events ≡ tally.events ++ put_by what tally.count → Tracks tally' (plainly app what image)
tracks_plainly app c (Delivered event) tally tally' image fits tracks count events = record {
  count = let same = tracks.count in omega (arith, same, count);
  events = events ∙ ap (λ n. tally.events ++ (n, event) ∷ []) tracks.count ∙ ap (λ es. es ++ (image.count, event) ∷ []) tracks.events;
}
tracks_plainly app c (Stepped t kind) tally tally' image fits tracks count events = by_kind (is_copying kind) count
  where
    by_kind : (b : Bool) → tally'.count ≡ tally.count + one_unless b → Tracks tally' (if b then image else stepped_on app t.0 image)
    by_kind true counted = record {
      count = let same = tracks.count in omega (arith, same, counted);
      events = events ∙ none_more tally.events ∙ tracks.events;
    }
    by_kind false counted = record {
      count = let same = tracks.count in omega (arith, same, counted);
      events = events ∙ none_more tally.events ∙ tracks.events;
    }
tracks_plainly app c Idled tally tally' image fits tracks count events = record {
  count = let same = tracks.count in omega (arith, same, count);
  events = events ∙ none_more tally.events ∙ tracks.events;
}
tracks_plainly app c (Ended cause) tally tally' image fits tracks count events = record {
  count = let same = tracks.count in omega (arith, same, count);
  events = events ∙ none_more tally.events ∙ tracks.events;
}

-- the counter stands for the steps with the one that is seen at their end
pub stands_more : (app : App) (tally tally' : Tally) (sights : List Sight) (did : Did) (kernel : Kept)
    → tally'.count ≡ tally.count + steps_by did.what → tally'.events ≡ tally.events ++ put_by did.what tally.count
    → StandsFor app tally sights → StandsFor app tally' (sights ++ record { did = did; kernel = kernel } ∷ [])
stands_more app tally tally' sights did kernel count events stands = λ is none ports seen.
    let sight : Sight = record { did = did; kernel = kernel } in
    let n = length sights in
    let last = seen_last app ports sights sight seen in
    let tracks : Tracks tally (image_beside app ports n) = stands is none ports (seen_before app ports sights sight seen) in
    let c : Counted = state_from app n (counted_boot app ports) in
    let beside = beside_from app (boot app ports) (events_in (events_of app)) n (counted_boot app ports) (image_boot app ports) (simple app is none) (beside_boot app ports) in
    let turn = step_turn app c in
    let what = (step app c).did.what in
    let same : did.what ≡ what = ap (λ (d : Did). d.what) last.last in
    let image = image_is app c (step app c).state what (image_beside app ports n) (simple app is none) turn.fits beside.level turn.after.promises in
    let counted = count ∙ ap (λ w. tally.count + steps_by w) same in
    let put = events ∙ ap (λ w. tally.events ++ put_by w tally.count) same in
    subst (λ m. Tracks tally' (image_beside app ports m)) (sym (length_more sights sight))
    (subst (Tracks tally') (sym (last.moved ∙ image))
    (tracks_plainly app c what tally tally' (image_beside app ports n) turn.fits tracks counted put))

-- at first it stands for no step
pub stands_first : (app : App) (tally : Tally) → tally.count ≡ 0 → tally.events ≡ [] → StandsFor app tally []
unfolding image_from
stands_first app tally count events = λ is none ports seen. record { count = count; events = events }

abbrev pub as_schedule : List (ℕ × Event) → ℕ → Schedule
as_schedule events last = record { events = events; last = last }

-- the schedule of what it counted is that of the image
pub finishes : (app : App) (tally : Tally) (sights : List Sight) (ports : Places) → StandsFor app tally sights
    → IsTable app.table → app.hints.hints ≡ [] → IsSeen app ports sights
    → as_schedule tally.events tally.count ≡ scheduled (image_beside app ports (length sights))
finishes app tally sights ports stands is none seen =
    let tracks = stands is none ports seen in
    ap (λ es. as_schedule es tally.count) tracks.events ∙ ap (λ n. as_schedule (image_beside app ports (length sights)).events n) tracks.count

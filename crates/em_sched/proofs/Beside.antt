-- The image beside a run without hints: it is level, the plain machine comes to it, and the schedule has the events delivered.
use Rattle.std.proofs.Common.{◌≡◌, ◌∙◌, ℕ, zero, suc, ◌≤◌, ◌++◌, if◌then◌else◌, nat_le, Bool, true, false, List, [], ◌∷◌, length, sym, ap, subst, refl, append_assoc, arith}
use Rattle.std.proofs.lemmas.List.{map-append}
use Rattle.em_base.specs.declared.apps.App.{App}
use Rattle.em_base.specs.declared.events.Event.{Event}
use Rattle.em_trace.specs.declared.lines.Line.{Line}
use Rattle.em_gate.specs.Effects.{option_list}
use Rattle.em_gate.specs.Selecting.{plain_selected}
use Rattle.em_gate.specs.State.{Counted, Plain, most_lines}
use Rattle.em_kernel.specs.declared.did.What.{What}
use Rattle.em_kernel.specs.declared.did.What.TheVariants.{Delivered, Stepped, Idled, Ended}
use Rattle.em_kernel.specs.Run.{is_end, state_from, steps_from}
use Rattle.em_kernel.specs.Step.{step}
use Rattle.em_plain.specs.Runs.{is_full}
use Rattle.em_sched.specs.Image.{Image, image_after, image_from, is_copying, stepped_on}
use Rattle.em_sched.specs.Traces.{IsRising, events_in, events_put, lines_in}
use Rattle.em_sched.proofs.CountedSteps.{came, step_turn}
use Rattle.em_sched.proofs.Levels.{Fits, IsLevel, flat_selected, image_is, level_after, plainly}
use Rattle.em_sched.proofs.Orderly.{IsSimple}
use Rattle.em_sched.proofs.Runs.{Comes, comes_event, comes_step}

-- ---- counts that don't fall

pub rising_later : (least : ℕ) (events : List (ℕ × Event)) (m n : ℕ) → m ≤ n → IsRising least events m → IsRising least events n
rising_later least [] m n le h = omega (arith, le, h)
rising_later least (event ∷ events) m n le h = (h.0, rising_later event.0 events m n le h.1)

rising_more : (least : ℕ) (events : List (ℕ × Event)) (last : ℕ) (event : Event) → IsRising least events last
    → IsRising least (events ++ (last, event) ∷ []) last
rising_more least [] last event h = (h, omega arith)
rising_more least (e ∷ events) last event h = (h.0, rising_more e.0 events last event h.1)

-- ---- the image beside a state of a run that started so, with these events

pub record IsBeside (app : App) (start : Plain) (all : List Event) (c : Counted) (image : Image) : Type 0 where
  pub level : IsLevel app c image
  pub comes : Comes app start image
  pub first : all ≡ events_put image.events ++ events_in c.left
  pub rising : IsRising 0 image.events image.count

comes_plainly : (app : App) (start : Plain) (c : Counted) (what : What) (image : Image) → Fits app c what → IsLevel app c image
    → (is_end what ≡ false → nat_le most_lines (length c.plain.lines) ≡ false) → Comes app start image → Comes app start (plainly app what image)
comes_plainly app start c (Delivered event) image fits level room comes =
    comes_event app start event image (ap is_full level.same ∙ room refl) comes
comes_plainly app start c (Stepped t kind) image (chosen, is) level room comes = by_kind (is_copying kind)
  where
    by_kind : (b : Bool) → Comes app start (if b then image else stepped_on app t.0 image)
    by_kind true = comes
    by_kind false =
        comes_step app start t.0 image (ap is_full level.same ∙ room refl)
        (ap (plain_selected app.table.tasks) level.same ∙ flat_selected app c level.orderly.bare ∙ chosen) comes
comes_plainly app start c Idled image fits level room comes = comes
comes_plainly app start c (Ended cause) image fits level room comes = comes

none_more : {A : Type 0} (xs : List A) → xs ++ [] ≡ xs
none_more [] = refl
none_more (x ∷ xs) = ap (λ ys. x ∷ ys) (none_more xs)

put_plainly : (app : App) (what : What) (image : Image) → events_put (plainly app what image).events ≡ events_put image.events ++ came what
put_plainly app (Delivered event) image = map-append (λ e. e.1) image.events ((image.count, event) ∷ [])
put_plainly app (Stepped t kind) image = by_kind (is_copying kind)
  where
    by_kind : (b : Bool) → events_put (if b then image else stepped_on app t.0 image).events ≡ events_put image.events ++ []
    by_kind true = sym (none_more (events_put image.events))
    by_kind false = sym (none_more (events_put image.events))
put_plainly app Idled image = sym (none_more (events_put image.events))
put_plainly app (Ended cause) image = sym (none_more (events_put image.events))

rising_plainly : (app : App) (what : What) (image : Image) → IsRising 0 image.events image.count
    → IsRising 0 (plainly app what image).events (plainly app what image).count
rising_plainly app (Delivered event) image h = rising_more 0 image.events image.count event h
rising_plainly app (Stepped t kind) image h = by_kind (is_copying kind)
  where
    by_kind : (b : Bool) → let after : Image = if b then image else stepped_on app t.0 image in IsRising 0 after.events after.count
    by_kind true = h
    by_kind false = rising_later 0 image.events image.count (suc image.count) (omega arith) h
rising_plainly app Idled image h = h
rising_plainly app (Ended cause) image h = h

-- after one step more
pub beside_after : (app : App) (start : Plain) (all : List Event) (c : Counted) (image : Image) → IsSimple app → IsBeside app start all c image
    → IsBeside app start all (step app c).state (image_after app c (step app c).state (step app c).did.what image)
beside_after app start all c image simple h =
    let turn = step_turn app c in
    let what = (step app c).did.what in
    let is = image_is app c (step app c).state what image simple turn.fits h.level turn.after.promises in
    record {
      level = level_after app c (step app c).state what image simple turn.fits h.level turn.after;
      comes = subst (Comes app start) (sym is) (comes_plainly app start c what image turn.fits h.level turn.room h.comes);
      first =
          h.first ∙ ap (λ es. events_put image.events ++ es) turn.left
          ∙ sym (append_assoc (events_put image.events) (came what) (events_in (step app c).state.left))
          ∙ ap (λ es. es ++ events_in (step app c).state.left) (sym (ap (λ (i : Image). events_put i.events) is ∙ put_plainly app what image));
      rising = subst (λ (i : Image). IsRising 0 i.events i.count) (sym is) (rising_plainly app what image h.rising);
    }

-- and after so many
pub beside_from : (app : App) (start : Plain) (all : List Event) (n : ℕ) (c : Counted) (image : Image) → IsSimple app → IsBeside app start all c image
    → IsBeside app start all (state_from app n c) (image_from app n c image)
unfolding state_from image_from
beside_from app start all zero c image simple h = h
beside_from app start all (suc n) c image simple h =
    by_end (beside_from app start all n (step app c).state (image_after app c (step app c).state (step app c).did.what image) simple (beside_after app start all c image simple h))
    (is_end (step app c).did.what)
  where
    after : Image
    after = image_after app c (step app c).state (step app c).did.what image

    by_end : IsBeside app start all (state_from app n (step app c).state) (image_from app n (step app c).state after) → (b : Bool)
        → IsBeside app start all (if b then (step app c).state else state_from app n (step app c).state) (if b then after else image_from app n (step app c).state after)
    by_end more true = beside_after app start all c image simple h
    by_end more false = more

-- ---- lines

-- the lines of the state after so many steps are those before and those of the steps
pub lines_from : (app : App) (n : ℕ) (c : Counted) → (state_from app n c).plain.lines ≡ c.plain.lines ++ lines_in (steps_from app n c)
unfolding state_from steps_from
lines_from app zero c = sym (none_more c.plain.lines)
lines_from app (suc n) c = by_end (lines_from app n (step app c).state) (is_end (step app c).did.what)
  where
    line : List Line
    line = option_list (step app c).did.line

    by_end : (state_from app n (step app c).state).plain.lines ≡ (step app c).state.plain.lines ++ lines_in (steps_from app n (step app c).state)
        → (b : Bool)
        → (if b then (step app c).state else state_from app n (step app c).state).plain.lines
        ≡ c.plain.lines ++ lines_in (if b then (step app c).did ∷ [] else (step app c).did ∷ steps_from app n (step app c).state)
    by_end more true = (step_turn app c).lines ∙ ap (λ ls. c.plain.lines ++ ls) (sym (none_more line))
    by_end more false =
        more
        ∙ ap (λ ls. ls ++ lines_in (steps_from app n (step app c).state)) (step_turn app c).lines
        ∙ append_assoc c.plain.lines line (lines_in (steps_from app n (step app c).state))

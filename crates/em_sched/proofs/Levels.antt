-- Without hints the image is the settled state of the counted machine, after each of its steps.
use Rattle.std.specs.Bool.{⊤}
use Rattle.std.proofs.Common.{◌≡◌, ◌∙◌, ℕ, zero, suc, ◌<◌, ◌||◌, ◌&&◌, Bool, true, false, if◌then◌else◌, IfSome, inl, inr, List, [], ◌∷◌, length, Option, Some, sym, ap, subst, refl}
use Rattle.std.proofs.lemmas.Bool.{cases_lt}
use Rattle.std.proofs.lemmas.List.{get_or_past}
use Rattle.em_base.specs.declared.apps.App.{App}
use Rattle.em_base.specs.declared.events.Event.{Event}
use Rattle.em_base.specs.declared.ids.SemId.{SemId}
use Rattle.em_base.specs.declared.ids.TaskId.{TaskId}
use Rattle.em_base.specs.declared.jobs.Status.{Status}
use Rattle.em_base.specs.declared.jobs.Status.TheVariants.{Asleep, Awake, Waits, Stopped}
use Rattle.em_base.specs.declared.tables.TaskRow.{TaskRow}
use Rattle.em_base.specs.Selection.{Scene, is_active, is_awake, selected, status_at}
use Rattle.em_gate.specs.Events.{after_event}
use Rattle.em_gate.specs.Selecting.{counted_selected, plain_selected, scene_in, statuses_of}
use Rattle.em_gate.specs.State.{Counted, Plain, Task, no_task, task_at}
use Rattle.em_kernel.specs.declared.did.What.{What}
use Rattle.em_kernel.specs.declared.did.What.TheVariants.{Delivered, Stepped, Idled, Ended}
use Rattle.em_kernel.specs.Moves.{move_of}
use Rattle.em_kernel.specs.Step.{kind_of}
use Rattle.em_system.proofs.Scenes.{selected_ready}
use Rattle.em_sched.specs.Image.{Image, by_selected, image_after, is_copying, most_ahead, moved, one_step, put_down, stepped_on}
use Rattle.em_sched.specs.Turns.{acted}
use Rattle.em_sched.proofs.Bare.{Bare, bare_event, bare_selected, none_ahead, none_to_catch}
use Rattle.em_sched.proofs.Commutes.{event_flat}
use Rattle.em_sched.proofs.Copies.{copies_kept, copy_jobs}
use Rattle.em_sched.proofs.CopyMoves.{move_moved}
use Rattle.em_kernel.proofs.TaskCounts.{event_count}
use Rattle.em_sched.proofs.Counts.{event_owners, event_values}
use Rattle.em_sched.proofs.Flat.{flat, flat_of, settle_scene}
use Rattle.em_sched.proofs.Keeping.{event_working, keeps_event, working_at}
use Rattle.em_sched.proofs.Moves.{IsChosen, unless}
use Rattle.em_sched.proofs.Orderly.{IsOrderly, IsSimple, orderly_same}
use Rattle.em_sched.proofs.OwnedSteps.{owned_event}
use Rattle.em_sched.proofs.Published.{AreValued, Grow, grow_same}

-- ---- the selected task

left_true : (a b : Bool) → (a && b) ≡ true → a ≡ true
left_true true b e = refl
left_true false b e = e

awake_is : (status : Status) → is_awake status ≡ true → status ≡ Awake
awake_is Asleep e = absurd (cc)
awake_is Awake e = refl
awake_is (Waits s) e = absurd (cc)
awake_is Stopped e = absurd (cc)

-- the status of a task, as selection sees it
pub status_is : (tasks : List Task) (t : ℕ) → status_at (statuses_of tasks) t ≡ (task_at tasks t).status
status_is [] t = refl
status_is (task ∷ tasks) zero = refl
status_is (task ∷ tasks) (suc t) = status_is tasks t

-- the selected task is Awake
pub selected_awake : (rows : List TaskRow) (tasks : List Task) (promises : List (Option SemId)) (owners : List (Option TaskId)) (t : ℕ)
    → selected (scene_in rows tasks promises owners) ≡ Some t → (task_at tasks t).status ≡ Awake
selected_awake rows tasks promises owners t e =
    let scene : Scene = scene_in rows tasks promises owners in
    let ready : scene.ready t ≡ true = subst (λ o. IfSome o (λ u. scene.ready u ≡ true)) e (selected_ready scene) in
    awake_is (task_at tasks t).status (ap is_awake (sym (status_is tasks t)) ∙ left_true (is_awake (status_at (statuses_of tasks) t)) _ ready)

asleep_awake : Asleep ≡ Awake → ⊥
asleep_awake e = cc

-- an Awake task is one of the tasks
pub awake_inside : (tasks : List Task) (t : ℕ) → (task_at tasks t).status ≡ Awake → t < length tasks
awake_inside tasks t e = elim (cases_lt t (length tasks)) [
  | inl inside ↦ inside
  | inr past ↦ absurd (asleep_awake (ap (λ (task : Task). task.status) (sym (get_or_past tasks t no_task past)) ∙ e))
]

-- the task that the counted machine selects
pub chosen_is : (app : App) (c : Counted) (t : ℕ) → IsOrderly app c → counted_selected app.table.tasks c ≡ Some t → IsChosen c t
chosen_is app c t h e =
    let awake = selected_awake app.table.tasks c.plain.tasks c.promises c.plain.owners t e in
    record {
      inside = awake_inside c.plain.tasks t awake;
      awake = awake;
      working = working_at c.plain.tasks t h.working (ap is_active awake);
    }

-- the plain machine selects the same in the settled state
pub flat_selected : (app : App) (c : Counted) → Bare c.promises → plain_selected app.table.tasks (flat c) ≡ counted_selected app.table.tasks c
flat_selected app c bare =
    ap selected (settle_scene app.table.tasks c.plain.values c.plain.tasks c.copies [] c.plain.owners) ∙ sym (bare_selected app.table.tasks c bare)

-- ---- what the counted machine does

-- what it did is what it can do in a state
abbrev pub Fits : App → Counted → What → Type 0
Fits app c (Delivered event) = ⊤
Fits app c (Stepped t kind) = (counted_selected app.table.tasks c ≡ Some t.0) × (kind ≡ kind_of (move_of app c t.0))
Fits app c Idled = ⊤
Fits app c (Ended cause) = ⊤

-- an event keeps what every step keeps
event_orderly : (app : App) (c : Counted) (event : Event) → IsSimple app → IsOrderly app c → IsOrderly app (acted app c (Delivered event))
event_orderly app c event simple h = record {
  bare = bare;
  owned = owned_event event c.plain h.owned;
  working = event_working event c.plain h.working;
  tasks = event_count event c.plain ∙ h.tasks;
  semaphores = ap length (event_owners event c.plain) ∙ h.semaphores;
  copies =
      copies_kept app c (acted app c (Delivered event)) refl (event_count event c.plain) (event_values event c.plain) bare
      (subst (Grow c.plain.values) (sym (event_values event c.plain)) (grow_same c.plain.values)) (keeps_event event c.plain) h.copies;
  valued = subst AreValued (sym (event_values event c.plain)) h.valued;
}
  where
    bare : Bare (acted app c (Delivered event)).promises
    bare = bare_event app event c.plain c.promises simple.hints h.bare

-- and so does each step
pub orderly_after : (app : App) (c : Counted) (what : What) → IsSimple app → Fits app c what → IsOrderly app c → IsOrderly app (acted app c what)
orderly_after app c (Delivered event) simple fits h = event_orderly app c event simple h
orderly_after app c (Stepped t kind) simple (selects, is) h = (move_moved app c t simple h (chosen_is app c t.0 h selects)).orderly
orderly_after app c Idled simple fits h = h
orderly_after app c (Ended cause) simple fits h = h

-- what becomes of a plain state beside it
abbrev pub beside : App → What → Plain → Plain
beside app (Delivered event) p = after_event event p
beside app (Stepped t kind) p = unless (is_copying kind) app t p
beside app Idled p = p
beside app (Ended cause) p = p

-- that of the settled state is the settled one of the state after it
pub flat_after : (app : App) (c : Counted) (what : What) → IsSimple app → Fits app c what → IsOrderly app c
    → flat (acted app c what) ≡ beside app what (flat c)
flat_after app c (Delivered event) simple fits h = event_flat event c.copies c.plain h.copies.count (copy_jobs app c h.copies)
flat_after app c (Stepped t kind) simple (selects, is) h =
    (move_moved app c t simple h (chosen_is app c t.0 h selects)).image ∙ ap (λ k. unless (is_copying k) app t (flat c)) (sym is)
flat_after app c Idled simple fits h = refl
flat_after app c (Ended cause) simple fits h = refl

-- ---- level

-- a counted state is level with an image: the image is its settled state, and what every step keeps is so
pub record IsLevel (app : App) (c : Counted) (image : Image) : Type 0 where
  pub same : image.plain ≡ flat c
  pub orderly : IsOrderly app c

-- what the image does beside a step
abbrev pub plainly : App → What → Image → Image
plainly app (Delivered event) image = put_down event image
plainly app (Stepped t kind) image = if is_copying kind then image else stepped_on app t.0 image
plainly app Idled image = image
plainly app (Ended cause) image = image

-- the image takes the event or the step, unless it is one of a copy, and nothing else
pub image_moves : (app : App) (c : Counted) (what : What) (image : Image) → Fits app c what → IsLevel app c image
    → moved app c what image ≡ plainly app what image
image_moves app c (Delivered event) image fits level = refl
image_moves app c (Stepped t kind) image (selects, is) level =
    ap (λ b. if is_copying kind || b then image else one_step app image) (none_ahead c t.0 image.plain level.orderly.bare) ∙ by_kind (is_copying kind)
  where
    chosen : plain_selected app.table.tasks image.plain ≡ Some t.0
    chosen = ap (plain_selected app.table.tasks) level.same ∙ flat_selected app c level.orderly.bare ∙ selects

    by_kind : (b : Bool) → (if b || false then image else one_step app image) ≡ (if b then image else stepped_on app t.0 image)
    by_kind true = refl
    by_kind false = ap (by_selected app image) chosen
image_moves app c Idled image fits level = refl
image_moves app c (Ended cause) image fits level = refl

-- the image after a step, to a state with the promises that the step leaves
pub image_is : (app : App) (c c' : Counted) (what : What) (image : Image) → IsSimple app → Fits app c what → IsLevel app c image
    → c'.promises ≡ (acted app c what).promises → image_after app c c' what image ≡ plainly app what image
image_is app c c' what image simple fits level e =
    none_to_catch app most_ahead c' (moved app c what image) (subst Bare (sym e) (orderly_after app c what simple fits level.orderly).bare)
    ∙ image_moves app c what image fits level

plainly_is : (app : App) (what : What) (image : Image) → (plainly app what image).plain ≡ beside app what image.plain
plainly_is app (Delivered event) image = refl
plainly_is app (Stepped t kind) image = by_kind (is_copying kind)
  where
    by_kind : (b : Bool) → (if b then image else stepped_on app t.0 image).plain ≡ unless b app t image.plain
    by_kind true = refl
    by_kind false = refl
plainly_is app Idled image = refl
plainly_is app (Ended cause) image = refl

-- a state with the plain state, the promises and the copies that a step leaves
pub record IsAfter (app : App) (c : Counted) (what : What) (c' : Counted) : Type 0 where
  pub plain : c'.plain ≡ (acted app c what).plain
  pub promises : c'.promises ≡ (acted app c what).promises
  pub copies : c'.copies ≡ (acted app c what).copies

pub flat_same : (c c' : Counted) → c'.plain ≡ c.plain → c'.copies ≡ c.copies → flat c' ≡ flat c
flat_same c c' plain copies = ap (λ p. flat_of c'.copies p) plain ∙ ap (λ cs. flat_of cs c.plain) copies

-- a step leaves both level
pub level_after : (app : App) (c c' : Counted) (what : What) (image : Image) → IsSimple app → Fits app c what → IsLevel app c image
    → IsAfter app c what c'
    → IsLevel app c' (image_after app c c' what image)
level_after app c c' what image simple fits level after = record {
  same =
      ap (λ (i : Image). i.plain) (image_is app c c' what image simple fits level after.promises)
      ∙ plainly_is app what image ∙ ap (beside app what) level.same ∙ sym (flat_after app c what simple fits level.orderly)
      ∙ sym (flat_same (acted app c what) c' after.plain after.copies);
  orderly = orderly_same app (acted app c what) c' after.plain after.promises after.copies (orderly_after app c what simple fits level.orderly);
}

-- Where no task has a promise: both machines select the same, and the image has nothing to catch up with.
use Rattle.std.proofs.Common.{◌≡◌, ℕ, zero, suc, ◌==◌, not, ◌&&◌, Bool, true, false, is_some, if◌then◌else◌, List, [], ◌∷◌, length, slice_index_or, slice_set, Option, None, Some, ap, refl}
use Rattle.std.proofs.Math.Path.{fun_ext}
use Rattle.em_base.specs.declared.apps.App.{App}
use Rattle.em_base.specs.declared.events.Event.{Event}
use Rattle.em_base.specs.declared.events.Event.TheVariants.{Release, Unplug}
use Rattle.em_base.specs.declared.ids.SemId.{SemId}
use Rattle.em_base.specs.declared.ids.TaskId.{TaskId}
use Rattle.em_base.specs.declared.jobs.Job.{Job}
use Rattle.em_base.specs.declared.jobs.Key.{Key}
use Rattle.em_base.specs.declared.jobs.Status.{Status}
use Rattle.em_base.specs.declared.tables.TaskRow.{TaskRow}
use Rattle.em_base.specs.Selection.{Scene, is_active, is_awake, is_none, no_key, owner_of, selected, status_at, stopped_by_promise, stopper}
use Rattle.em_gate.specs.Outcome.{Outcome, Works, Falls, Refuses, Ends, Gets, Blocks, Frees, Puts, Publishes, Fetches, Signals, Leaves}
use Rattle.em_gate.specs.Selecting.{counted_selected, keys_of, plain_selected, scene_in, statuses_of}
use Rattle.em_gate.specs.State.{Counted, Plain, Task, task_at}
use Rattle.em_system.specs.Promises.{last_at, promised, promises_after, promises_after_event, promises_by, promises_given, starts}
use Rattle.em_system.proofs.Outcomes.{nothing_promised}
use Rattle.em_sched.specs.Image.{Image, caught_up, is_ahead, one_step, pc_at, promise_at, selects_held}

-- no task has a promise
abbrev pub Bare : List (Option SemId) → Type 0
Bare promises = (t : ℕ) → promise_at promises t ≡ None

bare_set : (promises : List (Option SemId)) (t : ℕ) (promise : Option SemId) → promise ≡ None → Bare promises → Bare (slice_set promises t promise)
bare_set [] t promise e h u = refl
bare_set (p ∷ ps) zero promise e h zero = e
bare_set (p ∷ ps) zero promise e h (suc u) = h (suc u)
bare_set (p ∷ ps) (suc t) promise e h zero = h zero
bare_set (p ∷ ps) (suc t) promise e h (suc u) = bare_set ps t promise e (λ i. h (suc i)) u

bare_given : (app : App) (t : ℕ) (p : Plain) (promises : List (Option SemId)) → app.hints.hints ≡ [] → Bare promises → Bare (promises_given app t p promises)
bare_given app t p promises e h = by_start (starts (task_at p.tasks t))
  where
    by_start : (b : Bool) → Bare (if b then slice_set promises t (promised app t (last_at p.lasts t)) else promises)
    by_start true = bare_set promises t (promised app t (last_at p.lasts t)) (nothing_promised app t (last_at p.lasts t) e) h
    by_start false = h

-- without hints an event gives no promise, and neither does a step
pub bare_event : (app : App) (event : Event) (p : Plain) (promises : List (Option SemId)) → app.hints.hints ≡ [] → Bare promises
    → Bare (promises_after_event app event p promises)
bare_event app (Release t time word) p promises e h = bare_given app t.0 p promises e h
bare_event app (Unplug port) p promises e h = h

bare_jobs : (app : App) (t pc : ℕ) (promises : List (Option SemId)) (jobs : List Job) → app.hints.hints ≡ [] → Bare promises
    → Bare (promises_by app t pc promises jobs)
bare_jobs app t pc promises [] e h = h
bare_jobs app t pc promises (job ∷ jobs) e h = bare_set promises t (promised app t (Some pc)) (nothing_promised app t (Some pc) e) h

pub bare_step : (app : App) (o : Outcome) (t : ℕ) (p : Plain) (promises : List (Option SemId)) → app.hints.hints ≡ [] → Bare promises
    → Bare (promises_after app o t p promises)
unfolding promises_after
bare_step app (Works class core shared) t p promises e h = h
bare_step app (Falls cause) t p promises e h = h
bare_step app (Refuses code) t p promises e h = h
bare_step app Ends t p promises e h = bare_jobs app t (task_at p.tasks t).core.registers.pc promises (task_at p.tasks t).pending e h
bare_step app (Gets s) t p promises e h = bare_set promises t None refl h
bare_step app (Blocks s) t p promises e h = h
bare_step app (Frees s) t p promises e h = h
bare_step app (Puts port word) t p promises e h = h
bare_step app (Publishes m at count) t p promises e h = h
bare_step app (Fetches m at) t p promises e h = h
bare_step app (Signals u word) t p promises e h = bare_given app u p promises e h
bare_step app Leaves t p promises e h = h

-- ---- selection

abbrev scene_by : ℕ → ℕ → (ℕ → Key) → (ℕ → Bool) → (ℕ → Option SemId) → List Status → List (Option TaskId) → Scene
scene_by count depth key active stop statuses owners = record {
  count = count;
  depth = depth;
  key = key;
  active = active;
  ready = λ t. is_awake (status_at statuses t) && is_none (stop t);
  next = λ t. owner_of owners (stop t);
}

-- without promises the scene is the plain machine's
pub bare_scene : (rows : List TaskRow) (tasks : List Task) (promises : List (Option SemId)) (owners : List (Option TaskId)) → Bare promises
    → scene_in rows tasks promises owners ≡ scene_in rows tasks [] owners
bare_scene rows tasks promises owners h =
    let statuses = statuses_of tasks in
    let keys = keys_of rows tasks in
    ap (λ stop. scene_by (length statuses) (suc (length owners)) (λ t. slice_index_or keys t no_key) (λ t. is_active (status_at statuses t)) stop statuses owners)
    (fun_ext (λ t. ap (λ promise. stopper owners t promise (status_at statuses t)) (h t)))

-- so that both machines select the same
pub bare_selected : (rows : List TaskRow) (c : Counted) → Bare c.promises → counted_selected rows c ≡ plain_selected rows c.plain
bare_selected rows c h = ap selected (bare_scene rows c.plain.tasks c.promises c.plain.owners h)

-- ---- the image

and_false : (a b : Bool) → b ≡ false → (a && b) ≡ false
and_false true b e = e
and_false false b e = refl

none_held : (c : Counted) (found : Option ℕ) → Bare c.promises → selects_held c found ≡ false
none_held c None h = refl
none_held c (Some t) h =
    and_false (is_awake (task_at c.plain.tasks t).status) (is_some (stopped_by_promise c.plain.owners t (promise_at c.promises t)))
    (ap (λ promise. is_some (stopped_by_promise c.plain.owners t promise)) (h t))

-- without promises the image has nothing to catch up with
pub none_to_catch : (app : App) (n : ℕ) (c : Counted) (image : Image) → Bare c.promises → caught_up app n c image ≡ image
unfolding caught_up
none_to_catch app zero c image h = refl
none_to_catch app (suc n) c image h =
    ap (λ b. if b then caught_up app n c (one_step app image) else image) (none_held c (plain_selected app.table.tasks image.plain) h)

-- nor is it ahead of any task
pub none_ahead : (c : Counted) (t : ℕ) (p : Plain) → Bare c.promises → is_ahead c t p ≡ false
none_ahead c t p h = ap (λ promise. is_some promise && not (pc_at p t == pc_at c.plain t)) (h t)

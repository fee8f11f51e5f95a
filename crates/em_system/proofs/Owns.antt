-- The own windows of tasks: a step changes that of its own task alone, and a release none.
use Rattle.std.proofs.Common.{◌≡◌, ◌∙◌, ◌≢◌, ℕ, zero, suc, Bool, true, false, List, [], ◌∷◌, map, slice_set, Option, None, Some, sym, ap, refl, cond}
use Rattle.std.proofs.lemmas.List.{get_or-set_other}
use Rattle.em_base.specs.declared.ids.SemId.{SemId}
use Rattle.em_base.specs.declared.ids.TaskId.{TaskId}
use Rattle.em_base.specs.declared.jobs.Job.{Job}
use Rattle.em_base.specs.declared.jobs.Status.{Status}
use Rattle.em_base.specs.declared.jobs.Status.TheVariants.{Asleep, Awake, Waits, Stopped}
use Rattle.em_hart.specs.Hart.{Memory}
use Rattle.em_gate.specs.Effects.{after_outcome, frees, given, gives, own_after, woken, woken_by}
use Rattle.em_gate.specs.Outcome.{Outcome, Works, Falls, Refuses, Ends, Gets, Blocks, Frees, Puts, Publishes, Fetches, Signals, Leaves}
use Rattle.em_gate.specs.State.{Plain, Task, no_task, task_at}
use Rattle.em_gate.specs.Tasks.{after_awake, after_take, is_full, next_job, with_job}
use Rattle.em_system.specs.Asked.{after_asking, is_transfer}
use Rattle.em_system.specs.Held.{Holds, Held, tasks_of}

-- the own window of a task
abbrev pub own_at : List Task → ℕ → Memory
own_at tasks t = (task_at tasks t).core.own

-- ---- a release

-- a task in place of one with the same own window
pub own_set : (tasks : List Task) (v : ℕ) (task : Task) (u : ℕ) → task.core.own ≡ own_at tasks v
    → own_at (slice_set tasks v task) u ≡ own_at tasks u
own_set [] v task u e = refl
own_set (first ∷ tasks) zero task zero e = e
own_set (first ∷ tasks) zero task (suc u) e = refl
own_set (first ∷ tasks) (suc v) task zero e = refl
own_set (first ∷ tasks) (suc v) task (suc u) e = own_set tasks v task u e

own_with_job : (job : Job) (task : Task) (current : Option Job) → (with_job job task current).core.own ≡ task.core.own
own_with_job job task None = refl
own_with_job job task (Some current) = refl

own_by_room : (full : Bool) (job : Job) (task : Task) → (cond full task (with_job job task task.job)).core.own ≡ task.core.own
own_by_room true job task = refl
own_by_room false job task = own_with_job job task task.job

-- a job given leaves all own windows
pub own_given : (v arrival word : ℕ) (p : Plain) (u : ℕ) → own_at (given v arrival word p).tasks u ≡ own_at p.tasks u
own_given v arrival word p u =
    let task = task_at p.tasks v in
    own_set p.tasks v (after_take arrival word task) u (own_by_room (is_full task) (next_job task arrival word) task)

-- ---- a step

own_by_free : (free : Bool) (task : Task) → (cond free (after_awake task) task).core.own ≡ task.core.own
own_by_free true task = refl
own_by_free false task = refl

own_woken_by : (free : ℕ → Bool) (task : Task) (status : Status) → (woken_by free task status).core.own ≡ task.core.own
own_woken_by free task Asleep = refl
own_woken_by free task Awake = refl
own_woken_by free task (Waits s) = own_by_free (free s.0) task
own_woken_by free task Stopped = refl

-- tasks that are woken keep their own windows
pub own_woken : (free : ℕ → Bool) (tasks : List Task) (u : ℕ) → own_at (map (woken free) tasks) u ≡ own_at tasks u
own_woken free [] u = refl
own_woken free (task ∷ tasks) zero = own_woken_by free task task.status
own_woken free (task ∷ tasks) (suc u) = own_woken free tasks u

own_gives : (o : Outcome) (p : Plain) (u : ℕ) → own_at (gives o p).tasks u ≡ own_at p.tasks u
unfolding gives
own_gives (Works class core shared) p u = refl
own_gives (Falls cause) p u = refl
own_gives (Refuses code) p u = refl
own_gives Ends p u = refl
own_gives (Gets s) p u = refl
own_gives (Blocks s) p u = refl
own_gives (Frees s) p u = refl
own_gives (Puts port word) p u = refl
own_gives (Publishes m at count) p u = refl
own_gives (Fetches m at) p u = refl
own_gives (Signals v word) p u = own_given v 0 word p u
own_gives Leaves p u = refl

-- a step of another task
pub own_other : (o : Outcome) (t : TaskId) (p : Plain) (u : ℕ) → u ≢ t.0 → own_at (after_outcome o t p).tasks u ≡ own_at p.tasks u
own_other o t p u other =
    let task = own_after o p (task_at p.tasks t.0) in
    own_gives o _ u
    ∙ own_woken (frees o t.0 p.owners) (slice_set p.tasks t.0 task) u
    ∙ ap (λ (k : Task). k.core.own) (get_or-set_other p.tasks t.0 u task no_task other)

own_asking_by : (transfer : Bool) (o : Outcome) (t : TaskId) (p : Plain) (u : ℕ) → u ≢ t.0
    → own_at (cond transfer p (after_outcome o t p)).tasks u ≡ own_at p.tasks u
own_asking_by true o t p u other = refl
own_asking_by false o t p u other = own_other o t p u other

-- what is held after a step has the own windows of other tasks as before it
pub others_own : (held held' : Held) (o : Outcome) (t : TaskId) (p : Plain) (promises promises' : List (Option SemId)) (u : ℕ)
    → Holds held p promises → Holds held' (after_asking o t p) promises' → u ≢ t.0
    → own_at (tasks_of held'.threads) u ≡ own_at (tasks_of held.threads) u
others_own held held' o t p promises promises' u s s' other =
    ap (λ tasks. own_at tasks u) s'.tasks ∙ own_asking_by (is_transfer o) o t p u other ∙ ap (λ tasks. own_at tasks u) (sym s.tasks)

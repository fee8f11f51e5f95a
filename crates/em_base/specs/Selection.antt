-- Which task runs: priority inheritance, as in the literature (L. Sha, R. Rajkumar and J. Lehoczky, "Priority inheritance protocols: an
-- approach to real-time synchronization"), over keys whose ties are this project's own. A promise to take a semaphore stops a task as
-- waiting for it does: this project's own.
use Rattle.std.specs.Prelude.{ℕ, zero, suc, Bool, true, false, not, ◌&&◌, ◌||◌, ◌==◌, List, [], ◌∷◌, length, filter, slice_index_or, Option, None, Some, if◌then◌else◌}
use Rattle.std.specs.List.{range_with_len}
use Rattle.em_base.specs.declared.ids.SemId.{SemId}
use Rattle.em_base.specs.declared.ids.TaskId.{TaskId}
use Rattle.em_base.specs.declared.jobs.Key.{Key}
use Rattle.em_base.specs.declared.jobs.Status.{Status}
use Rattle.em_base.specs.declared.jobs.Status.TheVariants.{Asleep, Awake, Waits, Stopped}
use Rattle.em_base.specs.Keys.{key_lt}

-- ---- what stops a task

-- the task that owns a semaphore
abbrev pub owner_at : List (Option TaskId) → ℕ → Option TaskId
owner_at owners s = slice_index_or owners s None

-- whether this is a task, and another than t
abbrev pub is_other : ℕ → Option TaskId → Bool
is_other t None = false
is_other t (Some u) = not (u.0 == t)

-- whether this is the task t
abbrev pub is_task : ℕ → Option TaskId → Bool
is_task t None = false
is_task t (Some u) = u.0 == t

-- the semaphore that stops an Awake task by its promise: another task owns it
abbrev pub stopped_by_promise : List (Option TaskId) → ℕ → Option SemId → Option SemId
stopped_by_promise owners t None = None
stopped_by_promise owners t (Some s) = if is_other t (owner_at owners s.0) then Some s else None

-- the semaphore that stops the task t, by its promise and its status: the one that it waits for, or the promised one
abbrev pub stopper : List (Option TaskId) → ℕ → Option SemId → Status → Option SemId
stopper owners t promise Asleep = None
stopper owners t promise Awake = stopped_by_promise owners t promise
stopper owners t promise (Waits s) = Some s
stopper owners t promise Stopped = None

-- the owner of what stops a task
abbrev pub owner_of : List (Option TaskId) → Option SemId → Option ℕ
owner_of owners None = None
owner_of owners (Some s) = elim (owner_at owners s.0) as (λ _. Option ℕ) [ None ↦ None | Some u ↦ Some u.0 ]

-- whether the status is Awake; whether it is Awake or Waits
abbrev pub is_awake : Status → Bool
is_awake Asleep = false
is_awake Awake = true
is_awake (Waits s) = false
is_awake Stopped = false

abbrev pub is_active : Status → Bool
is_active Asleep = false
is_active Awake = true
is_active (Waits s) = true
is_active Stopped = false

-- ---- selection

-- what selection sees: the number of tasks, a bound on the length of every chain of owners, and per task its key, whether it is Awake or
-- Waits, whether it is Awake and stopped by nothing, and the task that stops it
pub record Scene : Type 0 where
  pub count : ℕ
  pub depth : ℕ
  pub key : ℕ → Key
  pub active : ℕ → Bool
  pub ready : ℕ → Bool
  pub next : ℕ → Option ℕ

-- the tasks that pass a test, by number
abbrev pub tasks_where : ℕ → (ℕ → Bool) → List ℕ
tasks_where count test = filter test (range_with_len 0 count)

-- the more urgent of two tasks, where there is a second one
abbrev pub more_urgent : (ℕ → Key) → ℕ → Option ℕ → ℕ
more_urgent key t None = t
more_urgent key t (Some u) = if key_lt (key u) (key t) then u else t

-- the task of the least key in a list
abbrev pub least_by : (ℕ → Key) → List ℕ → Option ℕ
least_by key [] = None
least_by key (t ∷ rest) = Some (more_urgent key t (least_by key rest))

-- the task t holds up the task u: it stops u, or a task that holds u up, along a chain of at most so many
abbrev pub holds_up : ℕ → (ℕ → Option ℕ) → ℕ → ℕ → Bool
holds_up zero next t u = false
holds_up (suc depth) next t u = elim (next u) as (λ _. Bool) [ None ↦ false | Some v ↦ (v == t) || holds_up depth next t v ]

-- the task u counts for the task t: it is t, or an Awake or Waiting task that t holds up
abbrev pub counts_for : Scene → ℕ → ℕ → Bool
counts_for scene t u = (u == t) || scene.active u && holds_up scene.depth scene.next t u

-- the key of a task, or another where there is none
abbrev pub key_or : (ℕ → Key) → Key → Option ℕ → Key
key_or key other None = other
key_or key other (Some t) = key t

-- the effective key of a task: the least among its own and those of the Awake or Waiting tasks that it holds up
abbrev pub effective_key : Scene → ℕ → Key
effective_key scene t = key_or scene.key (scene.key t) (least_by scene.key (tasks_where scene.count (counts_for scene t)))

-- the selected task: of those that are Awake and stopped by nothing, the one of the least effective key
abbrev pub selected : Scene → Option ℕ
selected scene = least_by (effective_key scene) (tasks_where scene.count scene.ready)

-- ---- the scene of a state

-- a task without a key
abbrev pub no_key : Key
no_key = record { level = 0; deadline = 0; id = 0 }

abbrev pub is_none : {A : Type 0} → Option A → Bool
is_none None = true
is_none (Some a) = false

abbrev pub status_at : List Status → ℕ → Status
status_at statuses t = slice_index_or statuses t Asleep

-- the semaphore that stops a task, by the statuses and promises of all tasks
abbrev pub stopper_at : List Status → List (Option SemId) → List (Option TaskId) → ℕ → Option SemId
stopper_at statuses promises owners t = stopper owners t (slice_index_or promises t None) (status_at statuses t)

-- what selection sees of these keys, statuses and promises of tasks, and these owners of semaphores. A task is stopped by at most one
-- semaphore and a semaphore has at most one owner, so each chain of owners passes another semaphore at each step
abbrev pub scene_of : List Key → List Status → List (Option SemId) → List (Option TaskId) → Scene
scene_of keys statuses promises owners = record {
  count = length statuses;
  depth = suc (length owners);
  key = λ t. slice_index_or keys t no_key;
  active = λ t. is_active (status_at statuses t);
  ready = λ t. is_awake (status_at statuses t) && is_none (stopper_at statuses promises owners t);
  next = λ t. owner_of owners (stopper_at statuses promises owners t);
}

-- The roots of chains of owners. A task that is stopped by none is the root of its own chain; every other has the root of the task that
-- stops it. Priority inheritance gives the root the urgency of all that it holds up.
use Rattle.std.specs.Prelude.{◌≡◌, ◌≢◌, ℕ, zero, suc, ◌<◌, Bool, true, false, List, length, slice_index_or, Option, None, Some}
use Rattle.em_base.specs.declared.ids.SemId.{SemId}
use Rattle.em_base.specs.declared.ids.TaskId.{TaskId}
use Rattle.em_base.specs.declared.jobs.Key.{Key}
use Rattle.em_base.specs.declared.jobs.Status.{Status}
use Rattle.em_base.specs.declared.jobs.Status.TheVariants.{Awake, Waits}
use Rattle.em_base.specs.Keys.{key_lt}
use Rattle.em_base.specs.Selection.{Scene, least_by, no_key, owner_at, status_at, tasks_where}

-- ---- the most urgent task

-- t is a task that passes a test, and no other that passes has a lesser key
pub record IsMostUrgent (key : ℕ → Key) (count : ℕ) (test : ℕ → Bool) (t : ℕ) : Type 0 where
  pub below : t < count
  pub passes : test t ≡ true
  pub least : (u : ℕ) → u < count → test u ≡ true → key_lt (key u) (key t) ≡ false

-- the key of each task has the task's number, so that no two keys are the same
abbrev pub AreNamed : (ℕ → Key) → ℕ → Type 0
AreNamed key count = (t : ℕ) → t < count → (key t).id ≡ t

-- the task of the least key among the Awake and Waiting ones
abbrev pub least_active : Scene → Option ℕ
least_active scene = least_by scene.key (tasks_where scene.count scene.active)

-- ---- roots

-- the end of the chain that begins at a task, after at most so many steps
abbrev pub root : ℕ → (ℕ → Option ℕ) → ℕ → ℕ
root zero next t = t
root (suc depth) next t = elim (next t) as (λ _. ℕ) [ None ↦ t | Some o ↦ root depth next o ]

-- a scene in which each chain of an Awake or Waiting task goes along such tasks and ends within the depth, and in which those of them
-- that are stopped by none are the ready ones
pub record IsRooted (scene : Scene) : Type 0 where
  pub named : AreNamed scene.key scene.count
  pub ends : (t : ℕ) → t < scene.count → scene.active t ≡ true → scene.next (root scene.depth scene.next t) ≡ None
  pub up : (t o : ℕ) → t < scene.count → scene.active t ≡ true → scene.next t ≡ Some o → (o < scene.count) × (scene.active o ≡ true)
  pub free : (t : ℕ) → t < scene.count → scene.active t ≡ true → scene.next t ≡ None → scene.ready t ≡ true
  pub is_free : (t : ℕ) → t < scene.count → scene.ready t ≡ true → (scene.active t ≡ true) × (scene.next t ≡ None)

-- ---- the scene of a state

-- the keys, statuses and promises of tasks, and the owners of semaphores, where each key has its task's number, each owner is an Awake
-- task that promises nothing, and each task that waits for a semaphore waits for another task
pub record AreOwned (keys : List Key) (statuses : List Status) (promises : List (Option SemId)) (owners : List (Option TaskId))
    : Type 0 where
  pub named : (t : ℕ) → t < length statuses → (slice_index_or keys t no_key).id ≡ t
  pub owner : (s : ℕ) (u : TaskId) → owner_at owners s ≡ Some u
      → (u.0 < length statuses) × (status_at statuses u.0 ≡ Awake) × (slice_index_or promises u.0 None ≡ None)
  pub waits : (t : ℕ) (s : SemId) → status_at statuses t ≡ Waits s → (u : TaskId) × (owner_at owners s.0 ≡ Some u) × (u.0 ≢ t)

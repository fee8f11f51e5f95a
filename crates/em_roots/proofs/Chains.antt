-- In the scene of a state chains have at most one step: an owner is stopped by nothing.
use Rattle.std.proofs.Common.{◌≡◌, ◌∙◌, ℕ, suc, ◌<◌, ◌&&◌, Bool, true, false, List, length, slice_index_or, Option, None, Some, cond, sym, ap, refl, subst}
use Rattle.em_base.specs.declared.ids.SemId.{SemId}
use Rattle.em_base.specs.declared.ids.TaskId.{TaskId}
use Rattle.em_base.specs.declared.jobs.Key.{Key}
use Rattle.em_base.specs.declared.jobs.Status.{Status}
use Rattle.em_base.specs.declared.jobs.Status.TheVariants.{Asleep, Awake, Waits, Stopped}
use Rattle.em_base.specs.Selection.{is_active, is_awake, is_none, is_other, owner_at, owner_of, scene_of, status_at, stopped_by_promise, stopper}
use Rattle.em_roots.specs.Roots.{AreOwned, IsRooted, root}
use Rattle.em_roots.proofs.Roots.{root_here, root_step}

-- ---- a task, by its promise and its status

-- the task that stops it
abbrev pub next_by : List (Option TaskId) → ℕ → Option SemId → Status → Option ℕ
next_by owners t promise status = owner_of owners (stopper owners t promise status)

-- whether it is Awake and stopped by nothing
abbrev pub ready_by : List (Option TaskId) → ℕ → Option SemId → Status → Bool
ready_by owners t promise status = is_awake status && is_none (stopper owners t promise status)

-- o is the owner of a semaphore
pub record IsOwner (owners : List (Option TaskId)) (o : ℕ) : Type 0 where
  pub sem : ℕ
  pub task : TaskId
  pub owns : owner_at owners sem ≡ Some task
  pub number : task.0 ≡ o

-- the number of a task, where there is one
abbrev number_of : Option TaskId → Option ℕ
number_of owner = elim owner as (λ _. Option ℕ) [ None ↦ None | Some u ↦ Some u.0 ]

owner_is : (owners : List (Option TaskId)) (s : SemId) (o : ℕ) (owner : Option TaskId) → owner_at owners s.0 ≡ owner
    → number_of owner ≡ Some o → IsOwner owners o
owner_is owners s o None e h = absurd (cc)
owner_is owners s o (Some u) e h = record { sem = s.0; task = u; owns = e; number = cc }

-- the task that stops another owns a semaphore
next_owns : (owners : List (Option TaskId)) (t o : ℕ) (promise : Option SemId) (status : Status)
    → next_by owners t promise status ≡ Some o → IsOwner owners o
next_owns owners t o promise Asleep e = absurd (cc)
next_owns owners t o None Awake e = absurd (cc)
next_owns owners t o (Some s) Awake e = by_test (is_other t (owner_at owners s.0)) e
  where
    by_test : (b : Bool) → owner_of owners (cond b (Some s) None) ≡ Some o → IsOwner owners o
    by_test true q = owner_is owners s o (owner_at owners s.0) refl q
    by_test false q = absurd (cc)
next_owns owners t o promise (Waits s) e = owner_is owners s o (owner_at owners s.0) refl e
next_owns owners t o promise Stopped e = absurd (cc)

-- an Awake task whose promise is owned by no other is ready
awake_ready : (owners : List (Option TaskId)) (t : ℕ) (s : SemId) (owner : Option TaskId) → owner_at owners s.0 ≡ owner
    → owner_of owners (cond (is_other t owner) (Some s) None) ≡ None → is_none (cond (is_other t owner) (Some s) None) ≡ true
awake_ready owners t s None e h = refl
awake_ready owners t s (Some u) e h = by_test (is_other t (Some u)) h
  where
    by_test : (b : Bool) → owner_of owners (cond b (Some s) None) ≡ None → is_none (cond b (Some s) None) ≡ true
    by_test true q = absurd (let some : Some u.0 ≡ None = sym (ap number_of e) ∙ q in cc)
    by_test false q = refl

-- a task that is Awake and stopped by nothing is stopped by no task
ready_free : (owners : List (Option TaskId)) (t : ℕ) (promise : Option SemId) (status : Status) → ready_by owners t promise status ≡ true
    → (is_active status ≡ true) × (next_by owners t promise status ≡ None)
ready_free owners t promise Asleep y = absurd (cc)
ready_free owners t promise Awake y = (refl, by_stop (stopped_by_promise owners t promise) y)
  where
    by_stop : (stop : Option SemId) → is_none stop ≡ true → owner_of owners stop ≡ None
    by_stop None q = refl
    by_stop (Some s) q = absurd (cc)
ready_free owners t promise (Waits s) y = absurd (cc)
ready_free owners t promise Stopped y = absurd (cc)

-- ---- the tasks of a state

-- an active task that is stopped by no task is ready
free_ready : (keys : List Key) (statuses : List Status) (promises : List (Option SemId)) (owners : List (Option TaskId))
    → AreOwned keys statuses promises owners
    → (t : ℕ) (promise : Option SemId) (status : Status) → status_at statuses t ≡ status
    → is_active status ≡ true → next_by owners t promise status ≡ None → ready_by owners t promise status ≡ true
free_ready keys statuses promises owners h t promise Asleep d a e = absurd (cc)
free_ready keys statuses promises owners h t None Awake d a e = refl
free_ready keys statuses promises owners h t (Some s) Awake d a e = awake_ready owners t s (owner_at owners s.0) refl e
free_ready keys statuses promises owners h t promise (Waits s) d a e =
    absurd (let w = h.waits t s d in let some : Some w.0.0 ≡ None = sym (ap number_of w.1) ∙ e in cc)
free_ready keys statuses promises owners h t promise Stopped d a e = absurd (cc)

-- the task that stops another is one of the tasks, Awake, and stopped by nothing
record StandsFree (statuses : List Status) (promises : List (Option SemId)) (owners : List (Option TaskId)) (o : ℕ) : Type 0 where
  pub below : o < length statuses
  pub awake : status_at statuses o ≡ Awake
  pub next : next_by owners o (slice_index_or promises o None) (status_at statuses o) ≡ None

owner_free : (keys : List Key) (statuses : List Status) (promises : List (Option SemId)) (owners : List (Option TaskId))
    → AreOwned keys statuses promises owners
    → (o : ℕ) → IsOwner owners o → StandsFree statuses promises owners o
owner_free keys statuses promises owners h o w = subst (StandsFree statuses promises owners) w.number
    (let facts = h.owner w.sem w.task w.owns in
    record {
      below = facts.0;
      awake = facts.1;
      next =
          ap (next_by owners w.task.0 (slice_index_or promises w.task.0 None)) facts.1
          ∙ ap (λ promise. next_by owners w.task.0 promise Awake) facts.2;
    })

-- a chain ends at its first task, or one step after it
chain_ends : (next : ℕ → Option ℕ) (depth t : ℕ) → ((o : ℕ) → next t ≡ Some o → next o ≡ None) → next (root (suc depth) next t) ≡ None
chain_ends next depth t h = by_next (next t) refl
  where
    by_next : (found : Option ℕ) → next t ≡ found → next (root (suc depth) next t) ≡ None
    by_next None e = ap next (root_here (suc depth) next t e) ∙ e
    by_next (Some o) e = ap next (root_step depth next t (Some o) e ∙ root_here depth next o (h o e)) ∙ h o e

-- ---- the law

-- the scene of a state is rooted
pub rooted : (keys : List Key) (statuses : List Status) (promises : List (Option SemId)) (owners : List (Option TaskId))
    → AreOwned keys statuses promises owners
    → IsRooted (scene_of keys statuses promises owners)
rooted keys statuses promises owners h =
    let promise : ℕ → Option SemId = λ t. slice_index_or promises t None in
    let stands : (t o : ℕ) → next_by owners t (promise t) (status_at statuses t) ≡ Some o → StandsFree statuses promises owners o =
    λ t o e. owner_free keys statuses promises owners h o (next_owns owners t o (promise t) (status_at statuses t) e) in
    record {
      named = h.named;
      ends = λ t l a. chain_ends (scene_of keys statuses promises owners).next (length owners) t (λ o e. (stands t o e).next);
      up = λ t o l a e. ((stands t o e).below, ap is_active (stands t o e).awake);
      free = λ t l a e. free_ready keys statuses promises owners h t (promise t) (status_at statuses t) refl a e;
      is_free = λ t l y. ready_free owners t (promise t) (status_at statuses t) y;
    }

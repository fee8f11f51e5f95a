-- What steps and events make of the statuses of tasks.
use Rattle.std.proofs.Common.{◌≡◌, ◌≢◌, ◌∙◌, ◌⊎◌, inl, inr, ℕ, zero, suc, ◌<◌, Bool, true, false, if◌then◌else◌, List, [], ◌∷◌, length, map, slice_set, Option, None, Some, sym, ap, subst, refl}
use Rattle.std.proofs.lemmas.Bool.{cases_eq}
use Rattle.std.proofs.lemmas.List.{get_or-set_same, get_or-set_other}
use Rattle.em_base.specs.declared.ids.SemId.{SemId}
use Rattle.em_base.specs.declared.jobs.Job.{Job}
use Rattle.em_base.specs.declared.jobs.Status.{Status}
use Rattle.em_base.specs.declared.jobs.Status.TheVariants.{Asleep, Awake, Waits, Stopped}
use Rattle.em_gate.specs.Effects.{woken, woken_by}
use Rattle.em_gate.specs.State.{Task, no_task, task_at}
use Rattle.em_gate.specs.Tasks.{after_take, is_full, next_job, with_job}

-- what the freeing of semaphores makes of a status
abbrev pub waked : (ℕ → Bool) → Status → Status
waked free Asleep = Asleep
waked free Awake = Awake
waked free (Waits s) = if free s.0 then Awake else Waits s
waked free Stopped = Stopped

pub woken_status : (free : ℕ → Bool) (task : Task) → (woken free task).status ≡ waked free task.status
woken_status free task = by_status task.status refl
  where
    by_free : (s : SemId) (b : Bool) → task.status ≡ Waits s → (if b then record task { status = Awake } else task).status ≡ (if b then Awake else Waits s)
    by_free s true e = refl
    by_free s false e = e

    by_status : (status : Status) → task.status ≡ status → (woken_by free task status).status ≡ waked free status
    by_status Asleep e = e
    by_status Awake e = e
    by_status (Waits s) e = by_free s (free s.0) e
    by_status Stopped e = e

-- a task that still waits waits for what isn't freed
pub still_waits : (free : ℕ → Bool) (status : Status) (s : SemId) → waked free status ≡ Waits s → (status ≡ Waits s) × (free s.0 ≡ false)
still_waits free Asleep s e = absurd (cc)
still_waits free Awake s e = absurd (cc)
still_waits free (Waits r) s e = by_free (free r.0) refl e
  where
    by_free : (b : Bool) → free r.0 ≡ b → (if b then Awake else Waits r) ≡ Waits s → (Waits r ≡ Waits s) × (free s.0 ≡ false)
    by_free true f e = absurd (cc)
    by_free false f e = (e, subst (λ (q : SemId). free q.0 ≡ false) (same e) f)
      where
        same : Waits r ≡ Waits s → r ≡ s
        same e = cc
still_waits free Stopped s e = absurd (cc)

-- the task at a place of a list of which each was changed
pub task_mapped : (f : Task → Task) (tasks : List Task) (t : ℕ) → f no_task ≡ no_task → task_at (map f tasks) t ≡ f (task_at tasks t)
task_mapped f [] t e = sym e
task_mapped f (task ∷ tasks) zero e = refl
task_mapped f (task ∷ tasks) (suc t) e = task_mapped f tasks t e

-- the status of a task after the task t was changed and semaphores were freed: at t, and at another
pub status_here : (free : ℕ → Bool) (tasks : List Task) (t : ℕ) (new : Task) → t < length tasks
    → (task_at (map (woken free) (slice_set tasks t new)) t).status ≡ waked free new.status
status_here free tasks t new h =
    ap (λ task. task.status) (task_mapped (woken free) (slice_set tasks t new) t refl)
    ∙ ap (λ task. (woken free task).status) (get_or-set_same tasks t new no_task h)
    ∙ woken_status free new

pub status_there : (free : ℕ → Bool) (tasks : List Task) (t u : ℕ) (new : Task) → u ≢ t
    → (task_at (map (woken free) (slice_set tasks t new)) u).status ≡ waked free (task_at tasks u).status
status_there free tasks t u new n =
    ap (λ task. task.status) (task_mapped (woken free) (slice_set tasks t new) u refl)
    ∙ ap (λ task. (woken free task).status) (get_or-set_other tasks t u new no_task n)
    ∙ woken_status free (task_at tasks u)

-- a release leaves the status of a task as it is, or makes it Awake
pub take_status : (arrival word : ℕ) (task : Task) → ((after_take arrival word task).status ≡ task.status) ⊎ ((after_take arrival word task).status ≡ Awake)
take_status arrival word task = by_room (is_full task) task.job
  where
    by_room : (full : Bool) (job : Option Job)
        → let after = if full then task else with_job (next_job task arrival word) task job in (after.status ≡ task.status) ⊎ (after.status ≡ Awake)
    by_room true job = inl refl
    by_room false None = inr refl
    by_room false (Some job) = inl refl

-- so that one that is Awake stays so, and one that waits did
pub take_awake : (arrival word : ℕ) (task : Task) → task.status ≡ Awake → (after_take arrival word task).status ≡ Awake
take_awake arrival word task e = elim (take_status arrival word task) [ inl same ↦ same ∙ e | inr awake ↦ awake ]

pub take_waits : (arrival word : ℕ) (task : Task) (s : SemId) → (after_take arrival word task).status ≡ Waits s → task.status ≡ Waits s
take_waits arrival word task s e = elim (take_status arrival word task) [ inl same ↦ sym same ∙ e | inr awake ↦ absurd (not_both (sym awake ∙ e)) ]
  where
    not_both : Awake ≡ Waits s → ⊥
    not_both e = cc

-- the status of a task after a release of the task v
pub status_given : (arrival word v : ℕ) (tasks : List Task) (u : ℕ) → v < length tasks
    → ((u ≡ v) × (task_at (slice_set tasks v (after_take arrival word (task_at tasks v))) u ≡ after_take arrival word (task_at tasks u)))
    ⊎ ((u ≢ v) × (task_at (slice_set tasks v (after_take arrival word (task_at tasks v))) u ≡ task_at tasks u))
status_given arrival word v tasks u h = elim (cases_eq u v) [
  | inl e ↦ inl (
    e,
    ap (λ i. task_at (slice_set tasks v (after_take arrival word (task_at tasks v))) i) e
        ∙ get_or-set_same tasks v (after_take arrival word (task_at tasks v)) no_task h
        ∙ ap (λ i. after_take arrival word (task_at tasks i)) (sym e),
  )
  | inr n ↦ inr (n, get_or-set_other tasks v u (after_take arrival word (task_at tasks v)) no_task n)
]

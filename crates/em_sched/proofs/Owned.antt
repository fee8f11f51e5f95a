-- Each owner is Awake, and a task that waits has another owner for its semaphore: every kind of step keeps this.
use Rattle.std.proofs.Common.{◌≡◌, ◌≢◌, ◌∙◌, ◌⊎◌, inl, inr, ℕ, ◌<◌, Bool, false, List, length, map, slice_set, Some, sym, ap, subst}
use Rattle.std.proofs.lemmas.Bool.{cases_eq}
use Rattle.std.proofs.lemmas.List.{length-map, length-set}
use Rattle.em_base.specs.declared.ids.SemId.{SemId}
use Rattle.em_base.specs.declared.ids.TaskId.{TaskId}
use Rattle.em_base.specs.declared.jobs.Status.TheVariants.{Awake, Waits}
use Rattle.em_base.specs.Selection.{owner_at}
use Rattle.em_gate.specs.Effects.{woken}
use Rattle.em_gate.specs.State.{Plain, Task, task_at}
use Rattle.em_gate.specs.Tasks.{after_take}
use Rattle.em_sched.specs.Agreement.{HasOther}
use Rattle.em_sched.proofs.Statuses.{status_given, status_here, status_there, still_waits, take_awake, take_waits, waked}

-- an owner is one of the tasks and Awake, and another task owns what one waits for
pub record Owned (p : Plain) : Type 0 where
  pub owner : (s : ℕ) (u : TaskId) → owner_at p.owners s ≡ Some u → (u.0 < length p.tasks) × ((task_at p.tasks u.0).status ≡ Awake)
  pub waits : (t : ℕ) (s : SemId) → (task_at p.tasks t).status ≡ Waits s → HasOther p t s

-- what a step of the task t makes of the tasks and the owners: t is another task, and those that wait for what is freed are Awake; each owner
-- was one, or is t, which is Awake then; who isn't freed is an owner still; and t waits for what another owns
pub record Moves (p p' : Plain) (t : ℕ) (new : Task) (free : ℕ → Bool) : Type 0 where
  pub tasks : p'.tasks ≡ map (woken free) (slice_set p.tasks t new)
  pub inside : t < length p.tasks
  pub from : (s : ℕ) (u : TaskId) → owner_at p'.owners s ≡ Some u → (owner_at p.owners s ≡ Some u) ⊎ (u.0 ≡ t)
  pub own : (s : ℕ) (u : TaskId) → owner_at p'.owners s ≡ Some u → u.0 ≡ t → new.status ≡ Awake
  pub kept : (s : ℕ) (u : TaskId) → owner_at p.owners s ≡ Some u → free s ≡ false → owner_at p'.owners s ≡ Some u
  pub waiting : (s : SemId) → new.status ≡ Waits s → HasOther p t s

-- the tasks stay as many
pub same_count : (p p' : Plain) (t : ℕ) (new : Task) (free : ℕ → Bool) → p'.tasks ≡ map (woken free) (slice_set p.tasks t new) → length p'.tasks ≡ length p.tasks
same_count p p' t new free e = ap length e ∙ length-map (slice_set p.tasks t new) (woken free) ∙ length-set p.tasks t new

pub owned_moved : (p p' : Plain) (t : ℕ) (new : Task) (free : ℕ → Bool) → Moves p p' t new free → Owned p → Owned p'
owned_moved p p' t new free m h = record {
  owner = λ s u e. (exists s u e, awake s u e (cases_eq u.0 t));
  waits = λ x s e. waits x s e (cases_eq x t);
}
  where
    status_at_t : (task_at p'.tasks t).status ≡ waked free new.status
    status_at_t = ap (λ tasks. (task_at tasks t).status) m.tasks ∙ status_here free p.tasks t new m.inside

    status_elsewhere : (u : ℕ) → u ≢ t → (task_at p'.tasks u).status ≡ waked free (task_at p.tasks u).status
    status_elsewhere u n = ap (λ tasks. (task_at tasks u).status) m.tasks ∙ status_there free p.tasks t u new n

    exists : (s : ℕ) (u : TaskId) → owner_at p'.owners s ≡ Some u → u.0 < length p'.tasks
    exists s u e = elim (m.from s u e) as (λ _. u.0 < length p'.tasks) [
      | inl was ↦ subst (λ n. u.0 < n) (sym (same_count p p' t new free m.tasks)) (h.owner s u was).0
      | inr is ↦ subst (λ n. n < length p'.tasks) (sym is) (subst (λ n. t < n) (sym (same_count p p' t new free m.tasks)) m.inside)
    ]

    awake : (s : ℕ) (u : TaskId) → owner_at p'.owners s ≡ Some u → (u.0 ≡ t) ⊎ (u.0 ≢ t) → (task_at p'.tasks u.0).status ≡ Awake
    awake s u e (inl is) = ap (λ n. (task_at p'.tasks n).status) is ∙ status_at_t ∙ ap (waked free) (m.own s u e is)
    awake s u e (inr other) = elim (m.from s u e) as (λ _. (task_at p'.tasks u.0).status ≡ Awake) [
      | inl was ↦ status_elsewhere u.0 other ∙ ap (waked free) (h.owner s u was).1
      | inr is ↦ absurd (other is)
    ]

    other_after : (x : ℕ) (s : SemId) → free s.0 ≡ false → HasOther p x s → HasOther p' x s
    other_after x s f (u, e, n) = (u, m.kept s.0 u e f, n)

    waits : (x : ℕ) (s : SemId) → (task_at p'.tasks x).status ≡ Waits s → (x ≡ t) ⊎ (x ≢ t) → HasOther p' x s
    waits x s e (inl is) =
        let (waited, free_not) = still_waits free new.status s (sym status_at_t ∙ ap (λ n. (task_at p'.tasks n).status) (sym is) ∙ e) in
        other_after x s free_not (subst (λ n. HasOther p n s) (sym is) (m.waiting s waited))
    waits x s e (inr other) =
        let (waited, free_not) = still_waits free (task_at p.tasks x).status s (sym (status_elsewhere x other) ∙ e) in
        other_after x s free_not (h.waits x s waited)

-- a release keeps it
pub owned_given : (v arrival word : ℕ) (p p' : Plain) → v < length p.tasks
    → p'.tasks ≡ slice_set p.tasks v (after_take arrival word (task_at p.tasks v)) → p'.owners ≡ p.owners → Owned p → Owned p'
owned_given v arrival word p p' inside tasks owners h = record {
  owner = λ s u e.
      let was : owner_at p.owners s ≡ Some u = ap (λ os. owner_at os s) (sym owners) ∙ e in
      (subst (λ n. u.0 < n) (sym count) (h.owner s u was).0, awake u.0 (h.owner s u was).1);
  waits = λ x s e.
      let (u, owns, n) = h.waits x s (waited x s e) in
      (u, ap (λ os. owner_at os s.0) owners ∙ owns, n);
}
  where
    count : length p'.tasks ≡ length p.tasks
    count = ap length tasks ∙ length-set p.tasks v (after_take arrival word (task_at p.tasks v))

    awake : (u : ℕ) → (task_at p.tasks u).status ≡ Awake → (task_at p'.tasks u).status ≡ Awake
    awake u e = elim (status_given arrival word v p.tasks u inside) as (λ _. (task_at p'.tasks u).status ≡ Awake) [
      | inl (same, is) ↦ ap (λ ts. (task_at ts u).status) tasks ∙ ap (λ task. task.status) is ∙ take_awake arrival word (task_at p.tasks u) e
      | inr (other, is) ↦ ap (λ ts. (task_at ts u).status) tasks ∙ ap (λ task. task.status) is ∙ e
    ]

    waited : (x : ℕ) (s : SemId) → (task_at p'.tasks x).status ≡ Waits s → (task_at p.tasks x).status ≡ Waits s
    waited x s e = elim (status_given arrival word v p.tasks x inside) as (λ _. (task_at p.tasks x).status ≡ Waits s) [
      | inl (same, is) ↦ take_waits arrival word (task_at p.tasks x) s (ap (λ task. task.status) (sym is) ∙ ap (λ ts. (task_at ts x).status) (sym tasks) ∙ e)
      | inr (other, is) ↦ ap (λ task. task.status) (sym is) ∙ ap (λ ts. (task_at ts x).status) (sym tasks) ∙ e
    ]

-- a state with the same tasks and owners
pub owned_same : (p p' : Plain) → p'.tasks ≡ p.tasks → p'.owners ≡ p.owners → Owned p → Owned p'
owned_same p p' tasks owners h = record {
  owner = λ s u e.
      let (exists, awake) = h.owner s u (ap (λ os. owner_at os s) (sym owners) ∙ e) in
      (subst (λ (ts : List Task). u.0 < length ts) (sym tasks) exists, ap (λ ts. (task_at ts u.0).status) tasks ∙ awake);
  waits = λ x s e.
      let (u, owns, n) = h.waits x s (ap (λ ts. (task_at ts x).status) (sym tasks) ∙ e) in
      (u, ap (λ os. owner_at os s.0) owners ∙ owns, n);
}

-- and one with the same statuses
pub owned_like : (p p' : Plain) → length p'.tasks ≡ length p.tasks → ((t : ℕ) → (task_at p'.tasks t).status ≡ (task_at p.tasks t).status)
    → p'.owners ≡ p.owners → Owned p → Owned p'
owned_like p p' count statuses owners h = record {
  owner = λ s u e.
      let (exists, awake) = h.owner s u (ap (λ os. owner_at os s) (sym owners) ∙ e) in
      (subst (λ n. u.0 < n) (sym count) exists, statuses u.0 ∙ awake);
  waits = λ x s e.
      let (u, owns, n) = h.waits x s (sym (statuses x) ∙ e) in
      (u, ap (λ os. owner_at os s.0) owners ∙ owns, n);
}

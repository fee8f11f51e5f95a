-- Each kind of step keeps that owners are Awake and that others own what is waited for.
use Rattle.std.proofs.Common.{◌≡◌, ◌≢◌, ◌∙◌, ◌⊎◌, inl, inr, ℕ, zero, suc, ◌==◌, ◌<◌, ◌≤◌, if◌then◌else◌, Bool, true, false, List, [], ◌∷◌, length, map, slice_set, Option, None, Some, sym, ap, subst, refl, arith}
use Rattle.std.proofs.lemmas.Bool.{cases_eq, cases_lt, eq-eqb, false≢true}
use Rattle.std.proofs.lemmas.List.{get_or-set_other, get_or-set_same}
use Rattle.em_base.specs.declared.events.Event.{Event}
use Rattle.em_base.specs.declared.events.Event.TheVariants.{Release, Unplug}
use Rattle.em_base.specs.declared.ids.SemId.{SemId}
use Rattle.em_base.specs.declared.ids.TaskId.{TaskId}
use Rattle.em_base.specs.declared.jobs.Job.{Job}
use Rattle.em_base.specs.declared.jobs.Status.TheVariants.{Asleep, Awake, Waits, Stopped}
use Rattle.em_base.specs.declared.tables.Table.{Table}
use Rattle.em_base.specs.Selection.{is_task, owner_at}
use Rattle.em_gate.specs.Effects.{after_outcome, frees, gives, own_after, owners_after, woken, without}
use Rattle.em_gate.specs.Events.{after_event}
use Rattle.em_gate.specs.Outcome.{Outcome, Works, Falls, Refuses, Ends, Gets, Blocks, Frees, Puts, Publishes, Fetches, Signals, Leaves}
use Rattle.em_gate.specs.State.{Plain, Task, task_at}
use Rattle.em_gate.specs.Tasks.{after_jobs}
use Rattle.em_sched.specs.Agreement.{HasOther}
use Rattle.em_sched.proofs.Owned.{Moves, Owned, owned_given, owned_moved, owned_same, same_count}
use Rattle.em_sched.proofs.Tells.{OwnsNothing, Tells}

awake_waits : (s : SemId) → Awake ≡ Waits s → ⊥
awake_waits s e = cc

stopped_waits : (s : SemId) → Stopped ≡ Waits s → ⊥
stopped_waits s e = cc

asleep_waits : (s : SemId) → Asleep ≡ Waits s → ⊥
asleep_waits s e = cc

none_some : (u : TaskId) → None ≡ Some u → ⊥
none_some u e = cc

-- a step of a task that stays Awake, and changes no owner
awake_moves : (p p' : Plain) (t : ℕ) (new : Task) (free : ℕ → Bool) → p'.tasks ≡ map (woken free) (slice_set p.tasks t new) → t < length p.tasks
    → p'.owners ≡ p.owners → new.status ≡ Awake → Moves p p' t new free
awake_moves p p' t new free tasks inside owners awake = record {
  tasks = tasks;
  inside = inside;
  from = λ s u e. inl (ap (λ os. owner_at os s) (sym owners) ∙ e);
  own = λ s u e is. awake;
  kept = λ s u e f. ap (λ os. owner_at os s) owners ∙ e;
  waiting = λ s e. absurd (awake_waits s (sym awake ∙ e));
}

-- a step of a task that owns nothing, and changes no owner
idle_moves : (p p' : Plain) (t : ℕ) (new : Task) (free : ℕ → Bool) → p'.tasks ≡ map (woken free) (slice_set p.tasks t new) → t < length p.tasks
    → p'.owners ≡ p.owners → OwnsNothing p.owners t → ((s : SemId) → new.status ≡ Waits s → HasOther p t s) → Moves p p' t new free
idle_moves p p' t new free tasks inside owners idle waiting = record {
  tasks = tasks;
  inside = inside;
  from = λ s u e. inl (ap (λ os. owner_at os s) (sym owners) ∙ e);
  own = λ s u e is. absurd (idle s u (ap (λ os. owner_at os s) (sym owners) ∙ e) is);
  kept = λ s u e f. ap (λ os. owner_at os s) owners ∙ e;
  waiting = waiting;
}

-- ---- owners that change

-- the owners of others stay where one is written
other_owner : (owners : List (Option TaskId)) (s r : ℕ) (new : Option TaskId) → r ≢ s → owner_at (slice_set owners s new) r ≡ owner_at owners r
other_owner owners s r new n = get_or-set_other owners s r new None n

this_owner : (owners : List (Option TaskId)) (s r : ℕ) (new : Option TaskId) → s < length owners → r ≡ s → owner_at (slice_set owners s new) r ≡ new
this_owner owners s r new h e = ap (owner_at (slice_set owners s new)) e ∙ get_or-set_same owners s new None h

same_task : (t u : TaskId) → Some t ≡ Some u → u.0 ≡ t.0
same_task t u e = cc

gets_moves : (p p' : Plain) (t : TaskId) (new : Task) (free : ℕ → Bool) (s : ℕ) → p'.tasks ≡ map (woken free) (slice_set p.tasks t.0 new) → t.0 < length p.tasks
    → p'.owners ≡ slice_set p.owners s (Some t) → s < length p.owners → owner_at p.owners s ≡ None → new.status ≡ Awake → Moves p p' t.0 new free
gets_moves p p' t new free s tasks inside owners exists nobody awake = record {
  tasks = tasks;
  inside = inside;
  from = λ r u e. from r u (ap (λ os. owner_at os r) (sym owners) ∙ e) (cases_eq r s);
  own = λ r u e is. awake;
  kept = λ r u e f. ap (λ os. owner_at os r) owners ∙ other_owner p.owners s r (Some t) (λ same. none_some u (sym nobody ∙ ap (owner_at p.owners) (sym same) ∙ e)) ∙ e;
  waiting = λ r e. absurd (awake_waits r (sym awake ∙ e));
}
  where
    from : (r : ℕ) (u : TaskId) → owner_at (slice_set p.owners s (Some t)) r ≡ Some u → (r ≡ s) ⊎ (r ≢ s) → (owner_at p.owners r ≡ Some u) ⊎ (u.0 ≡ t.0)
    from r u e (inl same) = inr (same_task t u (sym (this_owner p.owners s r (Some t) exists same) ∙ e))
    from r u e (inr other) = inl (sym (other_owner p.owners s r (Some t) other) ∙ e)

frees_moves : (p p' : Plain) (t : ℕ) (new : Task) (s : ℕ) → p'.tasks ≡ map (woken (λ r. r == s)) (slice_set p.tasks t new) → t < length p.tasks
    → p'.owners ≡ slice_set p.owners s None → s < length p.owners → new.status ≡ Awake → Moves p p' t new (λ r. r == s)
frees_moves p p' t new s tasks inside owners exists awake = record {
  tasks = tasks;
  inside = inside;
  from = λ r u e. inl (from r u (ap (λ os. owner_at os r) (sym owners) ∙ e) (cases_eq r s));
  own = λ r u e is. awake;
  kept = λ r u e f. ap (λ os. owner_at os r) owners ∙ other_owner p.owners s r None (λ same. false≢true (sym f ∙ eq-eqb r s same)) ∙ e;
  waiting = λ r e. absurd (awake_waits r (sym awake ∙ e));
}
  where
    from : (r : ℕ) (u : TaskId) → owner_at (slice_set p.owners s None) r ≡ Some u → (r ≡ s) ⊎ (r ≢ s) → owner_at p.owners r ≡ Some u
    from r u e (inl same) = absurd (none_some u (sym (this_owner p.owners s r None exists same) ∙ e))
    from r u e (inr other) = sym (other_owner p.owners s r None other) ∙ e

owner_without : (t : ℕ) (owners : List (Option TaskId)) (s : ℕ) → owner_at (map (without t) owners) s ≡ without t (owner_at owners s)
owner_without t [] s = refl
owner_without t (o ∷ owners) zero = refl
owner_without t (o ∷ owners) (suc s) = owner_without t owners s

-- who is still an owner was one, and is another
without_some : (t : ℕ) (owner : Option TaskId) (u : TaskId) → without t owner ≡ Some u → (owner ≡ Some u) × (u.0 ≢ t)
without_some t None u e = absurd (none_some u e)
without_some t (Some v) u e = by_test (v.0 == t) refl e
  where
    by_test : (b : Bool) → (v.0 == t) ≡ b → (if b then None else Some v) ≡ Some u → (Some v ≡ Some u) × (u.0 ≢ t)
    by_test true q e = absurd (none_some u e)
    by_test false q e = (e, λ same. false≢true (sym q ∙ eq-eqb v.0 t (sym (same_task v u e) ∙ same)))

without_other : (t : ℕ) (owner : Option TaskId) → is_task t owner ≡ false → without t owner ≡ owner
without_other t owner e = ap (λ b. if b then None else owner) e

falls_moves : (p p' : Plain) (t : ℕ) (new : Task) → p'.tasks ≡ map (woken (λ r. is_task t (owner_at p.owners r))) (slice_set p.tasks t new) → t < length p.tasks
    → p'.owners ≡ map (without t) p.owners → new.status ≡ Stopped → Moves p p' t new (λ r. is_task t (owner_at p.owners r))
falls_moves p p' t new tasks inside owners stopped = record {
  tasks = tasks;
  inside = inside;
  from = λ s u e. inl (without_some t (owner_at p.owners s) u (was s u e)).0;
  own = λ s u e is. absurd ((without_some t (owner_at p.owners s) u (was s u e)).1 is);
  kept = λ s u e f. ap (λ os. owner_at os s) owners ∙ owner_without t p.owners s ∙ without_other t (owner_at p.owners s) f ∙ e;
  waiting = λ s e. absurd (stopped_waits s (sym stopped ∙ e));
}
  where
    was : (s : ℕ) (u : TaskId) → owner_at p'.owners s ≡ Some u → without t (owner_at p.owners s) ≡ Some u
    was s u e = sym (owner_without t p.owners s) ∙ ap (λ os. owner_at os s) (sym owners) ∙ e

-- ---- by outcome

end_waits : (task : Task) (jobs : List Job) (s : SemId) → task.status ≡ Awake → (after_jobs jobs task).status ≡ Waits s → ⊥
end_waits task [] s e w = asleep_waits s w
end_waits task (job ∷ jobs) s e w = awake_waits s (sym e ∙ w)

-- the state before what a signal gives
abbrev before_gift : Outcome → TaskId → Plain → Plain
before_gift o t p = record p {
  tasks = map (woken (frees o t.0 p.owners)) (slice_set p.tasks t.0 (own_after o p (task_at p.tasks t.0)));
  owners = owners_after o t.0 p.owners;
}

abbrev Own : Outcome → TaskId → Plain → Type 0
Own o t p = Owned (before_gift o t p)

still : (o : Outcome) (t : TaskId) (p : Plain) → owners_after o t.0 p.owners ≡ p.owners → (own_after o p (task_at p.tasks t.0)).status ≡ Awake
    → t.0 < length p.tasks → Owned p → Own o t p
still o t p owners awake inside h =
    owned_moved p (before_gift o t p) t.0 (own_after o p (task_at p.tasks t.0)) (frees o t.0 p.owners)
    (awake_moves p (before_gift o t p) t.0 (own_after o p (task_at p.tasks t.0)) (frees o t.0 p.owners) refl inside owners awake) h

waits_for : (p : Plain) (t : ℕ) (s : ℕ) (u : TaskId) → OwnsNothing p.owners t → owner_at p.owners s ≡ Some u → (r : SemId) → Waits (record { 0 = s }) ≡ Waits r → HasOther p t r
waits_for p t s u idle e r same =
    let number : s ≡ r.0 = of_same (record { 0 = s }) r same in
    (u, ap (owner_at p.owners) (sym number) ∙ e, idle s u e)
  where
    of_same : (q r : SemId) → Waits q ≡ Waits r → q.0 ≡ r.0
    of_same q r e = cc

-- the own step
own_step : (table : Table) (o : Outcome) (t : TaskId) (p : Plain) → Tells table p.owners t.0 o → length p.owners ≡ table.semaphores
    → (task_at p.tasks t.0).status ≡ Awake → t.0 < length p.tasks → Owned p → Own o t p
unfolding frees own_after owners_after
own_step table (Works class core shared) t p told many awake inside h = still (Works class core shared) t p refl awake inside h
own_step table (Falls cause) t p told many awake inside h =
    owned_moved p (before_gift (Falls cause) t p) t.0 (own_after (Falls cause) p (task_at p.tasks t.0)) (λ r. is_task t.0 (owner_at p.owners r))
    (falls_moves p (before_gift (Falls cause) t p) t.0 (own_after (Falls cause) p (task_at p.tasks t.0)) refl inside refl refl) h
own_step table (Refuses code) t p told many awake inside h = still (Refuses code) t p refl awake inside h
own_step table Ends t p told many awake inside h =
    let new = own_after Ends p (task_at p.tasks t.0) in
    owned_moved p (before_gift Ends t p) t.0 new (frees Ends t.0 p.owners)
    (idle_moves p (before_gift Ends t p) t.0 new (frees Ends t.0 p.owners) refl inside refl told
    (λ s w. absurd (end_waits _ (task_at p.tasks t.0).pending s awake w))) h
own_step table (Gets s) t p (nobody, exists) many awake inside h =
    let new = own_after (Gets s) p (task_at p.tasks t.0) in
    owned_moved p (before_gift (Gets s) t p) t.0 new (frees (Gets s) t.0 p.owners)
    (gets_moves p (before_gift (Gets s) t p) t new (frees (Gets s) t.0 p.owners) s refl inside refl (subst (λ n. s < n) (sym many) exists) nobody awake) h
own_step table (Blocks s) t p (idle, (u, owns)) many awake inside h =
    let new = own_after (Blocks s) p (task_at p.tasks t.0) in
    owned_moved p (before_gift (Blocks s) t p) t.0 new (frees (Blocks s) t.0 p.owners)
    (idle_moves p (before_gift (Blocks s) t p) t.0 new (frees (Blocks s) t.0 p.owners) refl inside refl idle (waits_for p t.0 s u idle owns)) h
own_step table (Frees s) t p (mine, exists) many awake inside h =
    let new = own_after (Frees s) p (task_at p.tasks t.0) in
    owned_moved p (before_gift (Frees s) t p) t.0 new (λ r. r == s)
    (frees_moves p (before_gift (Frees s) t p) t.0 new s refl inside refl (subst (λ n. s < n) (sym many) exists) awake) h
own_step table (Puts port word) t p told many awake inside h = still (Puts port word) t p refl awake inside h
own_step table (Publishes m at count) t p told many awake inside h = still (Publishes m at count) t p refl awake inside h
own_step table (Fetches m at) t p told many awake inside h = still (Fetches m at) t p refl awake inside h
own_step table (Signals u word) t p told many awake inside h = still (Signals u word) t p refl awake inside h
own_step table Leaves t p told many awake inside h =
    let new = own_after Leaves p (task_at p.tasks t.0) in
    owned_moved p (before_gift Leaves t p) t.0 new (frees Leaves t.0 p.owners)
    (idle_moves p (before_gift Leaves t p) t.0 new (frees Leaves t.0 p.owners) refl inside refl told (λ s w. absurd (stopped_waits s w))) h

-- a step of an Awake task keeps it
pub owned_step : (table : Table) (o : Outcome) (t : TaskId) (p : Plain) → Tells table p.owners t.0 o → length p.owners ≡ table.semaphores
    → length p.tasks ≡ length table.tasks → (task_at p.tasks t.0).status ≡ Awake → t.0 < length p.tasks → Owned p → Owned (after_outcome o t p)
unfolding gives
owned_step table o t p told many all awake inside h = by_gift o told (own_step table o t p told many awake inside h)
  where
    same : (o : Outcome) → (after_outcome o t p).tasks ≡ (before_gift o t p).tasks → (after_outcome o t p).owners ≡ (before_gift o t p).owners
        → Own o t p → Owned (after_outcome o t p)
    same o tasks owners own = owned_same (before_gift o t p) (after_outcome o t p) tasks owners own

    by_gift : (o : Outcome) → Tells table p.owners t.0 o → Own o t p → Owned (after_outcome o t p)
    by_gift (Works class core shared) told own = same (Works class core shared) refl refl own
    by_gift (Falls cause) told own = same (Falls cause) refl refl own
    by_gift (Refuses code) told own = same (Refuses code) refl refl own
    by_gift Ends told own = same Ends refl refl own
    by_gift (Gets s) told own = same (Gets s) refl refl own
    by_gift (Blocks s) told own = same (Blocks s) refl refl own
    by_gift (Frees s) told own = same (Frees s) refl refl own
    by_gift (Puts port word) told own = same (Puts port word) refl refl own
    by_gift (Publishes m at count) told own = same (Publishes m at count) refl refl own
    by_gift (Fetches m at) told own = same (Fetches m at) refl refl own
    by_gift (Signals u word) told own =
        let free = frees (Signals u word) t.0 p.owners in
        let new = own_after (Signals u word) p (task_at p.tasks t.0) in
        owned_given u 0 word (before_gift (Signals u word) t p) (after_outcome (Signals u word) t p)
        (subst (λ n. u < n) (sym all ∙ sym (same_count p (before_gift (Signals u word) t p) t.0 new free refl)) told) refl refl own
    by_gift Leaves told own = same Leaves refl refl own

-- ---- events

-- a release of a task that is none of these changes none of them
no_place : (tasks : List Task) (v : ℕ) (x : Task) → length tasks ≤ v → slice_set tasks v x ≡ tasks
no_place [] v x h = refl
no_place (task ∷ tasks) zero x h = absurd (omega (arith, h))
no_place (task ∷ tasks) (suc v) x h = ap (λ ts. task ∷ ts) (no_place tasks v x (omega (arith, h)))

pub owned_event : (event : Event) (p : Plain) → Owned p → Owned (after_event event p)
owned_event (Release t time word) p h = elim (cases_lt t.0 (length p.tasks)) [
  | inl inside ↦ owned_given t.0 time word p (after_event (Release t time word) p) inside refl refl h
  | inr past ↦ owned_same p (after_event (Release t time word) p) (no_place p.tasks t.0 _ past) refl h
]
owned_event (Unplug port) p h = owned_same p (after_event (Unplug port) p) refl refl h

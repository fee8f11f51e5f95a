-- Each step of a task of the counted machine: the settled state takes the plain machine's step, or none, and what is kept stays so.
use Rattle.std.proofs.Common.{◌≡◌, ◌≢◌, ◌∙◌, ◌⊎◌, inl, inr, ℕ, ◌<◌, Bool, false, if◌then◌else◌, List, length, slice_set, Option, None, Some, sym, ap, subst, refl, arith}
use Rattle.std.specs.Prelude.{IsSome}
use Rattle.std.proofs.lemmas.Bool.{cases_eq}
use Rattle.std.proofs.lemmas.List.{get_or-set_other, get_or-set_same, length-set, set-get_or}
use Rattle.em_base.specs.declared.apps.App.{App}
use Rattle.em_base.specs.declared.ids.MsgId.{MsgId}
use Rattle.em_base.specs.declared.ids.TaskId.{TaskId}
use Rattle.em_base.specs.declared.jobs.Status.TheVariants.{Awake}
use Rattle.em_hart.specs.declared.answers.Stepped.{Stepped as Taken}
use Rattle.em_hart.specs.declared.answers.Stepped.TheVariants.{Ran, Call as CallStep, Fault as FaultStep}
use Rattle.em_gate.specs.Calls.{words_of}
use Rattle.em_gate.specs.Effects.{after_outcome, after_step, values_after, words_at}
use Rattle.em_gate.specs.Outcome.{Outcome, Works, Falls, Refuses, Ends, Gets, Blocks, Frees, Puts, Publishes, Fetches, Signals, Leaves, outcome}
use Rattle.em_gate.specs.State.{Copy, Core, Counted, Plain, Reads, Task, Value, Writes, task_at}
use Rattle.em_kernel.specs.Moves.{Move, Acts, EndsWrite, StartsRead, after_move, copy_at, first_move, published}
use Rattle.em_kernel.specs.Step.{kind_by, kind_of}
use Rattle.em_system.specs.Taken.{stepped_of}
use Rattle.em_sched.specs.Agreement.{AreCopies, AreSized, IsAtWrite, IsCopy}
use Rattle.em_sched.specs.Image.{is_copying}
use Rattle.em_sched.proofs.Bare.{Bare, bare_step}
use Rattle.em_sched.proofs.Commutes.{HasJob, IsNoFetch, outcome_flat, outcome_flat_after, quiet}
use Rattle.em_sched.proofs.Copies.{copies_moved, copy_grown}
use Rattle.em_sched.proofs.CopyCalls.{writes_anywhere}
use Rattle.em_kernel.proofs.TaskCounts.{step_count}
use Rattle.em_sched.proofs.Counts.{acts_values, publish_values, step_owners}
use Rattle.em_sched.proofs.Flat.{flat, flat_here, flat_of, settle_values}
use Rattle.em_sched.proofs.Keeping.{Keeps, keeps_quiet, keeps_step, step_working}
use Rattle.em_sched.proofs.Orderly.{IsOrderly, IsSimple}
use Rattle.em_sched.proofs.OwnedSteps.{owned_step}
use Rattle.em_sched.proofs.Published.{AreValued, Grow, grow_published, grow_same, sized_published, valued_published, with_value, words_count}
use Rattle.em_sched.proofs.Tells.{Tells, tells}

-- ---- what a step makes

-- a plain state after a step of the task t, where it takes one
abbrev pub unless : Bool → App → TaskId → Plain → Plain
unless copying app t p = if copying then p else after_step app.table app.image.words t p

pub record Moved (app : App) (c : Counted) (t : TaskId) (move : Move) : Type 0 where
  pub image : flat (after_move app move t c) ≡ unless (is_copying (kind_of move)) app t (flat c)
  pub orderly : IsOrderly app (after_move app move t c)

-- the task whose step it is: it is one of the tasks, is Awake, and has a job
pub record IsChosen (c : Counted) (t : ℕ) : Type 0 where
  pub inside : t < length c.plain.tasks
  pub awake : (task_at c.plain.tasks t).status ≡ Awake
  pub working : IsSome (task_at c.plain.tasks t).job

-- a step by what its instruction came to is none of a copy
pub no_copy : (taken : Taken) → is_copying (kind_by taken) ≡ false
no_copy (Ran class) = refl
no_copy CallStep = refl
no_copy (FaultStep cause) = refl

-- ---- a step of the plain machine

-- the settled state before such a step has the same core of its task
abbrev IsPlainAt : Counted → ℕ → Type 0
IsPlainAt c t = task_at (flat c).tasks t ≡ task_at c.plain.tasks t

-- others that have a read under way have a job still
jobs_left : (app : App) (c : Counted) (o : Outcome) (t : TaskId) → AreCopies app c → t.0 < length c.plain.tasks
    → (u : ℕ) → HasJob (copy_at (slice_set c.copies t.0 None) u) (task_at (quiet o t c.plain).tasks u)
jobs_left app c o t h inside u = by_task (cases_eq u t.0)
  where
    within : t.0 < length c.copies
    within = subst (λ n. t.0 < n) (sym h.count) inside

    kept : (copy : Option Copy) → IsCopy app c.plain c.promises u copy → Keeps (task_at c.plain.tasks u) (task_at (quiet o t c.plain).tasks u)
        → HasJob copy (task_at (quiet o t c.plain).tasks u)
    kept None is keeps = tt
    kept (Some (Writes m at i)) is keeps = tt
    kept (Some (Reads m at noted i)) is keeps = (keeps is.0.awake is.0.working).1

    by_task : (u ≡ t.0) ⊎ (u ≢ t.0) → HasJob (copy_at (slice_set c.copies t.0 None) u) (task_at (quiet o t c.plain).tasks u)
    by_task (inl e) =
        subst (λ copy. HasJob copy (task_at (quiet o t c.plain).tasks u))
        (sym (ap (copy_at (slice_set c.copies t.0 None)) e ∙ get_or-set_same c.copies t.0 None None within)) tt
    by_task (inr other) =
        subst (λ copy. HasJob copy (task_at (quiet o t c.plain).tasks u)) (sym (get_or-set_other c.copies t.0 u None None other))
        (kept (copy_at c.copies u) (h.each u) (keeps_quiet o t c.plain u other))

-- the settled state takes the step that comes to o
flat_step : (app : App) (c : Counted) (o : Outcome) (t : TaskId) → AreCopies app c → t.0 < length c.plain.tasks → IsPlainAt c t.0 → IsNoFetch o
    → outcome app.table app.image.words t.0 (flat c) ≡ o → Grow c.plain.values (values_after o (task_at c.plain.tasks t.0).core c.plain.values)
    → flat_of (slice_set c.copies t.0 None) (after_outcome o t c.plain) ≡ after_step app.table app.image.words t (flat c)
flat_step app c o t h inside here no_fetch is grow =
    outcome_flat_after o t c.copies c.plain h.count no_fetch here
    (sym (settle_values c.plain.values values' c.plain.tasks c.copies
    (λ u core. ap (λ (f : Core → Core). f core) (copy_grown app c.plain c.promises u (copy_at c.copies u) values' grow (h.each u)))))
    (jobs_left app c o t h inside)
    ∙ ap (λ other. after_outcome other t (flat c)) (sym is)
  where
    values' : List (List Value)
    values' = values_after o (task_at c.plain.tasks t.0).core c.plain.values

-- an outcome that begins no copy
abbrev IsActing : Outcome → Type 0
IsActing o = first_move o ≡ Acts o

no_fetch : (o : Outcome) → IsActing o → IsNoFetch o
no_fetch o e m at is = fetch (ap first_move (sym is) ∙ e ∙ ap Acts is)
  where
    fetch : StartsRead (record { 0 = m }) at ≡ Acts (Fetches m at) → ⊥
    fetch e = cc

values_still : (o : Outcome) (core : Core) (values : List (List Value)) → IsActing o → values_after o core values ≡ values
unfolding values_after
values_still (Works class core' shared) core values e = refl
values_still (Falls cause) core values e = refl
values_still (Refuses code) core values e = refl
values_still Ends core values e = refl
values_still (Gets s) core values e = refl
values_still (Blocks s) core values e = refl
values_still (Frees s) core values e = refl
values_still (Puts port word) core values e = refl
values_still (Publishes m at count) core values e = absurd (cc)
values_still (Fetches m at) core values e = refl
values_still (Signals u word) core values e = refl
values_still Leaves core values e = refl

-- a step of a task without a copy that begins none
pub acts_moved : (app : App) (c : Counted) (t : TaskId) (o : Outcome) → IsSimple app → IsOrderly app c → IsChosen c t.0 → copy_at c.copies t.0 ≡ None
    → outcome app.table app.image.words t.0 c.plain ≡ o → IsActing o → Moved app c t (Acts o)
unfolding after_move
acts_moved app c t o simple h chosen none is acting = record {
  image =
      ap (λ cs. flat_of cs (after_outcome o t c.plain)) (sym same)
      ∙ flat_step app c o t h.copies chosen.inside here (no_fetch o acting) (outcome_flat app.table app.image.words t.0 c.copies c.plain here ∙ is)
      (subst (Grow c.plain.values) (sym (values_still o (task_at c.plain.tasks t.0).core c.plain.values acting)) (grow_same c.plain.values))
      ∙ ap (λ b. unless b app t (flat c)) (sym (no_copy (stepped_of o)));
  orderly = record {
    bare = bare;
    owned =
        owned_step app.table o t c.plain
        (subst (Tells app.table c.plain.owners t.0) is (tells app.table app.image.words t.0 c.plain (omega (arith, h.semaphores, simple.few))))
        h.semaphores h.tasks chosen.awake chosen.inside h.owned;
    working = step_working o t c.plain chosen.working h.working;
    tasks = step_count o t c.plain ∙ h.tasks;
    semaphores = step_owners o t c.plain ∙ h.semaphores;
    copies =
        copies_moved app c (after_move app (Acts o) t c) t.0 None (sym same) chosen.inside (step_count o t c.plain) (ap length values) bare
        (subst (Grow c.plain.values) (sym values) (grow_same c.plain.values)) (subst (AreSized app) (sym values) h.copies.sized)
        (λ u other. keeps_step o t c.plain u other) tt h.copies;
    valued = subst AreValued (sym values) h.valued;
  };
}
  where
    here : IsPlainAt c t.0
    here = flat_here c.plain.values c.plain.tasks c.copies t.0 None h.copies.count none

    same : slice_set c.copies t.0 None ≡ c.copies
    same = ap (slice_set c.copies t.0) (sym none) ∙ set-get_or c.copies t.0 None

    values : (after_outcome o t c.plain).values ≡ c.plain.values
    values = acts_values o t c.plain acting

    bare : Bare (after_move app (Acts o) t c).promises
    bare = bare_step app o t.0 c.plain c.promises simple.hints h.bare

-- a write that ends
pub ends_write : (app : App) (c : Counted) (t : TaskId) (m : MsgId) (at i : ℕ) → IsOrderly app c → IsChosen c t.0
    → copy_at c.copies t.0 ≡ Some (Writes m at i) → IsAtWrite app t.0 m.0 at (task_at c.plain.tasks t.0).core → Moved app c t (EndsWrite m at i)
unfolding after_move values_after
ends_write app c t m at i h chosen writes is = record {
  image =
      flat_step app c o t h.copies chosen.inside here (λ n a e. not_fetch n a e)
      (writes_anywhere app t.0 m.0 at (flat c) (subst (λ (k : Task). IsAtWrite app t.0 m.0 at k.core) (sym here) is)) (grow_published c.plain.values m.0 value);
  orderly = record {
    bare = h.bare;
    owned = owned_step app.table o t c.plain tt h.semaphores h.tasks chosen.awake chosen.inside h.owned;
    working = step_working o t c.plain chosen.working h.working;
    tasks = step_count o t c.plain ∙ h.tasks;
    semaphores = step_owners o t c.plain ∙ h.semaphores;
    copies =
        copies_moved app c (after_move app (EndsWrite m at i) t c) t.0 None refl chosen.inside (step_count o t c.plain)
        (ap length values ∙ length-set c.plain.values m.0 _) h.bare
        (subst (Grow c.plain.values) (sym values) (grow_published c.plain.values m.0 value))
        (subst (AreSized app) (sym values)
        (sized_published app c.plain.values m.0 value (words_count (task_at c.plain.tasks t.0).core.own at (words_of app.table m.0)) h.copies.sized))
        (λ u other. keeps_step o t c.plain u other) tt h.copies;
    valued = subst AreValued (sym values) (valued_published c.plain.values m.0 value h.valued);
  };
}
  where
    o : Outcome
    o = published app.table m at

    value : Value
    value = words_at (task_at c.plain.tasks t.0).core.own at (words_of app.table m.0)

    here : IsPlainAt c t.0
    here = flat_here c.plain.values c.plain.tasks c.copies t.0 (Some (Writes m at i)) h.copies.count writes

    values : (after_outcome o t c.plain).values ≡ with_value c.plain.values m.0 value
    values = publish_values m.0 at (words_of app.table m.0) t c.plain

    not_fetch : (n a : ℕ) → o ≡ Fetches n a → ⊥
    not_fetch n a e = cc

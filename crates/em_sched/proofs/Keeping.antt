-- What a step or an event leaves of another task that is Awake at its job: all that a copy of it rests on. And each task that is Awake or
-- waits has a job.
use Rattle.std.specs.Prelude.{IsSome}
use Rattle.std.proofs.Common.{◌≡◌, ◌≢◌, ◌∙◌, inl, inr, ℕ, zero, suc, Bool, true, false, if◌then◌else◌, List, [], ◌∷◌, length, map, slice_set, All, Option, None, Some, sym, ap, subst, refl}
use Rattle.std.proofs.lemmas.Bool.{cases_eq, cases_lt, false≢true}
use Rattle.std.proofs.lemmas.List.{get_or-set_other, get_or-set_same, set_past}
use Rattle.std.proofs.lemmas.List.Elements.{All-head, All-map, All-set, All-tail, All-weaker}
use Rattle.em_base.specs.declared.events.Event.{Event}
use Rattle.em_base.specs.declared.events.Event.TheVariants.{Release, Unplug}
use Rattle.em_base.specs.declared.ids.TaskId.{TaskId}
use Rattle.em_base.specs.declared.jobs.Job.{Job}
use Rattle.em_base.specs.declared.jobs.Status.{Status}
use Rattle.em_base.specs.declared.jobs.Status.TheVariants.{Asleep, Awake, Waits, Stopped}
use Rattle.em_base.specs.declared.tables.TaskRow.{TaskRow}
use Rattle.em_base.specs.Images.{Labels}
use Rattle.em_base.specs.Selection.{is_active}
use Rattle.em_gate.specs.Boot.{first_task}
use Rattle.em_gate.specs.Effects.{after_outcome, after_call, frees, given, gives, own_after, with_core, woken, woken_by}
use Rattle.em_gate.specs.Events.{after_event}
use Rattle.em_gate.specs.Outcome.{Outcome, Works, Falls, Refuses, Ends, Gets, Blocks, Frees, Puts, Publishes, Fetches, Signals, Leaves}
use Rattle.em_gate.specs.State.{Plain, Task, no_task, task_at}
use Rattle.em_gate.specs.Tasks.{after_awake, after_jobs, after_take, is_full, next_job, with_job}
use Rattle.em_sched.proofs.Commutes.{quiet}
use Rattle.em_sched.proofs.Statuses.{task_mapped}

-- ---- another task

-- a task that is Awake at a job is so after a change, with the same core
abbrev pub Keeps : Task → Task → Type 0
Keeps old new = old.status ≡ Awake → IsSome old.job → (new.status ≡ Awake) × IsSome new.job × (new.core ≡ old.core)

pub keeps_same : (old new : Task) → new ≡ old → Keeps old new
keeps_same old new e awake job = (ap (λ (k : Task). k.status) e ∙ awake, subst (λ (k : Task). IsSome k.job) (sym e) job, ap (λ (k : Task). k.core) e)

keeps_then : (a b c : Task) → Keeps a b → Keeps b c → Keeps a c
keeps_then a b c first second awake job =
    let (awake', job', same) = first awake job in
    let (awake'', job'', same') = second awake' job' in
    (awake'', job'', same' ∙ same)

keeps_woken : (free : ℕ → Bool) (task : Task) → Keeps task (woken free task)
keeps_woken free task awake job = keeps_same task (woken free task) (ap (woken_by free task) awake) awake job

keeps_take : (arrival word : ℕ) (task : Task) → Keeps task (after_take arrival word task)
keeps_take arrival word task awake some = by_room (is_full task) task.job refl
  where
    no_job : (o : Option Job) → o ≡ None → IsSome o → ⊥
    no_job None e s = false≢true s
    no_job (Some job) e s = absurd (cc)

    by_room : (full : Bool) (job : Option Job) → task.job ≡ job
        → let after = if full then task else with_job (next_job task arrival word) task job in
        (after.status ≡ Awake) × IsSome after.job × (after.core ≡ task.core)
    by_room true job e = (awake, some, refl)
    by_room false None e = absurd (no_job task.job e some)
    by_room false (Some job) e = (awake, some, refl)

-- a release of a task keeps each
pub keeps_given : (v arrival word : ℕ) (p : Plain) (u : ℕ) → Keeps (task_at p.tasks u) (task_at (given v arrival word p).tasks u)
keeps_given v arrival word p u = elim (cases_eq u v) as (λ _. Keeps (task_at p.tasks u) (task_at (given v arrival word p).tasks u)) [
  | inl e ↦ elim (cases_lt v (length p.tasks)) as (λ _. Keeps (task_at p.tasks u) (task_at (given v arrival word p).tasks u)) [
    | inl inside ↦ subst (Keeps (task_at p.tasks u))
        (ap (λ i. after_take arrival word (task_at p.tasks i)) e
        ∙ sym (get_or-set_same p.tasks v new no_task inside) ∙ ap (task_at (slice_set p.tasks v new)) (sym e))
        (keeps_take arrival word (task_at p.tasks u))
    | inr past ↦ keeps_same (task_at p.tasks u) (task_at (slice_set p.tasks v new) u) (ap (λ ts. task_at ts u) (set_past p.tasks v new past))
  ]
  | inr other ↦ keeps_same (task_at p.tasks u) (task_at (slice_set p.tasks v new) u) (get_or-set_other p.tasks v u new no_task other)
]
  where
    new : Task
    new = after_take arrival word (task_at p.tasks v)

pub keeps_event : (event : Event) (p : Plain) (u : ℕ) → Keeps (task_at p.tasks u) (task_at (after_event event p).tasks u)
keeps_event (Release t time word) p u = keeps_given t.0 time word p u
keeps_event (Unplug port) p u = keeps_same (task_at p.tasks u) (task_at p.tasks u) refl

-- a step of a task keeps each other
pub keeps_quiet : (o : Outcome) (t : TaskId) (p : Plain) (u : ℕ) → u ≢ t.0 → Keeps (task_at p.tasks u) (task_at (quiet o t p).tasks u)
keeps_quiet o t p u other =
    subst (Keeps (task_at p.tasks u))
    (ap (woken free) (sym (get_or-set_other p.tasks t.0 u new no_task other)) ∙ sym (task_mapped (woken free) (slice_set p.tasks t.0 new) u refl))
    (keeps_woken free (task_at p.tasks u))
  where
    free : ℕ → Bool
    free = frees o t.0 p.owners

    new : Task
    new = own_after o p (task_at p.tasks t.0)

keeps_gives : (o : Outcome) (p : Plain) (u : ℕ) → Keeps (task_at p.tasks u) (task_at (gives o p).tasks u)
unfolding gives
keeps_gives (Works class core shared) p u = keeps_same (task_at p.tasks u) (task_at p.tasks u) refl
keeps_gives (Falls cause) p u = keeps_same (task_at p.tasks u) (task_at p.tasks u) refl
keeps_gives (Refuses code) p u = keeps_same (task_at p.tasks u) (task_at p.tasks u) refl
keeps_gives Ends p u = keeps_same (task_at p.tasks u) (task_at p.tasks u) refl
keeps_gives (Gets s) p u = keeps_same (task_at p.tasks u) (task_at p.tasks u) refl
keeps_gives (Blocks s) p u = keeps_same (task_at p.tasks u) (task_at p.tasks u) refl
keeps_gives (Frees s) p u = keeps_same (task_at p.tasks u) (task_at p.tasks u) refl
keeps_gives (Puts port word) p u = keeps_same (task_at p.tasks u) (task_at p.tasks u) refl
keeps_gives (Publishes m at count) p u = keeps_same (task_at p.tasks u) (task_at p.tasks u) refl
keeps_gives (Fetches m at) p u = keeps_same (task_at p.tasks u) (task_at p.tasks u) refl
keeps_gives (Signals v word) p u = keeps_given v 0 word p u
keeps_gives Leaves p u = keeps_same (task_at p.tasks u) (task_at p.tasks u) refl

pub keeps_step : (o : Outcome) (t : TaskId) (p : Plain) (u : ℕ) → u ≢ t.0 → Keeps (task_at p.tasks u) (task_at (after_outcome o t p).tasks u)
keeps_step o t p u other =
    keeps_then (task_at p.tasks u) (task_at (quiet o t p).tasks u) (task_at (after_outcome o t p).tasks u)
    (keeps_quiet o t p u other) (keeps_gives o (quiet o t p) u)

-- ---- jobs

-- a task that is Awake or waits has a job
abbrev pub IsWorking : Task → Type 0
IsWorking task = is_active task.status ≡ true → IsSome task.job

not_active : (task : Task) → is_active task.status ≡ false → IsWorking task
not_active task e active = absurd (false≢true (sym e ∙ active))

-- and so does each of the tasks
pub working_at : (tasks : List Task) (t : ℕ) → All IsWorking tasks → IsWorking (task_at tasks t)
working_at [] t h = not_active no_task refl
working_at (task ∷ tasks) zero h = All-head IsWorking task tasks h
working_at (task ∷ tasks) (suc t) h = working_at tasks t (All-tail IsWorking task tasks h)

pub working_boot : (own : ℕ) (labels : Labels) (rows : List TaskRow) → All IsWorking (map (first_task own labels) rows)
working_boot own labels rows = All-map IsWorking (first_task own labels) rows (λ i d less active. absurd (false≢true active))

take_working : (arrival word : ℕ) (task : Task) → IsWorking task → IsWorking (after_take arrival word task)
take_working arrival word task h = by_room (is_full task) task.job refl
  where
    by_room : (full : Bool) (job : Option Job) → task.job ≡ job → IsWorking (if full then task else with_job (next_job task arrival word) task job)
    by_room true job e = h
    by_room false None e = λ active. refl
    by_room false (Some job) e = h

given_working : (v arrival word : ℕ) (p : Plain) → All IsWorking p.tasks → All IsWorking (given v arrival word p).tasks
given_working v arrival word p h =
    All-set IsWorking p.tasks v (after_take arrival word (task_at p.tasks v)) (take_working arrival word (task_at p.tasks v) (working_at p.tasks v h)) h

pub event_working : (event : Event) (p : Plain) → All IsWorking p.tasks → All IsWorking (after_event event p).tasks
event_working (Release t time word) p h = given_working t.0 time word p h
event_working (Unplug port) p h = h

jobs_working : (task : Task) (jobs : List Job) → IsWorking (after_jobs jobs task)
jobs_working task [] active = absurd (false≢true active)
jobs_working task (job ∷ jobs) active = refl

own_working : (o : Outcome) (p : Plain) (task : Task) → IsSome task.job → IsWorking (own_after o p task)
unfolding own_after
own_working (Works class core shared) p task job active = job
own_working (Falls cause) p task job active = absurd (false≢true active)
own_working (Refuses code) p task job active = job
own_working Ends p task job active = jobs_working (with_core (after_call task.core) task) task.pending active
own_working (Gets s) p task job active = job
own_working (Blocks s) p task job active = job
own_working (Frees s) p task job active = job
own_working (Puts port word) p task job active = job
own_working (Publishes m at count) p task job active = job
own_working (Fetches m at) p task job active = job
own_working (Signals u word) p task job active = job
own_working Leaves p task job active = absurd (false≢true active)

woken_working : (free : ℕ → Bool) (task : Task) (status : Status) → task.status ≡ status → IsWorking task → IsWorking (woken_by free task status)
woken_working free task Asleep e h = h
woken_working free task Awake e h = h
woken_working free task (Waits s) e h = by_free (free s.0)
  where
    by_free : (b : Bool) → IsWorking (if b then after_awake task else task)
    by_free true active = h (ap is_active e)
    by_free false active = h active
woken_working free task Stopped e h = h

gives_working : (o : Outcome) (p : Plain) → All IsWorking p.tasks → All IsWorking (gives o p).tasks
unfolding gives
gives_working (Works class core shared) p h = h
gives_working (Falls cause) p h = h
gives_working (Refuses code) p h = h
gives_working Ends p h = h
gives_working (Gets s) p h = h
gives_working (Blocks s) p h = h
gives_working (Frees s) p h = h
gives_working (Puts port word) p h = h
gives_working (Publishes m at count) p h = h
gives_working (Fetches m at) p h = h
gives_working (Signals u word) p h = given_working u 0 word p h
gives_working Leaves p h = h

-- after a step of a task that has one
pub step_working : (o : Outcome) (t : TaskId) (p : Plain) → IsSome (task_at p.tasks t.0).job → All IsWorking p.tasks
    → All IsWorking (after_outcome o t p).tasks
step_working o t p job h =
    let new = own_after o p (task_at p.tasks t.0) in
    let free = frees o t.0 p.owners in
    gives_working o (quiet o t p)
    (All-map IsWorking (woken free) (slice_set p.tasks t.0 new)
    (All-weaker IsWorking (λ task. IsWorking (woken free task)) (λ task. woken_working free task task.status refl) (slice_set p.tasks t.0 new)
    (All-set IsWorking p.tasks t.0 new (own_working o p (task_at p.tasks t.0) job) h)))

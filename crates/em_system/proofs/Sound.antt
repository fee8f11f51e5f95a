-- What is always so of each task stays so after each step.
use Rattle.std.proofs.Common.{◌≡◌, ℕ, zero, suc, ◌+◌, ◌<◌, ◌≤◌, ◌^◌, Bool, true, false, List, [], ◌∷◌, length, map, slice_set, All, Option, None, Some, ap, refl, cond, arith}
use Rattle.std.specs.Prelude.{IsSome}
use Rattle.std.proofs.lemmas.Bool.{false≢true}
use Rattle.std.proofs.lemmas.List.Elements.{All-append, All-cons, All-head, All-map, All-nil, All-set, All-tail, All-weaker}
use Rattle.em_base.specs.declared.events.Event.{Event}
use Rattle.em_base.specs.declared.events.Event.TheVariants.{Release, Unplug}
use Rattle.em_base.specs.declared.ids.TaskId.{TaskId}
use Rattle.em_base.specs.declared.jobs.Job.{Job}
use Rattle.em_base.specs.declared.jobs.Status.{Status}
use Rattle.em_base.specs.declared.jobs.Status.TheVariants.{Asleep, Awake, Waits, Stopped}
use Rattle.em_base.specs.declared.tables.TaskRow.{TaskRow}
use Rattle.em_base.specs.Images.{Labels}
use Rattle.em_base.specs.Selection.{is_active}
use Rattle.em_gate.specs.Boot.{first_task}
use Rattle.em_gate.specs.Effects.{after_call, after_outcome, frees, given, gives, own_after, with_core, woken, woken_by}
use Rattle.em_gate.specs.Events.{after_event}
use Rattle.em_gate.specs.Outcome.{Outcome, Works, Falls, Refuses, Ends, Gets, Blocks, Frees, Puts, Publishes, Fetches, Signals, Leaves}
use Rattle.em_gate.specs.State.{Core, Plain, Task, no_task, task_at}
use Rattle.em_gate.specs.Tasks.{after_awake, after_jobs, after_take, is_full, next_job, with_job}
use Rattle.em_system.specs.Possible.{IsPossible}
use Rattle.em_system.specs.Sound.{IsSound}

abbrev IsEarly : Job → Type 0
IsEarly job = job.arrival < 2 ^ 63

-- ---- more jobs

more : (n m : ℕ) (task : Task) → n ≤ m → IsSound n task → IsSound m task
more n m task le s = record { few = omega (arith, le, s.few); early = s.early; later = s.later; working = s.working }

-- tasks that are sound for so many jobs are sound for more
pub sound_more : (n m : ℕ) (tasks : List Task) → n ≤ m → All (IsSound n) tasks → All (IsSound m) tasks
sound_more n m tasks le s = All-weaker (IsSound n) (IsSound m) (λ task. more n m task le) tasks s

-- ---- one of the tasks

missing : (n : ℕ) → IsSound n no_task
missing n = record { few = omega arith; early = tt; later = All-nil IsEarly; working = λ e. absurd (false≢true e) }

-- each of the tasks is sound
pub sound_task : (n : ℕ) (tasks : List Task) (t : ℕ) → All (IsSound n) tasks → t < length tasks → IsSound n (task_at tasks t)
sound_task n tasks t s h = s t no_task h

-- and so is the task at any number, also where there is none
pub sound_anywhere : (n : ℕ) (tasks : List Task) (t : ℕ) → All (IsSound n) tasks → IsSound n (task_at tasks t)
sound_anywhere n [] t s = missing n
sound_anywhere n (task ∷ tasks) zero s = All-head (IsSound n) task tasks s
sound_anywhere n (task ∷ tasks) (suc t) s = sound_anywhere n tasks t (All-tail (IsSound n) task tasks s)

-- ---- a release

with_job_sound : (n arrival word : ℕ) (task : Task) (job : Option Job) → arrival < 2 ^ 63 → IsSound n task
    → IsSound (n + 1) (with_job (next_job task arrival word) task job)
with_job_sound n arrival word task None h s = record { few = omega (arith, s.few); early = h; later = s.later; working = λ e. refl }
with_job_sound n arrival word task (Some current) h s = record {
  few = omega (arith, s.few);
  early = s.early;
  later =
      let job = next_job task arrival word in
      All-append IsEarly task.pending (job ∷ []) s.later (All-cons IsEarly job [] h (All-nil IsEarly));
  working = s.working;
}

by_room : (b : Bool) (n arrival word : ℕ) (task : Task) → arrival < 2 ^ 63 → IsSound n task
    → IsSound (n + 1) (cond b task (with_job (next_job task arrival word) task task.job))
by_room true n arrival word task h s = more n (n + 1) task (omega arith) s
by_room false n arrival word task h s = with_job_sound n arrival word task task.job h s

-- tasks stay sound when one is given a job at an early time
pub sound_given : (u arrival word : ℕ) (p : Plain) (n : ℕ) → arrival < 2 ^ 63 → All (IsSound n) p.tasks
    → All (IsSound (n + 1)) (given u arrival word p).tasks
sound_given u arrival word p n h s =
    let task = task_at p.tasks u in
    All-set (IsSound (n + 1)) p.tasks u (after_take arrival word task)
    (by_room (is_full task) n arrival word task h (sound_anywhere n p.tasks u s))
    (sound_more n (n + 1) p.tasks (omega arith) s)

-- tasks stay sound when an event happens
pub sound_event : (event : Event) (p : Plain) (n : ℕ) → IsPossible (length p.tasks) event → All (IsSound n) p.tasks
    → All (IsSound (n + 1)) (after_event event p).tasks
sound_event (Release t time word) p n h s = sound_given t.0 time word p n h.1 s
sound_event (Unplug port) p n h s = sound_more n (n + 1) p.tasks (omega arith) s

-- ---- a step of a task

pub same_jobs : (n : ℕ) (core : Core) (task : Task) → IsSound n task → IsSound n (with_core core task)
same_jobs n core task s = record { few = s.few; early = s.early; later = s.later; working = s.working }

jobs_sound : (n : ℕ) (task : Task) (jobs : List Job) → All IsEarly jobs → IsSound n task → IsSound n (after_jobs jobs task)
jobs_sound n task [] h s = record { few = s.few; early = tt; later = s.later; working = λ e. absurd (false≢true e) }
jobs_sound n task (job ∷ rest) h s =
    record { few = s.few; early = All-head IsEarly job rest h; later = All-tail IsEarly job rest h; working = λ e. refl }

own_sound : (o : Outcome) (p : Plain) (n : ℕ) (task : Task) → is_active task.status ≡ true → IsSound n task → IsSound n (own_after o p task)
unfolding own_after
own_sound (Works class core shared) p n task a s = same_jobs n core task s
own_sound (Falls cause) p n task a s =
    record { few = s.few; early = s.early; later = s.later; working = λ e. absurd (false≢true e) }
own_sound (Refuses code) p n task a s = same_jobs n _ task s
own_sound Ends p n task a s =
    jobs_sound n (with_core (after_call task.core) task) task.pending s.later (same_jobs n (after_call task.core) task s)
own_sound (Gets r) p n task a s = same_jobs n _ task s
own_sound (Blocks r) p n task a s = record { few = s.few; early = s.early; later = s.later; working = λ e. s.working a }
own_sound (Frees r) p n task a s = same_jobs n _ task s
own_sound (Puts port word) p n task a s = same_jobs n _ task s
own_sound (Publishes m at count) p n task a s = same_jobs n _ task s
own_sound (Fetches m at) p n task a s = same_jobs n _ task s
own_sound (Signals u word) p n task a s = same_jobs n _ task s
own_sound Leaves p n task a s = record { few = s.few; early = tt; later = All-nil IsEarly; working = λ e. absurd (false≢true e) }

by_free : (b : Bool) (n : ℕ) (task : Task) → IsSome task.job → IsSound n task → IsSound n (cond b (after_awake task) task)
by_free true n task j s = record { few = s.few; early = s.early; later = s.later; working = λ e. j }
by_free false n task j s = s

woken_sound : (free : ℕ → Bool) (n : ℕ) (task : Task) (status : Status) → task.status ≡ status → IsSound n task → IsSound n (woken_by free task status)
woken_sound free n task Asleep e s = s
woken_sound free n task Awake e s = s
woken_sound free n task (Waits r) e s = by_free (free r.0) n task (s.working (ap is_active e)) s
woken_sound free n task Stopped e s = s

all_woken : (free : ℕ → Bool) (n : ℕ) (tasks : List Task) → All (IsSound n) tasks → All (IsSound n) (map (woken free) tasks)
all_woken free n tasks s =
    All-map (IsSound n) (woken free) tasks
    (All-weaker (IsSound n) (λ task. IsSound n (woken free task)) (λ task. woken_sound free n task task.status refl) tasks s)

gives_sound : (o : Outcome) (p : Plain) (n : ℕ) → All (IsSound n) p.tasks → All (IsSound (n + 1)) (gives o p).tasks
unfolding gives
gives_sound (Works class core shared) p n s = sound_more n (n + 1) p.tasks (omega arith) s
gives_sound (Falls cause) p n s = sound_more n (n + 1) p.tasks (omega arith) s
gives_sound (Refuses code) p n s = sound_more n (n + 1) p.tasks (omega arith) s
gives_sound Ends p n s = sound_more n (n + 1) p.tasks (omega arith) s
gives_sound (Gets r) p n s = sound_more n (n + 1) p.tasks (omega arith) s
gives_sound (Blocks r) p n s = sound_more n (n + 1) p.tasks (omega arith) s
gives_sound (Frees r) p n s = sound_more n (n + 1) p.tasks (omega arith) s
gives_sound (Puts port word) p n s = sound_more n (n + 1) p.tasks (omega arith) s
gives_sound (Publishes m at count) p n s = sound_more n (n + 1) p.tasks (omega arith) s
gives_sound (Fetches m at) p n s = sound_more n (n + 1) p.tasks (omega arith) s
gives_sound (Signals u word) p n s = sound_given u 0 word p n (omega arith) s
gives_sound Leaves p n s = sound_more n (n + 1) p.tasks (omega arith) s

-- tasks stay sound after a step of an Awake or Waiting one, whatever it comes to
pub sound_outcome : (o : Outcome) (t : TaskId) (p : Plain) (n : ℕ) → All (IsSound n) p.tasks → t.0 < length p.tasks
    → is_active (task_at p.tasks t.0).status ≡ true
    → All (IsSound (n + 1)) (after_outcome o t p).tasks
sound_outcome o t p n s h active =
    let own = own_sound o p n (task_at p.tasks t.0) active (sound_task n p.tasks t.0 s h) in
    gives_sound o _ n
    (all_woken (frees o t.0 p.owners) n (slice_set p.tasks t.0 (own_after o p (task_at p.tasks t.0)))
    (All-set (IsSound n) p.tasks t.0 (own_after o p (task_at p.tasks t.0)) own s))

-- ---- the start

-- no task was given a job at the start
pub sound_boot : (own : ℕ) (labels : Labels) (rows : List TaskRow) → All (IsSound 0) (map (first_task own labels) rows)
sound_boot own labels rows =
    All-map (IsSound 0) (first_task own labels) rows (λ i d less.
    record { few = omega arith; early = tt; later = All-nil IsEarly; working = λ e. absurd (false≢true e) })

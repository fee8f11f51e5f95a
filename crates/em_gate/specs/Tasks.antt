-- How jobs come to a task and end: this project's own.
use Rattle.std.specs.Prelude.{ℕ, ◌+◌, Bool, true, false, ◌||◌, nat_le, List, [], ◌∷◌, ◌++◌, length, Option, None, Some, if◌then◌else◌}
use Rattle.em_base.specs.declared.ids.SemId.{SemId}
use Rattle.em_base.specs.declared.jobs.Job.{Job}
use Rattle.em_base.specs.declared.jobs.Status.{Status}
use Rattle.em_base.specs.declared.jobs.Status.TheVariants.{Asleep, Awake, Waits, Stopped}
use Rattle.em_hart.specs.Hart.{with_register}
use Rattle.em_gate.specs.State.{Core, Task, most_pending}

abbrev pub is_stopped : Status → Bool
is_stopped Asleep = false
is_stopped Awake = false
is_stopped (Waits s) = false
is_stopped Stopped = true

-- the task takes no release: it is Stopped, or has as many pending as there may be
abbrev pub is_full : Task → Bool
is_full task = is_stopped task.status || nat_le most_pending (length task.pending)

-- the core with a word in a0
abbrev pub with_word : ℕ → Core → Core
with_word word core = record core { registers = with_register core.registers 10 word }

-- the next job that the task is given
abbrev pub next_job : Task → ℕ → ℕ → Job
next_job task arrival word = record { number = task.taken + 1; arrival = arrival; word = word }

-- the task with a job: it is its current one where there is none, and the task is Awake with its word in a0; else it is pending
abbrev pub with_job : Job → Task → Option Job → Task
with_job job task None =
    record task { core = with_word job.word task.core; status = Awake; job = Some job; taken = job.number }
with_job job task (Some current) = record task { pending = task.pending ++ job ∷ []; taken = job.number }

-- the task after a release at a nominal time with a word
abbrev pub after_take : ℕ → ℕ → Task → Task
after_take arrival word task =
    if is_full task then task else with_job (next_job task arrival word) task task.job

-- the task after its current job has ended, by the jobs that are pending: the oldest begins with its word in a0, or the task sleeps
abbrev pub after_jobs : List Job → Task → Task
after_jobs [] task = record task { status = Asleep; job = None }
after_jobs (job ∷ rest) task =
    record task { core = with_word job.word task.core; job = Some job; pending = rest }

abbrev pub after_finish : Task → Task
after_finish task = after_jobs task.pending task

-- the task after it is stopped by a fault: it keeps its jobs
abbrev pub after_stop : Task → Task
after_stop task = record task { status = Stopped }

-- the task after its exit: its jobs are discarded
abbrev pub after_leave : Task → Task
after_leave task = record task { status = Stopped; job = None; pending = [] }

-- the task waits for a semaphore
abbrev pub after_wait : SemId → Task → Task
after_wait s task = record task { status = Waits s }

-- the task tries again: it is Awake at its call
abbrev pub after_awake : Task → Task
after_awake task = record task { status = Awake }

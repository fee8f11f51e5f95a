-- What is kept of each task, and what each call changes: this project's own.
use Rattle.std.specs.Prelude.{ℕ, List, [], ◌∷◌, slice_index_or, slice_set, Option, None, Some, if◌then◌else◌}
use Rattle.em_base.specs.declared.ids.SemId.{SemId}
use Rattle.em_base.specs.declared.jobs.Job.{Job}
use Rattle.em_base.specs.declared.tables.TaskRow.{TaskRow}
use Rattle.em_base.specs.Images.{Labels}
use Rattle.em_threads.specs.declared.threads.Took.{Took}
use Rattle.em_threads.specs.declared.threads.Took.TheVariants.{Started, Pending, Dropped}
use Rattle.em_hart.specs.Hart.{Registers, Memory}
use Rattle.em_gate.specs.Boot.{first_task}
use Rattle.em_gate.specs.State.{Core, Task, no_task}
use Rattle.em_gate.specs.Tasks.{is_full, after_take, after_finish}

-- a task, the semaphore that it promised to take, and the hint that becomes the promise of its next job
pub record Thread : Type 0 where
  pub task : Task
  pub promise : Option SemId
  pub hint : Option SemId

abbrev pub no_thread : Thread
no_thread = record { task = no_task; promise = None; hint = None }

abbrev pub thread_at : List Thread → ℕ → Thread
thread_at threads t = slice_index_or threads t no_thread

-- the thread with its task changed
abbrev pub with_task : (Task → Task) → Thread → Thread
with_task change thread = record thread { task = change thread.task }

-- the threads with that of the task t changed
abbrev pub changed : (Thread → Thread) → ℕ → List Thread → List Thread
changed change t threads = slice_set threads t (change (thread_at threads t))

-- a task before anything has happened
abbrev pub first_thread : ℕ → Labels → TaskRow → Thread
first_thread own labels row = record { task = first_task own labels row; promise = None; hint = None }

-- what becomes of a release of a task
abbrev pub took_by : Option Job → Took
took_by None = Started
took_by (Some job) = Pending

abbrev pub took : Task → Took
took task = if is_full task then Dropped else took_by task.job

-- the promise after a release of a task with this current job: where a job starts it is the kept hint
abbrev pub promise_by : Thread → Option Job → Option SemId
promise_by thread None = thread.hint
promise_by thread (Some job) = thread.promise

abbrev pub promise_after_take : Thread → Option SemId
promise_after_take thread = if is_full thread.task then thread.promise else promise_by thread thread.task.job

-- the thread after a release
abbrev pub taken : ℕ → ℕ → Thread → Thread
taken arrival word thread =
    record { task = after_take arrival word thread.task; promise = promise_after_take thread; hint = thread.hint }

-- the promise after the end of a job with this hint, by the jobs that are pending: where one begins it is the hint
abbrev pub promise_after_finish : Option SemId → Thread → List Job → Option SemId
promise_after_finish hint thread [] = thread.promise
promise_after_finish hint thread (job ∷ rest) = hint

-- the thread after the end of its job
abbrev pub finished : Option SemId → Thread → Thread
finished hint thread = record {
  task = after_finish thread.task;
  promise = promise_after_finish hint thread thread.task.pending;
  hint = hint;
}

-- the thread whose promise has ended
abbrev pub without_promise : Thread → Thread
without_promise thread = record thread { promise = None }

-- the thread with other registers; with another own window
abbrev pub with_registers : Registers → Thread → Thread
with_registers registers thread =
    with_task (λ task. record task { core = record task.core { registers = registers } }) thread

abbrev pub with_own : Memory → Thread → Thread
with_own own thread = with_task (λ task. record task { core = record task.core { own = own } }) thread

-- the thread with another core
abbrev pub with_core : Core → Thread → Thread
with_core core thread = with_task (λ task. record task { core = core }) thread

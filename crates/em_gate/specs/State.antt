-- The states of the two machines. The plain state is what both have; the counted state has the plain one inside it, and what only the
-- counted machine has. This project's own, after the state of a kernel with tasks, semaphores and state messages (EMERALDS).
use Rattle.std.specs.Prelude.{ℕ, List, [], slice_index_or, Option, None}
use Rattle.em_base.specs.declared.events.Timed.{Timed}
use Rattle.em_base.specs.declared.ids.MsgId.{MsgId}
use Rattle.em_base.specs.declared.ids.SemId.{SemId}
use Rattle.em_base.specs.declared.ids.TaskId.{TaskId}
use Rattle.em_base.specs.declared.jobs.Job.{Job}
use Rattle.em_base.specs.declared.jobs.Status.{Status}
use Rattle.em_base.specs.declared.jobs.Status.TheVariants.{Asleep}
use Rattle.em_hart.specs.Hart.{Registers, Memory}
use Rattle.em_ports.specs.Ports.{Places}
use Rattle.em_trace.specs.declared.lines.Line.{Line}

-- the most lines of a trace, and the most pending releases of a task
abbrev pub most_lines : ℕ
most_lines = 1000000

abbrev pub most_pending : ℕ
most_pending = 8

-- what the instructions of a task see of it: its registers with the program counter, and its own window
pub record Core : Type 0 where
  pub registers : Registers
  pub own : Memory

-- a task: its core, its status, its current job, the jobs that are pending, the oldest first, and how many jobs it was given
pub record Task : Type 0 where
  pub core : Core
  pub status : Status
  pub job : Option Job
  pub pending : List Job
  pub taken : ℕ

-- a value of a message: its words
abbrev pub Value : Type 0
Value = List ℕ

-- what both machines have: the tasks; per task the address of the `waitjob` at which its last job ended, and the nominal arrivals of all
-- jobs that it was given; per semaphore its owner; per message the values published, value 0 first; the ports, the shared window, and the
-- lines of the trace so far
pub record Plain : Type 0 where
  pub tasks : List Task
  pub lasts : List (Option ℕ)
  pub arrivals : List (List ℕ)
  pub owners : List (Option TaskId)
  pub values : List (List Value)
  pub ports : Places
  pub shared : Memory
  pub lines : List Line

-- a copy that is under way: of the words of the own window from an address on to a message, or of the noted value of a message to the own
-- window; with the number of words that are done
pub data Copy : Type 0 where
  Writes : MsgId → ℕ → ℕ → Copy
  Reads : MsgId → ℕ → ℕ → ℕ → Copy

-- what the counted machine has: the plain state; per task the semaphore that it promised to take, and the copy under way; per message the
-- number of values whose writing has begun; the events left, the clock in cycles, and the task that ran last
pub record Counted : Type 0 where
  pub plain : Plain
  pub promises : List (Option SemId)
  pub copies : List (Option Copy)
  pub begun : List ℕ
  pub left : List Timed
  pub clock : ℕ
  pub current : Option TaskId

-- ---- parts of a state

-- a task that isn't there
abbrev pub no_task : Task
no_task = record {
  core = record { registers = record { values = []; pc = 0 }; own = record { base = 0; bytes = [] } };
  status = Asleep;
  job = None;
  pending = [];
  taken = 0;
}

abbrev pub task_at : List Task → ℕ → Task
task_at tasks t = slice_index_or tasks t no_task

-- the nominal arrivals of the jobs that a task was given
abbrev pub arrivals_at : List (List ℕ) → ℕ → List ℕ
arrivals_at arrivals t = slice_index_or arrivals t []

-- the values of a message, and one of them by its number
abbrev pub values_at : List (List Value) → ℕ → List Value
values_at values m = slice_index_or values m []

abbrev pub value_at : List (List Value) → ℕ → ℕ → Value
value_at values m number = slice_index_or (values_at values m) number []

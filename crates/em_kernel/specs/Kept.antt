-- What a kernel keeps, and the states that it stands for.
use Rattle.std.specs.Prelude.{◌≡◌, ℕ, ◌+◌, ◌-◌, ◌<◌, List, [], length, map, slice_index_or, Option, Some}
use Rattle.em_base.specs.declared.apps.App.{App}
use Rattle.em_base.specs.declared.events.Timed.{Timed}
use Rattle.em_base.specs.declared.ids.TaskId.{TaskId}
use Rattle.em_hart.specs.Hart.{Memory}
use Rattle.em_ports.specs.Ports.{Places}
use Rattle.em_gate.specs.State.{Copy, Counted, Value, values_at}
use Rattle.em_gate.specs.Selecting.{counted_selected}
use Rattle.em_state.specs.Buffers.{Kept as Buffer, StandsFor}
use Rattle.em_threads.specs.Threads.{Thread}
use Rattle.em_system.specs.Held.{Held, promises_of, tasks_of}

-- what a kernel keeps: its application, the tasks, the owners, the shared window, the buffer of each message, the copy of each task, the
-- events left, the clock, the task that ran last, the number of lines, and the number of switches
pub record Kept : Type 0 where
  pub app : App
  pub threads : List Thread
  pub owners : List (Option TaskId)
  pub shared : Memory
  pub buffers : List Buffer
  pub copies : List (Option Copy)
  pub left : List Timed
  pub clock : ℕ
  pub current : Option TaskId
  pub count : ℕ
  pub switches : ℕ

-- what it holds of the tasks, the semaphores and the shared window
abbrev pub held_by : Kept → Held
held_by kept = record { app = kept.app; threads = kept.threads; owners = kept.owners; shared = kept.shared }

-- more steps than are left to a kernel
abbrev pub kept_fuel : Kept → ℕ
kept_fuel kept = kept.app.table.horizon - kept.clock + length kept.left

-- at the boundary of two steps the selected task, if there is one, is the one that ran last
abbrev pub IsCurrent : Option ℕ → Option TaskId → Type 0
IsCurrent selected current = (t : ℕ) → selected ≡ Some t → current ≡ Some (record { 0 = t })

-- a buffer that isn't there
abbrev pub no_buffer : Buffer
no_buffer = record { words = 0; depth = 0; begun = 0; newest = 0; values = []; draft = []; put = [] }

abbrev pub buffer_at : List Buffer → ℕ → Buffer
buffer_at buffers m = slice_index_or buffers m no_buffer

-- there is a buffer for each message, and it stands for the values that were published
pub record Keep (buffers : List Buffer) (values : List (List Value)) : Type 0 where
  pub count : length values ≡ length buffers
  pub stand : (m : ℕ) → m < length buffers → StandsFor (buffer_at buffers m) (values_at values m)

-- a kernel that keeps this, with these ports, stands for a state: the tasks, the promises, the owners, the shared window, the ports, the
-- copies, the events left, the clock and the task that ran last are its own, it has as many lines, and its buffers stand for the values
-- published and have as many begun. Without hints no step rests on the last `waitjob`s, and none on the arrivals
pub record Stands (kept : Kept) (places : Places) (c : Counted) : Type 0 where
  pub tasks : tasks_of kept.threads ≡ c.plain.tasks
  pub promises : promises_of kept.threads ≡ c.promises
  pub owners : kept.owners ≡ c.plain.owners
  pub shared : kept.shared ≡ c.plain.shared
  pub ports : places ≡ c.plain.ports
  pub copies : kept.copies ≡ c.copies
  pub begun : map (λ buffer. buffer.begun) kept.buffers ≡ c.begun
  pub values : Keep kept.buffers c.plain.values
  pub left : kept.left ≡ c.left
  pub clock : kept.clock ≡ c.clock
  pub current : kept.current ≡ c.current
  pub lines : kept.count ≡ length c.plain.lines
  pub running : IsCurrent (counted_selected kept.app.table.tasks c) c.current

-- What a step of a task comes to, as data: an instruction that is carried out, a fault, or a kernel call with what it is about. It is told by
-- the task, the owners, the table, and a few facts about the others. This project's own.
use Rattle.std.specs.Prelude.{ℕ, ℤ, List, Option, None, Some, is_some}
use Rattle.em_base.specs.declared.ids.TaskId.{TaskId}
use Rattle.em_base.specs.declared.tables.Table.{Table}
use Rattle.em_base.specs.Selection.{owner_at, is_task}
use Rattle.em_hart.specs.declared.answers.Class.{Class}
use Rattle.em_hart.specs.Hart.{Memory}
use Rattle.em_hart.specs.Instruction.{Outcome as Carried, Ran as RanInstruction, Call as CallInstruction, Fault as FaultInstruction, exec}
use Rattle.em_ports.specs.Ports.{port_at}
use Rattle.em_gate.specs.declared.calls.Call.{Call}
use Rattle.em_gate.specs.declared.calls.Call.TheVariants.{WaitJob, Acquire, Release, Out, Write, Read, Signal, Exit, Unknown}
use Rattle.em_gate.specs.State.{Core, Plain, task_at}
use Rattle.em_gate.specs.Tasks.{is_full}
use Rattle.em_gate.specs.Calls.{Known, call_of, refusal, words_of, E_CALL}

-- what a step of a task comes to
pub data Outcome : Type 0 where
  -- an instruction: its class, and the core and the shared window after it
  Works : Class → Core → Memory → Outcome
  -- a fault of this cause: the task is stopped, and what it owns is free
  Falls : ℕ → Outcome
  -- a call that is refused, with its code
  Refuses : ℤ → Outcome
  -- waitjob: the job ends
  Ends : Outcome
  -- acquire: the task owns the semaphore, or waits for it
  Gets : ℕ → Outcome
  Blocks : ℕ → Outcome
  -- release: the semaphore is free
  Frees : ℕ → Outcome
  -- out: a port takes a word
  Puts : ℕ → ℕ → Outcome
  -- write: a message gets so many words of the own window, from an address on
  Publishes : ℕ → ℕ → ℕ → Outcome
  -- read: the newest value of a message goes to the own window, from an address on
  Fetches : ℕ → ℕ → Outcome
  -- signal: another task is given a job with a word
  Signals : ℕ → ℕ → Outcome
  -- exit: the task is stopped
  Leaves : Outcome

-- what is known for the task t in a state
abbrev pub known_at : Plain → ℕ → Known
known_at p t = record {
  owns = λ s. is_task t (owner_at p.owners s);
  plugged = λ port. is_some (port_at p.ports port);
  full = λ u. is_full (task_at p.tasks u);
}

-- an acquire of a semaphore with this owner
abbrev pub acquire_outcome : ℕ → Option TaskId → Outcome
acquire_outcome s None = Gets s
acquire_outcome s (Some u) = Blocks s

-- a call that isn't refused
abbrev pub accepted : Table → List (Option TaskId) → Call → Outcome
accepted table owners WaitJob = Ends
accepted table owners (Acquire s) = acquire_outcome s (owner_at owners s)
accepted table owners (Release s) = Frees s
accepted table owners (Out port word) = Puts port word
accepted table owners (Write m at) = Publishes m at (words_of table m)
accepted table owners (Read m at) = Fetches m at
accepted table owners (Signal u word) = Signals u word
accepted table owners Exit = Leaves
accepted table owners (Unknown number) = Refuses E_CALL

-- a call, by its refusal
abbrev pub call_outcome_by : Table → List (Option TaskId) → Call → Option ℤ → Outcome
call_outcome_by table owners call (Some code) = Refuses code
call_outcome_by table owners call None = accepted table owners call

-- the call of the task t
abbrev pub call_outcome : Table → ℕ → Known → List (Option TaskId) → Core → Outcome
call_outcome table t known owners core =
    call_outcome_by table owners (call_of core.registers) (refusal (call_of core.registers) table t known)

-- a step of the task t, by what its instruction came to
abbrev pub outcome_by : Table → ℕ → Known → List (Option TaskId) → Core → Carried → Outcome
outcome_by table t known owners core (RanInstruction class registers own shared) =
    Works class (record { registers = registers; own = own }) shared
outcome_by table t known owners core CallInstruction = call_outcome table t known owners core
outcome_by table t known owners core (FaultInstruction cause) = Falls cause

-- a step of the task t over the code
abbrev pub outcome : Table → List ℕ → ℕ → Plain → Outcome
outcome table code t p =
    let core : Core = (task_at p.tasks t).core in
    outcome_by table t (known_at p t) p.owners core (exec core.registers core.own p.shared code)

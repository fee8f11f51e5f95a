-- What a step of a task comes to without what it asks of a message: a write or a read that is accepted changes nothing yet.
use Rattle.std.specs.Prelude.{◌≡◌, ℕ, ◌<◌, Bool, true, false, length, if◌then◌else◌}
use Rattle.em_base.specs.declared.ids.TaskId.{TaskId}
use Rattle.em_base.specs.declared.tables.Table.{Table}
use Rattle.em_trace.specs.declared.lines.Line.{Line}
use Rattle.em_trace.specs.declared.lines.Line.TheVariants.{Faulted as FaultedLine}
use Rattle.em_gate.specs.Calls.{is_in_own, reads, words_of, writes}
use Rattle.em_gate.specs.Effects.{after_outcome, least_owned, line_by}
use Rattle.em_gate.specs.Outcome.{Outcome, Works, Falls, Publishes, Fetches}
use Rattle.em_gate.specs.State.{Plain, task_at}
use Rattle.em_system.specs.declared.stepping.Taken.{Taken}
use Rattle.em_system.specs.declared.stepping.Taken.TheVariants.{Ran, Called, Faulted, Asks}
use Rattle.em_system.specs.declared.stepping.Transfer.{Transfer}
use Rattle.em_system.specs.declared.stepping.Transfer.TheVariants.{Write, Read}

-- a message is to be written or read
abbrev pub is_transfer : Outcome → Bool
is_transfer (Publishes m at count) = true
is_transfer (Fetches m at) = true
is_transfer _ = false

-- the state after a step of the task t that comes to an outcome, but for a transfer
abbrev pub after_asking : Outcome → TaskId → Plain → Plain
after_asking o t p = if is_transfer o then p else after_outcome o t p

-- the line of a fault
abbrev pub fault_line : ℕ → TaskId → Plain → Line
fault_line cause t p = FaultedLine t cause (task_at p.tasks t.0).core.registers.pc (least_owned p.owners t.0)

-- what the step is told to be: an instruction of its class; a fault, with its line; a transfer; or a call, with the line that it gives
abbrev pub taken_of : Outcome → TaskId → Plain → Taken
taken_of (Works class core shared) t p = Ran class
taken_of (Falls cause) t p = Faulted (fault_line cause t p)
taken_of (Publishes m at count) t p = Asks (Write (record { 0 = m }) at)
taken_of (Fetches m at) t p = Asks (Read (record { 0 = m }) at)
taken_of o t p = Called (line_by o t (task_at p.tasks t.0) p)

-- the words of a message are inside the own windows from an address on
pub record IsInside (table : Table) (m at : ℕ) : Type 0 where
  pub exists : m < length table.messages
  pub inside : is_in_own table.own (words_of table m) at ≡ true

-- a transfer of the task t that isn't refused: it is the writer, or a reader, of a message that there is
abbrev pub IsGranted : Table → ℕ → Transfer → Type 0
IsGranted table t (Write m at) = IsInside table m.0 at × (writes table t m.0 ≡ true)
IsGranted table t (Read m at) = IsInside table m.0 at × (reads table t m.0 ≡ true)

-- When the reads of a run are whole: each that ended has put one value into the own window of its task, the newest when it began, and its task
-- did nothing else meanwhile. This project's own.
use Rattle.std.specs.Prelude.{◌≡◌, ℕ, suc, ◌<◌, ◌≤◌, Some, None}
use Rattle.em_base.specs.declared.apps.App.{App}
use Rattle.em_base.specs.declared.ids.MsgId.{MsgId}
use Rattle.em_base.specs.declared.ids.TaskId.{TaskId}
use Rattle.em_ports.specs.Ports.{Places}
use Rattle.em_trace.specs.declared.lines.Line.TheVariants.{Get}
use Rattle.em_gate.specs.Effects.{after_answer, newest, with_value}
use Rattle.em_gate.specs.State.{Core, Counted, Reads, task_at, value_at}
use Rattle.em_kernel.specs.declared.did.Did.{Did}
use Rattle.em_kernel.specs.declared.did.StepKind.{StepKind}
use Rattle.em_kernel.specs.declared.did.StepKind.TheVariants.{BeginRead, Copy}
use Rattle.em_kernel.specs.declared.did.What.TheVariants.{Stepped}
use Rattle.em_kernel.specs.Moves.{copy_at}
use Rattle.em_kernel.specs.Run.{counted_boot, state_from}
use Rattle.em_kernel.specs.Step.{step}

-- the state of a run before its step n, counted from 0, and what that step did
abbrev pub state_before : App → Places → ℕ → Counted
state_before app ports n = state_from app n (counted_boot app ports)

abbrev pub did_at : App → Places → ℕ → Did
did_at app ports n = (step app (state_before app ports n)).did

-- the core of the task t before the step n
abbrev pub core_before : App → Places → ℕ → TaskId → Core
core_before app ports n t = (task_at (state_before app ports n).plain.tasks t.0).core

-- the step n puts the last word of a read by the task t of a message, whose words go to the own window from an address on, and which noted this
-- number
pub record EndsRead (app : App) (ports : Places) (n : ℕ) (t : TaskId) (m : MsgId) (at noted : ℕ) : Type 0 where
  pub words : ℕ
  pub under_way : copy_at (state_before app ports n).copies t.0 ≡ Some (Reads m at noted words)
  pub over : copy_at (state_before app ports (suc n)).copies t.0 ≡ None

-- such a read is whole: it began at an earlier step with a line that has the number noted, which was that of the newest value; from there on the
-- task took the steps of this read alone; and its own window has the words of that value, and is as it was else
pub record IsWholeRead (app : App) (ports : Places) (n : ℕ) (t : TaskId) (m : MsgId) (at noted : ℕ) : Type 0 where
  pub first : ℕ
  pub earlier : first < n
  pub begins : (did_at app ports first).what ≡ Stepped t BeginRead
  pub line : (did_at app ports first).line ≡ Some (Get t m noted)
  pub number : noted ≡ newest (state_before app ports first).plain.values m.0
  pub only : (k : ℕ) (kind : StepKind) → first < k → k ≤ n → (did_at app ports k).what ≡ Stepped t kind → kind ≡ Copy
  pub put : let value = value_at (state_before app ports first).plain.values m.0 noted in
      core_before app ports (suc n) t ≡ after_answer 0 (with_value at value (core_before app ports first t))

-- each read of a run that ends is whole
abbrev pub AreReadsWhole : App → Places → Type 0
AreReadsWhole app ports =
    (n : ℕ) (t : TaskId) (m : MsgId) (at noted : ℕ) → EndsRead app ports n t m at noted → IsWholeRead app ports n t m at noted

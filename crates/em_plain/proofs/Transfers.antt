-- What a step is told to be, and the state after it.
use Rattle.std.proofs.Common.{◌≡◌, ◌∙◌, ℕ, false, List, Option, None, Some, sym, ap, subst, refl, cond, ℤ}
use Rattle.std.specs.Bool.{⊤}
use Rattle.em_base.specs.declared.ids.SemId.{SemId}
use Rattle.em_base.specs.declared.ids.TaskId.{TaskId}
use Rattle.em_base.specs.declared.tables.Table.{Table}
use Rattle.em_base.specs.Selection.{owner_at}
use Rattle.em_ports.specs.Ports.{Places}
use Rattle.em_hart.specs.Instruction.{Outcome as Carried, Ran as RanInstruction, Call as CallInstruction, Fault as FaultInstruction, exec}
use Rattle.em_trace.specs.declared.lines.Line.{Line}
use Rattle.em_gate.specs.declared.calls.Call.{Call}
use Rattle.em_gate.specs.declared.calls.Call.TheVariants.{WaitJob, Acquire, Release, Out, Write as WriteCall, Read as ReadCall, Signal, Exit, Unknown}
use Rattle.em_gate.specs.Calls.{call_of, refusal, words_of}
use Rattle.em_gate.specs.Effects.{after_outcome, gives, line_by, ports_after, values_after}
use Rattle.em_gate.specs.Outcome.{Outcome, Works, Falls, Refuses, Ends, Gets, Blocks, Frees, Puts, Publishes, Fetches, Signals, Leaves, accepted, acquire_outcome, call_outcome_by, known_at, outcome, outcome_by}
use Rattle.em_gate.specs.State.{Core, Plain, task_at}
use Rattle.em_plain.specs.Boards.{AreBoards, Posted}
use Rattle.em_system.specs.Asked.{after_asking, is_transfer, taken_of}
use Rattle.em_system.specs.declared.stepping.Taken.{Taken}
use Rattle.em_system.specs.declared.stepping.Taken.TheVariants.{Ran, Called, Faulted, Asks}
use Rattle.em_system.specs.declared.stepping.Transfer.{Transfer}
use Rattle.em_system.specs.declared.stepping.Transfer.TheVariants.{Write, Read}
use Rattle.em_system.specs.Held.{Held, Holds}

-- ---- a step that asks for nothing

-- the state after it is that after its outcome, with the values as before, and it has this line
pub record IsLocal (o : Outcome) (t : TaskId) (p : Plain) (said : Option Line) : Type 0 where
  pub no_transfer : is_transfer o ≡ false
  pub values : (after_outcome o t p).values ≡ p.values
  pub line : said ≡ line_by o t (task_at p.tasks t.0) p

abbrev IsTold : Taken → Outcome → TaskId → Plain → Type 0
IsTold (Ran class) o t p = IsLocal o t p None
IsTold (Called line) o t p = IsLocal o t p line
IsTold (Faulted line) o t p = IsLocal o t p (Some line)
IsTold (Asks transfer) o t p = ⊤

told : (o : Outcome) (t : TaskId) (p : Plain) → IsTold (taken_of o t p) o t p
unfolding line_by gives values_after
told (Works class core shared) t p = record { no_transfer = refl; values = refl; line = refl }
told (Falls cause) t p = record { no_transfer = refl; values = refl; line = refl }
told (Refuses code) t p = record { no_transfer = refl; values = refl; line = refl }
told Ends t p = record { no_transfer = refl; values = refl; line = refl }
told (Gets s) t p = record { no_transfer = refl; values = refl; line = refl }
told (Blocks s) t p = record { no_transfer = refl; values = refl; line = refl }
told (Frees s) t p = record { no_transfer = refl; values = refl; line = refl }
told (Puts port word) t p = record { no_transfer = refl; values = refl; line = refl }
told (Publishes m at count) t p = tt
told (Fetches m at) t p = tt
told (Signals u word) t p = record { no_transfer = refl; values = refl; line = refl }
told Leaves t p = record { no_transfer = refl; values = refl; line = refl }

-- what is told is so
pub told_so : (o : Outcome) (t : TaskId) (p : Plain) (taken : Taken) → taken ≡ taken_of o t p → IsTold taken o t p
told_so o t p taken e = subst (λ k. IsTold k o t p) (sym e) (told o t p)

-- what is held and the boards after a step that asks for nothing
pub stays : (o : Outcome) (t : TaskId) (p : Plain) (held : Held) (promises : List (Option SemId)) (boards : List Posted) (line : Option Line)
    → IsLocal o t p line → Holds held (after_asking o t p) promises → AreBoards boards p.values
    → Holds held (after_outcome o t p) promises × AreBoards boards (after_outcome o t p).values × (line ≡ line_by o t (task_at p.tasks t.0) p)
stays o t p held promises boards line local s are = (
  subst (λ b. Holds held (cond b p (after_outcome o t p)) promises) local.no_transfer s,
  subst (λ values. AreBoards boards values) (sym local.values) are,
  local.line,
)

-- ---- a step that asks

called_or_asked : (line : Option Line) (transfer : Transfer) → Asks transfer ≡ Called line → ⊥
called_or_asked line transfer e = cc

acquire_asks : (s : ℕ) (owner : Option TaskId) (t : TaskId) (p : Plain) (transfer : Transfer) → Asks transfer ≡ taken_of (acquire_outcome s owner) t p → ⊥
acquire_asks s None t p transfer e = called_or_asked _ transfer e
acquire_asks s (Some u) t p transfer e = called_or_asked _ transfer e

-- the outcome that a transfer is told by
abbrev pub transfer_outcome : Table → Transfer → Outcome
transfer_outcome table (Write m at) = Publishes m.0 at (words_of table m.0)
transfer_outcome table (Read m at) = Fetches m.0 at

same_transfer : (one other : Transfer) → Asks one ≡ Asks other → one ≡ other
same_transfer one other e = cc

asked_accepted : (table : Table) (owners : List (Option TaskId)) (call : Call) (t : TaskId) (p : Plain) (transfer : Transfer)
    → Asks transfer ≡ taken_of (accepted table owners call) t p → accepted table owners call ≡ transfer_outcome table transfer
asked_accepted table owners WaitJob t p transfer e = absurd (called_or_asked _ transfer e)
asked_accepted table owners (Acquire s) t p transfer e = absurd (acquire_asks s (owner_at owners s) t p transfer e)
asked_accepted table owners (Release s) t p transfer e = absurd (called_or_asked _ transfer e)
asked_accepted table owners (Out port word) t p transfer e = absurd (called_or_asked _ transfer e)
asked_accepted table owners (WriteCall m at) t p transfer e = ap (transfer_outcome table) (sym (same_transfer transfer (Write (record { 0 = m }) at) e))
asked_accepted table owners (ReadCall m at) t p transfer e = ap (transfer_outcome table) (sym (same_transfer transfer (Read (record { 0 = m }) at) e))
asked_accepted table owners (Signal u word) t p transfer e = absurd (called_or_asked _ transfer e)
asked_accepted table owners Exit t p transfer e = absurd (called_or_asked _ transfer e)
asked_accepted table owners (Unknown number) t p transfer e = absurd (called_or_asked _ transfer e)

asked_call : (table : Table) (owners : List (Option TaskId)) (call : Call) (answer : Option ℤ) (t : TaskId) (p : Plain) (transfer : Transfer)
    → Asks transfer ≡ taken_of (call_outcome_by table owners call answer) t p → call_outcome_by table owners call answer ≡ transfer_outcome table transfer
asked_call table owners call (Some code) t p transfer e = absurd (called_or_asked _ transfer e)
asked_call table owners call None t p transfer e = asked_accepted table owners call t p transfer e

asked_by : (table : Table) (t : TaskId) (p : Plain) (core : Core) (carried : Carried) (transfer : Transfer)
    → Asks transfer ≡ taken_of (outcome_by table t.0 (known_at p t.0) p.owners core carried) t p
    → outcome_by table t.0 (known_at p t.0) p.owners core carried ≡ transfer_outcome table transfer
asked_by table t p core (RanInstruction class registers own shared) transfer e = cc
asked_by table t p core CallInstruction transfer e =
    asked_call table p.owners (call_of core.registers) (refusal (call_of core.registers) table t.0 (known_at p t.0)) t p transfer e
asked_by table t p core (FaultInstruction cause) transfer e = cc

-- the outcome of a step that asks
pub asked_is : (table : Table) (code : List ℕ) (t : TaskId) (p : Plain) (transfer : Transfer) → Asks transfer ≡ taken_of (outcome table code t.0 p) t p
    → outcome table code t.0 p ≡ transfer_outcome table transfer
asked_is table code t p transfer e =
    let core : Core = (task_at p.tasks t.0).core in
    asked_by table t p core (exec core.registers core.own p.shared code) transfer e

-- ---- the ports

ports_by : (o : Outcome) (t : TaskId) (p : Plain) → (cond (is_transfer o) p (after_outcome o t p)).ports ≡ (after_outcome o t p).ports
unfolding gives ports_after
ports_by (Works class core shared) t p = refl
ports_by (Falls cause) t p = refl
ports_by (Refuses code) t p = refl
ports_by Ends t p = refl
ports_by (Gets s) t p = refl
ports_by (Blocks s) t p = refl
ports_by (Frees s) t p = refl
ports_by (Puts port word) t p = refl
ports_by (Publishes m at count) t p = refl
ports_by (Fetches m at) t p = refl
ports_by (Signals u word) t p = refl
ports_by Leaves t p = refl

-- a transfer leaves the ports
pub asking_ports : (o : Outcome) (t : TaskId) (p : Plain) (places : Places) → places ≡ (after_asking o t p).ports → places ≡ (after_outcome o t p).ports
asking_ports o t p places e = e ∙ ports_by o t p

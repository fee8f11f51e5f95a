-- Where the code of the plain machine is, and the states that it stands for.
use Rattle.std.specs.Prelude.{◌≡◌, ℕ, ⊤, true, false, List, Option, Ok, Err}
use Rattle.std.specs.declared.result.Result.{Result}
use Rattle.em_base.specs.declared.events.Event.{Event}
use Rattle.em_base.specs.declared.ids.SemId.{SemId}
use Rattle.em_base.specs.declared.ids.TaskId.{TaskId}
use Rattle.em_ports.specs.Ports.{Places}
use Rattle.em_trace.specs.declared.lines.Line.{Line}
use Rattle.em_gate.specs.Events.{after_event}
use Rattle.em_gate.specs.Selecting.{plain_selected}
use Rattle.em_gate.specs.State.{Plain}
use Rattle.em_system.specs.Held.{Held, Holds}
use Rattle.em_system.specs.Standings.{number_of}
use Rattle.em_plain.specs.declared.machine.Halt.{Halt}
use Rattle.em_plain.specs.declared.machine.Halt.TheVariants.{Full as FullHalt, Misfit as MisfitHalt, NoMemory}
use Rattle.em_plain.specs.Boards.{AreBoards, Posted}
use Rattle.em_plain.specs.Runs.{Went, On, Full, Misfit, is_full, state_of}

-- what the machine has: the tasks, the semaphores and the shared window, the selected task, the boards of the messages, the
-- lines, and how many steps were taken
pub record Reached : Type 0 where
  pub held : Held
  pub selected : Option TaskId
  pub boards : List Posted
  pub lines : List Line
  pub count : ℕ

-- with these ports it stands for a state
pub record IsAt (at : Reached) (places : Places) (p : Plain) : Type 0 where
  pub promises : List (Option SemId)
  pub holds : Holds at.held p promises
  pub ports : places ≡ p.ports
  pub boards : AreBoards at.boards p.values
  pub lines : at.lines ≡ p.lines
  pub selects : number_of at.selected ≡ plain_selected at.held.app.table.tasks p

-- it has gone as far as this, or has stopped there, or memory ran out at one of these parts of the way
abbrev pub HasGone : {A : Type 0} → (A → Went) → Went → Result ⊤ Halt → Reached → Places → Type 0
HasGone part went (Ok done) at places = (p : Plain) × (went ≡ On p at.count) × IsAt at places p
HasGone part went (Err FullHalt) at places = (p : Plain) × (went ≡ Full p at.count) × IsAt at places p
HasGone part went (Err MisfitHalt) at places = (p : Plain) × (went ≡ Misfit p at.count) × IsAt at places p
HasGone {A} part went (Err NoMemory) at places = (k : A) × (places ≡ (state_of (part k)).ports)

-- an event has come, unless the trace is full; or memory ran out for its line
abbrev pub HasTaken : Event → Plain → Result ⊤ Halt → Reached → Places → Type 0
HasTaken event p (Ok done) at places = (is_full p ≡ false) × IsAt at places (after_event event p)
HasTaken event p (Err FullHalt) at places = (is_full p ≡ true) × IsAt at places p
HasTaken event p (Err MisfitHalt) at places = ⊥
HasTaken event p (Err NoMemory) at places = (is_full p ≡ false) × (places ≡ (after_event event p).ports)

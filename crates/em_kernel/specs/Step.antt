-- One step of the counted machine, by its cases with the cause beside each. The costs and the order are this project's own.
use Rattle.std.specs.Prelude.{ℕ, ◌+◌, Bool, false, not, nat_le, List, [], ◌∷◌, length, Option, None, Some, if◌then◌else◌}
use Rattle.em_base.specs.declared.apps.App.{App}
use Rattle.em_base.specs.declared.events.Event.{Event}
use Rattle.em_base.specs.declared.events.Event.TheVariants.{Release, Unplug}
use Rattle.em_base.specs.declared.events.Timed.{Timed}
use Rattle.em_base.specs.declared.ids.MsgId.{MsgId}
use Rattle.em_base.specs.declared.ids.TaskId.{TaskId}
use Rattle.em_base.specs.declared.jobs.Charges.{Charges}
use Rattle.em_base.specs.Selection.{is_task}
use Rattle.em_hart.specs.declared.answers.Class.{Class}
use Rattle.em_hart.specs.declared.answers.Class.TheVariants.{Plain as Registers, Memory}
use Rattle.em_hart.specs.declared.answers.Stepped.{Stepped as Taken}
use Rattle.em_hart.specs.declared.answers.Stepped.TheVariants.{Ran as RanStep, Call as CallStep, Fault as FaultStep}
use Rattle.em_trace.specs.declared.lines.Line.{Line}
use Rattle.em_gate.specs.State.{Counted, most_lines}
use Rattle.em_gate.specs.Events.{after_event, event_line}
use Rattle.em_gate.specs.Selecting.{counted_selected}
use Rattle.em_demand.specs.Charges.{charges_of}
use Rattle.em_kernel.specs.declared.did.Did.{Did}
use Rattle.em_kernel.specs.declared.did.End.{End}
use Rattle.em_kernel.specs.declared.did.End.TheVariants.{Horizon, Quiet, Lines, Lapped}
use Rattle.em_kernel.specs.declared.did.StepKind.{StepKind}
use Rattle.em_kernel.specs.declared.did.StepKind.TheVariants.{Instr, Call, BeginWrite, BeginRead, Copy, Publish, Fault}
use Rattle.em_kernel.specs.declared.did.What.{What}
use Rattle.em_kernel.specs.declared.did.What.TheVariants.{Delivered, Stepped, Idled, Ended}
use Rattle.em_kernel.specs.Moves.{Move, Acts, StartsWrite, TakesWord, EndsWrite, StartsRead, PutsWord, EndsRead, Lapses, after_move, begun_at, move_line, move_of}
use Rattle.em_system.specs.Promises.{promises_after_event}
use Rattle.em_system.specs.Taken.{stepped_of}

-- a step: the state after it, and what it did
pub record Step : Type 0 where
  pub state : Counted
  pub did : Did

-- ---- costs and kinds

-- what the delivery of an event costs
abbrev pub event_charge : Charges → Event → ℕ
event_charge charges (Release t time word) = charges.release
event_charge charges (Unplug port) = 0

-- what an instruction costs
abbrev pub class_charge : Class → ℕ
class_charge Registers = 1
class_charge Memory = 2

-- what a copied word costs
abbrev pub word_charge : ℕ
word_charge = 2

-- what a step costs that begins no copy: an instruction by its class, a call or a fault as a call
abbrev pub charge_by : Charges → Taken → ℕ
charge_by charges (RanStep class) = class_charge class
charge_by charges CallStep = charges.call
charge_by charges (FaultStep cause) = charges.call

-- what a step of a task costs: the beginning of a copy as a call
abbrev pub step_charge : Charges → Move → ℕ
step_charge charges (Acts o) = charge_by charges (stepped_of o)
step_charge charges (StartsWrite m at) = charges.call
step_charge charges (StartsRead m at) = charges.call
step_charge charges (TakesWord m at i) = word_charge
step_charge charges (EndsWrite m at i) = word_charge
step_charge charges (PutsWord m at noted i) = word_charge
step_charge charges (EndsRead m at noted i) = word_charge
step_charge charges (Lapses m noted) = 0

-- what a step was that begins no copy
abbrev pub kind_by : Taken → StepKind
kind_by (RanStep class) = Instr
kind_by CallStep = Call
kind_by (FaultStep cause) = Fault

-- what a step of a task was
abbrev pub kind_of : Move → StepKind
kind_of (Acts o) = kind_by (stepped_of o)
kind_of (StartsWrite m at) = BeginWrite
kind_of (StartsRead m at) = BeginRead
kind_of (TakesWord m at i) = Copy
kind_of (EndsWrite m at i) = Publish
kind_of (PutsWord m at noted i) = Copy
kind_of (EndsRead m at noted i) = Copy
kind_of (Lapses m noted) = Copy

-- ---- the switch

-- a task is selected that isn't the one that ran last
abbrev pub is_switch : Option TaskId → Option ℕ → Bool
is_switch current None = false
is_switch current (Some t) = not (is_task t current)

-- the task that ran last, once another is selected
abbrev pub current_after : Option TaskId → Option ℕ → Option TaskId
current_after current None = current
current_after current (Some t) = Some (record { 0 = t })

-- what a step costs, with its switch where there is one
abbrev pub total_cost : App → Counted → ℕ → ℕ
total_cost app c cost =
    if is_switch c.current (counted_selected app.table.tasks c) then cost + (charges_of app.table).switch else cost

-- after an event or a step of a task, at this cost, the selection is made again
abbrev pub settled : App → Counted → What → Option Line → ℕ → Step
settled app c what line cost = record {
  state = record c {
    clock = c.clock + total_cost app c cost;
    current = current_after c.current (counted_selected app.table.tasks c);
  };
  did = record {
    what = what;
    line = line;
    cost = total_cost app c cost;
    clock = c.clock + total_cost app c cost;
    switched = is_switch c.current (counted_selected app.table.tasks c);
  };
}

-- ---- the cases

-- the run ends
abbrev pub ended : Counted → End → Step
ended c cause = record {
  state = c;
  did = record { what = Ended cause; line = None; cost = 0; clock = c.clock; switched = false };
}

-- the next event is delivered
abbrev pub delivered : App → Counted → Event → List Timed → Step
delivered app c event rest =
    settled app
    (record c {
      plain = after_event event c.plain;
      promises = promises_after_event app event c.plain c.promises;
      left = rest;
    })
    (Delivered event) (event_line event c.plain) (event_charge (charges_of app.table) event)

-- the task t takes a step
abbrev pub stepped : App → Counted → TaskId → Move → Step
stepped app c t move =
    settled app (after_move app move t c) (Stepped t (kind_of move)) (move_line app move t c.plain) (step_charge (charges_of app.table) move)

-- the end of a run where a read of this message that noted this number is due and has lapsed
abbrev pub lapsed : Counted → MsgId → ℕ → End
lapsed c m noted = Lapped m noted (begun_at c.begun m.0)

-- by what the step is: one that has lapsed ends the run, and the clock stays
abbrev pub stepped_by : App → Counted → TaskId → Move → Step
stepped_by app c t (Lapses m noted) = ended c (lapsed c m noted)
stepped_by app c t move = stepped app c t move

abbrev pub ran : App → Counted → TaskId → Step
ran app c t = stepped_by app c t (move_of app c t.0)

-- the clock goes on to the next event
abbrev pub idled : Counted → ℕ → Step
idled c time = record {
  state = record c { clock = time };
  did = record { what = Idled; line = None; cost = 0; clock = time; switched = false };
}

-- no task is selected: by the events that are left
abbrev pub waited : Counted → List Timed → Step
waited c [] = ended c Quiet
waited c (event ∷ rest) = idled c event.time

-- no event is due: by the selected task
abbrev pub chosen : App → Counted → Option ℕ → Step
chosen app c (Some t) = ran app c (record { 0 = t })
chosen app c None = waited c c.left

-- by the events that are left: the next one may be due
abbrev pub next : App → Counted → List Timed → Step
next app c [] = chosen app c (counted_selected app.table.tasks c)
next app c (event ∷ rest) =
    if nat_le event.time c.clock then delivered app c event.event rest
    else chosen app c (counted_selected app.table.tasks c)

-- the next of the events that are left, where it is due
abbrev pub due : ℕ → List Timed → Option Event
due clock [] = None
due clock (event ∷ rest) = if nat_le event.time clock then Some event.event else None

-- one step: the run ends where the clock has reached the horizon, or where the trace is full; else the next event is delivered if its time
-- isn't above the clock; else the selected task takes a step; else the clock goes on to the next event; else the run ends
abbrev pub step : App → Counted → Step
step app c =
    if nat_le app.table.horizon c.clock then ended c Horizon
    else if nat_le most_lines (length c.plain.lines) then ended c Lines
    else next app c c.left

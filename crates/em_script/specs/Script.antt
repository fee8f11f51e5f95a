-- The events of a script, and the first line that is refused: this project's own.
use Rattle.std.specs.Prelude.{◌≡◌, ℕ, ◌+◌, ◌<◌, ◌^◌, ⊤, Bool, true, false, nat_lt, nat_eq, not, if◌then◌else◌, List, [], ◌∷◌, length}
use Rattle.std.specs.Prelude.{Option, Some, None, is_some}
use Rattle.std.specs.List.{filter_map, position}
use Rattle.std.specs.Option.{option_map}
use Rattle.em_base.specs.declared.events.Event.{Event}
use Rattle.em_base.specs.declared.events.Event.TheVariants.{Release, Unplug}
use Rattle.em_base.specs.declared.events.Timed.{Timed}
use Rattle.em_base.specs.declared.refusals.Fail.{Fail}
use Rattle.em_base.specs.declared.refusals.Fail.TheVariants.{Refused, NoMemory}
use Rattle.em_base.specs.declared.refusals.Refusal.{Refusal}
use Rattle.em_base.specs.declared.tables.TaskRow.{TaskRow}
use Rattle.em_base.specs.Events.{most_events}
use Rattle.em_base.specs.FirstFault.{AreClear, NamesFirst, by_test}
use Rattle.em_script.specs.declared.faults.Fault.{Fault}
use Rattle.em_script.specs.declared.faults.Fault.TheVariants.{Form, TimeFalls, NoTask, TooMany}
use Rattle.em_script.specs.declared.lines.Meaning.{Meaning}
use Rattle.em_script.specs.declared.lines.Meaning.TheVariants.{Nothing, Interrupt, Unplugged}
use Rattle.em_script.specs.Lines.{meaning_of}

-- ---- the events

-- whether the interrupt line of a task, where it has one, is this line
abbrev pub has_line : ℕ → Option ℕ → Bool
has_line line None = false
has_line line (Some other) = nat_eq line other

-- the place of the task with an interrupt line, counted from 0
abbrev pub task_with_line : List TaskRow → ℕ → Option ℕ
task_with_line rows line = position (λ row. has_line line row.line) rows

-- the event that a line tells of, by what the line says
abbrev pub event_of : List TaskRow → Meaning → Option Timed
event_of rows Nothing = None
event_of rows (Interrupt time line word) =
    option_map (λ task. record { time = time; event = Release (record { 0 = task }) time word }) (task_with_line rows line)
event_of rows (Unplugged time port) = Some (record { time = time; event = Unplug (record { 0 = port }) })

-- the same, where the line may be no line of a script
abbrev pub event_in : List TaskRow → Option Meaning → Option Timed
event_in rows None = None
event_in rows (Some meaning) = event_of rows meaning

-- the events that lines tell of, in order
abbrev pub events_of : List TaskRow → List (List ℕ) → List Timed
events_of rows lines = filter_map (λ line. event_in rows (meaning_of line)) lines

-- the arrival and the word of a release are numbers of 32 bits
abbrev pub IsInWords : Event → Type 0
IsInWords (Release task arrival word) = (arrival < 2 ^ 32) × (word < 2 ^ 32)
IsInWords (Unplug port) = ⊤

-- so they are in an event at a time
abbrev pub HasWords : Timed → Type 0
HasWords timed = IsInWords timed.event

-- ---- what is refused

-- the code of a fault
abbrev pub code_of : Fault → ℕ
code_of Form = 30
code_of TimeFalls = 31
code_of NoTask = 32
code_of TooMany = 33

-- the time of the last of the events, 0 where there is none
unfoldable pub last_time : List Timed → ℕ
last_time [] = 0
last_time (event ∷ []) = event.time
last_time (event ∷ next ∷ events) = last_time (next ∷ events)

-- the fault of an event at a time, with a task or without one, given the events before it: tested in this order
abbrev pub event_fault : List Timed → ℕ → Bool → Option Fault
event_fault before time has_task =
    if nat_lt time (last_time before) then Some TimeFalls
    else if not has_task then Some NoTask
    else if not (nat_lt (length before) most_events) then Some TooMany
    else None

-- the fault of a line by what it says, given the events before it
abbrev pub meaning_fault : List TaskRow → List Timed → Option Meaning → Option Fault
meaning_fault rows before None = Some Form
meaning_fault rows before (Some Nothing) = None
meaning_fault rows before (Some (Interrupt time line word)) =
    event_fault before time (is_some (task_with_line rows line))
meaning_fault rows before (Some (Unplugged time port)) = event_fault before time true

-- the fault of a line, given the lines before it
abbrev pub line_fault : List TaskRow → List (List ℕ) → List ℕ → Option Fault
line_fault rows before line = meaning_fault rows (events_of rows before) (meaning_of line)

-- the refusal names the first line with a fault, where the first of the lines is line `first` of the whole input
abbrev pub IsScriptRefused : ℕ → List TaskRow → List (List ℕ) → Refusal → Type 0
IsScriptRefused first rows lines refusal =
    NamesFirst (by_test (line_fault rows)) code_of (λ place. first + place) lines refusal

-- running out of memory needs no cause
abbrev pub IsScriptFail : ℕ → List TaskRow → List (List ℕ) → Fail → Type 0
IsScriptFail first rows lines (Refused refusal) = IsScriptRefused first rows lines refusal
IsScriptFail first rows lines NoMemory = ⊤

-- the lines are those of a script with these events
pub record IsScriptOf (rows : List TaskRow) (lines : List (List ℕ)) (events : List Timed) : Type 0 where
  pub clear : AreClear (by_test (line_fault rows)) lines (length lines)
  pub same : events ≡ events_of rows lines

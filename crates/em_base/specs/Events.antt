-- What holds of the events from outside: this project's own.
use Rattle.std.specs.Prelude.{ℕ, ◌<◌, ◌≤◌, ◌^◌, ◌≡◌, ⊤, List, [], ◌∷◌, length, slice_index_or, All, Some}
use Rattle.em_base.specs.declared.events.Event.{Event}
use Rattle.em_base.specs.declared.events.Event.TheVariants.{Release, Unplug}
use Rattle.em_base.specs.declared.events.Timed.{Timed}
use Rattle.em_base.specs.declared.ids.TaskId.{TaskId}
use Rattle.em_base.specs.declared.tables.TaskRow.{TaskRow}

-- the most events of a script
abbrev pub most_events : ℕ
most_events = 100000

-- the number is that of a task with an interrupt line
abbrev pub HasLine : List TaskRow → TaskId → Type 0
HasLine rows task =
    (row : TaskRow) × (task.0 < length rows) × (row ≡ slice_index_or rows task.0 row) × ((line : ℕ) × (row.line ≡ Some line))

-- the event may happen at a time: a release arrives then, and its task has a line; a port has a number below 8
abbrev pub IsEventAt : List TaskRow → ℕ → Event → Type 0
IsEventAt rows time (Release task arrival word) = HasLine rows task × (arrival ≡ time)
IsEventAt rows time (Unplug port) = port.0 < 8

-- the times don't fall, from the least that there may be
abbrev pub AreInOrder : ℕ → List Timed → Type 0
AreInOrder least [] = ⊤
AreInOrder least (event ∷ events) = (least ≤ event.time) × AreInOrder event.time events

-- the times are numbers of 32 bits
abbrev pub AreEarly : List Timed → Type 0
AreEarly events = All (λ event. event.time < 2 ^ 32) events

-- the script of a table with these tasks
pub record IsScript (rows : List TaskRow) (events : List Timed) : Type 0 where
  pub few : length events ≤ most_events
  pub possible : All (λ event. IsEventAt rows event.time event.event) events
  pub ordered : AreInOrder 0 events

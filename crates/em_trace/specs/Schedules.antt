-- Schedules: what may stand in one, its text, and the lines of which it is read. The format is this project's own.
use Rattle.std.specs.Prelude.{◌≡◌, ℕ, ◌<◌, ◌≤◌, List, [], ◌∷◌, ◌++◌, map, codes}
use Rattle.std.specs.List.{flat_map, join_with_byte}
use Rattle.std.specs.Fmt.{decimal}
use Rattle.em_base.specs.declared.events.Event.{Event}
use Rattle.em_base.specs.declared.events.Event.TheVariants.{Release, Unplug}
use Rattle.em_base.specs.declared.events.Schedule.{Schedule}
use Rattle.em_trace.specs.Printed.{IsByte, IsWord}

-- ---- the text

-- the words of the line of an event, by the number of steps before it
abbrev pub event_words : ℕ → Event → List (List ℕ)
event_words count (Release task time word) = decimal count ∷ codes "rel" ∷ decimal task.0 ∷ decimal time ∷ decimal word ∷ []
event_words count (Unplug port) = decimal count ∷ codes "unplug" ∷ decimal port.0 ∷ []

-- the words of the last line, by the number of steps in all
abbrev pub end_words : ℕ → List (List ℕ)
end_words last = decimal last ∷ codes "end" ∷ []

-- the text of the line of an event, and of the last line: the words with one space between them
abbrev pub event_text : ℕ × Event → List ℕ
event_text event = join_with_byte 32 (event_words event.0 event.1)

abbrev pub end_text : ℕ → List ℕ
end_text last = join_with_byte 32 (end_words last)

-- the lines of these events, in order, and then the last line
abbrev pub lines_of : List (ℕ × Event) → ℕ → List (List ℕ)
lines_of events last = map event_text events ++ end_text last ∷ []

-- the lines of a schedule
abbrev pub schedule_lines : Schedule → List (List ℕ)
schedule_lines schedule = lines_of schedule.events schedule.last

-- the text of a schedule: its lines, each followed by a line feed
abbrev pub schedule_text : Schedule → List ℕ
schedule_text schedule = flat_map (λ line. line ++ codes "\n") (schedule_lines schedule)

-- ---- what may stand in a schedule

-- the most steps that a schedule may count
abbrev pub most_steps : ℕ
most_steps = 100000000

-- a number of steps
abbrev pub IsSteps : ℕ → Type 0
IsSteps count = count ≤ most_steps

-- how many ports there are
abbrev pub ports : ℕ
ports = 8

-- the event may come where there are so many tasks: its task is one of these, by a number of 8 bits, or its port is one; times and words
-- have 32 bits
abbrev pub IsEvent : ℕ → Event → Type 0
IsEvent tasks (Release task time word) = IsByte task.0 × (task.0 < tasks) × IsWord time × IsWord word
IsEvent tasks (Unplug port) = port.0 < ports

-- it may come after an event, or a start, with this count
abbrev pub IsNext : ℕ → ℕ → ℕ × Event → Type 0
IsNext tasks least event = (least ≤ event.0) × IsSteps event.0 × IsEvent tasks event.1

-- so many steps in all may be there after an event with this count
abbrev pub IsLast : ℕ → ℕ → Type 0
IsLast least last = (least ≤ last) × IsSteps last

-- each event may come after the one before it, and the end after the last event; before the first event the count is this
abbrev pub AreEvents : ℕ → ℕ → List (ℕ × Event) → ℕ → Type 0
AreEvents tasks least [] last = IsLast least last
AreEvents tasks least (event ∷ events) last = IsNext tasks least event × AreEvents tasks event.0 events last

-- the schedule is one for so many tasks: its counts don't fall, and its numbers are within their limits
abbrev pub IsSchedule : ℕ → Schedule → Type 0
IsSchedule tasks schedule = AreEvents tasks 0 schedule.events schedule.last

-- ---- what lines are those of a schedule

-- the lines are those of this schedule, which is one for so many tasks
pub record IsScheduleOf (tasks : ℕ) (lines : List (List ℕ)) (schedule : Schedule) : Type 0 where
  pub spelled : schedule_lines schedule ≡ lines
  pub valid : IsSchedule tasks schedule

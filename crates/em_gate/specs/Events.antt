-- What happens from outside: the events of an application in order, and what each changes. This project's own.
use Rattle.std.specs.Prelude.{ℕ, ◌+◌, ◌-◌, ◌*◌, ◌==◌, List, [], ◌++◌, map, filter, flat_map, Option, None, Some, if◌then◌else◌}
use Rattle.std.specs.Int.{div_ceil}
use Rattle.std.specs.List.{range_with_len}
use Rattle.std.specs.Option.{option_map}
use Rattle.em_base.specs.declared.apps.App.{App}
use Rattle.em_base.specs.declared.events.Event.{Event}
use Rattle.em_base.specs.declared.events.Event.TheVariants.{Release, Unplug}
use Rattle.em_base.specs.declared.events.Timed.{Timed}
use Rattle.em_base.specs.declared.ids.TaskId.{TaskId}
use Rattle.em_base.specs.declared.ids.PortId.{PortId}
use Rattle.em_base.specs.declared.tables.Kind.{Kind}
use Rattle.em_base.specs.declared.tables.Kind.TheVariants.{Timer, Line, Background}
use Rattle.em_base.specs.declared.tables.Table.{Table}
use Rattle.em_base.specs.declared.tables.TaskRow.{TaskRow}
use Rattle.em_base.specs.Keys.{numbered}
use Rattle.em_ports.specs.Ports.{port_at, value_of, after_unplug}
use Rattle.em_trace.specs.declared.lines.Line.{Line as TraceLine}
use Rattle.em_trace.specs.declared.lines.Line.TheVariants.{Rel, Dropped, Gone}
use Rattle.em_gate.specs.State.{Plain, Task, task_at}
use Rattle.em_gate.specs.Tasks.{is_full}
use Rattle.em_gate.specs.Effects.{given, option_list}

-- ---- the events of an application

-- a timer's release of a task at a time, with the word 0
abbrev pub timer_release : ℕ → ℕ → Timed
timer_release t time = record { time = time; event = Release (record { 0 = t }) time 0 }

-- the times of a timer below the horizon: its phase, and one period more each time
abbrev pub timer_times : ℕ → ℕ → Option ℕ → List ℕ
timer_times horizon phase None = []
timer_times horizon phase (Some period) = map (λ k. phase + k * period) (range_with_len 0 (div_ceil (horizon - phase) period))

-- the releases of a task by a timer
abbrev pub releases_by : Kind → ℕ → ℕ × TaskRow → List Timed
releases_by Timer horizon task = map (timer_release task.0) (timer_times horizon task.1.phase task.1.period)
releases_by Line horizon task = []
releases_by Background horizon task = []

-- the releases by timers, task by task
abbrev pub timer_releases : Table → List Timed
timer_releases table = flat_map (λ task. releases_by task.1.kind table.horizon task) (numbered table.tasks)

-- those at a time
abbrev pub at_time : ℕ → List Timed → List Timed
at_time time events = filter (λ event. event.time == time) events

-- the events below a horizon, time by time, those of one time in the order that they have
abbrev pub in_order : ℕ → List Timed → List Timed
in_order horizon events = flat_map (λ time. at_time time events) (range_with_len 0 horizon)

-- the events of an application: the timers' releases and the script's events below the horizon, by time; at one time the timers' first, by
-- the number of the task, then the script's in their order
abbrev pub events_of : App → List Timed
events_of app = in_order app.table.horizon (timer_releases app.table ++ app.script)

-- ---- what an event changes

-- the line of a release
abbrev pub release_line : TaskId → ℕ → ℕ → Task → TraceLine
release_line t time word task = if is_full task then Dropped t time else Rel t (task.taken + 1) time word

-- the line of an unplugging: the value that the port showed, or none where it was unplugged already
abbrev pub unplug_line : PortId → Option ℕ → Option TraceLine
unplug_line port value = option_map (λ shown. Gone port shown) value

-- the line that an event gives
abbrev pub event_line : Event → Plain → Option TraceLine
event_line (Release t time word) p = Some (release_line t time word (task_at p.tasks t.0))
event_line (Unplug port) p = unplug_line port (value_of (port_at p.ports port.0))

-- the state after an event, without its line
abbrev pub after_happening : Event → Plain → Plain
after_happening (Release t time word) p = given t.0 time word p
after_happening (Unplug port) p = record p { ports = after_unplug p.ports port.0 }

-- the state after an event
abbrev pub after_event : Event → Plain → Plain
after_event event p =
    record (after_happening event p) { lines = p.lines ++ option_list (event_line event p) }

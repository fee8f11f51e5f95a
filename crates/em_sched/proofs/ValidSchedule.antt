-- The schedule of a run is a valid one: the numbers of its events are within their limits, and no count is above the last.
use Rattle.std.proofs.Common.{ℕ, zero, suc, ◌+◌, ◌^◌, ◌<◌, ◌≤◌, ◌==◌, Bool, List, [], ◌∷◌, ◌++◌, length, get_or, subst, arith}
use Rattle.std.specs.List.{All, enumerate_from, flat_map, range_with_len}
use Rattle.std.proofs.lemmas.Bool.{eqb-true}
use Rattle.std.proofs.lemmas.List.Elements.{All-append, All-filter, All-head, All-map, All-nil, All-tail, All-weaker, filter_passes}
use Rattle.em_base.specs.declared.apps.App.{App}
use Rattle.em_base.specs.declared.events.Event.{Event}
use Rattle.em_base.specs.declared.events.Event.TheVariants.{Release, Unplug}
use Rattle.em_base.specs.declared.events.Schedule.{Schedule}
use Rattle.em_base.specs.declared.events.Timed.{Timed}
use Rattle.em_base.specs.declared.tables.Kind.{Kind}
use Rattle.em_base.specs.declared.tables.Kind.TheVariants.{Timer, Line, Background}
use Rattle.em_base.specs.declared.tables.TaskRow.{TaskRow}
use Rattle.em_base.specs.Tables.{IsTable}
use Rattle.em_base.specs.Events.{IsEventAt, IsScript}
use Rattle.em_script.specs.Script.{HasWords, IsInWords}
use Rattle.em_trace.specs.Schedules.{AreEvents, IsEvent, IsSchedule, most_steps}
use Rattle.em_gate.specs.Events.{at_time, events_of, in_order, releases_by, timer_release, timer_releases, timer_times}
use Rattle.em_sched.specs.Traces.{AreFirstOf, IsRising, events_put}

-- ---- the events of an application

-- what holds of each event before a time, of so many events, holds of each that stands at one of the times before it
times_all : (P : Timed → Type 0) (a n : ℕ) (events : List Timed) → All (λ event. event.time < a + n → P event) events
    → All P (flat_map (λ time. at_time time events) (range_with_len a n))
times_all P a zero events h = All-nil P
times_all P a (suc n) events h =
    let early : Timed → Type 0 = λ event. event.time < a + suc n → P event in
    let later : Timed → Type 0 = λ event. event.time < a + 1 + n → P event in
    let here : Timed → Bool = λ event. event.time == a in
    All-append P (at_time a events) (flat_map (λ time. at_time time events) (range_with_len (a + 1) n))
    (λ i d less.
    let same = eqb-true (get_or (at_time a events) i d).time a (filter_passes here events i d less) in
    All-filter here early events h i d less (omega (arith, same)))
    (times_all P (a + 1) n events (All-weaker early later (λ event holds less. holds (omega (arith, less))) events h))

-- it is enough that it holds of those below the horizon
in_order_all : (P : Timed → Type 0) (horizon : ℕ) (events : List Timed) → All (λ event. event.time < horizon → P event) events → All P (in_order horizon events)
in_order_all P horizon events h =
    times_all P 0 horizon events (All-weaker (λ event. event.time < horizon → P event) (λ event. event.time < 0 + horizon → P event) (λ event holds less. holds (omega (arith, less))) events h)

-- an event that may stand in a schedule for so many tasks, if it comes before the horizon
abbrev MayStand : ℕ → ℕ → Timed → Type 0
MayStand horizon tasks timed = timed.time < horizon → IsEvent tasks timed.event

releases_stand : (kind : Kind) (horizon tasks n : ℕ) (row : TaskRow) → n < tasks → tasks ≤ 32 → horizon ≤ 2 ^ 32
    → All (MayStand horizon tasks) (releases_by kind horizon (n, row))
releases_stand Timer horizon tasks n row exists few low =
    All-map (MayStand horizon tasks) (timer_release n) (timer_times horizon row.phase row.period)
    (λ i d inside early. (omega (arith, exists, few), exists, omega (arith, early, low), omega arith))
releases_stand Line horizon tasks n row exists few low = All-nil (MayStand horizon tasks)
releases_stand Background horizon tasks n row exists few low = All-nil (MayStand horizon tasks)

timers_stand : (horizon tasks n : ℕ) (rows : List TaskRow) → n + length rows ≤ tasks → tasks ≤ 32 → horizon ≤ 2 ^ 32
    → All (MayStand horizon tasks) (flat_map (λ task. releases_by task.1.kind horizon task) (enumerate_from n rows))
timers_stand horizon tasks n [] exist few low = All-nil (MayStand horizon tasks)
timers_stand horizon tasks n (row ∷ rows) exist few low =
    All-append (MayStand horizon tasks) (releases_by row.kind horizon (n, row)) (flat_map (λ task. releases_by task.1.kind horizon task) (enumerate_from (n + 1) rows))
    (releases_stand row.kind horizon tasks n row (omega arith) few low) (timers_stand horizon tasks (n + 1) rows (omega arith) few low)

script_event : (rows : List TaskRow) (time : ℕ) (event : Event) → length rows ≤ 32 → IsEventAt rows time event → IsInWords event → IsEvent (length rows) event
script_event rows time (Release task arrival word) few at words = (omega (arith, at.0.1, few), at.0.1, words.0, words.1)
script_event rows time (Unplug port) few at words = at

-- each event of an application may stand in a schedule
events_stand : (app : App) → IsTable app.table → IsScript app.table.tasks app.script → All HasWords app.script → All (λ timed. IsEvent (length app.table.tasks) timed.event) (events_of app)
events_stand app is script words =
    let tasks = length app.table.tasks in
    let horizon = app.table.horizon in
    in_order_all (λ timed. IsEvent tasks timed.event) horizon (timer_releases app.table ++ app.script)
    (All-append (MayStand horizon tasks) (timer_releases app.table) app.script
    (timers_stand horizon tasks 0 app.table.tasks (omega arith) is.count.1 (omega (arith, is.horizon.1)))
    (λ i d less early. script_event app.table.tasks (get_or app.script i d).time (get_or app.script i d).event is.count.1 (script.possible i d less) (words i d less)))

-- ---- the schedule

rising_least : (least : ℕ) (events : List (ℕ × Event)) (last : ℕ) → IsRising least events last → least ≤ last
rising_least least [] last h = h
rising_least least (event ∷ events) last h = omega (arith, h.0, rising_least event.0 events last h.1)

-- events that may stand in a schedule, and whose counts don't fall, with others after them
first_stand : (tasks least : ℕ) (events : List (ℕ × Event)) (last : ℕ) (rest : List Event) → IsRising least events last → last ≤ most_steps
    → All (IsEvent tasks) (events_put events ++ rest) → AreEvents tasks least events last
first_stand tasks least [] last rest rising few stand = (rising, few)
first_stand tasks least (event ∷ events) last rest rising few stand =
    let below = rising_least event.0 events last rising.1 in (
      (rising.0, omega (arith, below, few), All-head (IsEvent tasks) event.1 (events_put events ++ rest) stand),
      first_stand tasks event.0 events last rest rising.1 few (All-tail (IsEvent tasks) event.1 (events_put events ++ rest) stand),
    )

-- a schedule of the first events of an application, whose counts don't fall
pub first_valid : (app : App) (schedule : Schedule) → IsTable app.table → IsScript app.table.tasks app.script → All HasWords app.script → AreFirstOf app schedule
    → IsRising 0 schedule.events schedule.last
    → schedule.last ≤ most_steps → IsSchedule (length app.table.tasks) schedule
first_valid app schedule is script words (rest, same) rising few =
    let tasks = length app.table.tasks in
    first_stand tasks 0 schedule.events schedule.last rest rising few
    (subst (All (IsEvent tasks)) same (All-map (IsEvent tasks) (λ timed. timed.event) (events_of app) (events_stand app is script words)))

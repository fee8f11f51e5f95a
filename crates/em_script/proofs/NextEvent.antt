-- The event of a line without a fault may follow the events before it: it isn't earlier, and there aren't too many.
use Rattle.std.proofs.Common.{◌≡◌, ℕ, ◌<◌, ◌≤◌, Bool, true, false, not, nat_lt, is_some, List, length, Option, Some, None, refl, sym, ap, arith, if◌then◌else◌}
use Rattle.std.proofs.lemmas.Bool.Decides.{nat_tests}
use Rattle.std.specs.Option.{option_map}
use Rattle.em_base.specs.declared.events.Event.TheVariants.{Release, Unplug}
use Rattle.em_base.specs.declared.events.Timed.{Timed}
use Rattle.em_base.specs.declared.tables.TaskRow.{TaskRow}
use Rattle.em_base.specs.Events.{most_events}
use Rattle.em_script.specs.declared.faults.Fault.TheVariants.{TimeFalls, NoTask, TooMany}
use Rattle.em_script.specs.declared.lines.Meaning.{Meaning}
use Rattle.em_script.specs.declared.lines.Meaning.TheVariants.{Nothing, Interrupt, Unplugged}
use Rattle.em_script.specs.Script.{event_fault, event_in, last_time, meaning_fault, task_with_line}

-- the event may follow those before it
pub record IsNext (before : List Timed) (event : Timed) : Type 0 where
  pub late : last_time before ≤ event.time
  pub few : length before < most_events

event_fault-next : (before : List Timed) (event : Timed) (time : ℕ) (has_task : Bool) → event_fault before time has_task ≡ None
    → event.time ≡ time → IsNext before event
event_fault-next before event time has_task none e = by_time (nat_lt time (last_time before)) refl none
  where
    by_count : last_time before ≤ time → (few : Bool) → nat_lt (length before) most_events ≡ few → (if not few then Some TooMany else None) ≡ None
        → IsNext before event
    by_count late true t k =
        let few : length before < most_events = grind (arith, nat_tests) in
        record { late = omega arith; few = few }
    by_count late false t k = absurd (cc)

    by_task : last_time before ≤ time → (b : Bool) → (if not b then Some NoTask else if not (nat_lt (length before) most_events) then Some TooMany else None) ≡ None
        → IsNext before event
    by_task late true k = by_count late (nat_lt (length before) most_events) refl k
    by_task late false k = absurd (cc)

    by_time : (falls : Bool) → nat_lt time (last_time before) ≡ falls
        → (if falls then Some TimeFalls else if not has_task then Some NoTask else if not (nat_lt (length before) most_events) then Some TooMany else None) ≡ None
        → IsNext before event
    by_time true t k = absurd (cc)
    by_time false t k =
        let late : last_time before ≤ time = grind (arith, nat_tests) in
        by_task late has_task k

release-next : (before : List Timed) (time word : ℕ) (event : Timed) (found : Option ℕ)
    → option_map (λ task. (let t : Timed = record { time = time; event = Release (record { 0 = task }) time word } in t)) found ≡ Some event
    → event_fault before time (is_some found) ≡ None → IsNext before event
release-next before time word event None e none = absurd (cc)
release-next before time word event (Some task) e none =
    let release : Timed = record { time = time; event = Release (record { 0 = task }) time word } in
    let same : release ≡ event = cc in
    event_fault-next before event time true none (ap (λ t. t.time) (sym same))

-- the event of what a line says may follow, where the line has no fault
pub meaning_fault-next : (rows : List TaskRow) (before : List Timed) (found : Option Meaning) (event : Timed) → event_in rows found ≡ Some event
    → meaning_fault rows before found ≡ None → IsNext before event
meaning_fault-next rows before None event e none = absurd (cc)
meaning_fault-next rows before (Some Nothing) event e none = absurd (cc)
meaning_fault-next rows before (Some (Interrupt time line word)) event e none = release-next before time word event (task_with_line rows line) e none
meaning_fault-next rows before (Some (Unplugged time port)) event e none =
    let unplugged : Timed = record { time = time; event = Unplug (record { 0 = port }) } in
    let same : unplugged ≡ event = cc in
    event_fault-next before event time true none (ap (λ t. t.time) (sym same))

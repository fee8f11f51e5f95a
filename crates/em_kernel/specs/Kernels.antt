-- What is always so of a kernel.
use Rattle.std.specs.Prelude.{◌≡◌, ℕ, ◌+◌, ◌<◌, ◌≤◌, List, All, length}
use Rattle.em_base.specs.declared.events.Timed.{Timed}
use Rattle.em_base.specs.declared.jobs.Charges.{Charges}
use Rattle.em_demand.specs.Charges.{charges_of}
use Rattle.em_kernel.specs.declared.meter.Meter.{Meter}
use Rattle.em_kernel.specs.Kept.{IsCurrent}
use Rattle.em_system.specs.Held.{Held, selected_of, tasks_of}
use Rattle.em_system.specs.Possible.{IsPossible}
use Rattle.em_system.specs.Sound.{IsSound}
use Rattle.em_system.specs.Standings.{number_of}

-- charges that are small numbers
pub record AreCheap (charges : Charges) : Type 0 where
  pub call : charges.call ≤ 52
  pub release : charges.release ≤ 62
  pub switch : charges.switch ≤ 46
  pub costly : 10 ≤ charges.switch
  pub charged : 1 ≤ charges.call

-- the charges are the table's; the events left can be delivered; the selected task is the one that the definition selects, and is the one
-- that ran last; the tasks are sound, by the events and the cycles that have passed; and no count is near the last number there is
pub record IsKernel (held : Held) (charges : Charges) (events : List Timed) (at : ℕ) (meter : Meter) : Type 0 where
  pub charged : charges ≡ charges_of held.app.table
  pub cheap : AreCheap charges
  pub horizon : held.app.table.horizon ≤ 20000000
  pub within : at ≤ length events
  pub few : length events ≤ 300000
  pub timely : All (λ event. event.time < held.app.table.horizon) events
  pub possible : All (λ event. IsPossible (length held.app.table.tasks) event.event) events
  pub selects : number_of meter.selected ≡ selected_of held
  pub runs : IsCurrent (number_of meter.selected) meter.current
  pub sound : All (IsSound (at + meter.clock)) (tasks_of held.threads)
  pub early : meter.clock ≤ 20000200
  pub short : meter.count ≤ 1000001
  pub switched : meter.switches ≤ meter.clock

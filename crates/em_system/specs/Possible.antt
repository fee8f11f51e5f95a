-- What events a kernel with so many tasks can take: this project's own.
use Rattle.std.specs.Prelude.{ℕ, ◌<◌, ◌^◌}
use Rattle.em_base.specs.declared.events.Event.{Event}
use Rattle.em_base.specs.declared.events.Event.TheVariants.{Release, Unplug}

-- a release names one of the tasks, and its nominal time is far from the last number there is; an unplugging one of the 8 ports
abbrev pub IsPossible : ℕ → Event → Type 0
IsPossible tasks (Release task time word) = (task.0 < tasks) × (time < 2 ^ 63)
IsPossible tasks (Unplug port) = port.0 < 8

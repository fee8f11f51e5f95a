-- What the kernel counts, and what it is after a step at a cost.
use Rattle.std.specs.Prelude.{ℕ, ◌+◌, Bool, Option, None, Some, if◌then◌else◌}
use Rattle.em_base.specs.declared.ids.TaskId.{TaskId}
use Rattle.em_trace.specs.declared.lines.Line.{Line}
use Rattle.em_kernel.specs.declared.did.Did.{Did}
use Rattle.em_kernel.specs.declared.did.What.{What}
use Rattle.em_kernel.specs.declared.meter.Meter.{Meter}
use Rattle.em_system.specs.Standings.{number_of}
use Rattle.em_kernel.specs.Step.{is_switch, current_after}

-- a number, and one more where there is a line
abbrev pub with_one : ℕ → Option Line → ℕ
with_one count None = count
with_one count (Some line) = count + 1

-- a cost, with its switch where there is one
abbrev pub with_switch : Bool → ℕ → ℕ → ℕ
with_switch switched cost switch = if switched then cost + switch else cost

-- after a step at a cost, once this task is selected
abbrev pub metered : Meter → Option TaskId → Option Line → ℕ → ℕ → Meter
metered meter selected line cost switch = record {
  clock = meter.clock + with_switch (is_switch meter.current (number_of selected)) cost switch;
  current = current_after meter.current (number_of selected);
  selected = selected;
  count = with_one meter.count line;
  switches = if is_switch meter.current (number_of selected) then meter.switches + 1 else meter.switches;
}

-- after a step at a cost that changes no selection
abbrev pub passed : Meter → Option Line → ℕ → Meter
passed meter line cost = record meter { clock = meter.clock + cost; count = with_one meter.count line }

-- before anything has happened
abbrev pub metered_boot : Meter
metered_boot = record { clock = 0; current = None; selected = None; count = 0; switches = 0 }

-- what a step did
abbrev pub did_of : What → Option Line → ℕ → ℕ → Bool → Did
did_of what line cost clock switched = record { what = what; line = line; cost = cost; clock = clock; switched = switched }

-- what is told of a step at a cost, once this task is selected
abbrev pub told : Meter → Option TaskId → What → Option Line → ℕ → ℕ → Did
told meter selected what line cost switch =
    let switched = is_switch meter.current (number_of selected) in
    did_of what line (with_switch switched cost switch) (meter.clock + with_switch switched cost switch) switched

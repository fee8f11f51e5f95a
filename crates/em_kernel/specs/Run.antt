-- A run of the counted machine: its steps from the boot to the one that ends it.
use Rattle.std.specs.Prelude.{ℕ, zero, suc, ◌+◌, ◌-◌, Bool, true, false, List, [], ◌∷◌, length, replicate, None, if◌then◌else◌}
use Rattle.em_base.specs.declared.apps.App.{App}
use Rattle.em_ports.specs.Ports.{Places}
use Rattle.em_gate.specs.State.{Counted}
use Rattle.em_gate.specs.Boot.{boot}
use Rattle.em_gate.specs.Events.{events_of}
use Rattle.em_kernel.specs.declared.did.Did.{Did}
use Rattle.em_kernel.specs.declared.did.What.{What}
use Rattle.em_kernel.specs.declared.did.What.TheVariants.{Delivered, Stepped, Idled, Ended}
use Rattle.em_kernel.specs.Step.{step}

-- the counted machine before anything has happened, with these ports
abbrev pub counted_boot : App → Places → Counted
counted_boot app ports = record {
  plain = boot app ports;
  promises = replicate (length app.table.tasks) None;
  copies = replicate (length app.table.tasks) None;
  begun = replicate (length app.table.messages) 0;
  left = events_of app;
  clock = 0;
  current = None;
}

abbrev pub is_end : What → Bool
is_end (Delivered event) = false
is_end (Stepped t kind) = false
is_end Idled = false
is_end (Ended cause) = true

-- the steps from a state to the one that ends the run, at most so many
unfoldable pub steps_from : App → ℕ → Counted → List Did
steps_from app zero c = []
steps_from app (suc n) c =
    if is_end (step app c).did.what then (step app c).did ∷ [] else (step app c).did ∷ steps_from app n (step app c).state

-- the state after at most so many steps, none of them after the run has ended
unfoldable pub state_from : App → ℕ → Counted → Counted
state_from app zero c = c
state_from app (suc n) c =
    if is_end (step app c).did.what then (step app c).state else state_from app n (step app c).state

-- more steps than a run from a state takes: each step but the last raises the clock or takes an event
abbrev pub fuel : App → Counted → ℕ
fuel app c = suc (app.table.horizon - c.clock + length c.left)

-- the steps of the run of an application with these ports, and its last state
abbrev pub run_steps : App → Places → List Did
run_steps app ports = steps_from app (fuel app (counted_boot app ports)) (counted_boot app ports)

abbrev pub run_end : App → Places → Counted
run_end app ports = state_from app (fuel app (counted_boot app ports)) (counted_boot app ports)

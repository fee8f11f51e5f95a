use Rattle.std.proofs.Common.{◌≡◌, map}
use Rattle.std.specs.Option.{option_map}
use Rattle.em_gate.specs.State.{Counted}
use Rattle.em_kernel.specs.Kept.{Stands, kept_fuel}
use Rattle.em_run.proofs.Counting.{Goes}
use Rattle.em_run.proofs.running.run_counted.Given as goal

-- the run has come to a state that the kernel stands for now, with the lines so far, and the counter has seen its steps
abbrev pub invariant-steps : goal.invariant-steps
invariant-steps g l =
    let before = map (option_map (λ b. record {
      kind = (goal.Port-dyn g (b.vtable, b.value)).kind_of b.value;
      value = (goal.Port-dyn g (b.vtable, b.value)).shown_value b.value;
    })) l.fn.ports.slots.items in
    let now = map (option_map (λ b. record {
      kind = (goal.Port-dyn g (b.vtable, b.value)).kind_of b.value;
      value = (goal.Port-dyn g (b.vtable, b.value)).shown_value b.value;
    })) l.ports.slots.items in
    (l.kernel.app ≡ l.app)
    × ((c : Counted) × Stands l.kernel now c × Goes l.app before l.lines l.kernel.switches c l.counter l.kernel)

abbrev pub decreases-steps : goal.decreases-steps
decreases-steps g l = kept_fuel l.kernel

use Rattle.std.proofs.Common.{◌-◌, map}
use Rattle.std.specs.Option.{option_map}
use Rattle.em_plain.proofs.Advance.{Advancing}
use Rattle.em_plain.proofs.machine.Machine.advance.Given as goal

-- the machine is on its way to the count
abbrev pub invariant-loop-self : goal.invariant-loop-self
invariant-loop-self g l =
    let before = map (option_map (λ b. record {
      kind = (goal.Port-dyn g (b.vtable, b.value)).kind_of b.value;
      value = (goal.Port-dyn g (b.vtable, b.value)).shown_value b.value;
    })) l.fn.ports.slots.items in
    let now = map (option_map (λ b. record {
      kind = (goal.Port-dyn g (b.vtable, b.value)).kind_of b.value;
      value = (goal.Port-dyn g (b.vtable, b.value)).shown_value b.value;
    })) l.ports.slots.items in
    Advancing l.fn.self before l.count l.self now

abbrev pub decreases-loop-self : goal.decreases-loop-self
decreases-loop-self g l = l.count - l.self.count

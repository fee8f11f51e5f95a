use Rattle.std.proofs.Common.{◌≡◌, map, length, Some}
use Rattle.std.specs.Option.{option_map}
use Rattle.em_ports.specs.Ports.{Places}
use Rattle.em_ports.proofs.places.plug_all.Given as goal

-- the boxes that were taken stand in the places so far, in order
abbrev pub invariant-loop-port : goal.invariant-loop-port
invariant-loop-port g l =
    let plugged : Places = map (λ b. Some (record {
      kind = (goal.Port-dyn g (b.vtable, b.value)).kind_of b.value;
      value = (goal.Port-dyn g (b.vtable, b.value)).shown_value b.value;
    })) l.yielded in
    record {
      places : plugged ≡ map (option_map (λ b. record {
        kind = (goal.Port-dyn g (b.vtable, b.value)).kind_of b.value;
        value = (goal.Port-dyn g (b.vtable, b.value)).shown_value b.value;
      })) l.slots.items;
      count : length l.slots.items ≡ length l.yielded;
    }

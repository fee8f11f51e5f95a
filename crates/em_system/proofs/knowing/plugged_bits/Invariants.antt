use Rattle.std.proofs.Common.{◌≡◌, ◌<◌, ◌^◌, ℕ, ◌&&◌, nat_lt, map, is_some}
use Rattle.std.specs.Option.{option_map}
use Rattle.em_ports.specs.Ports.{Places, port_at}
use Rattle.em_gate.specs.Calls.{has_bit}
use Rattle.em_system.proofs.knowing.plugged_bits.Given as goal

-- the bits before p tell which ports are plugged in, and no later one is set
abbrev pub invariant-loop-p : goal.invariant-loop-p
invariant-loop-p g l =
    let seen : Places = map (option_map (λ b. record {
      kind = (goal.Port-dyn g (b.vtable, b.value)).kind_of b.value;
      value = (goal.Port-dyn g (b.vtable, b.value)).shown_value b.value;
    })) l.ports.slots.items in
    record {
      bits : (r : ℕ) → has_bit l.bits r ≡ (nat_lt r l.p && is_some (port_at seen r));
      within : l.bits < 2 ^ 8;
    }

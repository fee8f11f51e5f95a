use Rattle.std.proofs.Common.{◌∙◌, ◌&&◌, ◌||◌, ◌==◌, map, is_some, sym, ap, arith}
use Rattle.em_gate.specs.Calls.{has_bit}
use Rattle.std.specs.Option.{option_map}
use Rattle.em_ports.specs.Ports.{Places, port_at}
use Rattle.em_system.proofs.Flags.{more_members}
use Rattle.em_system.proofs.knowing.plugged_bits.Goals as goal

pub loop-p-preserved : goal.loop-p-preserved
loop-p-preserved g c =
    let seen : Places = map (option_map (λ b. record {
      kind = (goal.Port-dyn g (b.vtable, b.value)).kind_of b.value;
      value = (goal.Port-dyn g (b.vtable, b.value)).shown_value b.value;
    })) c.args.ports.now.slots.items in
    let p = c.loop-p.p in
    record {
      bits = λ r.
          c.with_bit_if-bits.ensures.bits r
          ∙ ap (λ b. (b && (r == p)) || has_bit c.loop-p.bits r) c.is_plugged.ensures
          ∙ ap (λ b. (is_some (port_at seen p) && (r == p)) || b) (c.loop-p.invariant.bits r)
          ∙ more_members (is_some (port_at seen p)) (is_some (port_at seen r)) r p (λ e. ap (λ k. is_some (port_at seen k)) (sym e));
      within = c.with_bit_if-bits.ensures.within 8 (omega (arith, c.loop-p-test.true)) c.loop-p.invariant.within;
    }

use Rattle.std.proofs.Common.{map}
use Rattle.std.specs.Option.{option_map}
use Rattle.em_plain.proofs.Follow.{Following}
use Rattle.em_plain.proofs.running.follow.Given as goal

-- the events so far have come
abbrev pub invariant-loop-count : goal.invariant-loop-count
invariant-loop-count g l =
    let before = map (option_map (λ b. record {
      kind = (goal.Port-dyn g (b.vtable, b.value)).kind_of b.value;
      value = (goal.Port-dyn g (b.vtable, b.value)).shown_value b.value;
    })) l.fn.ports.slots.items in
    let now = map (option_map (λ b. record {
      kind = (goal.Port-dyn g (b.vtable, b.value)).kind_of b.value;
      value = (goal.Port-dyn g (b.vtable, b.value)).shown_value b.value;
    })) l.ports.slots.items in
    Following l.fn.machine before l.schedule l.count-index l.machine now

use Rattle.std.proofs.Common.{◌≡◌, ◌++◌, nat_lt, take}
use Rattle.std.specs.List.{filter}
use Rattle.em_kernel.proofs.events.push_script.Given as goal

-- those of the events so far that are below the horizon stand at the end
abbrev pub invariant-loop-event : goal.invariant-loop-event
invariant-loop-event l =
    l.events.items ≡ l.initial.events.items ++ filter (λ event. nat_lt event.time l.horizon) (take l.event-index l.script)

use Rattle.std.proofs.Common.{◌≡◌, ◌+◌, ◌*◌, ◌++◌, map}
use Rattle.std.specs.List.{range_with_len}
use Rattle.em_gate.specs.Events.{timer_release}
use Rattle.em_kernel.proofs.events.push_times.Given as goal

-- the first k releases stand at the end
abbrev pub invariant-loop-k : goal.invariant-loop-k
invariant-loop-k l =
    l.events.items ≡ l.initial.events.items ++ map (timer_release l.task.0) (map (λ k. l.phase + k * l.period) (range_with_len 0 l.k))

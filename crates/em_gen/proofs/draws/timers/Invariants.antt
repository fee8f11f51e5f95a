use Rattle.std.proofs.Common.{◌≡◌, ◌-◌, ◌++◌}
use Rattle.em_gen.specs.Workload.{draws, tasks_from, timers}
use Rattle.em_gen.proofs.draws.timers.Given as goal

-- the tasks so far, and those that the draws to come give, are all the tasks
abbrev pub invariant-loop-number : goal.invariant-loop-number
invariant-loop-number l = timers l.fn.n ≡ l.tasks.items ++ tasks_from l.number (draws l.numbers.last (15 - l.number))

use Rattle.std.proofs.Common.{◌≡◌, map, take}
use Rattle.em_threads.specs.Threads as spec
use Rattle.em_threads.proofs.threads.Threads.new.Given as goal

-- the rows so far have their threads
abbrev pub invariant-loop-row : goal.invariant-loop-row
invariant-loop-row l = l.threads.items ≡ map (spec.first_thread l.app.table.own l.app.image.labels) (take l.row-index l.app.table.tasks)

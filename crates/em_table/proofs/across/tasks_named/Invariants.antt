use Rattle.std.proofs.Common.{◌≡◌, map, drop, ◌++◌}
use Rattle.em_base.specs.Text.{texts_of}
use Rattle.em_table.specs.Tests.{task_named}
use Rattle.em_table.proofs.across.tasks_named.Given as goal

abbrev pub invariant-loop-name : goal.invariant-loop-name
invariant-loop-name l =
    map (task_named l.rows) (texts_of l.names) ≡ l.found ++ map (task_named l.rows) (texts_of (drop l.name-index l.names))

use Rattle.std.proofs.Common.{◌≡◌, map, drop, ◌++◌}
use Rattle.em_table.specs.Reading.{message_in}
use Rattle.em_table.specs.Tests.{message_row}
use Rattle.em_table.proofs.across.message_rows.Given as goal

abbrev pub invariant-loop-message : goal.invariant-loop-message
invariant-loop-message l =
    map (message_row l.rows) (map message_in l.messages)
    ≡ l.found ++ map (message_row l.rows) (map message_in (drop l.message-index l.messages))

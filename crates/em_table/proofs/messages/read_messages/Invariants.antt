use Rattle.std.proofs.Common.{◌≡◌, map, drop, ◌++◌}
use Rattle.em_table.specs.Faults.{first_of}
use Rattle.em_table.specs.Reading.{groups_of, message_in}
use Rattle.em_table.specs.Tests.{message_fault, message_of}
use Rattle.em_table.proofs.messages.read_messages.Given as goal

abbrev pub invariant-loop-message : goal.invariant-loop-message
invariant-loop-message l = record {
  faults : first_of (map message_fault (groups_of l.messages))
      ≡ first_of (map message_fault (groups_of (drop l.message-index l.messages)));
  same : map message_of (groups_of l.messages)
      ≡ map message_in l.drafts ++ map message_of (groups_of (drop l.message-index l.messages));
}

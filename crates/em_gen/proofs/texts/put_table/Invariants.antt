use Rattle.std.proofs.Common.{◌≡◌, ◌++◌, drop, string_bytes}
use Rattle.std.specs.List.{flat_map}
use Rattle.em_gen.specs.Workload.{background_text, table_text, timer_text}
use Rattle.em_gen.proofs.texts.put_table.Given as goal

-- the text so far, the lines of the tasks that are left and those of the last task are the table, after what stood there
abbrev pub invariant-loop-task : goal.invariant-loop-task
invariant-loop-task l =
    string_bytes l.fn.text ++ table_text l.timers
    ≡ string_bytes l.text ++ flat_map timer_text (drop l.task-index l.timers) ++ background_text

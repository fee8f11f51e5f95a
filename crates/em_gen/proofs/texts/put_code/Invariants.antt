use Rattle.std.proofs.Common.{◌≡◌, ◌++◌, drop, string_bytes}
use Rattle.std.specs.List.{flat_map}
use Rattle.em_gen.specs.Workload.{code_text, program_text}
use Rattle.em_gen.proofs.texts.put_code.Given as goal

-- the text so far and the code of the tasks that are left and of the last one are the code, after what stood there
abbrev pub invariant-loop-task : goal.invariant-loop-task
invariant-loop-task l =
    string_bytes l.fn.text ++ code_text l.timers
    ≡ string_bytes l.text ++ flat_map (λ task. program_text task.number task.rounds) (drop l.task-index l.timers) ++ program_text 15 40

-- Words in the own windows of tasks.
use Rattle.std.specs.Prelude.{ℕ, ◌+◌, ◌-◌, ◌*◌, List, [], ◌∷◌}
use Rattle.em_hart.specs.Hart.{number_in_bytes}
use Rattle.em_gate.specs.Effects.{with_core, with_words}
use Rattle.em_gate.specs.State.{Core, Value, task_at}
use Rattle.em_threads.specs.Threads.{Thread, changed, with_task}
use Rattle.em_system.specs.Held.{Held, tasks_of}

-- the word i of those that stand in the own window from an address on
abbrev pub own_word : Core → ℕ → ℕ → ℕ
own_word core at i = number_in_bytes core.own.bytes 4 (at - core.own.base + 4 * i)

-- the core with words in its own window in place of those from the word i on of those that stand there from an address on
abbrev pub with_words_from : ℕ → ℕ → Value → Core → Core
with_words_from at i words core =
    record core { own = record core.own { bytes = with_words core.own.bytes (at - core.own.base + 4 * i) words } }

-- the core of a task that is held
abbrev pub core_in : List Thread → ℕ → Core
core_in threads t = (task_at (tasks_of threads) t).core

-- what is held after the task t has such a word in its own window
abbrev pub held_word_put : ℕ → ℕ → ℕ → ℕ → Held → Held
held_word_put t at i word held =
    record held { threads = changed (with_task (λ task. with_core (with_words_from at i (word ∷ []) task.core) task)) t held.threads }

-- What is held after a value was put into an own window.
use Rattle.std.specs.Prelude.{ℕ}
use Rattle.em_gate.specs.Effects.{with_core, with_value}
use Rattle.em_gate.specs.State.{Task, Value}
use Rattle.em_threads.specs.Threads.{changed, with_task}
use Rattle.em_system.specs.Held.{Held}

-- a task with a value in its own window from an address on
abbrev pub given_words : ℕ → Value → Task → Task
given_words at value task = with_core (with_value at value task.core) task

-- what is held after the task t has the value in its own window
abbrev pub held_words_put : ℕ → ℕ → Value → Held → Held
held_words_put t at value held = record held { threads = changed (with_task (given_words at value)) t held.threads }

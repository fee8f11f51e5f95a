-- What a system holds of the tasks, the semaphores and the shared window, and the plain states that it stands for.
use Rattle.std.specs.Prelude.{◌≡◌, ℕ, ◌==◌, Bool, false, List, [], All, length, map, replicate, slice_index_or, slice_set, Option, None, Some}
use Rattle.em_base.specs.declared.apps.App.{App}
use Rattle.em_base.specs.declared.ids.SemId.{SemId}
use Rattle.em_base.specs.declared.ids.TaskId.{TaskId}
use Rattle.em_base.specs.Apps.{IsApp}
use Rattle.em_base.specs.Selection.{is_task, owner_at, selected}
use Rattle.em_hart.specs.Hart.{Memory, shared_base}
use Rattle.em_gate.specs.Boot.{shared_length, window}
use Rattle.em_gate.specs.Selecting.{scene_in}
use Rattle.em_gate.specs.State.{Plain, Task}
use Rattle.em_gate.specs.Tasks.{after_leave, after_stop, after_wait}
use Rattle.em_gate.specs.Effects.{after_answer, after_call, with_core, without, woken}
use Rattle.em_threads.specs.Threads.{Thread, changed, finished, first_thread, taken, with_task, without_promise}
use Rattle.em_system.specs.declared.selection.Rank.{Rank}
use Rattle.em_system.specs.declared.selection.Standing.{Standing}
use Rattle.em_system.specs.Standings.{ranks_of}

-- what is held
pub record Held : Type 0 where
  pub app : App
  pub threads : List Thread
  pub owners : List (Option TaskId)
  pub shared : Memory

-- the tasks that are held, and their promises
abbrev pub tasks_of : List Thread → List Task
tasks_of threads = map (λ thread. thread.task) threads

abbrev pub promises_of : List Thread → List (Option SemId)
promises_of threads = map (λ thread. thread.promise) threads

-- the selected task of what is held
abbrev pub selected_of : Held → Option ℕ
selected_of held = selected (scene_in held.app.table.tasks (tasks_of held.threads) (promises_of held.threads) held.owners)

-- what is always so of it. By now no task has a promise or a hint, since no hints are supported
pub record IsHeld (app : App) (ranks : List Rank) (standings : List Standing) (threads : List Thread) (owners : List (Option TaskId)) (shared : Memory) : Type 0 where
  pub whole : IsApp app
  pub hints : app.hints.hints ≡ []
  pub ranked : ranks ≡ ranks_of app.table.tasks
  pub seen : length standings ≡ length app.table.tasks
  pub all : length threads ≡ length app.table.tasks
  pub semaphores : length owners ≡ app.table.semaphores
  pub based : shared.base ≡ shared_base
  pub bare : All (λ thread. (thread.promise ≡ None) × (thread.hint ≡ None)) threads
  pub windows : All (λ thread. length thread.task.core.own.bytes ≡ app.table.own) threads

-- what is held before anything has happened
abbrev pub held_boot : App → Held
held_boot app = record {
  app = app;
  threads = map (first_thread app.table.own app.image.labels) app.table.tasks;
  owners = replicate app.table.semaphores None;
  shared = window shared_base app.image.shared (shared_length app);
}

-- it stands for a plain state with promises
pub record Holds (held : Held) (p : Plain) (promises : List (Option SemId)) : Type 0 where
  pub tasks : tasks_of held.threads ≡ p.tasks
  pub promised : promises_of held.threads ≡ promises
  pub owners : held.owners ≡ p.owners
  pub shared : held.shared ≡ p.shared

-- ---- what steps change of it

-- a task whose call has this answer
abbrev pub answered : ℕ → Task → Task
answered answer task = with_core (after_answer answer task.core) task

-- a task whose call is over, without an answer
abbrev pub passed : Task → Task
passed task = with_core (after_call task.core) task

-- the threads after these semaphores were freed
abbrev pub woken_threads : (ℕ → Bool) → List Thread → List Thread
woken_threads free threads = map (with_task (woken free)) threads

-- the call of the task t has an answer
abbrev pub held_answered : ℕ → ℕ → Held → Held
held_answered t answer held = record held { threads = changed (with_task (answered answer)) t held.threads }

-- the task t owns the semaphore s, and its promise has ended
abbrev pub held_got : TaskId → ℕ → Held → Held
held_got t s held = record held {
  threads = changed (with_task (answered 0)) t.0 (changed without_promise t.0 held.threads);
  owners = slice_set held.owners s (Some t);
}

-- the task t waits for the semaphore s
abbrev pub held_blocked : ℕ → SemId → Held → Held
held_blocked t s held = record held { threads = changed (with_task (after_wait s)) t held.threads }

-- the semaphore s is free
abbrev pub held_freed : ℕ → ℕ → Held → Held
held_freed t s held = record held {
  threads = woken_threads (λ r. r == s) (changed (with_task (answered 0)) t held.threads);
  owners = slice_set held.owners s None;
}

-- the task t is at the instruction after its call
abbrev pub held_passed : ℕ → Held → Held
held_passed t held = record held { threads = changed (with_task passed) t held.threads }

-- the job of the task t has ended
abbrev pub held_ended : ℕ → Held → Held
held_ended t held = record held { threads = changed (finished None) t (changed (with_task passed) t held.threads) }

-- the task t has given the task u a job
abbrev pub held_signalled : ℕ → ℕ → ℕ → Held → Held
held_signalled t u word held =
    record held { threads = changed (taken 0 word) u (changed (with_task (answered 0)) t held.threads) }

-- the task t has left
abbrev pub held_left : ℕ → Held → Held
held_left t held = record held { threads = changed (with_task after_leave) t held.threads }

-- tasks that wait for any of these semaphores try again
abbrev pub held_woken : (ℕ → Bool) → Held → Held
held_woken free held = record held { threads = woken_threads free held.threads }

-- the task t is stopped, and owns nothing
abbrev pub held_stopped : ℕ → Held → Held
held_stopped t held = record held {
  threads = changed (with_task after_stop) t held.threads;
  owners = map (without t) held.owners;
}

-- the task t is stopped by a fault
abbrev pub held_fallen : ℕ → Held → Held
held_fallen t held = record held {
  threads = woken_threads (λ r. is_task t (owner_at held.owners r)) (changed (with_task after_stop) t held.threads);
  owners = map (without t) held.owners;
}

-- the task u was released at a nominal time with a word
abbrev pub held_given : ℕ → ℕ → ℕ → Held → Held
held_given u arrival word held = record held { threads = changed (taken arrival word) u held.threads }

-- ---- sets of semaphores

-- whether a semaphore is in a set, by flags
abbrev pub has_flag : List Bool → ℕ → Bool
has_flag flags s = slice_index_or flags s false

-- What is held stands for the state after each kind of step.
use Rattle.std.proofs.Common.{◌≡◌, ◌∙◌, ℕ, ◌<◌, Bool, false, List, [], ◌∷◌, length, map, slice_set, Option, None, Some, is_some, sym, ap, refl, cond}
use Rattle.std.proofs.lemmas.List.{map-set, get_or-map, set-get_or}
use Rattle.em_base.specs.declared.jobs.Status.{Status}
use Rattle.em_base.specs.declared.jobs.Status.TheVariants.{Asleep, Awake, Waits, Stopped}
use Rattle.em_gate.specs.State.{Plain, Task, no_task, task_at}
use Rattle.em_gate.specs.Effects.{tasks_after, frees, own_after, woken, woken_by}
use Rattle.em_gate.specs.Outcome.{Outcome}
use Rattle.em_ports.specs.Ports.{Plugged, value_of}
use Rattle.em_threads.specs.Threads.{Thread, no_thread, thread_at, changed, with_task}
use Rattle.em_system.specs.Held.{tasks_of, promises_of}
use Rattle.em_system.specs.Held.{woken_threads}

-- the task of a thread
pub task_of_thread : (threads : List Thread) (t : ℕ) → t < length threads → task_at (tasks_of threads) t ≡ (thread_at threads t).task
task_of_thread threads t h = get_or-map (λ thread. thread.task) threads t no_thread no_task h

-- the tasks after one thread was changed
pub tasks_changed : (f : Thread → Thread) (t : ℕ) (threads : List Thread) → tasks_of (changed f t threads) ≡ slice_set (tasks_of threads) t (f (thread_at threads t)).task
tasks_changed f t threads = map-set (λ thread. thread.task) threads t (f (thread_at threads t))

-- the promises after one thread was changed
pub promises_changed : (f : Thread → Thread) (t : ℕ) (threads : List Thread) → promises_of (changed f t threads) ≡ slice_set (promises_of threads) t (f (thread_at threads t)).promise
promises_changed f t threads = map-set (λ thread. thread.promise) threads t (f (thread_at threads t))

-- a change of a task alone leaves the promises
pub promises_same : (f : Task → Task) (t : ℕ) (threads : List Thread) → t < length threads → promises_of (changed (with_task f) t threads) ≡ promises_of threads
promises_same f t threads h =
    promises_changed (with_task f) t threads
    ∙ ap (λ promise. slice_set (promises_of threads) t promise) (sym (get_or-map (λ thread. thread.promise) threads t no_thread None h))
    ∙ set-get_or (promises_of threads) t None

not_woken : (free : ℕ → Bool) → ((r : ℕ) → free r ≡ false) → (task : Task) (status : Status) → woken_by free task status ≡ task
not_woken free none task Asleep = refl
not_woken free none task Awake = refl
not_woken free none task (Waits s) = ap (λ b. cond b (record task { status = Awake }) task) (none s.0)
not_woken free none task Stopped = refl

-- where nothing is freed no task is woken
pub none_woken : (free : ℕ → Bool) → ((r : ℕ) → free r ≡ false) → (tasks : List Task) → map (woken free) tasks ≡ tasks
none_woken free none [] = refl
none_woken free none (task ∷ tasks) =
    ap (λ k. k ∷ map (woken free) tasks) (not_woken free none task task.status) ∙ ap (λ rest. task ∷ rest) (none_woken free none tasks)

-- the tasks after threads were woken
pub tasks_woken : (free : ℕ → Bool) (threads : List Thread) → tasks_of (woken_threads free threads) ≡ map (woken free) (tasks_of threads)
tasks_woken free [] = refl
tasks_woken free (thread ∷ threads) = ap (λ rest. woken free thread.task ∷ rest) (tasks_woken free threads)

-- and their promises stay
pub promises_woken : (free : ℕ → Bool) (threads : List Thread) → promises_of (woken_threads free threads) ≡ promises_of threads
promises_woken free [] = refl
promises_woken free (thread ∷ threads) = ap (λ rest. thread.promise ∷ rest) (promises_woken free threads)

-- the tasks after one is changed
pub own_tasks : (f : Task → Task) (t : ℕ) (p : Plain) (threads : List Thread) → tasks_of threads ≡ p.tasks → t < length threads
    → tasks_of (changed (with_task f) t threads) ≡ slice_set p.tasks t (f (task_at p.tasks t))
own_tasks f t p threads e h =
    tasks_changed (with_task f) t threads
    ∙ ap (λ task. slice_set (tasks_of threads) t (f task)) (sym (task_of_thread threads t h))
    ∙ ap (λ tasks. slice_set tasks t (f (task_at tasks t))) e

-- the tasks after a step that changes its own task alone
pub own_step_by : (o : Outcome) (t : ℕ) (p : Plain) (f : Thread → Thread) (g : Task → Task) (threads : List Thread) → tasks_of threads ≡ p.tasks
    → t < length threads → ((r : ℕ) → frees o t p.owners r ≡ false) → ((task : Task) → own_after o p task ≡ g task)
    → ((thread : Thread) → (f thread).task ≡ g thread.task)
    → tasks_of (changed f t threads) ≡ tasks_after o t p
own_step_by o t p f g threads e h none is same =
    tasks_changed f t threads
    ∙ ap (λ task. slice_set (tasks_of threads) t task) (same (thread_at threads t))
    ∙ ap (λ task. slice_set (tasks_of threads) t (g task)) (sym (task_of_thread threads t h))
    ∙ ap (λ tasks. slice_set tasks t (g (task_at tasks t))) e
    ∙ ap (λ task. slice_set p.tasks t task) (sym (is (task_at p.tasks t)))
    ∙ sym (none_woken (frees o t p.owners) none (slice_set p.tasks t (own_after o p (task_at p.tasks t))))

-- the same, where a task alone changes
pub own_step : (o : Outcome) (t : ℕ) (p : Plain) (f : Task → Task) (threads : List Thread) → tasks_of threads ≡ p.tasks → t < length threads
    → ((r : ℕ) → frees o t p.owners r ≡ false) → ((task : Task) → own_after o p task ≡ f task)
    → tasks_of (changed (with_task f) t threads) ≡ tasks_after o t p
own_step o t p f threads e h none is = own_step_by o t p (with_task f) f threads e h none is (λ thread. refl)

-- a port shows a value where it is plugged in
pub shown_where_plugged : (place : Option Plugged) → is_some (value_of place) ≡ is_some place
shown_where_plugged None = refl
shown_where_plugged (Some port) = refl

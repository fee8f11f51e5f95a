-- What is held stands for the state after a step, by what the step comes to.
use Rattle.std.proofs.Common.{◌≡◌, ◌∙◌, ℕ, ◌<◌, ◌==◌, Bool, true, false, List, [], ◌∷◌, length, map, slice_set, All, Option, None, Some, sym, ap, subst, refl, cond, ℤ}
use Rattle.std.proofs.lemmas.List.{get_or-map, set-get_or, length-set}
use Rattle.std.proofs.lemmas.List.Elements.{All-set}
use Rattle.std.specs.Int.{cast_unsigned, w32}
use Rattle.std.specs.Map.{lookup}
use Rattle.em_base.specs.declared.apps.App.{App}
use Rattle.em_base.specs.declared.ids.SemId.{SemId}
use Rattle.em_base.specs.declared.ids.TaskId.{TaskId}
use Rattle.em_base.specs.declared.jobs.Job.{Job}
use Rattle.em_base.specs.Selection.{is_task, owner_at}
use Rattle.em_hart.specs.declared.answers.Class.{Class}
use Rattle.em_hart.specs.Hart.{Memory}
use Rattle.em_gate.specs.State.{Core, Plain, task_at}
use Rattle.em_gate.specs.Tasks.{after_finish, after_leave, after_stop, after_wait, after_take, is_full}
use Rattle.em_gate.specs.Effects.{frees, own_after, owners_after, shared_after, gives, woken, without, with_core, after_outcome, given}
use Rattle.em_gate.specs.Outcome.{Works, Falls, Refuses, Ends, Gets, Blocks, Frees, Puts, Signals, Leaves}
use Rattle.em_threads.specs.Threads.{Thread, no_thread, thread_at, changed, with_task, without_promise, finished, taken, promise_by, promise_after_take, promise_after_finish}
use Rattle.em_threads.specs.Threads as threads
use Rattle.em_system.specs.Held.{tasks_of, promises_of}
use Rattle.em_system.specs.Promises.{promises_after, promises_by, promises_given, promised, used, last_at, starts}
use Rattle.em_system.specs.Held.{Held, Holds, answered, passed, held_answered, held_got, held_blocked, held_freed, held_ended, held_signalled, held_left, held_fallen, held_given}
use Rattle.em_system.proofs.Changes.{changed_again}
use Rattle.em_system.proofs.Holding.{IsBare}
use Rattle.em_system.proofs.Stands.{own_step, own_step_by, own_tasks, task_of_thread, tasks_changed, promises_changed, promises_same, tasks_woken, promises_woken}

-- ---- promises where there are no hints

-- without hints nothing is promised
pub nothing_promised : (app : App) (t : ℕ) (last : Option ℕ) → app.hints.hints ≡ [] → promised app t last ≡ None
nothing_promised app t None e = refl
nothing_promised app t (Some address) e = ap (λ hints. used app.table t (lookup (λ other. other == address) hints)) e

-- a promise of a task that has none is none
none_here : (ts : List Thread) (t : ℕ) → All IsBare ts → t < length ts → (thread_at ts t).promise ≡ None
none_here ts t bare h = (bare t no_thread h).0

set_none : (ts : List Thread) (t : ℕ) → All IsBare ts → t < length ts → slice_set (promises_of ts) t None ≡ promises_of ts
set_none ts t bare h =
    ap (λ promise. slice_set (promises_of ts) t promise)
    (sym (none_here ts t bare h) ∙ sym (get_or-map (λ thread. thread.promise) ts t no_thread None h))
    ∙ set-get_or (promises_of ts) t None

by_start : (b : Bool) (promises : List (Option SemId)) (t : ℕ) → slice_set promises t None ≡ promises → cond b (slice_set promises t None) promises ≡ promises
by_start true promises t e = e
by_start false promises t e = refl

-- a release gives no promise
pub given_none : (app : App) (u : ℕ) (p : Plain) (ts : List Thread) → app.hints.hints ≡ [] → All IsBare ts → u < length ts
    → promises_given app u p (promises_of ts) ≡ promises_of ts
given_none app u p ts e bare h =
    ap (λ promise. cond (starts (task_at p.tasks u)) (slice_set (promises_of ts) u promise) (promises_of ts))
    (nothing_promised app u (last_at p.lasts u) e)
    ∙ by_start (starts (task_at p.tasks u)) (promises_of ts) u (set_none ts u bare h)

by_job : (thread : Thread) (job : Option Job) → IsBare thread → promise_by thread job ≡ None
by_job thread None bare = bare.1
by_job thread (Some job) bare = bare.0

by_room : (b : Bool) (thread : Thread) → IsBare thread → cond b thread.promise (promise_by thread thread.task.job) ≡ None
by_room true thread bare = bare.0
by_room false thread bare = by_job thread thread.task.job bare

-- nor does it in the threads
pub taken_none : (thread : Thread) → IsBare thread → promise_after_take thread ≡ None
taken_none thread bare = by_room (is_full thread.task) thread bare

pub promises_taken : (arrival word u : ℕ) (ts : List Thread) → All IsBare ts → u < length ts → promises_of (changed (taken arrival word) u ts) ≡ promises_of ts
promises_taken arrival word u ts bare h =
    promises_changed (taken arrival word) u ts
    ∙ ap (λ promise. slice_set (promises_of ts) u promise) (taken_none (thread_at ts u) (bare u no_thread h))
    ∙ set_none ts u bare h

-- ---- outcomes

-- a call that is refused
pub holds_refused : (app : App) (held : Held) (p : Plain) (promises : List (Option SemId)) (t : TaskId) (code : ℤ)
    → t.0 < length held.threads → Holds held p promises
    → Holds (held_answered t.0 (cast_unsigned w32 code) held) (after_outcome (Refuses code) t p) (promises_after app (Refuses code) t.0 p promises)
unfolding frees own_after owners_after shared_after gives promises_after
holds_refused app held p promises t code h s = record {
  tasks = own_step (Refuses code) t.0 p (answered (cast_unsigned w32 code)) held.threads s.tasks h (λ r. refl) (λ task. refl);
  promised = promises_same (answered (cast_unsigned w32 code)) t.0 held.threads h ∙ s.promised;
  owners = s.owners;
  shared = s.shared;
}

-- an instruction
pub holds_worked : (app : App) (held : Held) (p : Plain) (promises : List (Option SemId)) (t : TaskId) (class : Class) (core : Core) (shared : Memory)
    (after : Held) → after ≡ record held { threads = changed (threads.with_core core) t.0 held.threads; shared = shared }
    → t.0 < length held.threads → Holds held p promises
    → Holds after (after_outcome (Works class core shared) t p) (promises_after app (Works class core shared) t.0 p promises)
unfolding frees own_after owners_after shared_after gives promises_after
holds_worked app held p promises t class core shared after e h s =
    subst (λ k. Holds k (after_outcome (Works class core shared) t p) (promises_after app (Works class core shared) t.0 p promises)) (sym e) (record {
      tasks = own_step (Works class core shared) t.0 p (with_core core) held.threads s.tasks h (λ r. refl) (λ task. refl);
      promised = promises_same (with_core core) t.0 held.threads h ∙ s.promised;
      owners = s.owners;
      shared = refl;
    })

-- out
pub holds_put : (app : App) (held : Held) (p : Plain) (promises : List (Option SemId)) (t : TaskId) (port word : ℕ)
    → t.0 < length held.threads → Holds held p promises
    → Holds (held_answered t.0 0 held) (after_outcome (Puts port word) t p) (promises_after app (Puts port word) t.0 p promises)
unfolding frees own_after owners_after shared_after gives promises_after
holds_put app held p promises t port word h s = record {
  tasks = own_step (Puts port word) t.0 p (answered 0) held.threads s.tasks h (λ r. refl) (λ task. refl);
  promised = promises_same (answered 0) t.0 held.threads h ∙ s.promised;
  owners = s.owners;
  shared = s.shared;
}

-- acquire of a semaphore that another owns
pub holds_blocked : (app : App) (held : Held) (p : Plain) (promises : List (Option SemId)) (t : TaskId) (sem : SemId)
    → t.0 < length held.threads → Holds held p promises
    → Holds (held_blocked t.0 sem held) (after_outcome (Blocks sem.0) t p) (promises_after app (Blocks sem.0) t.0 p promises)
unfolding frees own_after owners_after shared_after gives promises_after
holds_blocked app held p promises t sem h s = record {
  tasks = own_step (Blocks sem.0) t.0 p (after_wait sem) held.threads s.tasks h (λ r. refl) (λ task. refl);
  promised = promises_same (after_wait sem) t.0 held.threads h ∙ s.promised;
  owners = s.owners;
  shared = s.shared;
}

-- exit
pub holds_left : (app : App) (held : Held) (p : Plain) (promises : List (Option SemId)) (t : TaskId)
    → t.0 < length held.threads → Holds held p promises
    → Holds (held_left t.0 held) (after_outcome Leaves t p) (promises_after app Leaves t.0 p promises)
unfolding frees own_after owners_after shared_after gives promises_after
holds_left app held p promises t h s = record {
  tasks = own_step Leaves t.0 p after_leave held.threads s.tasks h (λ r. refl) (λ task. refl);
  promised = promises_same after_leave t.0 held.threads h ∙ s.promised;
  owners = s.owners;
  shared = s.shared;
}

-- acquire of a free semaphore
pub holds_got : (app : App) (held : Held) (p : Plain) (promises : List (Option SemId)) (t : TaskId) (sem : ℕ)
    → t.0 < length held.threads → Holds held p promises
    → Holds (held_got t sem held) (after_outcome (Gets sem) t p) (promises_after app (Gets sem) t.0 p promises)
unfolding frees own_after owners_after shared_after gives promises_after
holds_got app held p promises t sem h s =
    let both : (Thread → Thread) = λ thread. with_task (answered 0) (without_promise thread) in
    let once : changed (with_task (answered 0)) t.0 (changed without_promise t.0 held.threads) ≡ changed both t.0 held.threads =
    changed_again without_promise (with_task (answered 0)) both t.0 held.threads h refl in
    record {
      tasks = ap tasks_of once ∙ own_step_by (Gets sem) t.0 p both (answered 0) held.threads s.tasks h (λ r. refl) (λ task. refl) (λ thread. refl);
      promised = ap promises_of once ∙ promises_changed both t.0 held.threads ∙ ap (λ ps. slice_set ps t.0 None) s.promised;
      owners = ap (λ owners. slice_set owners sem (Some t)) s.owners;
      shared = s.shared;
    }

ended_promise : (app : App) (ts : List Thread) (t pc : ℕ) (pending : List Job) → app.hints.hints ≡ [] → All IsBare ts → t < length ts
    → slice_set (promises_of ts) t (promise_after_finish None (with_task passed (thread_at ts t)) pending)
    ≡ promises_by app t pc (promises_of ts) pending
ended_promise app ts t pc [] e bare h =
    ap (λ promise. slice_set (promises_of ts) t promise) (none_here ts t bare h) ∙ set_none ts t bare h
ended_promise app ts t pc (job ∷ rest) e bare h =
    ap (λ promise. slice_set (promises_of ts) t promise) (sym (nothing_promised app t (Some pc) e))

-- waitjob
pub holds_ended : (app : App) (held : Held) (p : Plain) (promises : List (Option SemId)) (t : TaskId)
    → app.hints.hints ≡ [] → All IsBare held.threads → t.0 < length held.threads → Holds held p promises
    → Holds (held_ended t.0 held) (after_outcome Ends t p) (promises_after app Ends t.0 p promises)
unfolding frees own_after owners_after shared_after gives promises_after
holds_ended app held p promises t e bare h s =
    let both : (Thread → Thread) = λ thread. finished None (with_task passed thread) in
    let once : changed (finished None) t.0 (changed (with_task passed) t.0 held.threads) ≡ changed both t.0 held.threads =
    changed_again (with_task passed) (finished None) both t.0 held.threads h refl in
    let here : task_at p.tasks t.0 ≡ (thread_at held.threads t.0).task =
    ap (λ tasks. task_at tasks t.0) (sym s.tasks) ∙ task_of_thread held.threads t.0 h in
    record {
      tasks = ap tasks_of once
          ∙ own_step_by Ends t.0 p both (λ task. after_finish (passed task)) held.threads s.tasks h (λ r. refl) (λ task. refl) (λ thread. refl);
      promised = ap promises_of once ∙ promises_changed both t.0 held.threads
          ∙ ended_promise app held.threads t.0 (thread_at held.threads t.0).task.core.registers.pc (thread_at held.threads t.0).task.pending e bare h
          ∙ ap (λ task. promises_by app t.0 task.core.registers.pc (promises_of held.threads) task.pending) (sym here)
          ∙ ap (λ ps. promises_by app t.0 (task_at p.tasks t.0).core.registers.pc ps (task_at p.tasks t.0).pending) s.promised;
      owners = s.owners;
      shared = s.shared;
    }

-- release of a semaphore
pub holds_freed : (app : App) (held : Held) (p : Plain) (promises : List (Option SemId)) (t : TaskId) (sem : ℕ)
    → t.0 < length held.threads → Holds held p promises
    → Holds (held_freed t.0 sem held) (after_outcome (Frees sem) t p) (promises_after app (Frees sem) t.0 p promises)
unfolding frees own_after owners_after shared_after gives promises_after
holds_freed app held p promises t sem h s = record {
  tasks = tasks_woken (λ r. r == sem) (changed (with_task (answered 0)) t.0 held.threads)
      ∙ ap (map (woken (λ r. r == sem))) (own_tasks (answered 0) t.0 p held.threads s.tasks h);
  promised = promises_woken (λ r. r == sem) (changed (with_task (answered 0)) t.0 held.threads)
      ∙ promises_same (answered 0) t.0 held.threads h ∙ s.promised;
  owners = ap (λ owners. slice_set owners sem None) s.owners;
  shared = s.shared;
}

-- a fault
pub holds_fallen : (app : App) (held : Held) (p : Plain) (promises : List (Option SemId)) (t : TaskId) (cause : ℕ)
    → t.0 < length held.threads → Holds held p promises
    → Holds (held_fallen t.0 held) (after_outcome (Falls cause) t p) (promises_after app (Falls cause) t.0 p promises)
unfolding frees own_after owners_after shared_after gives promises_after
holds_fallen app held p promises t cause h s =
    let free : (ℕ → Bool) = λ r. is_task t.0 (owner_at held.owners r) in
    record {
      tasks = tasks_woken free (changed (with_task after_stop) t.0 held.threads)
          ∙ ap (map (woken free)) (own_tasks after_stop t.0 p held.threads s.tasks h)
          ∙ ap (λ owners. map (woken (λ r. is_task t.0 (owner_at owners r))) (slice_set p.tasks t.0 (after_stop (task_at p.tasks t.0)))) s.owners;
      promised = promises_woken free (changed (with_task after_stop) t.0 held.threads)
          ∙ promises_same after_stop t.0 held.threads h ∙ s.promised;
      owners = ap (map (without t.0)) s.owners;
      shared = s.shared;
    }

-- a release of a task
pub holds_given : (app : App) (held : Held) (p : Plain) (promises : List (Option SemId)) (u arrival word : ℕ)
    → app.hints.hints ≡ [] → All IsBare held.threads → u < length held.threads → Holds held p promises
    → Holds (held_given u arrival word held) (given u arrival word p) (promises_given app u p promises)
holds_given app held p promises u arrival word e bare h s = record {
  tasks = tasks_changed (taken arrival word) u held.threads
      ∙ ap (λ task. slice_set (tasks_of held.threads) u (after_take arrival word task)) (sym (task_of_thread held.threads u h))
      ∙ ap (λ tasks. slice_set tasks u (after_take arrival word (task_at tasks u))) s.tasks;
  promised = promises_taken arrival word u held.threads bare h ∙ sym (given_none app u p held.threads e bare h) ∙ ap (promises_given app u p) s.promised;
  owners = s.owners;
  shared = s.shared;
}

-- signal
pub holds_signalled : (app : App) (held : Held) (p : Plain) (promises : List (Option SemId)) (t : TaskId) (u word : ℕ)
    → app.hints.hints ≡ [] → All IsBare held.threads → t.0 < length held.threads → u < length held.threads → Holds held p promises
    → Holds (held_signalled t.0 u word held) (after_outcome (Signals u word) t p) (promises_after app (Signals u word) t.0 p promises)
unfolding frees own_after owners_after shared_after gives promises_after
holds_signalled app held p promises t u word e bare h within s =
    let after : List Thread = changed (with_task (answered 0)) t.0 held.threads in
    let inside : u < length after = subst (λ n. u < n) (sym (length-set held.threads t.0 (with_task (answered 0) (thread_at held.threads t.0)))) within in
    let still_bare : All IsBare after =
    All-set IsBare held.threads t.0 (with_task (answered 0) (thread_at held.threads t.0)) (bare t.0 no_thread h) bare in
    record {
      tasks = tasks_changed (taken 0 word) u after
          ∙ ap (λ task. slice_set (tasks_of after) u (after_take 0 word task)) (sym (task_of_thread after u inside))
          ∙ ap (λ tasks. slice_set tasks u (after_take 0 word (task_at tasks u)))
          (own_step (Signals u word) t.0 p (answered 0) held.threads s.tasks h (λ r. refl) (λ task. refl));
      promised = promises_taken 0 word u after still_bare inside ∙ promises_same (answered 0) t.0 held.threads h
          ∙ sym (given_none app u p held.threads e bare within) ∙ ap (promises_given app u p) s.promised;
      owners = s.owners;
      shared = s.shared;
    }

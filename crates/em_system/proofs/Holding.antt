-- What is always so of the tasks, the semaphores and the shared window, after a change.
use Rattle.std.proofs.Common.{◌≡◌, ◌∙◌, ℕ, ◌-◌, ◌<◌, Bool, true, false, List, [], ◌∷◌, length, slice_index_or, All, Option, None, Some, sym, ap, subst, refl, cond, arith}
use Rattle.std.proofs.lemmas.List.{length-set, length-map, length-replicate}
use Rattle.std.proofs.lemmas.List.Elements.{All-map, All-set}
use Rattle.em_base.specs.declared.apps.App.{App}
use Rattle.em_base.specs.declared.ids.TaskId.{TaskId}
use Rattle.em_base.specs.declared.jobs.Job.{Job}
use Rattle.em_hart.specs.Hart.{Memory}
use Rattle.em_base.specs.declared.tables.TaskRow.{TaskRow}
use Rattle.em_base.specs.Images.{Labels}
use Rattle.em_base.specs.declared.jobs.Status.{Status}
use Rattle.em_base.specs.declared.jobs.Status.TheVariants.{Asleep, Awake, Waits, Stopped}
use Rattle.em_gate.specs.Effects.{woken, woken_by}
use Rattle.em_gate.specs.State.{Task}
use Rattle.em_gate.specs.Tasks.{after_awake, after_jobs, is_full, next_job, with_job}
use Rattle.em_threads.specs.Threads.{Thread, thread_at, changed, with_task, finished, first_thread, promise_after_finish, taken}
use Rattle.em_system.specs.declared.selection.Rank.{Rank}
use Rattle.em_system.specs.declared.selection.Standing.{Standing}
use Rattle.em_system.specs.Held.{IsHeld, woken_threads}

-- no promise and no hint
abbrev pub IsBare : Thread → Type 0
IsBare thread = (thread.promise ≡ None) × (thread.hint ≡ None)

-- its own window has so many bytes
abbrev pub HasOwn : ℕ → Thread → Type 0
HasOwn own thread = length thread.task.core.own.bytes ≡ own

-- with other threads, as many, without promises, and with own windows as long
pub with_threads : {app : App} {ranks : List Rank} {standings : List Standing} {threads : List Thread} {owners : List (Option TaskId)} {shared : Memory}
    (threads' : List Thread) → IsHeld app ranks standings threads owners shared → length threads' ≡ length threads → All IsBare threads'
    → All (HasOwn app.table.own) threads'
    → IsHeld app ranks standings threads' owners shared
with_threads threads' h e bare windows = record {
  whole = h.whole;
  hints = h.hints;
  ranked = h.ranked;
  seen = h.seen;
  all = e ∙ h.all;
  semaphores = h.semaphores;
  based = h.based;
  bare = bare;
  windows = windows;
}

-- with other owners, as many
pub with_owners : {app : App} {ranks : List Rank} {standings : List Standing} {threads : List Thread} {owners : List (Option TaskId)} {shared : Memory}
    (owners' : List (Option TaskId)) → IsHeld app ranks standings threads owners shared → length owners' ≡ length owners
    → IsHeld app ranks standings threads owners' shared
with_owners owners' h e = record {
  whole = h.whole;
  hints = h.hints;
  ranked = h.ranked;
  seen = h.seen;
  all = h.all;
  semaphores = e ∙ h.semaphores;
  based = h.based;
  bare = h.bare;
  windows = h.windows;
}

-- with one thread changed
pub with_changed : {app : App} {ranks : List Rank} {standings : List Standing} {threads : List Thread} {owners : List (Option TaskId)} {shared : Memory}
    (f : Thread → Thread) (t : ℕ) (threads' : List Thread) → IsHeld app ranks standings threads owners shared → t < length threads
    → threads' ≡ changed f t threads → IsBare (f (thread_at threads t))
    → HasOwn app.table.own (f (thread_at threads t))
    → IsHeld app ranks standings threads' owners shared
with_changed {app = app} {threads = threads} f t threads' h within e bare own =
    with_threads threads' h (ap (λ ts. length ts) e ∙ length-set threads t (f (thread_at threads t)))
    (subst (λ ts. All IsBare ts) (sym e) (All-set IsBare threads t (f (thread_at threads t)) bare h.bare))
    (subst (λ ts. All (HasOwn app.table.own) ts) (sym e) (All-set (HasOwn app.table.own) threads t (f (thread_at threads t)) own h.windows))

by_free : (free : Bool) (task : Task) → length (cond free (after_awake task) task).core.own.bytes ≡ length task.core.own.bytes
by_free true task = refl
by_free false task = refl

woken_length : (free : ℕ → Bool) (task : Task) (status : Status) → length (woken_by free task status).core.own.bytes ≡ length task.core.own.bytes
woken_length free task Asleep = refl
woken_length free task Awake = refl
woken_length free task (Waits s) = by_free (free s.0) task
woken_length free task Stopped = refl

-- with threads woken
pub with_woken : {app : App} {ranks : List Rank} {standings : List Standing} {threads : List Thread} {owners : List (Option TaskId)} {shared : Memory}
    (free : ℕ → Bool) (threads' : List Thread) → IsHeld app ranks standings threads owners shared
    → threads' ≡ woken_threads free threads
    → IsHeld app ranks standings threads' owners shared
with_woken {app = app} {threads = threads} free threads' h e =
    with_threads threads' h (ap (λ ts. length ts) e ∙ length-map threads (with_task (woken free)))
    (subst (λ ts. All IsBare ts) (sym e) (All-map IsBare (with_task (woken free)) threads h.bare))
    (subst (λ ts. All (HasOwn app.table.own) ts) (sym e) (All-map (HasOwn app.table.own) (with_task (woken free)) threads
    (λ u d less. woken_length free (slice_index_or threads u d).task (slice_index_or threads u d).task.status ∙ h.windows u d less)))

finish_promise : (thread : Thread) (pending : List Job) → thread.promise ≡ None → promise_after_finish None thread pending ≡ None
finish_promise thread [] e = e
finish_promise thread (job ∷ rest) e = refl

-- the end of a job without a hint gives no promise
pub finished_bare : (thread : Thread) → IsBare thread → IsBare (finished None thread)
finished_bare thread h = (finish_promise thread thread.task.pending h.0, refl)

-- a task at the start has an own window of the length of the table
pub first_own : (own : ℕ) (labels : Labels) (row : TaskRow) → HasOwn own (first_thread own labels row)
first_own own labels row =
    let same : own - 0 ≡ own = omega arith in
    length-replicate (own - 0) 0 ∙ same

finish_length : (task : Task) (pending : List Job) → length (after_jobs pending task).core.own.bytes ≡ length task.core.own.bytes
finish_length task [] = refl
finish_length task (job ∷ rest) = refl

-- the end of a job leaves the own window
pub finished_own : (own : ℕ) (thread : Thread) → HasOwn own thread → HasOwn own (finished None thread)
finished_own own thread h = finish_length thread.task thread.task.pending ∙ h

job_length : (job : Job) (task : Task) (current : Option Job) → length (with_job job task current).core.own.bytes ≡ length task.core.own.bytes
job_length job task None = refl
job_length job task (Some current) = refl

room_length : (full : Bool) (job : Job) (task : Task) → length (cond full task (with_job job task task.job)).core.own.bytes ≡ length task.core.own.bytes
room_length true job task = refl
room_length false job task = job_length job task task.job

-- and so does a release
pub taken_own : (own arrival word : ℕ) (thread : Thread) → HasOwn own thread → HasOwn own (taken arrival word thread)
taken_own own arrival word thread h = room_length (is_full thread.task) (next_job thread.task arrival word) thread.task ∙ h

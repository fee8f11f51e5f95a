-- The settled state of a counted one: the state where each read under way has put all its words, and each write none.
use Rattle.std.proofs.Common.{◌≡◌, ◌∙◌, ℕ, zero, suc, Bool, true, false, if◌then◌else◌, List, [], ◌∷◌, length, map, slice_set, Option, None, sym, ap, refl, arith}
use Rattle.std.proofs.Math.Path.{fun_ext}
use Rattle.std.proofs.lemmas.List.{set-get_or}
use Rattle.em_base.specs.declared.ids.SemId.{SemId}
use Rattle.em_base.specs.declared.ids.TaskId.{TaskId}
use Rattle.em_base.specs.declared.jobs.Job.{Job}
use Rattle.em_base.specs.declared.jobs.Status.{Status}
use Rattle.em_base.specs.declared.jobs.Status.TheVariants.{Asleep, Awake, Waits, Stopped}
use Rattle.em_base.specs.declared.tables.TaskRow.{TaskRow}
use Rattle.em_base.specs.Keys.{numbered}
use Rattle.em_base.specs.Selection.{scene_of}
use Rattle.em_gate.specs.Effects.{with_core, woken, woken_by}
use Rattle.em_gate.specs.Selecting.{key_of, keys_of, scene_in, statuses_of}
use Rattle.em_gate.specs.State.{Copy, Core, Counted, Plain, Task, Value, no_task, task_at}
use Rattle.em_gate.specs.Tasks.{after_awake}
use Rattle.em_kernel.specs.Moves.{copy_at}
use Rattle.em_sched.specs.Agreement.{settled_core, settled_task}

-- the tasks once their copies are settled
abbrev pub settle_all : List (List Value) → List Task → List (Option Copy) → List Task
settle_all values [] copies = []
settle_all values (task ∷ tasks) [] = settled_task values None task ∷ settle_all values tasks []
settle_all values (task ∷ tasks) (copy ∷ copies) = settled_task values copy task ∷ settle_all values tasks copies

-- the state with these copies settled
abbrev pub flat_of : List (Option Copy) → Plain → Plain
flat_of copies p = record p { tasks = settle_all p.values p.tasks copies }

-- the settled state
abbrev pub flat : Counted → Plain
flat c = flat_of c.copies c.plain

-- ---- one of the tasks

pub settled_at : (values : List (List Value)) (tasks : List Task) (copies : List (Option Copy)) (t : ℕ) → length copies ≡ length tasks
    → task_at (settle_all values tasks copies) t ≡ settled_task values (copy_at copies t) (task_at tasks t)
settled_at values [] [] t h = refl
settled_at values [] (copy ∷ copies) t h = absurd (omega (arith, h))
settled_at values (task ∷ tasks) [] t h = absurd (omega (arith, h))
settled_at values (task ∷ tasks) (copy ∷ copies) zero h = refl
settled_at values (task ∷ tasks) (copy ∷ copies) (suc t) h = settled_at values tasks copies t (omega (arith, h))

-- and so where the copy is known: a task without one is its own settled one
pub flat_here : (values : List (List Value)) (tasks : List Task) (copies : List (Option Copy)) (t : ℕ) (copy : Option Copy)
    → length copies ≡ length tasks
    → copy_at copies t ≡ copy → task_at (settle_all values tasks copies) t ≡ settled_task values copy (task_at tasks t)
flat_here values tasks copies t copy h e =
    settled_at values tasks copies t h ∙ ap (λ other. settled_task values other (task_at tasks t)) e

-- what doesn't look at the core is the same of a task and its settled one
pub settle_keeps : {A : Type 0} (f : Task → A) → ((core : Core) (task : Task) → f (with_core core task) ≡ f task)
    → (values : List (List Value)) (tasks : List Task) (copies : List (Option Copy)) (t : ℕ)
    → f (task_at (settle_all values tasks copies) t) ≡ f (task_at tasks t)
settle_keeps f h values [] copies t = refl
settle_keeps f h values (task ∷ tasks) [] zero = refl
settle_keeps f h values (task ∷ tasks) [] (suc t) = settle_keeps f h values tasks [] t
settle_keeps f h values (task ∷ tasks) (copy ∷ copies) zero = h (settled_core values copy task.core) task
settle_keeps f h values (task ∷ tasks) (copy ∷ copies) (suc t) = settle_keeps f h values tasks copies t

pub settle_count : (values : List (List Value)) (tasks : List Task) (copies : List (Option Copy))
    → length (settle_all values tasks copies) ≡ length tasks
settle_count values [] copies = refl
settle_count values (task ∷ tasks) [] = ap suc (settle_count values tasks [])
settle_count values (task ∷ tasks) (copy ∷ copies) = ap suc (settle_count values tasks copies)

pub settle_status : (values : List (List Value)) (tasks : List Task) (copies : List (Option Copy)) (t : ℕ)
    → (task_at (settle_all values tasks copies) t).status ≡ (task_at tasks t).status
settle_status values tasks copies t = settle_keeps (λ task. task.status) (λ core task. refl) values tasks copies t

-- ---- changes

-- a task and its copy change
pub settle_set : (values : List (List Value)) (tasks : List Task) (copies : List (Option Copy)) (t : ℕ) (task : Task) (copy : Option Copy)
    → length copies ≡ length tasks
    → settle_all values (slice_set tasks t task) (slice_set copies t copy) ≡ slice_set (settle_all values tasks copies) t (settled_task values copy task)
settle_set values [] copies t task copy h = refl
settle_set values (k ∷ tasks) [] t task copy h = absurd (omega (arith, h))
settle_set values (k ∷ tasks) (d ∷ copies) zero task copy h = refl
settle_set values (k ∷ tasks) (d ∷ copies) (suc t) task copy h =
    ap (λ ts. settled_task values d k ∷ ts) (settle_set values tasks copies t task copy (omega (arith, h)))

-- a task changes alone
pub settle_task : (values : List (List Value)) (tasks : List Task) (copies : List (Option Copy)) (t : ℕ) (task : Task) → length copies ≡ length tasks
    → settle_all values (slice_set tasks t task) copies ≡ slice_set (settle_all values tasks copies) t (settled_task values (copy_at copies t) task)
settle_task values tasks copies t task h =
    ap (settle_all values (slice_set tasks t task)) (sym (set-get_or copies t None)) ∙ settle_set values tasks copies t task (copy_at copies t) h

-- a copy changes alone
pub settle_copy : (values : List (List Value)) (tasks : List Task) (copies : List (Option Copy)) (t : ℕ) (copy : Option Copy)
    → length copies ≡ length tasks
    → settle_all values tasks (slice_set copies t copy) ≡ slice_set (settle_all values tasks copies) t (settled_task values copy (task_at tasks t))
settle_copy values tasks copies t copy h =
    ap (λ ts. settle_all values ts (slice_set copies t copy)) (sym (set-get_or tasks t no_task)) ∙ settle_set values tasks copies t (task_at tasks t) copy h

-- a change that leaves the settled task as it was
pub settle_silent : (values : List (List Value)) (tasks : List Task) (copies : List (Option Copy)) (t : ℕ) (task : Task) (copy : Option Copy)
    → length copies ≡ length tasks
    → settled_task values copy task ≡ settled_task values (copy_at copies t) (task_at tasks t)
    → settle_all values (slice_set tasks t task) (slice_set copies t copy) ≡ settle_all values tasks copies
settle_silent values tasks copies t task copy h e =
    settle_set values tasks copies t task copy h
    ∙ ap (slice_set (settle_all values tasks copies) t) (e ∙ sym (settled_at values tasks copies t h))
    ∙ set-get_or (settle_all values tasks copies) t no_task

pub settle_silent_copy : (values : List (List Value)) (tasks : List Task) (copies : List (Option Copy)) (t : ℕ) (copy : Option Copy)
    → length copies ≡ length tasks
    → settled_task values copy (task_at tasks t) ≡ settled_task values (copy_at copies t) (task_at tasks t)
    → settle_all values tasks (slice_set copies t copy) ≡ settle_all values tasks copies
settle_silent_copy values tasks copies t copy h e =
    ap (λ ts. settle_all values ts (slice_set copies t copy)) (sym (set-get_or tasks t no_task)) ∙ settle_silent values tasks copies t (task_at tasks t) copy h e

-- other values, of which no copy sees more
pub settle_values : (values values' : List (List Value)) (tasks : List Task) (copies : List (Option Copy))
    → ((t : ℕ) (core : Core) → settled_core values (copy_at copies t) core ≡ settled_core values' (copy_at copies t) core)
    → settle_all values tasks copies ≡ settle_all values' tasks copies
settle_values values values' [] copies h = refl
settle_values values values' (task ∷ tasks) [] h = ap (λ ts. task ∷ ts) (settle_values values values' tasks [] h)
settle_values values values' (task ∷ tasks) (copy ∷ copies) h =
    ap (λ core. with_core core task ∷ settle_all values tasks copies) (h zero task.core)
    ∙ ap (λ ts. settled_task values' copy task ∷ ts) (settle_values values values' tasks copies (λ t. h (suc t)))

-- semaphores are freed
settled_woken : (values : List (List Value)) (free : ℕ → Bool) (copy : Option Copy) (task : Task) (status : Status)
    → settled_task values copy (woken_by free task status) ≡ woken_by free (settled_task values copy task) status
settled_woken values free copy task Asleep = refl
settled_woken values free copy task Awake = refl
settled_woken values free copy task (Waits s) = by_free (free s.0)
  where
    by_free : (b : Bool) → settled_task values copy (if b then after_awake task else task)
        ≡ (if b then after_awake (settled_task values copy task) else settled_task values copy task)
    by_free true = refl
    by_free false = refl
settled_woken values free copy task Stopped = refl

pub settle_woken : (values : List (List Value)) (free : ℕ → Bool) (tasks : List Task) (copies : List (Option Copy))
    → settle_all values (map (woken free) tasks) copies ≡ map (woken free) (settle_all values tasks copies)
settle_woken values free [] copies = refl
settle_woken values free (task ∷ tasks) [] =
    ap (λ k. k ∷ settle_all values (map (woken free) tasks) []) (settled_woken values free None task task.status)
    ∙ ap (λ ts. woken free (settled_task values None task) ∷ ts) (settle_woken values free tasks [])
settle_woken values free (task ∷ tasks) (copy ∷ copies) =
    ap (λ k. k ∷ settle_all values (map (woken free) tasks) copies) (settled_woken values free copy task task.status)
    ∙ ap (λ ts. woken free (settled_task values copy task) ∷ ts) (settle_woken values free tasks copies)

-- ---- selection

settle_statuses : (values : List (List Value)) (tasks : List Task) (copies : List (Option Copy))
    → statuses_of (settle_all values tasks copies) ≡ statuses_of tasks
settle_statuses values [] copies = refl
settle_statuses values (task ∷ tasks) [] = ap (λ ss. task.status ∷ ss) (settle_statuses values tasks [])
settle_statuses values (task ∷ tasks) (copy ∷ copies) = ap (λ ss. task.status ∷ ss) (settle_statuses values tasks copies)

settle_keys : (rows : List TaskRow) (values : List (List Value)) (tasks : List Task) (copies : List (Option Copy))
    → keys_of rows (settle_all values tasks copies) ≡ keys_of rows tasks
settle_keys rows values tasks copies =
    ap (λ (job : ℕ → Option Job). map (λ row. key_of rows row (job row.0)) (numbered rows))
    (fun_ext (λ t. settle_keeps (λ task. task.job) (λ core task. refl) values tasks copies t))

-- selection sees the same of the settled tasks
pub settle_scene : (rows : List TaskRow) (values : List (List Value)) (tasks : List Task) (copies : List (Option Copy))
    (promises : List (Option SemId)) (owners : List (Option TaskId))
    → scene_in rows (settle_all values tasks copies) promises owners ≡ scene_in rows tasks promises owners
settle_scene rows values tasks copies promises owners =
    ap (λ keys. scene_of keys (statuses_of (settle_all values tasks copies)) promises owners) (settle_keys rows values tasks copies)
    ∙ ap (λ statuses. scene_of (keys_of rows tasks) statuses promises owners) (settle_statuses values tasks copies)

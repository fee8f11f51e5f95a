-- The promises that tasks make: a task whose job begins after a `waitjob` with a hint promises to take that semaphore next. This project's
-- own.
use Rattle.std.specs.Prelude.{ℕ, Bool, not, ◌&&◌, List, [], ◌∷◌, slice_index_or, slice_set, Option, None, Some, if◌then◌else◌}
use Rattle.em_base.specs.declared.apps.App.{App}
use Rattle.em_base.specs.declared.ids.SemId.{SemId}
use Rattle.em_base.specs.declared.events.Event.{Event}
use Rattle.em_base.specs.declared.events.Event.TheVariants.{Release, Unplug}
use Rattle.em_base.specs.declared.jobs.Job.{Job}
use Rattle.em_base.specs.declared.tables.Table.{Table}
use Rattle.em_base.specs.Hints.{hint_at}
use Rattle.em_base.specs.Selection.{is_none}
use Rattle.em_gate.specs.State.{Task, Plain, task_at}
use Rattle.em_gate.specs.Tasks.{is_full}
use Rattle.em_gate.specs.Calls.{uses}
use Rattle.em_gate.specs.Outcome.{Outcome, Works, Falls, Refuses, Ends, Gets, Blocks, Frees, Puts, Publishes, Fetches, Signals, Leaves}

-- a hint, where the task t uses the semaphore
abbrev pub used : Table → ℕ → Option SemId → Option SemId
used table t None = None
used table t (Some s) = if uses table t s.0 then Some s else None

-- the promise of the task t where its job begins after the `waitjob` at an address
abbrev pub promised : App → ℕ → Option ℕ → Option SemId
promised app t None = None
promised app t (Some address) = used app.table t (hint_at app.hints address)

abbrev pub last_at : List (Option ℕ) → ℕ → Option ℕ
last_at lasts t = slice_index_or lasts t None

-- a release starts a job: the task takes it and has no other
abbrev pub starts : Task → Bool
starts task = not (is_full task) && is_none task.job

-- the promises after a release of the task t
abbrev pub promises_given : App → ℕ → Plain → List (Option SemId) → List (Option SemId)
promises_given app t p promises =
    if starts (task_at p.tasks t) then slice_set promises t (promised app t (last_at p.lasts t)) else promises

-- the promises after an event
abbrev pub promises_after_event : App → Event → Plain → List (Option SemId) → List (Option SemId)
promises_after_event app (Release t time word) p promises = promises_given app t.0 p promises
promises_after_event app (Unplug port) p promises = promises

-- the promises after the end of a job of the task t, by the jobs that are pending: where one begins, it has the hint of this waitjob
abbrev pub promises_by : App → ℕ → ℕ → List (Option SemId) → List Job → List (Option SemId)
promises_by app t pc promises [] = promises
promises_by app t pc promises (job ∷ rest) = slice_set promises t (promised app t (Some pc))

-- the promises after a step of the task t: a promise ends when the semaphore is taken
unfoldable pub promises_after : App → Outcome → ℕ → Plain → List (Option SemId) → List (Option SemId)
promises_after app (Gets s) t p promises = slice_set promises t None
promises_after app Ends t p promises =
    promises_by app t (task_at p.tasks t).core.registers.pc promises (task_at p.tasks t).pending
promises_after app (Signals u word) t p promises = promises_given app u p promises
promises_after app (Works class core shared) t p promises = promises
promises_after app (Falls cause) t p promises = promises
promises_after app (Refuses code) t p promises = promises
promises_after app (Blocks s) t p promises = promises
promises_after app (Frees s) t p promises = promises
promises_after app (Puts port word) t p promises = promises
promises_after app (Publishes m at count) t p promises = promises
promises_after app (Fetches m at) t p promises = promises
promises_after app Leaves t p promises = promises

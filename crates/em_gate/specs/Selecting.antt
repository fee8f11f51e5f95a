-- The selected task of a state, by the keys, statuses, promises and owners in it.
use Rattle.std.specs.Prelude.{ℕ, List, [], map, Option}
use Rattle.em_base.specs.declared.ids.SemId.{SemId}
use Rattle.em_base.specs.declared.ids.TaskId.{TaskId}
use Rattle.em_base.specs.declared.jobs.Job.{Job}
use Rattle.em_base.specs.declared.jobs.Key.{Key}
use Rattle.em_base.specs.declared.jobs.Status.{Status}
use Rattle.em_base.specs.declared.tables.TaskRow.{TaskRow}
use Rattle.em_base.specs.Keys.{numbered, level, due_time}
use Rattle.em_base.specs.Selection.{Scene, scene_of, selected}
use Rattle.em_gate.specs.State.{Task, Plain, Counted, task_at}

-- the key of a task of a table with its current job
abbrev pub key_of : List TaskRow → ℕ × TaskRow → Option Job → Key
key_of rows row job = record { level = level rows row; deadline = due_time row.1.deadline job; id = row.0 }

-- the keys of all tasks
abbrev pub keys_of : List TaskRow → List Task → List Key
keys_of rows tasks = map (λ row. key_of rows row (task_at tasks row.0).job) (numbered rows)

abbrev pub statuses_of : List Task → List Status
statuses_of tasks = map (λ task. task.status) tasks

-- what selection sees of tasks, promises and owners
abbrev pub scene_in : List TaskRow → List Task → List (Option SemId) → List (Option TaskId) → Scene
scene_in rows tasks promises owners = scene_of (keys_of rows tasks) (statuses_of tasks) promises owners

-- the selected task of the plain machine, which knows no promise
abbrev pub plain_selected : List TaskRow → Plain → Option ℕ
plain_selected rows p = selected (scene_in rows p.tasks [] p.owners)

-- the selected task of the counted machine
abbrev pub counted_selected : List TaskRow → Counted → Option ℕ
counted_selected rows c = selected (scene_in rows c.plain.tasks c.promises c.plain.owners)

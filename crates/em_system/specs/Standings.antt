-- What the kernel's selection works on: a list with what selection sees of each task.
use Rattle.std.specs.Prelude.{ℕ, false, ◌&&◌, List, length, map, slice_index_or, Option, None, Some}
use Rattle.em_base.specs.declared.ids.SemId.{SemId}
use Rattle.em_base.specs.declared.ids.TaskId.{TaskId}
use Rattle.em_base.specs.declared.jobs.Job.{Job}
use Rattle.em_base.specs.declared.jobs.Key.{Key}
use Rattle.em_base.specs.declared.tables.TaskRow.{TaskRow}
use Rattle.em_base.specs.Keys.{numbered, level, due_time}
use Rattle.em_base.specs.Selection.{Scene, no_key, owner_at, stopper, is_active, is_awake, is_none}
use Rattle.em_threads.specs.Threads.{Thread}
use Rattle.em_system.specs.declared.selection.Standing.{Standing}
use Rattle.em_system.specs.declared.selection.Rank.{Rank}

abbrev pub no_standing : Standing
no_standing = record { key = no_key; active = false; ready = false; next = None }

abbrev pub standing_at : List Standing → ℕ → Standing
standing_at standings t = slice_index_or standings t no_standing

abbrev pub number_of : Option TaskId → Option ℕ
number_of None = None
number_of (Some t) = Some t.0

-- what selection sees of these tasks, with a bound on the length of a chain
abbrev pub scene_from : ℕ → List Standing → Scene
scene_from depth standings = record {
  count = length standings;
  depth = depth;
  key = λ t. (standing_at standings t).key;
  active = λ t. (standing_at standings t).active;
  ready = λ t. (standing_at standings t).ready;
  next = λ t. number_of (standing_at standings t).next;
}

-- what of a task's key doesn't change
abbrev pub rank_of : List TaskRow → ℕ × TaskRow → Rank
rank_of rows row = record { level = level rows row; deadline = row.1.deadline }

abbrev pub ranks_of : List TaskRow → List Rank
ranks_of rows = map (rank_of rows) (numbered rows)

-- ---- what selection sees of a task that is held

-- the owner of what stops a task
abbrev pub stopping : List (Option TaskId) → Option SemId → Option TaskId
stopping owners None = None
stopping owners (Some s) = owner_at owners s.0

-- the semaphore that stops a task
abbrev pub stop_of : List (Option TaskId) → ℕ → Thread → Option SemId
stop_of owners t thread = stopper owners t thread.promise thread.task.status

abbrev pub no_rank : Rank
no_rank = record { level = 0; deadline = None }

abbrev pub rank_at : List Rank → ℕ → Rank
rank_at ranks t = slice_index_or ranks t no_rank

-- the key of a task by its rank
abbrev pub ranked_key : Rank → ℕ → Option Job → Key
ranked_key rank t job = record { level = rank.level; deadline = due_time rank.deadline job; id = t }

abbrev pub standing_of : Rank → List (Option TaskId) → ℕ → Thread → Standing
standing_of rank owners t thread = record {
  key = ranked_key rank t thread.task.job;
  active = is_active thread.task.status;
  ready = is_awake thread.task.status && is_none (stop_of owners t thread);
  next = stopping owners (stop_of owners t thread);
}

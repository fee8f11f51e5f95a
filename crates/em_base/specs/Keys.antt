-- How urgent tasks are: the rate-monotonic order of tasks by their period, and the order by deadline within a band. The bands, the
-- levels and the ties are this project's own.
use Rattle.std.specs.Prelude.{ℕ, ◌+◌, Bool, true, false, ◌&&◌, ◌||◌, ◌==◌, nat_lt, List, map, Option, None, Some, if◌then◌else◌}
use Rattle.std.specs.List.{count_by, enumerate_from}
use Rattle.std.specs.Option.{unwrap_or}
use Rattle.em_base.specs.declared.jobs.Job.{Job}
use Rattle.em_base.specs.declared.jobs.Key.{Key}
use Rattle.em_base.specs.declared.tables.TaskRow.{TaskRow}

-- whether a key is more urgent than another: compared from the left, the smaller is
abbrev pub key_lt : Key → Key → Bool
key_lt a b =
    nat_lt a.level b.level
    || (a.level == b.level) && (nat_lt a.deadline b.deadline || (a.deadline == b.deadline) && nat_lt a.id b.id)

-- ---- levels

-- the tasks of a table, each with its number
abbrev pub numbered : List TaskRow → List (ℕ × TaskRow)
numbered rows = enumerate_from 0 rows

-- whether a task with this deadline and this band is ranked by its period: it has a deadline and no band
abbrev pub is_ranked_by : Option ℕ → Option ℕ → Bool
is_ranked_by (Some deadline) None = true
is_ranked_by (Some deadline) (Some band) = false
is_ranked_by None band = false

abbrev pub is_ranked : TaskRow → Bool
is_ranked row = is_ranked_by row.deadline row.band

-- whether a ranked task comes before a task: its period is shorter, or it is the same and its number is less
abbrev pub is_ranked_before : ℕ × TaskRow → ℕ × TaskRow → Bool
is_ranked_before task other =
    is_ranked other.1
    && (nat_lt (unwrap_or other.1.period 0) (unwrap_or task.1.period 0)
    || (unwrap_or other.1.period 0 == unwrap_or task.1.period 0) && nat_lt other.0 task.0)

-- the place of a task among the ranked ones, from 1
abbrev pub rank : List TaskRow → ℕ × TaskRow → ℕ
rank rows task = 1 + count_by (is_ranked_before task) (numbered rows)

-- the level of a task: its band; or 100 and its rank; or, without a deadline, 1000 and its number
abbrev pub level_by : List TaskRow → ℕ × TaskRow → Option ℕ → ℕ
level_by rows task (Some band) = band
level_by rows task None = if is_ranked task.1 then 100 + rank rows task else 1000 + task.0

abbrev pub level : List TaskRow → ℕ × TaskRow → ℕ
level rows task = level_by rows task task.1.band

-- the levels of all tasks
abbrev pub levels : List TaskRow → List ℕ
levels rows = map (level rows) (numbered rows)

-- ---- keys

-- the time by which a job is to be done: 0 where there is no job, or where its task has no deadline
abbrev pub due_time : Option ℕ → Option Job → ℕ
due_time (Some deadline) (Some job) = job.arrival + deadline
due_time (Some deadline) None = 0
due_time None job = 0

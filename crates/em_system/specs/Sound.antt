-- What is always so of each task, beside what its state says.
use Rattle.std.specs.Prelude.{◌≡◌, ℕ, ◌<◌, ◌≤◌, ◌^◌, true, All, IfSome, IsSome}
use Rattle.em_base.specs.Selection.{is_active}
use Rattle.em_gate.specs.State.{Task}

-- it was given at most so many jobs, the nominal arrivals of its jobs are far from the last number there is, and it has a current job where
-- it is Awake or Waits
pub record IsSound (most : ℕ) (task : Task) : Type 0 where
  pub few : task.taken ≤ most
  pub early : IfSome task.job (λ job. job.arrival < 2 ^ 63)
  pub later : All (λ job. job.arrival < 2 ^ 63) task.pending
  pub working : is_active task.status ≡ true → IsSome task.job

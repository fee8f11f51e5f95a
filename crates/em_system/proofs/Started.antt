-- What is held before anything has happened.
use Rattle.std.proofs.Common.{◌≡◌, ◌∙◌, ℕ, zero, suc, List, [], ◌∷◌, length, map, replicate, All, Option, None, Some, sym, ap, subst, refl}
use Rattle.em_base.specs.declared.apps.App.{App}
use Rattle.em_base.specs.declared.ids.SemId.{SemId}
use Rattle.em_base.specs.declared.ids.TaskId.{TaskId}
use Rattle.em_base.specs.declared.jobs.Status.TheVariants.{Asleep, Awake}
use Rattle.em_base.specs.declared.tables.TaskRow.{TaskRow}
use Rattle.em_base.specs.Images.{Labels}
use Rattle.em_base.specs.Selection.{Scene, selected}
use Rattle.em_gate.specs.Boot.{boot, first_task}
use Rattle.em_gate.specs.Selecting.{scene_in}
use Rattle.em_ports.specs.Ports.{Places}
use Rattle.em_threads.specs.Threads.{Thread, first_thread, thread_at}
use Rattle.em_system.specs.Held.{Held, Holds, held_boot, promises_of, selected_of, tasks_of}
use Rattle.em_system.specs.Sound.{IsSound}
use Rattle.em_system.proofs.Scenes.{selected_awake}
use Rattle.em_system.proofs.Sound.{sound_boot}

-- the tasks of the first threads are the first tasks
tasks_first : (own : ℕ) (labels : Labels) (rows : List TaskRow) → tasks_of (map (first_thread own labels) rows) ≡ map (first_task own labels) rows
tasks_first own labels [] = refl
tasks_first own labels (row ∷ rows) = ap (λ rest. first_task own labels row ∷ rest) (tasks_first own labels rows)

-- and none of them has a promise
promises_first : (own : ℕ) (labels : Labels) (rows : List TaskRow) → promises_of (map (first_thread own labels) rows) ≡ replicate (length rows) None
promises_first own labels [] = refl
promises_first own labels (row ∷ rows) = ap (λ rest. None ∷ rest) (promises_first own labels rows)

-- each of them is Asleep
asleep_first : (own : ℕ) (labels : Labels) (rows : List TaskRow) (t : ℕ) → (thread_at (map (first_thread own labels) rows) t).task.status ≡ Asleep
asleep_first own labels [] t = refl
asleep_first own labels (row ∷ rows) zero = refl
asleep_first own labels (row ∷ rows) (suc t) = asleep_first own labels rows t

asleep_or_awake : Asleep ≡ Awake → ⊥
asleep_or_awake e = cc

-- so none is selected
none_selected : (own : ℕ) (labels : Labels) (rows : List TaskRow) (promises : List (Option SemId)) (owners : List (Option TaskId))
    → selected (scene_in rows (tasks_of (map (first_thread own labels) rows)) promises owners) ≡ None
none_selected own labels rows promises owners = by_task (selected scene) refl
  where
    threads : List Thread
    threads = map (first_thread own labels) rows

    scene : Scene
    scene = scene_in rows (tasks_of threads) promises owners

    by_task : (task : Option ℕ) → selected scene ≡ task → selected scene ≡ None
    by_task None e = e
    by_task (Some t) e = absurd (asleep_or_awake (sym (asleep_first own labels rows t) ∙ selected_awake rows threads promises owners t e))

-- what is held at first stands for the plain machine's boot, whatever the ports
pub held_first : (app : App) (held : Held) (places : Places) → held ≡ held_boot app → Holds held (boot app places) (replicate (length app.table.tasks) None)
held_first app held places e =
    subst (λ h. Holds h (boot app places) (replicate (length app.table.tasks) None)) (sym e) (record {
      tasks = tasks_first app.table.own app.image.labels app.table.tasks;
      promised = promises_first app.table.own app.image.labels app.table.tasks;
      owners = refl;
      shared = refl;
    })

-- its tasks are sound
pub sound_first : (app : App) (held : Held) → held ≡ held_boot app → All (IsSound 0) (tasks_of held.threads)
sound_first app held e =
    subst (λ h. All (IsSound 0) (tasks_of h.threads)) (sym e)
    (subst (All (IsSound 0)) (sym (tasks_first app.table.own app.image.labels app.table.tasks)) (sound_boot app.table.own app.image.labels app.table.tasks))

-- and none of them is selected
pub idle_first : (app : App) (held : Held) → held ≡ held_boot app → selected_of held ≡ None
idle_first app held e =
    subst (λ h. selected_of h ≡ None) (sym e)
    (none_selected app.table.own app.image.labels app.table.tasks (promises_of (map (first_thread app.table.own app.image.labels) app.table.tasks)) (replicate app.table.semaphores None))

-- When a counted state and a plain one agree, and what is always so of the owners in either. This project's own.
use Rattle.std.specs.Prelude.{◌≡◌, ◌≢◌, ℕ, ◌<◌, ⊤, List, [], drop, length, Option, Some, None, IsSome}
use Rattle.std.specs.Option.{option_map}
use Rattle.em_base.specs.declared.apps.App.{App}
use Rattle.em_base.specs.declared.ids.SemId.{SemId}
use Rattle.em_base.specs.declared.ids.TaskId.{TaskId}
use Rattle.em_base.specs.declared.jobs.Status.TheVariants.{Awake, Waits}
use Rattle.em_base.specs.Selection.{Scene, owner_at, selected}
use Rattle.em_hart.specs.Hart.{Memory}
use Rattle.em_hart.specs.Instruction.{Call as CallInstruction, exec}
use Rattle.em_gate.specs.Calls.{Known, words_of}
use Rattle.em_gate.specs.Effects.{after_answer, with_core}
use Rattle.em_gate.specs.Outcome.{Publishes, call_outcome}
use Rattle.em_gate.specs.Selecting.{scene_in}
use Rattle.em_gate.specs.State.{Copy, Core, Counted, Plain, Reads, Task, Value, Writes, task_at, value_at, values_at}
use Rattle.em_kernel.specs.Moves.{copy_at}
use Rattle.em_system.specs.Windows.{with_words_from}
use Rattle.em_roots.specs.Roots.{IsRooted, least_active, root}
use Rattle.em_sched.specs.Image.{promise_at}

-- ---- owners

-- the owner of a semaphore is one of the tasks, is Awake, and promises nothing
pub record IsOwner (p : Plain) (promises : List (Option SemId)) (u : ℕ) : Type 0 where
  pub exists : u < length p.tasks
  pub awake : (task_at p.tasks u).status ≡ Awake
  pub unpromised : promise_at promises u ≡ None

-- another task owns the semaphore
abbrev pub HasOther : Plain → ℕ → SemId → Type 0
HasOther p t s = (u : TaskId) × (owner_at p.owners s.0 ≡ Some u) × (u.0 ≢ t)

-- a task with a promise is Awake and owns nothing
pub record IsPromising (p : Plain) (t : ℕ) : Type 0 where
  pub awake : (task_at p.tasks t).status ≡ Awake
  pub owns_nothing : (s : ℕ) (u : TaskId) → owner_at p.owners s ≡ Some u → u.0 ≢ t

-- what every step of either machine keeps, in a state with promises: for the plain machine these are none
pub record AreKept (app : App) (p : Plain) (promises : List (Option SemId)) : Type 0 where
  pub tasks : length p.tasks ≡ length app.table.tasks
  pub semaphores : length p.owners ≡ app.table.semaphores
  pub owner : (s : ℕ) (u : TaskId) → owner_at p.owners s ≡ Some u → IsOwner p promises u.0
  pub waits : (t : ℕ) (s : SemId) → (task_at p.tasks t).status ≡ Waits s → HasOther p t s
  pub promised : (t : ℕ) (s : SemId) → promise_at promises t ≡ Some s → IsPromising p t

-- ---- copies

-- a core once its copy is settled: a read's copy is finished at once, a write's hasn't begun
abbrev pub settled_core : List (List Value) → Option Copy → Core → Core
settled_core values None core = core
settled_core values (Some (Writes m at i)) core = core
settled_core values (Some (Reads m at noted i)) core =
    after_answer 0 (with_words_from at i (drop i (value_at values m.0 noted)) core)

abbrev pub settled_task : List (List Value) → Option Copy → Task → Task
settled_task values copy task = with_core (settled_core values copy task.core) task

-- a task of a counted state once its copy is settled
abbrev pub settled : Counted → ℕ → Task
settled c t = settled_task c.plain.values (copy_at c.copies t) (task_at c.plain.tasks t)

-- the plain machine's step of a task is a write of a message from an address on, whatever the state of all else
pub record IsAtWrite (app : App) (t m at : ℕ) (core : Core) : Type 0 where
  pub call : (shared : Memory) → exec core.registers core.own shared app.image.words ≡ CallInstruction
  pub write : (known : Known) (owners : List (Option TaskId)) → call_outcome app.table t known owners core ≡ Publishes m at (words_of app.table m)

-- what is always so of a copy of the task t: the task is Awake, has a job, and promises nothing. One that writes stands at its call; the value
-- that one reads is there, and a word of it is still to be put
pub record IsCopying (p : Plain) (promises : List (Option SemId)) (t : ℕ) : Type 0 where
  pub awake : (task_at p.tasks t).status ≡ Awake
  pub working : IsSome (task_at p.tasks t).job
  pub unpromised : promise_at promises t ≡ None

pub record IsNoted (app : App) (p : Plain) (m noted i : ℕ) : Type 0 where
  pub published : noted < length (values_at p.values m)
  pub more : i < words_of app.table m

abbrev pub IsCopy : App → Plain → List (Option SemId) → ℕ → Option Copy → Type 0
IsCopy app p promises t None = ⊤
IsCopy app p promises t (Some (Writes m at i)) = IsCopying p promises t × IsAtWrite app t m.0 at (task_at p.tasks t).core
IsCopy app p promises t (Some (Reads m at noted i)) = IsCopying p promises t × IsNoted app p m.0 noted i

-- each value that was published has the words of its message
abbrev pub AreSized : App → List (List Value) → Type 0
AreSized app values = (m number : ℕ) → number < length (values_at values m) → length (value_at values m number) ≡ words_of app.table m

-- what every step of the counted machine keeps of its copies and of the messages
pub record AreCopies (app : App) (c : Counted) : Type 0 where
  pub count : length c.copies ≡ length c.plain.tasks
  pub messages : length c.plain.values ≡ length app.table.messages
  pub sized : AreSized app c.plain.values
  pub each : (t : ℕ) → IsCopy app c.plain c.promises t (copy_at c.copies t)

-- ---- agreement

-- how a task of the image stands to that of the counted state: it is the settled one. No hints are supported yet, so that no task of the
-- image is ahead
abbrev pub StandsTo : Counted → ℕ → Task → Type 0
StandsTo c t task = task ≡ settled c t

-- they have the same owners, published values, ports, shared window and lines, and each task has the same jobs and stands to its own so
pub record Agrees (c : Counted) (p : Plain) : Type 0 where
  pub owners : p.owners ≡ c.plain.owners
  pub values : p.values ≡ c.plain.values
  pub ports : p.ports ≡ c.plain.ports
  pub shared : p.shared ≡ c.plain.shared
  pub lines : p.lines ≡ c.plain.lines
  pub lasts : p.lasts ≡ c.plain.lasts
  pub arrivals : p.arrivals ≡ c.plain.arrivals
  pub count : length p.tasks ≡ length c.plain.tasks
  pub job : (t : ℕ) → (task_at p.tasks t).job ≡ (task_at c.plain.tasks t).job
  pub pending : (t : ℕ) → (task_at p.tasks t).pending ≡ (task_at c.plain.tasks t).pending
  pub taken : (t : ℕ) → (task_at p.tasks t).taken ≡ (task_at c.plain.tasks t).taken
  pub tasks : (t : ℕ) → StandsTo c t (task_at p.tasks t)

-- ---- selection

-- what selection sees of a state with promises: for the plain machine these are none
abbrev pub scene_at : App → Plain → List (Option SemId) → Scene
scene_at app p promises = scene_in app.table.tasks p.tasks promises p.owners

-- each chain of owners ends at a ready task, and the selected task is the end of the chain that begins at the most urgent task of all that are
-- Awake or wait
pub record SelectsRoot (scene : Scene) : Type 0 where
  pub rooted : IsRooted scene
  pub selects : selected scene ≡ option_map (root scene.depth scene.next) (least_active scene)

-- both machines select so, from the same most urgent task
pub record SelectAlike (app : App) (c : Counted) (p : Plain) : Type 0 where
  pub counted : SelectsRoot (scene_at app c.plain c.promises)
  pub plain : SelectsRoot (scene_at app p [])
  pub same : least_active (scene_at app p []) ≡ least_active (scene_at app c.plain c.promises)

-- What a step of the selected task asks of the tasks that are held, and what it leaves of it.
use Rattle.std.proofs.Math.Path.{fun_ext}
use Rattle.std.proofs.Common.{◌≡◌, ◌∙◌, ◌&&◌, Bool, slice_index_or, zero, suc, ℕ, ◌+◌, ◌<◌, ◌^◌, List, [], ◌∷◌, length, All, IfSome, IsSome, true, false, Option, None, Some, sym, ap, subst, refl, cond, arith, ℤ}
use Rattle.std.proofs.lemmas.List.{length-map}
use Rattle.std.proofs.lemmas.List.Elements.{All-nil, All-cons, All-head, All-tail}
use Rattle.em_base.specs.declared.ids.SemId.{SemId}
use Rattle.em_base.specs.declared.ids.TaskId.{TaskId}
use Rattle.em_base.specs.declared.jobs.Status.TheVariants.{Awake}
use Rattle.em_base.specs.declared.tables.Table.{Table}
use Rattle.em_base.specs.declared.jobs.Key.{Key}
use Rattle.em_base.specs.declared.jobs.Status.{Status}
use Rattle.em_base.specs.Selection.{Scene, is_active, is_awake, is_none, no_key, owner_at, owner_of, selected, status_at, stopper, stopper_at}
use Rattle.em_hart.specs.declared.answers.Class.{Class}
use Rattle.em_hart.specs.Hart.{Memory}
use Rattle.em_ports.specs.Ports.{Places}
use Rattle.em_trace.specs.declared.lines.Line.{Line}
use Rattle.em_gate.specs.declared.calls.Call.{Call as KernelCall}
use Rattle.em_gate.specs.declared.calls.Call.TheVariants.{WaitJob, Acquire, Release, Out, Write, Read, Signal, Exit, Unknown}
use Rattle.em_gate.specs.Effects.{after_outcome, line_by, with_core as task_with_core}
use Rattle.em_gate.specs.Calls.{Known, call_of, refusal}
use Rattle.em_gate.specs.Outcome.{Outcome, Falls, acquire_outcome, accepted, call_outcome, call_outcome_by}
use Rattle.em_gate.specs.Selecting.{keys_of, plain_selected, scene_in, statuses_of}
use Rattle.em_gate.specs.State.{Core, Plain, task_at}
use Rattle.em_threads.specs.Threads.{Thread, changed, thread_at, with_core}
use Rattle.em_system.specs.Held.{Held, Holds, promises_of, selected_of, tasks_of}
use Rattle.em_system.specs.Sound.{IsSound}
use Rattle.em_system.specs.declared.stepping.Taken.TheVariants.{Ran, Called, Faulted, Asks}
use Rattle.em_system.specs.declared.stepping.Transfer.{Transfer}
use Rattle.em_system.specs.Asked.{after_asking, fault_line, is_transfer, taken_of}
use Rattle.em_system.proofs.Holding.{IsBare}
use Rattle.em_system.proofs.Scenes.{scene_same, selected_awake, selected_inside}
use Rattle.em_system.proofs.Sound.{sound_anywhere, sound_more, sound_outcome}
use Rattle.em_system.proofs.Stands.{promises_same, task_of_thread}

-- a plain state for what is held and for ports
abbrev pub plain_of : Held → Places → Plain
plain_of held places = record {
  tasks = tasks_of held.threads;
  lasts = [];
  arrivals = [];
  owners = held.owners;
  values = [];
  ports = places;
  shared = held.shared;
  lines = [];
}

-- what is held stands for it
pub plain_holds : (held : Held) (places : Places) → Holds held (plain_of held places) (promises_of held.threads)
plain_holds held places = record { tasks = refl; promised = refl; owners = refl; shared = refl }

-- what is sound of a task is sound of its thread
pub sound_thread : (n : ℕ) (threads : List Thread) (t : ℕ) → All (IsSound n) (tasks_of threads) → t < length threads → IsSound n (thread_at threads t).task
sound_thread n threads t sound h = subst (IsSound n) (task_of_thread threads t h) (sound_anywhere n (tasks_of threads) t sound)

-- every job of a sound task comes early
pub early_threads : (n : ℕ) (threads : List Thread) → All (IsSound n) (tasks_of threads) → (t : ℕ) → t < length threads
    → IfSome (thread_at threads t).task.job (λ job. job.arrival < 2 ^ 63)
early_threads n threads sound t h = (sound_thread n threads t sound h).early

few_here : (n : ℕ) (threads : List Thread) → n < 2 ^ 63 → All (IsSound n) (tasks_of threads) → All (λ thread. thread.task.taken < 2 ^ 63) threads
few_here n [] h sound = All-nil (λ thread. thread.task.taken < 2 ^ 63)
few_here n (thread ∷ threads) h sound =
    All-cons (λ thread. thread.task.taken < 2 ^ 63) thread threads
    (omega (arith, h, (All-head (IsSound n) thread.task (tasks_of threads) sound).few))
    (few_here n threads h (All-tail (IsSound n) thread.task (tasks_of threads) sound))

-- a sound task was given few jobs
pub few_jobs : (n : ℕ) (threads : List Thread) → n < 2 ^ 63 → All (IsSound n) (tasks_of threads) → All (λ thread. thread.task.taken < 2 ^ 63) threads
few_jobs n threads h sound = few_here n threads h sound

asking_sound : (transfer : Bool) (o : Outcome) (t : TaskId) (p : Plain) (n : ℕ) → All (IsSound n) p.tasks → t.0 < length p.tasks
    → is_active (task_at p.tasks t.0).status ≡ true
    → All (IsSound (n + 1)) (cond transfer p (after_outcome o t p)).tasks
asking_sound true o t p n sound inside active = sound_more n (n + 1) p.tasks (omega arith) sound
asking_sound false o t p n sound inside active = sound_outcome o t p n sound inside active

-- the tasks are sound after a step of one that is Awake
pub sound_step : (held held' : Held) (places : Places) (t : TaskId) (o : Outcome) (n : ℕ) (promises : List (Option SemId))
    → All (IsSound n) (tasks_of held.threads) → t.0 < length held.threads → (thread_at held.threads t.0).task.status ≡ Awake
    → Holds held' (after_asking o t (plain_of held places)) promises
    → All (IsSound (n + 1)) (tasks_of held'.threads)
sound_step held held' places t o n promises sound inside awake holds =
    let there : t.0 < length (tasks_of held.threads) = subst (λ k. t.0 < k) (sym (length-map held.threads (λ thread. thread.task))) inside in
    let active : is_active (task_at (tasks_of held.threads) t.0).status ≡ true =
    ap (λ task. is_active task.status) (task_of_thread held.threads t.0 inside) ∙ ap is_active awake in
    subst (All (IsSound (n + 1))) (sym holds.tasks) (asking_sound (is_transfer o) o t (plain_of held places) n sound there active)

-- an Awake task that is sound has a job
pub awake_works : (n : ℕ) (threads : List Thread) (t : ℕ) → All (IsSound n) (tasks_of threads) → t < length threads
    → (thread_at threads t).task.status ≡ Awake → IsSome (thread_at threads t).task.job
awake_works n threads t sound inside awake = (sound_thread n threads t sound inside).working (ap is_active awake)

-- an instruction leaves the selection as it is
pub worked_selects : (held held' : Held) (core : Core) (shared : Memory) (t : ℕ)
    → held' ≡ record held { threads = changed (with_core core) t held.threads; shared = shared } → t < length held.threads
    → selected_of held' ≡ selected_of held
worked_selects held held' core shared t e h =
    let rows = held.app.table.tasks in
    let threads = changed (with_core core) t held.threads in
    ap (λ (k : Held). selected_of k) e
    ∙ ap (λ promises. selected (scene_in rows (tasks_of threads) promises held.owners)) (promises_same (task_with_core core) t held.threads h)
    ∙ ap (λ scene. selected scene) (scene_same rows core t held.threads (promises_of held.threads) held.owners h)

-- the selected task of what is held is one of the tasks
pub inside_of : (held : Held) (t : ℕ) → selected_of held ≡ Some t → t < length held.threads
inside_of held t e = selected_inside held.app.table.tasks held.threads (promises_of held.threads) held.owners t e

-- and Awake
pub awake_of : (held : Held) (t : ℕ) → selected_of held ≡ Some t → (thread_at held.threads t).task.status ≡ Awake
awake_of held t e = selected_awake held.app.table.tasks held.threads (promises_of held.threads) held.owners t e

-- ---- what a step was

called_or_ran : (line : Option Line) (class : Class) → Called line ≡ Ran class → ⊥
called_or_ran line class e = cc

asked_or_ran : (transfer : Transfer) (class : Class) → Asks transfer ≡ Ran class → ⊥
asked_or_ran transfer class e = cc

acquire_calls : (s : ℕ) (owner : Option TaskId) (t : TaskId) (p : Plain) (class : Class) → taken_of (acquire_outcome s owner) t p ≡ Ran class → ⊥
acquire_calls s None t p class e = called_or_ran _ class e
acquire_calls s (Some u) t p class e = called_or_ran _ class e

accepted_calls : (table : Table) (owners : List (Option TaskId)) (call : KernelCall) (t : TaskId) (p : Plain) (class : Class)
    → taken_of (accepted table owners call) t p ≡ Ran class → ⊥
accepted_calls table owners WaitJob t p class e = called_or_ran _ class e
accepted_calls table owners (Acquire s) t p class e = acquire_calls s (owner_at owners s) t p class e
accepted_calls table owners (Release s) t p class e = called_or_ran _ class e
accepted_calls table owners (Out port word) t p class e = called_or_ran _ class e
accepted_calls table owners (Write m at) t p class e = asked_or_ran _ class e
accepted_calls table owners (Read m at) t p class e = asked_or_ran _ class e
accepted_calls table owners (Signal u word) t p class e = called_or_ran _ class e
accepted_calls table owners Exit t p class e = called_or_ran _ class e
accepted_calls table owners (Unknown number) t p class e = called_or_ran _ class e

calls_by : (table : Table) (owners : List (Option TaskId)) (call : KernelCall) (answer : Option ℤ) (t : TaskId) (p : Plain) (class : Class)
    → taken_of (call_outcome_by table owners call answer) t p ≡ Ran class → ⊥
calls_by table owners call None t p class e = accepted_calls table owners call t p class e
calls_by table owners call (Some code) t p class e = called_or_ran _ class e

-- a call is told to be no instruction, whatever it comes to
pub never_ran : (table : Table) (t : TaskId) (known : Known) (owners : List (Option TaskId)) (core : Core) (p : Plain) (class : Class)
    → taken_of (call_outcome table t.0 known owners core) t p ≡ Ran class → ⊥
never_ran table t known owners core p class e =
    calls_by table owners (call_of core.registers) (refusal (call_of core.registers) table t.0 known) t p class e

-- the line of a fault is told
pub fault_is : (cause : ℕ) (t : TaskId) (p : Plain) (line : Line) → Some line ≡ line_by (Falls cause) t (task_at p.tasks t.0) p
    → Faulted line ≡ taken_of (Falls cause) t p
unfolding line_by
fault_is cause t p line e = ap Faulted (some_is line (fault_line cause t p) e)
  where
    some_is : (a b : Line) → Some a ≡ Some b → a ≡ b
    some_is a b f = cc

-- ---- the plain machine's selection

stop_bare : (threads : List Thread) (owners : List (Option TaskId)) → All IsBare threads → (t : ℕ)
    → stopper_at (statuses_of (tasks_of threads)) (promises_of threads) owners t ≡ stopper_at (statuses_of (tasks_of threads)) [] owners t
stop_bare threads owners bare t = ap (λ promise. stopper owners t promise (status_at (statuses_of (tasks_of threads)) t)) (none_here threads bare t)
  where
    none_here : (ts : List Thread) → All IsBare ts → (i : ℕ) → slice_index_or (promises_of ts) i None ≡ slice_index_or [] i None
    none_here [] b i = refl
    none_here (thread ∷ ts) b zero = (All-head IsBare thread ts b).0
    none_here (thread ∷ ts) b (suc i) = none_here ts (All-tail IsBare thread ts b) i

abbrev scene_by : ℕ → ℕ → (ℕ → Key) → (ℕ → Bool) → (ℕ → Option SemId) → List Status → List (Option TaskId) → Scene
scene_by count depth key active stop statuses owners = record {
  count = count;
  depth = depth;
  key = key;
  active = active;
  ready = λ t. is_awake (status_at statuses t) && is_none (stop t);
  next = λ t. owner_of owners (stop t);
}

-- without promises the plain machine selects the same
pub bare_selects : (held : Held) (p : Plain) (promises : List (Option SemId)) → All IsBare held.threads → Holds held p promises
    → selected_of held ≡ plain_selected held.app.table.tasks p
bare_selects held p promises bare s =
    let rows = held.app.table.tasks in
    let statuses = statuses_of (tasks_of held.threads) in
    let keys = keys_of rows (tasks_of held.threads) in
    ap (λ stop. selected (scene_by (length statuses) (suc (length held.owners)) (λ t. slice_index_or keys t no_key) (λ t. is_active (status_at statuses t)) stop statuses held.owners))
    (fun_ext (λ t. stop_bare held.threads held.owners bare t))
    ∙ ap (λ tasks. selected (scene_in rows tasks [] held.owners)) s.tasks
    ∙ ap (λ owners. selected (scene_in rows p.tasks [] owners)) s.owners

-- an instruction leaves the plain machine's selection as it is
pub worked_plainly : (held held' : Held) (p p' : Plain) (promises promises' : List (Option SemId)) (core : Core) (shared : Memory) (t : ℕ)
    → held' ≡ record held { threads = changed (with_core core) t held.threads; shared = shared } → t < length held.threads
    → Holds held p promises → Holds held' p' promises'
    → plain_selected held.app.table.tasks p' ≡ plain_selected held.app.table.tasks p
worked_plainly held held' p p' promises promises' core shared t e h s s' =
    let rows = held.app.table.tasks in
    ap (λ tasks. selected (scene_in rows tasks [] p'.owners)) (sym s'.tasks ∙ ap (λ (k : Held). tasks_of k.threads) e)
    ∙ ap (λ owners. selected (scene_in rows (tasks_of (changed (with_core core) t held.threads)) [] owners)) (sym s'.owners ∙ ap (λ (k : Held). k.owners) e)
    ∙ ap (λ scene. selected scene) (scene_same rows core t held.threads [] held.owners h)
    ∙ ap (λ tasks. selected (scene_in rows tasks [] held.owners)) s.tasks
    ∙ ap (λ owners. selected (scene_in rows p.tasks [] owners)) s.owners

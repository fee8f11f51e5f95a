-- A step and an event of the settled state are those of the state itself, settled.
use Rattle.std.specs.Bool.{⊤}
use Rattle.std.proofs.Common.{◌≡◌, ◌∙◌, ℕ, ◌+◌, ◌++◌, Bool, true, false, if◌then◌else◌, List, [], ◌∷◌, length, map, slice_set, Option, None, Some, sym, ap, refl}
use Rattle.std.specs.Prelude.{IsSome}
use Rattle.std.proofs.Math.Path.{fun_ext}
use Rattle.std.proofs.lemmas.Bool.{false≢true}
use Rattle.std.proofs.lemmas.List.{length-map, length-set}
use Rattle.em_base.specs.declared.events.Event.{Event}
use Rattle.em_base.specs.declared.events.Event.TheVariants.{Release, Unplug}
use Rattle.em_base.specs.declared.ids.TaskId.{TaskId}
use Rattle.em_base.specs.declared.jobs.Job.{Job}
use Rattle.em_base.specs.declared.tables.Table.{Table}
use Rattle.em_hart.specs.Instruction.{exec}
use Rattle.em_trace.specs.declared.lines.Line.{Line}
use Rattle.em_trace.specs.declared.lines.Line.TheVariants.{Sig}
use Rattle.em_gate.specs.Calls.{Known}
use Rattle.em_gate.specs.Effects.{after_outcome, frees, given, gives, lasts_after, line_by, option_list, own_after, owners_after, ports_after, shared_after, tasks_after, values_after, woken}
use Rattle.em_gate.specs.Events.{after_event, release_line}
use Rattle.em_gate.specs.Outcome.{Outcome, Works, Falls, Refuses, Ends, Gets, Blocks, Frees, Puts, Publishes, Fetches, Signals, Leaves, known_at, outcome, outcome_by}
use Rattle.em_gate.specs.State.{Copy, Plain, Reads, Task, Value, Writes, arrivals_at, task_at}
use Rattle.em_gate.specs.Tasks.{after_take, is_full, next_job, with_job}
use Rattle.em_kernel.specs.Moves.{copy_at}
use Rattle.em_sched.specs.Agreement.{settled_task}
use Rattle.em_sched.proofs.Flat.{flat_of, settle_all, settle_keeps, settle_set, settle_task, settle_woken, settled_at}

-- ---- what a step comes to

known_flat : (copies : List (Option Copy)) (t : ℕ) (p : Plain) → known_at (flat_of copies p) t ≡ known_at p t
known_flat copies t p =
    ap (λ (full : ℕ → Bool). let known : Known = record { owns = (known_at p t).owns; plugged = (known_at p t).plugged; full = full } in known)
    (fun_ext (λ u. settle_keeps is_full (λ core task. refl) p.values p.tasks copies u))

-- a step of a task with this core, where its copy doesn't show
pub outcome_flat : (table : Table) (code : List ℕ) (t : ℕ) (copies : List (Option Copy)) (p : Plain)
    → task_at (flat_of copies p).tasks t ≡ task_at p.tasks t
    → outcome table code t (flat_of copies p) ≡ outcome table code t p
outcome_flat table code t copies p here =
    ap (λ (task : Task). outcome_by table t (known_at (flat_of copies p) t) p.owners task.core (exec task.core.registers task.core.own p.shared code)) here
    ∙ ap
    (λ known. outcome_by table t known p.owners (task_at p.tasks t).core (exec (task_at p.tasks t).core.registers (task_at p.tasks t).core.own p.shared code))
    (known_flat copies t p)

-- ---- a step of a task, without what it gives

-- the state after that
abbrev pub quiet : Outcome → TaskId → Plain → Plain
quiet o t p = record {
  tasks = tasks_after o t.0 p;
  lasts = lasts_after o t.0 p;
  arrivals = p.arrivals;
  owners = owners_after o t.0 p.owners;
  values = values_after o (task_at p.tasks t.0).core p.values;
  ports = ports_after o p.ports;
  shared = shared_after o p.shared;
  lines = p.lines ++ option_list (line_by o t (task_at p.tasks t.0) p);
}

abbrev pub IsNoFetch : Outcome → Type 0
IsNoFetch o = (m at : ℕ) → o ≡ Fetches m at → ⊥

-- a step that fetches nothing sees of its state the task alone
own_same : (o : Outcome) (p q : Plain) (task : Task) → IsNoFetch o → own_after o p task ≡ own_after o q task
unfolding own_after
own_same (Works class core shared) p q task h = refl
own_same (Falls cause) p q task h = refl
own_same (Refuses code) p q task h = refl
own_same Ends p q task h = refl
own_same (Gets s) p q task h = refl
own_same (Blocks s) p q task h = refl
own_same (Frees s) p q task h = refl
own_same (Puts port word) p q task h = refl
own_same (Publishes m at count) p q task h = refl
own_same (Fetches m at) p q task h = absurd (h m at refl)
own_same (Signals u word) p q task h = refl
own_same Leaves p q task h = refl

lasts_flat : (o : Outcome) (t : ℕ) (copies : List (Option Copy)) (p : Plain) → task_at (flat_of copies p).tasks t ≡ task_at p.tasks t
    → lasts_after o t (flat_of copies p) ≡ lasts_after o t p
unfolding lasts_after
lasts_flat (Works class core shared) t copies p here = refl
lasts_flat (Falls cause) t copies p here = refl
lasts_flat (Refuses code) t copies p here = refl
lasts_flat Ends t copies p here = ap (λ (task : Task). slice_set p.lasts t (Some task.core.registers.pc)) here
lasts_flat (Gets s) t copies p here = refl
lasts_flat (Blocks s) t copies p here = refl
lasts_flat (Frees s) t copies p here = refl
lasts_flat (Puts port word) t copies p here = refl
lasts_flat (Publishes m at count) t copies p here = refl
lasts_flat (Fetches m at) t copies p here = refl
lasts_flat (Signals u word) t copies p here = refl
lasts_flat Leaves t copies p here = refl

line_flat : (o : Outcome) (t : TaskId) (task : Task) (copies : List (Option Copy)) (p : Plain)
    → line_by o t task (flat_of copies p) ≡ line_by o t task p
unfolding line_by
line_flat (Works class core shared) t task copies p = refl
line_flat (Falls cause) t task copies p = refl
line_flat (Refuses code) t task copies p = refl
line_flat Ends t task copies p = refl
line_flat (Gets s) t task copies p = refl
line_flat (Blocks s) t task copies p = refl
line_flat (Frees s) t task copies p = refl
line_flat (Puts port word) t task copies p = refl
line_flat (Publishes m at count) t task copies p = refl
line_flat (Fetches m at) t task copies p = refl
line_flat (Signals u word) t task copies p =
    settle_keeps (λ other. Some (Sig t (record { 0 = u }) (other.taken + 1))) (λ core other. refl) p.values p.tasks copies u
line_flat Leaves t task copies p = refl

-- a state by its parts that a step changes
abbrev parts : Outcome → Plain → List Task → List (Option ℕ) → List (List Value) → List Line → ℕ → Plain
parts o p tasks lasts values lines t = record {
  tasks = tasks;
  lasts = lasts;
  arrivals = p.arrivals;
  owners = owners_after o t p.owners;
  values = values;
  ports = ports_after o p.ports;
  shared = shared_after o p.shared;
  lines = lines;
}

-- a step of a task whose copy doesn't show, and is none after it; of the values that it publishes no copy sees any
pub quiet_flat : (o : Outcome) (t : TaskId) (copies : List (Option Copy)) (p : Plain) → length copies ≡ length p.tasks → IsNoFetch o
    → task_at (flat_of copies p).tasks t.0 ≡ task_at p.tasks t.0
    → settle_all (values_after o (task_at p.tasks t.0).core p.values) p.tasks copies ≡ settle_all p.values p.tasks copies
    → flat_of (slice_set copies t.0 None) (quiet o t p) ≡ quiet o t (flat_of copies p)
quiet_flat o t copies p h no_fetch here noted =
    ap (λ tasks. parts o p tasks (lasts_after o t.0 p) values (p.lines ++ option_list (line_by o t task p)) t.0) tasks
    ∙ ap (λ lasts. parts o p (tasks_after o t.0 q) lasts values (p.lines ++ option_list (line_by o t task p)) t.0) (sym (lasts_flat o t.0 copies p here))
    ∙ ap (λ (k : Task). parts o p (tasks_after o t.0 q) (lasts_after o t.0 q) (values_after o k.core p.values) (p.lines ++ option_list (line_by o t k p)) t.0)
    (sym here)
    ∙ ap (λ line. parts o p (tasks_after o t.0 q) (lasts_after o t.0 q) (values_after o (task_at q.tasks t.0).core p.values) (p.lines ++ option_list line) t.0)
    (sym (line_flat o t (task_at q.tasks t.0) copies p))
  where
    q : Plain
    q = flat_of copies p

    task : Task
    task = task_at p.tasks t.0

    values : List (List Value)
    values = values_after o task.core p.values

    free : ℕ → Bool
    free = frees o t.0 p.owners

    own : own_after o p task ≡ own_after o q (task_at q.tasks t.0)
    own = own_same o p q task no_fetch ∙ ap (own_after o q) (sym here)

    tasks : settle_all values (tasks_after o t.0 p) (slice_set copies t.0 None) ≡ tasks_after o t.0 q
    tasks =
        settle_woken values free (slice_set p.tasks t.0 (own_after o p task)) (slice_set copies t.0 None)
        ∙ ap (map (woken free))
        (settle_set values p.tasks copies t.0 (own_after o p task) None h
        ∙ ap (λ ts. slice_set ts t.0 (own_after o p task)) noted ∙ ap (slice_set q.tasks t.0) own)

-- ---- a release

-- a task with a read under way has a job
abbrev pub HasJob : Option Copy → Task → Type 0
HasJob None task = ⊤
HasJob (Some (Writes m at i)) task = ⊤
HasJob (Some (Reads m at noted i)) task = IsSome task.job

-- so that it takes a release with its core as it is
take_settled : (values : List (List Value)) (copy : Option Copy) (arrival word : ℕ) (task : Task) → HasJob copy task
    → settled_task values copy (after_take arrival word task) ≡ after_take arrival word (settled_task values copy task)
take_settled values copy arrival word task h = by_room copy h (is_full task) task.job refl
  where
    no_job : (o : Option Job) → o ≡ None → IsSome o → ⊥
    no_job None e some = false≢true some
    no_job (Some job) e some = absurd (cc)

    by_room : (copy : Option Copy) → HasJob copy task → (full : Bool) (job : Option Job) → task.job ≡ job
        → settled_task values copy (if full then task else with_job (next_job task arrival word) task job)
        ≡ (if full then settled_task values copy task else with_job (next_job task arrival word) (settled_task values copy task) job)
    by_room copy h true job e = refl
    by_room copy h false (Some job) e = refl
    by_room None h false None e = refl
    by_room (Some (Writes m at i)) h false None e = refl
    by_room (Some (Reads m at noted i)) h false None e = absurd (no_job task.job e h)

pub given_flat : (u arrival word : ℕ) (copies : List (Option Copy)) (p : Plain) → length copies ≡ length p.tasks
    → HasJob (copy_at copies u) (task_at p.tasks u)
    → flat_of copies (given u arrival word p) ≡ given u arrival word (flat_of copies p)
given_flat u arrival word copies p h job =
    ap (λ tasks. with_gift tasks (is_full (task_at p.tasks u)))
    (settle_task p.values p.tasks copies u (after_take arrival word (task_at p.tasks u)) h
    ∙ ap (slice_set q.tasks u)
    (take_settled p.values (copy_at copies u) arrival word (task_at p.tasks u) job ∙ ap (after_take arrival word) (sym (settled_at p.values p.tasks copies u h))))
    ∙ ap (with_gift (slice_set q.tasks u (after_take arrival word (task_at q.tasks u))))
    (sym (settle_keeps is_full (λ core task. refl) p.values p.tasks copies u))
  where
    q : Plain
    q = flat_of copies p

    with_gift : List Task → Bool → Plain
    with_gift tasks full = record p {
      tasks = tasks;
      arrivals = if full then p.arrivals else slice_set p.arrivals u (arrivals_at p.arrivals u ++ arrival ∷ []);
    }

-- an event
pub event_flat : (event : Event) (copies : List (Option Copy)) (p : Plain) → length copies ≡ length p.tasks
    → ((u : ℕ) → HasJob (copy_at copies u) (task_at p.tasks u))
    → flat_of copies (after_event event p) ≡ after_event event (flat_of copies p)
event_flat (Release t time word) copies p h jobs =
    ap (λ line. flat_of copies (record (given t.0 time word p) { lines = p.lines ++ option_list (Some line) }))
    (sym (settle_keeps (release_line t time word) (λ core task. refl) p.values p.tasks copies t.0))
    ∙ ap (λ (q : Plain). let r : Plain = record q { lines = p.lines ++ option_list (Some (release_line t time word (task_at (flat_of copies p).tasks t.0))) } in r)
    (given_flat t.0 time word copies p h (jobs t.0))
event_flat (Unplug port) copies p h jobs = refl

-- ---- a step with what it gives

pub gives_flat : (o : Outcome) (copies : List (Option Copy)) (p : Plain) → length copies ≡ length p.tasks
    → ((u : ℕ) → HasJob (copy_at copies u) (task_at p.tasks u))
    → flat_of copies (gives o p) ≡ gives o (flat_of copies p)
unfolding gives
gives_flat (Works class core shared) copies p h jobs = refl
gives_flat (Falls cause) copies p h jobs = refl
gives_flat (Refuses code) copies p h jobs = refl
gives_flat Ends copies p h jobs = refl
gives_flat (Gets s) copies p h jobs = refl
gives_flat (Blocks s) copies p h jobs = refl
gives_flat (Frees s) copies p h jobs = refl
gives_flat (Puts port word) copies p h jobs = refl
gives_flat (Publishes m at count) copies p h jobs = refl
gives_flat (Fetches m at) copies p h jobs = refl
gives_flat (Signals u word) copies p h jobs = given_flat u 0 word copies p h (jobs u)
gives_flat Leaves copies p h jobs = refl

pub quiet_count : (o : Outcome) (t : TaskId) (p : Plain) → length (quiet o t p).tasks ≡ length p.tasks
quiet_count o t p =
    length-map (slice_set p.tasks t.0 (own_after o p (task_at p.tasks t.0))) (woken (frees o t.0 p.owners))
    ∙ length-set p.tasks t.0 (own_after o p (task_at p.tasks t.0))

pub outcome_flat_after : (o : Outcome) (t : TaskId) (copies : List (Option Copy)) (p : Plain) → length copies ≡ length p.tasks → IsNoFetch o
    → task_at (flat_of copies p).tasks t.0 ≡ task_at p.tasks t.0
    → settle_all (values_after o (task_at p.tasks t.0).core p.values) p.tasks copies ≡ settle_all p.values p.tasks copies
    → ((u : ℕ) → HasJob (copy_at (slice_set copies t.0 None) u) (task_at (quiet o t p).tasks u))
    → flat_of (slice_set copies t.0 None) (after_outcome o t p) ≡ after_outcome o t (flat_of copies p)
outcome_flat_after o t copies p h no_fetch here noted jobs =
    gives_flat o (slice_set copies t.0 None) (quiet o t p) (length-set copies t.0 None ∙ h ∙ sym (quiet_count o t p)) jobs
    ∙ ap (gives o) (quiet_flat o t copies p h no_fetch here noted)

-- What selection works on is the scene of the state.
use Rattle.std.proofs.Common.{◌≡◌, ◌∙◌, ℕ, zero, suc, ◌+◌, ◌<◌, ◌≤◌, ◌⊎◌, inl, inr, ◌&&◌, Bool, List, [], ◌∷◌, length, map, filter, slice_index_or, All, IfSome, true, false, cond, Option, None, Some, sym, ap, subst, refl, arith}
use Rattle.std.specs.List.{range_with_len}
use Rattle.std.proofs.lemmas.List.Elements.{All-nil, All-cons, All-head, All-tail, filter_passes}
use Rattle.std.proofs.Math.Path.{fun_ext}
use Rattle.std.proofs.lemmas.Bool.{cases_lt}
use Rattle.std.proofs.lemmas.List.{get_or-map, get_or_past, length-map}
use Rattle.std.proofs.lemmas.List.FromFn.{length-enumerate_from, get_or-enumerate_from}
use Rattle.em_base.specs.declared.ids.SemId.{SemId}
use Rattle.em_base.specs.declared.ids.TaskId.{TaskId}
use Rattle.em_base.specs.declared.jobs.Key.{Key}
use Rattle.em_base.specs.declared.jobs.Status.{Status}
use Rattle.em_base.specs.declared.jobs.Status.TheVariants.{Asleep, Awake, Waits, Stopped}
use Rattle.em_base.specs.declared.tables.TaskRow.{TaskRow}
use Rattle.em_base.specs.Keys.{key_lt, numbered}
use Rattle.em_base.specs.Selection.{Scene, effective_key, least_by, more_urgent, selected, tasks_where, no_key, is_active, is_awake, is_none, owner_at, owner_of, scene_of, status_at, stopper, stopper_at}
use Rattle.em_gate.specs.State.{Core, Task, task_at}
use Rattle.em_gate.specs.Selecting.{key_of, keys_of, scene_in, statuses_of}
use Rattle.em_threads.specs.Threads.{Thread, no_thread, thread_at, changed, with_core}
use Rattle.em_system.specs.declared.selection.Rank.{Rank}
use Rattle.em_system.specs.declared.selection.Standing.{Standing}
use Rattle.em_system.specs.Held.{tasks_of, promises_of}
use Rattle.em_system.specs.Standings.{number_of, no_rank, no_standing, rank_at, rank_of, ranked_key, ranks_of, scene_from, standing_at, standing_of, stop_of, stopping}

-- a scene by its fields
abbrev made : ℕ → ℕ → (ℕ → Key) → (ℕ → Bool) → (ℕ → Bool) → (ℕ → Option ℕ) → Scene
made count depth key active ready next = record { count = count; depth = depth; key = key; active = active; ready = ready; next = next }

-- ---- parts of a task

pub status_here : (threads : List Thread) (t : ℕ) → status_at (statuses_of (tasks_of threads)) t ≡ (thread_at threads t).task.status
status_here [] t = refl
status_here (thread ∷ threads) zero = refl
status_here (thread ∷ threads) (suc t) = status_here threads t

pub promise_here : (threads : List Thread) (t : ℕ) → slice_index_or (promises_of threads) t None ≡ (thread_at threads t).promise
promise_here [] t = refl
promise_here (thread ∷ threads) zero = refl
promise_here (thread ∷ threads) (suc t) = promise_here threads t

pub task_here : (threads : List Thread) (t : ℕ) → task_at (tasks_of threads) t ≡ (thread_at threads t).task
task_here [] t = refl
task_here (thread ∷ threads) zero = refl
task_here (thread ∷ threads) (suc t) = task_here threads t

pub stop_here : (threads : List Thread) (owners : List (Option TaskId)) (t : ℕ)
    → stopper_at (statuses_of (tasks_of threads)) (promises_of threads) owners t ≡ stop_of owners t (thread_at threads t)
stop_here threads owners t =
    ap (λ promise. stopper owners t promise (status_at (statuses_of (tasks_of threads)) t)) (promise_here threads t)
    ∙ ap (λ status. stopper owners t (thread_at threads t).promise status) (status_here threads t)

number_here : (owners : List (Option TaskId)) (stop : Option SemId) → number_of (stopping owners stop) ≡ owner_of owners stop
number_here owners None = refl
number_here owners (Some s) = by_owner (owner_at owners s.0)
  where
    by_owner : (o : Option TaskId) → number_of o ≡ elim o as (λ _. Option ℕ) [ None ↦ None | Some u ↦ Some u.0 ]
    by_owner None = refl
    by_owner (Some u) = refl

-- ---- keys

key_by : (row : TaskRow) (rows : List TaskRow) (threads : List Thread) (t : ℕ) → t < length rows
    → ranked_key (rank_at (ranks_of rows) t) t (thread_at threads t).task.job ≡ slice_index_or (keys_of rows (tasks_of threads)) t no_key
key_by row rows threads t h =
    let f : (ℕ × TaskRow → Key) = λ r. key_of rows r (task_at (tasks_of threads) r.0).job in
    let start : t ≡ 0 + t = omega arith in
    let inside : t < length (numbered rows) = subst (λ n. t < n) (sym (length-enumerate_from 0 rows)) h in
    let here : slice_index_or (numbered rows) t (0, row) ≡ (0 + t, slice_index_or rows t row) = get_or-enumerate_from 0 rows t (0, row) h in
    ap (λ rank. ranked_key rank t (thread_at threads t).task.job) (get_or-map (rank_of rows) (numbered rows) t (0, row) no_rank inside ∙ ap (rank_of rows) here)
    ∙ ap (λ task. ranked_key (rank_of rows (0 + t, slice_index_or rows t row)) t task.job) (sym (task_here threads t))
    ∙ ap (λ n. ranked_key (rank_of rows (0 + t, slice_index_or rows t row)) n (task_at (tasks_of threads) n).job) start
    ∙ sym (get_or-map f (numbered rows) t (0, row) no_key inside ∙ ap f here)

pub key_here : (rows : List TaskRow) (threads : List Thread) (t : ℕ) → t < length rows
    → ranked_key (rank_at (ranks_of rows) t) t (thread_at threads t).task.job ≡ slice_index_or (keys_of rows (tasks_of threads)) t no_key
key_here [] threads t h = absurd (omega (arith, h))
key_here (row ∷ rows) threads t h = key_by row (row ∷ rows) threads t h

length_keys : (rows : List TaskRow) (tasks : List Task) → length (keys_of rows tasks) ≡ length rows
length_keys rows tasks = length-map (numbered rows) (λ row. key_of rows row (task_at tasks row.0).job) ∙ length-enumerate_from 0 rows

length_statuses : (threads : List Thread) → length (statuses_of (tasks_of threads)) ≡ length threads
length_statuses threads = length-map (tasks_of threads) (λ task. task.status) ∙ length-map threads (λ thread. thread.task)

-- ---- one task

-- each task that there is was looked at
abbrev AreSeen : List TaskRow → List Thread → List (Option TaskId) → List Standing → Type 0
AreSeen rows threads owners standings =
    (t : ℕ) → t < length threads → standing_at standings t ≡ standing_of (rank_at (ranks_of rows) t) owners t (thread_at threads t)

key_at : (rows : List TaskRow) (threads : List Thread) (owners : List (Option TaskId)) (standings : List Standing) (t : ℕ)
    → AreSeen rows threads owners standings → length threads ≡ length rows → length standings ≡ length threads
    → (standing_at standings t).key ≡ slice_index_or (keys_of rows (tasks_of threads)) t no_key
key_at rows threads owners standings t seen all count = by_place (cases_lt t (length threads))
  where
    by_place : (t < length threads) ⊎ (length threads ≤ t) → (standing_at standings t).key ≡ slice_index_or (keys_of rows (tasks_of threads)) t no_key
    by_place (inl h) = ap (λ standing. standing.key) (seen t h) ∙ key_here rows threads t (omega (arith, h, all))
    by_place (inr h) =
        ap (λ standing. standing.key) (get_or_past standings t no_standing (omega (arith, h, count)))
        ∙ sym (get_or_past (keys_of rows (tasks_of threads)) t no_key (omega (arith, h, all, length_keys rows (tasks_of threads))))

active_at : (rows : List TaskRow) (threads : List Thread) (owners : List (Option TaskId)) (standings : List Standing) (t : ℕ)
    → AreSeen rows threads owners standings → length standings ≡ length threads
    → (standing_at standings t).active ≡ is_active (status_at (statuses_of (tasks_of threads)) t)
active_at rows threads owners standings t seen count = by_place (cases_lt t (length threads)) ∙ ap is_active (sym (status_here threads t))
  where
    by_place : (t < length threads) ⊎ (length threads ≤ t) → (standing_at standings t).active ≡ is_active (thread_at threads t).task.status
    by_place (inl h) = ap (λ standing. standing.active) (seen t h)
    by_place (inr h) =
        ap (λ standing. standing.active) (get_or_past standings t no_standing (omega (arith, h, count)))
        ∙ sym (ap (λ thread. is_active thread.task.status) (get_or_past threads t no_thread h))

ready_at : (rows : List TaskRow) (threads : List Thread) (owners : List (Option TaskId)) (standings : List Standing) (t : ℕ)
    → AreSeen rows threads owners standings → length standings ≡ length threads
    → (standing_at standings t).ready
    ≡ (is_awake (status_at (statuses_of (tasks_of threads)) t) && is_none (stopper_at (statuses_of (tasks_of threads)) (promises_of threads) owners t))
ready_at rows threads owners standings t seen count =
    by_place (cases_lt t (length threads))
    ∙ ap (λ status. is_awake status && is_none (stop_of owners t (thread_at threads t))) (sym (status_here threads t))
    ∙ ap (λ stop. is_awake (status_at (statuses_of (tasks_of threads)) t) && is_none stop) (sym (stop_here threads owners t))
  where
    by_place : (t < length threads) ⊎ (length threads ≤ t)
        → (standing_at standings t).ready ≡ (is_awake (thread_at threads t).task.status && is_none (stop_of owners t (thread_at threads t)))
    by_place (inl h) = ap (λ standing. standing.ready) (seen t h)
    by_place (inr h) =
        ap (λ standing. standing.ready) (get_or_past standings t no_standing (omega (arith, h, count)))
        ∙ sym (ap (λ thread. is_awake thread.task.status && is_none (stop_of owners t thread)) (get_or_past threads t no_thread h))

next_at : (rows : List TaskRow) (threads : List Thread) (owners : List (Option TaskId)) (standings : List Standing) (t : ℕ)
    → AreSeen rows threads owners standings → length standings ≡ length threads
    → number_of (standing_at standings t).next ≡ owner_of owners (stopper_at (statuses_of (tasks_of threads)) (promises_of threads) owners t)
next_at rows threads owners standings t seen count =
    by_place (cases_lt t (length threads))
    ∙ number_here owners (stop_of owners t (thread_at threads t))
    ∙ ap (owner_of owners) (sym (stop_here threads owners t))
  where
    by_place : (t < length threads) ⊎ (length threads ≤ t)
        → number_of (standing_at standings t).next ≡ number_of (stopping owners (stop_of owners t (thread_at threads t)))
    by_place (inl h) = ap (λ standing. number_of standing.next) (seen t h)
    by_place (inr h) =
        ap (λ standing. number_of standing.next) (get_or_past standings t no_standing (omega (arith, h, count)))
        ∙ sym (ap (λ thread. number_of (stopping owners (stop_of owners t thread))) (get_or_past threads t no_thread h))

-- ---- the scene

-- where each task was looked at, what selection works on is the scene
pub scene_is : (rows : List TaskRow) (threads : List Thread) (owners : List (Option TaskId)) (standings : List Standing) (ranks : List Rank) (depth : ℕ)
    → ranks ≡ ranks_of rows → length threads ≡ length rows → length standings ≡ length threads → depth ≡ suc (length owners)
    → ((t : ℕ) → t < length threads → standing_at standings t ≡ standing_of (rank_at ranks t) owners t (thread_at threads t))
    → scene_from depth standings ≡ scene_in rows (tasks_of threads) (promises_of threads) owners
scene_is rows threads owners standings ranks depth ranked all seen deep each =
    let statuses = statuses_of (tasks_of threads) in
    let promises = promises_of threads in
    let count : length standings ≡ length statuses = seen ∙ sym (length_statuses threads) in
    let there : (t : ℕ) → t < length threads → standing_at standings t ≡ standing_of (rank_at (ranks_of rows) t) owners t (thread_at threads t) =
    λ t h. each t h ∙ ap (λ r. standing_of (rank_at r t) owners t (thread_at threads t)) ranked in
    let key : (λ t. (standing_at standings t).key) ≡ (λ t. slice_index_or (keys_of rows (tasks_of threads)) t no_key) = fun_ext (λ t. key_at rows threads owners standings t there all seen) in
    let active : (λ t. (standing_at standings t).active) ≡ (λ t. is_active (status_at statuses t)) = fun_ext (λ t. active_at rows threads owners standings t there seen) in
    let ready : (λ t. (standing_at standings t).ready) ≡ (λ t. is_awake (status_at statuses t) && is_none (stopper_at statuses promises owners t)) =
    fun_ext (λ t. ready_at rows threads owners standings t there seen) in
    let next : (λ t. number_of (standing_at standings t).next) ≡ (λ t. owner_of owners (stopper_at statuses promises owners t)) =
    fun_ext (λ t. next_at rows threads owners standings t there seen) in
    ap (λ n. made n depth (λ t. (standing_at standings t).key) (λ t. (standing_at standings t).active) (λ t. (standing_at standings t).ready) (λ t. number_of (standing_at standings t).next)) count
    ∙ ap (λ d. made (length statuses) d (λ t. (standing_at standings t).key) (λ t. (standing_at standings t).active) (λ t. (standing_at standings t).ready) (λ t. number_of (standing_at standings t).next)) deep
    ∙ ap (λ f. made (length statuses) (suc (length owners)) f (λ t. (standing_at standings t).active) (λ t. (standing_at standings t).ready) (λ t. number_of (standing_at standings t).next)) key
    ∙ ap (λ f. made (length statuses) (suc (length owners)) (λ t. slice_index_or (keys_of rows (tasks_of threads)) t no_key) f (λ t. (standing_at standings t).ready) (λ t. number_of (standing_at standings t).next)) active
    ∙ ap (λ f. made (length statuses) (suc (length owners)) (λ t. slice_index_or (keys_of rows (tasks_of threads)) t no_key) (λ t. is_active (status_at statuses t)) f (λ t. number_of (standing_at standings t).next)) ready
    ∙ ap (λ f. made (length statuses) (suc (length owners)) (λ t. slice_index_or (keys_of rows (tasks_of threads)) t no_key) (λ t. is_active (status_at statuses t)) (λ t. is_awake (status_at statuses t) && is_none (stopper_at statuses promises owners t)) f) next

-- there are as many ranks as tasks
pub length_ranks : (rows : List TaskRow) → length (ranks_of rows) ≡ length rows
length_ranks rows = length-map (numbered rows) (rank_of rows) ∙ length-enumerate_from 0 rows

-- ---- the selected task is one of the tasks

range_below : (a k n : ℕ) → a + k ≤ n → All (λ t. t < n) (range_with_len a k)
range_below a zero n h = All-nil (λ t. t < n)
range_below a (suc k) n h = All-cons (λ t. t < n) a (range_with_len (a + 1) k) (omega (arith, h)) (range_below (a + 1) k n (omega (arith, h)))

kept_below : (test : ℕ → Bool) (n : ℕ) (xs : List ℕ) → All (λ t. t < n) xs → All (λ t. t < n) (filter test xs)
kept_below test n [] a = All-nil (λ t. t < n)
kept_below test n (x ∷ xs) a = by_test (test x) (kept_below test n xs (All-tail (λ t. t < n) x xs a))
  where
    by_test : (b : Bool) → All (λ t. t < n) (filter test xs) → All (λ t. t < n) (cond b (x ∷ filter test xs) (filter test xs))
    by_test true rest = All-cons (λ t. t < n) x (filter test xs) (All-head (λ t. t < n) x xs a) rest
    by_test false rest = rest

least_below : (key : ℕ → Key) (n : ℕ) (xs : List ℕ) → All (λ t. t < n) xs → IfSome (least_by key xs) (λ t. t < n)
least_below key n [] a = tt
least_below key n (x ∷ xs) a = by_rest (least_by key xs) (least_below key n xs (All-tail (λ t. t < n) x xs a))
  where
    here : x < n
    here = All-head (λ t. t < n) x xs a

    by_key : (b : Bool) (u : ℕ) → u < n → cond b u x < n
    by_key true u h = h
    by_key false u h = here

    by_rest : (rest : Option ℕ) → IfSome rest (λ t. t < n) → more_urgent key x rest < n
    by_rest None h = here
    by_rest (Some u) h = by_key (key_lt (key u) (key x)) u h

-- the selected task of a scene is one of its tasks
pub selected_exists : (scene : Scene) → IfSome (selected scene) (λ t. t < scene.count)
selected_exists scene =
    least_below (effective_key scene) scene.count (tasks_where scene.count scene.ready)
    (kept_below scene.ready scene.count (range_with_len 0 scene.count) (range_below 0 scene.count scene.count (omega arith)))

-- a task whose number is one of so many
pub task_within : (task : Option TaskId) (n : ℕ) (number : Option ℕ) → number_of task ≡ number → IfSome number (λ t. t < n) → IfSome task (λ t. t.0 < n)
task_within None n number e h = tt
task_within (Some t) n number e h = subst (λ o. IfSome o (λ u. u < n)) (sym e) h

-- what all tasks of a list have, the one of the least key has
least_of_all : (P : ℕ → Type 0) (key : ℕ → Key) (xs : List ℕ) → All P xs → IfSome (least_by key xs) P
least_of_all P key [] a = tt
least_of_all P key (x ∷ xs) a = by_rest (least_by key xs) (least_of_all P key xs (All-tail P x xs a))
  where
    here : P x
    here = All-head P x xs a

    by_key : (b : Bool) (u : ℕ) → P u → P (cond b u x)
    by_key true u h = h
    by_key false u h = here

    by_rest : (rest : Option ℕ) → IfSome rest P → P (more_urgent key x rest)
    by_rest None h = here
    by_rest (Some u) h = by_key (key_lt (key u) (key x)) u h

-- the selected task is ready
pub selected_ready : (scene : Scene) → IfSome (selected scene) (λ t. scene.ready t ≡ true)
selected_ready scene =
    least_of_all (λ t. scene.ready t ≡ true) (effective_key scene) (tasks_where scene.count scene.ready)
    (filter_passes scene.ready (range_with_len 0 scene.count))

left_true : (a b : Bool) → (a && b) ≡ true → a ≡ true
left_true true b e = refl
left_true false b e = e

awake_is : (status : Status) → is_awake status ≡ true → status ≡ Awake
awake_is Asleep e = cc
awake_is Awake e = refl
awake_is (Waits s) e = cc
awake_is Stopped e = cc

-- the selected task of what is held is Awake
pub selected_awake : (rows : List TaskRow) (threads : List Thread) (promises : List (Option SemId)) (owners : List (Option TaskId)) (t : ℕ)
    → selected (scene_in rows (tasks_of threads) promises owners) ≡ Some t → (thread_at threads t).task.status ≡ Awake
selected_awake rows threads promises owners t e =
    let scene : Scene = scene_in rows (tasks_of threads) promises owners in
    let ready : scene.ready t ≡ true = subst (λ o. IfSome o (λ u. scene.ready u ≡ true)) e (selected_ready scene) in
    awake_is (thread_at threads t).task.status (ap is_awake (sym (status_here threads t)) ∙ left_true (is_awake (status_at (statuses_of (tasks_of threads)) t)) _ ready)

-- and one of the tasks
pub selected_inside : (rows : List TaskRow) (threads : List Thread) (promises : List (Option SemId)) (owners : List (Option TaskId)) (t : ℕ)
    → selected (scene_in rows (tasks_of threads) promises owners) ≡ Some t → t < length threads
selected_inside rows threads promises owners t e =
    let scene : Scene = scene_in rows (tasks_of threads) promises owners in
    subst (λ n. t < n) (length_statuses threads) (subst (λ o. IfSome o (λ u. u < scene.count)) e (selected_exists scene))

-- ---- a change of a core changes no scene

jobs_same : (core : Core) (t : ℕ) (threads : List Thread) → t < length threads → (u : ℕ)
    → (task_at (tasks_of (changed (with_core core) t threads)) u).job ≡ (task_at (tasks_of threads) u).job
jobs_same core zero (thread ∷ threads) h zero = refl
jobs_same core zero (thread ∷ threads) h (suc u) = refl
jobs_same core (suc t) (thread ∷ threads) h zero = refl
jobs_same core (suc t) (thread ∷ threads) h (suc u) = jobs_same core t threads (omega (arith, h)) u
jobs_same core t [] h u = absurd (omega (arith, h))

statuses_same : (core : Core) (t : ℕ) (threads : List Thread) → t < length threads
    → statuses_of (tasks_of (changed (with_core core) t threads)) ≡ statuses_of (tasks_of threads)
statuses_same core t [] h = absurd (omega (arith, h))
statuses_same core zero (thread ∷ threads) h = refl
statuses_same core (suc t) (thread ∷ threads) h =
    ap (λ rest. thread.task.status ∷ rest) (statuses_same core t threads (omega (arith, h)))

keys_same : (rows : List TaskRow) (core : Core) (t : ℕ) (threads : List Thread) → t < length threads
    → keys_of rows (tasks_of (changed (with_core core) t threads)) ≡ keys_of rows (tasks_of threads)
keys_same rows core t threads h =
    ap (λ f. map f (numbered rows)) (fun_ext (λ row. ap (λ job. key_of rows row job) (jobs_same core t threads h row.0)))

-- what selection sees is the same after an instruction
pub scene_same : (rows : List TaskRow) (core : Core) (t : ℕ) (threads : List Thread) (promises : List (Option SemId)) (owners : List (Option TaskId)) → t < length threads
    → scene_in rows (tasks_of (changed (with_core core) t threads)) promises owners ≡ scene_in rows (tasks_of threads) promises owners
scene_same rows core t threads promises owners h =
    ap (λ keys. scene_of keys (statuses_of (tasks_of (changed (with_core core) t threads))) promises owners) (keys_same rows core t threads h)
    ∙ ap (λ statuses. scene_of (keys_of rows (tasks_of threads)) statuses promises owners) (statuses_same core t threads h)

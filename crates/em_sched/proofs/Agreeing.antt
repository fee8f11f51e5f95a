-- What is level agrees, and both machines select alike.
use Rattle.std.proofs.Common.{◌≡◌, ◌∙◌, ℕ, zero, suc, ◌+◌, ◌<◌, List, [], ◌∷◌, All, length, slice_get, slice_index_or, Option, None, Some, sym, ap, subst, refl, arith}
use Rattle.std.proofs.lemmas.List.{get_or-map, length-map}
use Rattle.std.proofs.lemmas.List.Elements.{All-head, All-tail}
use Rattle.std.proofs.lemmas.List.FromFn.{get_or-enumerate_from, length-enumerate_from}
use Rattle.em_base.specs.declared.apps.App.{App}
use Rattle.em_base.specs.declared.ids.SemId.{SemId}
use Rattle.em_base.specs.declared.jobs.Key.{Key}
use Rattle.em_base.specs.declared.tables.MsgRow.{MsgRow}
use Rattle.em_base.specs.declared.tables.TaskRow.{TaskRow}
use Rattle.em_base.specs.Tables.{IsMessage, IsTable}
use Rattle.em_base.specs.Keys.{numbered}
use Rattle.em_base.specs.Selection.{no_key}
use Rattle.em_gate.specs.Calls.{row_words}
use Rattle.em_gate.specs.Selecting.{counted_selected, key_of, keys_of, statuses_of}
use Rattle.em_gate.specs.State.{Counted, Plain, Task, task_at}
use Rattle.em_roots.specs.Roots.{AreOwned, least_active}
use Rattle.em_roots.proofs.Chains.{rooted}
use Rattle.em_roots.proofs.Roots.{selects_root}
use Rattle.em_sched.specs.Agreement.{Agrees, AreKept, SelectAlike, SelectsRoot, scene_at}
use Rattle.em_kernel.specs.Moves.{Move, Acts, StartsWrite, TakesWord, EndsWrite, StartsRead, PutsWord, EndsRead, Lapses, move_of}
use Rattle.em_kernel.specs.Step.{kind_of}
use Rattle.em_sched.specs.Image.{Image, promise_at}
use Rattle.em_sched.specs.Turns.{Both, Comes, Thread, Turn, acted, both_after, both_run, move_what, thread_what, what_of}
use Rattle.em_sched.proofs.Bare.{Bare, bare_scene}
use Rattle.em_sched.proofs.Flat.{flat, settle_count, settle_keeps, settle_scene, settled_at}
use Rattle.em_sched.proofs.Levels.{Fits, IsLevel, level_after, status_is}
use Rattle.em_sched.proofs.Orderly.{IsOrderly, IsSimple, owned_flat}
use Rattle.em_sched.proofs.Owned.{Owned}

row_some : (rows : List MsgRow) (tasks : List TaskRow) (m : ℕ) → All (IsMessage tasks) rows → m < length rows → 0 < row_words (slice_get rows m)
row_some [] tasks m is h = absurd (omega (arith, h))
row_some (row ∷ rows) tasks zero is h = omega (arith, (All-head (IsMessage tasks) row rows is).words.0)
row_some (row ∷ rows) tasks (suc m) is h = row_some rows tasks m (All-tail (IsMessage tasks) row rows is) (omega (arith, h))

-- an application without hints has no more semaphores than a set of them holds, and a word or more in each message
pub simple : (app : App) → IsTable app.table → app.hints.hints ≡ [] → IsSimple app
simple app is none = record {
  hints = none;
  few = is.semaphores;
  words = λ m inside. row_some app.table.messages app.table.tasks m is.messages inside;
}

-- ---- agreement

-- the settled state agrees with the counted state
settles : (app : App) (c : Counted) → IsOrderly app c → Agrees c (flat c)
settles app c h = record {
  owners = refl;
  values = refl;
  ports = refl;
  shared = refl;
  lines = refl;
  lasts = refl;
  arrivals = refl;
  count = settle_count c.plain.values c.plain.tasks c.copies;
  job = λ t. settle_keeps (λ task. task.job) (λ core task. refl) c.plain.values c.plain.tasks c.copies t;
  pending = λ t. settle_keeps (λ task. task.pending) (λ core task. refl) c.plain.values c.plain.tasks c.copies t;
  taken = λ t. settle_keeps (λ task. task.taken) (λ core task. refl) c.plain.values c.plain.tasks c.copies t;
  tasks = λ t. settled_at c.plain.values c.plain.tasks c.copies t h.copies.count;
}

pub agrees_level : (app : App) (c : Counted) (image : Image) → IsLevel app c image → Agrees c image.plain
agrees_level app c image level = subst (Agrees c) (sym level.same) (settles app c level.orderly)

-- ---- what is kept

some_none : (s : SemId) → None ≡ Some s → ⊥
some_none s e = cc

pub kept : (app : App) (p : Plain) (promises : List (Option SemId)) → Owned p → length p.tasks ≡ length app.table.tasks
    → length p.owners ≡ app.table.semaphores → Bare promises → AreKept app p promises
kept app p promises h tasks semaphores bare = record {
  tasks = tasks;
  semaphores = semaphores;
  owner = λ s u own. record { exists = (h.owner s u own).0; awake = (h.owner s u own).1; unpromised = bare u.0 };
  waits = h.waits;
  promised = λ t s own. absurd (some_none s (sym (bare t) ∙ own));
}

-- ---- selection

key_named : (row : TaskRow) (rows : List TaskRow) (tasks : List Task) (t : ℕ) → t < length rows
    → (slice_index_or (keys_of rows tasks) t no_key).id ≡ t
key_named row rows tasks t h =
    let f : (ℕ × TaskRow → Key) = λ r. key_of rows r (task_at tasks r.0).job in
    let inside : t < length (numbered rows) = subst (λ n. t < n) (sym (length-enumerate_from 0 rows)) h in
    let number : 0 + t ≡ t = omega arith in
    ap (λ (key : Key). key.id) (get_or-map f (numbered rows) t (0, row) no_key inside)
    ∙ ap (λ (r : ℕ × TaskRow). r.0) (get_or-enumerate_from 0 rows t (0, row) h)
    ∙ number

named : (rows : List TaskRow) (tasks : List Task) (t : ℕ) → t < length rows → (slice_index_or (keys_of rows tasks) t no_key).id ≡ t
named [] tasks t h = absurd (omega (arith, h))
named (row ∷ rows) tasks t h = key_named row (row ∷ rows) tasks t h

owned_scene : (app : App) (p : Plain) (promises : List (Option SemId)) → AreKept app p promises
    → AreOwned (keys_of app.table.tasks p.tasks) (statuses_of p.tasks) promises p.owners
owned_scene app p promises h = record {
  named = λ t l. named app.table.tasks p.tasks t (omega (arith, l, count, h.tasks));
  owner = λ s u own.
      let is = h.owner s u own in
      (subst (λ n. u.0 < n) (sym count) is.exists, status_is p.tasks u.0 ∙ is.awake, is.unpromised);
  waits = λ t s w. h.waits t s (sym (status_is p.tasks t) ∙ w);
}
  where
    count : length (statuses_of p.tasks) ≡ length p.tasks
    count = length-map p.tasks (λ task. task.status)

pub selects : (app : App) (p : Plain) (promises : List (Option SemId)) → AreKept app p promises → SelectsRoot (scene_at app p promises)
selects app p promises h =
    let whole = rooted (keys_of app.table.tasks p.tasks) (statuses_of p.tasks) promises p.owners (owned_scene app p promises h) in
    record { rooted = whole; selects = selects_root (scene_at app p promises) whole }

pub select_alike : (app : App) (c : Counted) (image : Image) → IsLevel app c image → AreKept app c.plain c.promises → AreKept app image.plain []
    → SelectAlike app c image.plain
select_alike app c image level counted plain = record {
  counted = selects app c.plain c.promises counted;
  plain = selects app image.plain [] plain;
  same =
      ap (λ (q : Plain). least_active (scene_at app q [])) level.same
      ∙ ap least_active
      (settle_scene app.table.tasks c.plain.values c.plain.tasks c.copies [] c.plain.owners
      ∙ sym (bare_scene app.table.tasks c.plain.tasks c.promises c.plain.owners level.orderly.bare));
}

-- ---- turns

move_fits : (app : App) (c : Counted) (t : ℕ) → counted_selected app.table.tasks c ≡ Some t → (move : Move) → move_of app c t ≡ move
    → Fits app c (move_what c (record { 0 = t }) move)
move_fits app c t e (Acts o) is = (e, ap kind_of (sym is))
move_fits app c t e (StartsWrite m at) is = (e, ap kind_of (sym is))
move_fits app c t e (TakesWord m at i) is = (e, ap kind_of (sym is))
move_fits app c t e (EndsWrite m at i) is = (e, ap kind_of (sym is))
move_fits app c t e (StartsRead m at) is = (e, ap kind_of (sym is))
move_fits app c t e (PutsWord m at noted i) is = (e, ap kind_of (sym is))
move_fits app c t e (EndsRead m at noted i) is = (e, ap kind_of (sym is))
move_fits app c t e (Lapses m noted) is = tt

fits_turn : (app : App) (c : Counted) (turn : Turn) → Fits app c (what_of app c turn)
fits_turn app c (Comes event) = tt
fits_turn app c Thread = by_task (counted_selected app.table.tasks c) refl
  where
    by_task : (selected : Option ℕ) → counted_selected app.table.tasks c ≡ selected → Fits app c (thread_what app c selected)
    by_task None e = tt
    by_task (Some t) e = move_fits app c t e (move_of app c t) refl

-- both machines are level
abbrev pub AreLevel : App → Both → Type 0
AreLevel app both = IsLevel app both.counted both.image

pub level_run : (app : App) (both : Both) (turns : List Turn) → IsSimple app → AreLevel app both → AreLevel app (both_run app both turns)
level_run app both [] is h = h
level_run app both (turn ∷ turns) is h =
    let what = what_of app both.counted turn in
    level_run app (both_after app both what) turns is
    (level_after app both.counted (acted app both.counted what) what both.image is (fits_turn app both.counted turn) h
    (record { plain = refl; promises = refl; copies = refl }))

-- the plain machine knows no promise
pub bare_none : (t : ℕ) → promise_at [] t ≡ None
bare_none t = refl

pub kept_counted : (app : App) (c : Counted) (image : Image) → IsLevel app c image → AreKept app c.plain c.promises
kept_counted app c image h = kept app c.plain c.promises h.orderly.owned h.orderly.tasks h.orderly.semaphores h.orderly.bare

pub kept_image : (app : App) (c : Counted) (image : Image) → IsLevel app c image → AreKept app image.plain []
kept_image app c image h =
    subst (λ (p : Plain). AreKept app p []) (sym h.same)
    (kept app (flat c) [] (owned_flat app c h.orderly) (settle_count c.plain.values c.plain.tasks c.copies ∙ h.orderly.tasks) h.orderly.semaphores bare_none)

-- The other steps of a copy: its beginning, and its words.
use Rattle.std.proofs.Common.{◌≡◌, ◌≢◌, ◌∙◌, ◌⊎◌, inl, inr, ℕ, ◌+◌, ◌<◌, ◌≤◌, ◌++◌, nat_lt, nat_le, Bool, true, false, if◌then◌else◌, List, [], ◌∷◌, All, length, map, slice_set, Option, None, Some, sym, ap, subst, refl, arith}
use Rattle.std.specs.Prelude.{IsSome}
use Rattle.std.proofs.lemmas.Bool.{cases_eq}
use Rattle.std.proofs.lemmas.Bool.Decides.{nat_tests}
use Rattle.std.proofs.lemmas.List.{get_or-set_other, get_or-set_same, length-set}
use Rattle.std.proofs.lemmas.List.Elements.{All-set}
use Rattle.em_base.specs.declared.apps.App.{App}
use Rattle.em_base.specs.declared.ids.MsgId.{MsgId}
use Rattle.em_base.specs.declared.ids.TaskId.{TaskId}
use Rattle.em_base.specs.declared.jobs.Status.{Status}
use Rattle.em_base.specs.declared.jobs.Status.TheVariants.{Asleep, Awake, Waits, Stopped}
use Rattle.em_gate.specs.Calls.{words_of}
use Rattle.em_gate.specs.Effects.{after_answer, after_outcome, frees, gives, lasts_after, line_by, newest, newest_value, own_after, owners_after, ports_after, shared_after, values_after, with_core, with_value, woken, woken_by}
use Rattle.em_gate.specs.Outcome.{Outcome, Works, Falls, Refuses, Ends, Gets, Blocks, Frees, Puts, Publishes, Fetches, Signals, Leaves, outcome}
use Rattle.em_gate.specs.State.{Copy, Core, Counted, Plain, Reads, Task, Writes, no_task, task_at, values_at}
use Rattle.em_kernel.specs.Moves.{StartsWrite, TakesWord, EndsWrite, StartsRead, PutsWord, EndsRead, Lapses, after_move, begun_at, copy_at, first_move, get_line, move_by, move_of, with_core_at, with_line, with_word_put}
use Rattle.em_admit.specs.Depth.{depth}
use Rattle.em_sched.specs.Agreement.{AreSized, IsAtWrite, IsCopy, IsCopying, IsNoted, settled_task}
use Rattle.em_sched.proofs.Bare.{Bare}
use Rattle.em_sched.proofs.Commutes.{outcome_flat}
use Rattle.em_sched.proofs.Copies.{copies_moved}
use Rattle.em_sched.proofs.CopyCalls.{at_write, reads_message}
use Rattle.em_sched.proofs.Flat.{flat, flat_here, settle_copy, settle_silent, settle_silent_copy}
use Rattle.em_sched.proofs.Keeping.{IsWorking, keeps_same}
use Rattle.em_sched.proofs.Moves.{IsChosen, Moved, acts_moved, ends_write}
use Rattle.em_sched.proofs.Orderly.{IsOrderly, IsSimple}
use Rattle.em_sched.proofs.Owned.{owned_like, owned_same}
use Rattle.em_sched.proofs.Published.{AreValued, Grow, grow_same}
use Rattle.em_sched.proofs.Words.{settled_first, settled_last, settled_word}

-- ---- what stays

-- a task's copy is under way
copying : (c : Counted) (t : ℕ) → Bare c.promises → IsChosen c t → IsCopying c.plain c.promises t
copying c t bare chosen = record { awake = chosen.awake; working = chosen.working; unpromised = bare t }

-- another copy of the task t, in a state with the same tasks, owners and values
orderly_copy : (app : App) (c c' : Counted) (t : ℕ) (copy : Option Copy) → IsOrderly app c → IsChosen c t → c'.plain.tasks ≡ c.plain.tasks
    → c'.plain.owners ≡ c.plain.owners → c'.plain.values ≡ c.plain.values → c'.promises ≡ c.promises → c'.copies ≡ slice_set c.copies t copy
    → IsCopy app c'.plain c'.promises t copy → IsOrderly app c'
orderly_copy app c c' t copy h chosen tasks owners values promises copies is = record {
  bare = bare;
  owned = owned_same c.plain c'.plain tasks owners h.owned;
  working = subst (All IsWorking) (sym tasks) h.working;
  tasks = ap length tasks ∙ h.tasks;
  semaphores = ap length owners ∙ h.semaphores;
  copies =
      copies_moved app c c' t copy copies chosen.inside (ap length tasks) (ap length values) bare
      (subst (Grow c.plain.values) (sym values) (grow_same c.plain.values)) (subst (AreSized app) (sym values) h.copies.sized)
      (λ u other. keeps_same (task_at c.plain.tasks u) (task_at c'.plain.tasks u) (ap (λ ts. task_at ts u) tasks)) is h.copies;
  valued = subst AreValued (sym values) h.valued;
}
  where
    bare : Bare c'.promises
    bare = subst Bare (sym promises) h.bare

-- another core and another copy of the task t
orderly_core : (app : App) (c : Counted) (t : ℕ) (change : Core → Core) (copy : Option Copy) → IsOrderly app c → IsChosen c t
    → let c' : Counted = record c { plain = with_core_at t change c.plain; copies = slice_set c.copies t copy } in
    IsCopy app c'.plain c.promises t copy → IsOrderly app c'
orderly_core app c t change copy h chosen is = record {
  bare = h.bare;
  owned = owned_like c.plain c'.plain count (λ u. status u (cases_eq u t)) refl h.owned;
  working = All-set IsWorking c.plain.tasks t new (λ active. chosen.working) h.working;
  tasks = count ∙ h.tasks;
  semaphores = h.semaphores;
  copies =
      copies_moved app c c' t copy refl chosen.inside count refl h.bare (grow_same c.plain.values) h.copies.sized
      (λ u other. keeps_same (task_at c.plain.tasks u) (task_at c'.plain.tasks u) (get_or-set_other c.plain.tasks t u new no_task other)) is h.copies;
  valued = h.valued;
}
  where
    new : Task
    new = with_core (change (task_at c.plain.tasks t).core) (task_at c.plain.tasks t)

    c' : Counted
    c' = record c { plain = with_core_at t change c.plain; copies = slice_set c.copies t copy }

    count : length c'.plain.tasks ≡ length c.plain.tasks
    count = length-set c.plain.tasks t new

    status : (u : ℕ) → (u ≡ t) ⊎ (u ≢ t) → (task_at c'.plain.tasks u).status ≡ (task_at c.plain.tasks u).status
    status u (inl e) =
        ap (λ v. (task_at c'.plain.tasks v).status) e ∙ ap (λ (k : Task). k.status) (get_or-set_same c.plain.tasks t new no_task chosen.inside)
        ∙ ap (λ v. (task_at c.plain.tasks v).status) (sym e)
    status u (inr other) = ap (λ (k : Task). k.status) (get_or-set_other c.plain.tasks t u new no_task other)

-- ---- a write

-- a settled state with other tasks
abbrev with_tasks : Counted → List Task → Plain
with_tasks c tasks = record c.plain { tasks = tasks }

-- a write begins
starts_write : (app : App) (c : Counted) (t : TaskId) (m at count : ℕ) → IsOrderly app c → IsChosen c t.0 → copy_at c.copies t.0 ≡ None
    → outcome app.table app.image.words t.0 c.plain ≡ Publishes m at count → Moved app c t (StartsWrite (record { 0 = m }) at)
unfolding after_move
starts_write app c t m at count h chosen none is = record {
  image =
      ap (with_tasks c)
      (settle_silent_copy c.plain.values c.plain.tasks c.copies t.0 (Some (Writes (record { 0 = m }) at 0)) h.copies.count
      (ap (λ copy. settled_task c.plain.values copy (task_at c.plain.tasks t.0)) (sym none)));
  orderly =
      orderly_copy app c (after_move app (StartsWrite (record { 0 = m }) at) t c) t.0 (Some (Writes (record { 0 = m }) at 0)) h chosen refl refl refl refl refl
      (copying c t.0 h.bare chosen, at_write app t.0 m at count c.plain is);
}

-- a word is taken
takes_word : (app : App) (c : Counted) (t : TaskId) (m : MsgId) (at i : ℕ) → IsOrderly app c → IsChosen c t.0
    → copy_at c.copies t.0 ≡ Some (Writes m at i) → IsAtWrite app t.0 m.0 at (task_at c.plain.tasks t.0).core → Moved app c t (TakesWord m at i)
unfolding after_move
takes_word app c t m at i h chosen writes is = record {
  image =
      ap (with_tasks c)
      (settle_silent_copy c.plain.values c.plain.tasks c.copies t.0 (Some (Writes m at (i + 1))) h.copies.count
      (ap (λ copy. settled_task c.plain.values copy (task_at c.plain.tasks t.0)) (sym writes)));
  orderly =
      orderly_copy app c (after_move app (TakesWord m at i) t c) t.0 (Some (Writes m at (i + 1))) h chosen refl refl refl refl refl
      (copying c t.0 h.bare chosen, is);
}

-- ---- a read

nothing_woken : (tasks : List Task) → map (woken (λ s. false)) tasks ≡ tasks
nothing_woken [] = refl
nothing_woken (task ∷ tasks) =
    ap (λ k. k ∷ map (woken (λ s. false)) tasks) (same task.status) ∙ ap (λ ts. task ∷ ts) (nothing_woken tasks)
  where
    same : (status : Status) → woken_by (λ s. false) task status ≡ task
    same Asleep = refl
    same Awake = refl
    same (Waits s) = refl
    same Stopped = refl

-- what a read makes of the settled state at once
abbrev fetched : Counted → TaskId → ℕ → ℕ → List Task → Plain
fetched c t m at tasks = record c.plain { tasks = tasks; lines = c.plain.lines ++ get_line t (record { 0 = m }) c.plain ∷ [] }

fetch_step : (c : Counted) (t : TaskId) (m at : ℕ) (task : Task) → task_at (flat c).tasks t.0 ≡ task
    → after_outcome (Fetches m at) t (flat c)
    ≡ fetched c t m at (slice_set (flat c).tasks t.0 (with_core (after_answer 0 (with_value at (newest_value c.plain.values m) task.core)) task))
unfolding frees gives own_after lasts_after owners_after values_after ports_after shared_after line_by
fetch_step c t m at task here =
    ap (fetched c t m at)
    (nothing_woken (slice_set (flat c).tasks t.0 (own_after (Fetches m at) (flat c) (task_at (flat c).tasks t.0)))
    ∙ ap (λ k. slice_set (flat c).tasks t.0 (own_after (Fetches m at) (flat c) k)) here)

starts_read : (app : App) (c : Counted) (t : TaskId) (m at : ℕ) → IsSimple app → IsOrderly app c → IsChosen c t.0 → copy_at c.copies t.0 ≡ None
    → outcome app.table app.image.words t.0 c.plain ≡ Fetches m at → Moved app c t (StartsRead (record { 0 = m }) at)
unfolding after_move
starts_read app c t m at simple h chosen none is = record {
  image =
      ap (fetched c t m at)
      (settle_copy c.plain.values c.plain.tasks c.copies t.0 copy h.copies.count
      ∙ ap (λ core. slice_set (flat c).tasks t.0 (with_core core task)) (settled_first c.plain.values (record { 0 = m }) at (newest c.plain.values m) task.core))
      ∙ sym (fetch_step c t m at task here)
      ∙ ap (λ o. after_outcome o t (flat c)) (sym (outcome_flat app.table app.image.words t.0 c.copies c.plain here ∙ is));
  orderly =
      orderly_copy app c (after_move app (StartsRead (record { 0 = m }) at) t c) t.0 copy h chosen refl refl refl refl refl
      (record { awake = chosen.awake; working = chosen.working; unpromised = h.bare t.0 }, noted);
}
  where
    task : Task
    task = task_at c.plain.tasks t.0

    copy : Option Copy
    copy = Some (Reads (record { 0 = m }) at (newest c.plain.values m) 0)

    here : task_at (flat c).tasks t.0 ≡ task_at c.plain.tasks t.0
    here = flat_here c.plain.values c.plain.tasks c.copies t.0 None h.copies.count none

    inside : m < length app.table.messages
    inside = reads_message app t.0 m at c.plain is

    some : 0 < length (values_at c.plain.values m)
    some = h.valued m (subst (λ n. m < n) (sym h.copies.messages) inside)

    noted : IsNoted app (with_line (get_line t (record { 0 = m }) c.plain) c.plain) m (newest c.plain.values m) 0
    noted = record { published = omega (arith, some); more = simple.words m inside }

-- a word is put
puts_word : (app : App) (c : Counted) (t : TaskId) (m : MsgId) (at noted i : ℕ) → IsOrderly app c → IsChosen c t.0
    → copy_at c.copies t.0 ≡ Some (Reads m at noted i) → IsNoted app c.plain m.0 noted i → i + 1 < words_of app.table m.0
    → Moved app c t (PutsWord m at noted i)
unfolding after_move
puts_word app c t m at noted i h chosen reads is more = record {
  image =
      ap (with_tasks c)
      (settle_silent c.plain.values c.plain.tasks c.copies t.0 (with_core (with_word_put c.plain.values m.0 at noted i task.core) task)
      (Some (Reads m at noted (i + 1))) h.copies.count
      (ap (λ core. with_core core task)
      (settled_word c.plain.values m at noted i task.core (subst (λ n. i < n) (sym (h.copies.sized m.0 noted is.published)) is.more))
      ∙ ap (λ copy. settled_task c.plain.values copy task) (sym reads)));
  orderly =
      orderly_core app c t.0 (with_word_put c.plain.values m.0 at noted i) (Some (Reads m at noted (i + 1))) h chosen
      (still, record { published = is.published; more = more });
}
  where
    task : Task
    task = task_at c.plain.tasks t.0

    new : Task
    new = with_core (with_word_put c.plain.values m.0 at noted i task.core) task

    set : task_at (slice_set c.plain.tasks t.0 new) t.0 ≡ new
    set = get_or-set_same c.plain.tasks t.0 new no_task chosen.inside

    still : IsCopying (with_core_at t.0 (with_word_put c.plain.values m.0 at noted i) c.plain) c.promises t.0
    still = record {
      awake = ap (λ (k : Task). k.status) set ∙ chosen.awake;
      working = subst (λ (k : Task). IsSome k.job) (sym set) chosen.working;
      unpromised = h.bare t.0;
    }

-- the last word is put
ends_read : (app : App) (c : Counted) (t : TaskId) (m : MsgId) (at noted i : ℕ) → IsOrderly app c → IsChosen c t.0
    → copy_at c.copies t.0 ≡ Some (Reads m at noted i) → IsNoted app c.plain m.0 noted i → words_of app.table m.0 ≤ i + 1
    → Moved app c t (EndsRead m at noted i)
unfolding after_move
ends_read app c t m at noted i h chosen reads is last = record {
  image =
      ap (with_tasks c)
      (settle_silent c.plain.values c.plain.tasks c.copies t.0 (with_core (after_answer 0 (with_word_put c.plain.values m.0 at noted i task.core)) task)
      None h.copies.count
      (ap (λ core. with_core core task) (settled_last c.plain.values m at noted i task.core (omega (arith, h.copies.sized m.0 noted is.published, is.more, last)))
      ∙ ap (λ copy. settled_task c.plain.values copy task) (sym reads)));
  orderly = orderly_core app c t.0 (λ core. after_answer 0 (with_word_put c.plain.values m.0 at noted i core)) None h chosen tt;
}
  where
    task : Task
    task = task_at c.plain.tasks t.0

-- ---- by the step

lapses : (app : App) (c : Counted) (t : TaskId) (m : MsgId) (noted : ℕ) → IsOrderly app c → Moved app c t (Lapses m noted)
unfolding after_move
lapses app c t m noted h = record { image = refl; orderly = h }

starts : (app : App) (c : Counted) (t : TaskId) (o : Outcome) → IsSimple app → IsOrderly app c → IsChosen c t.0 → copy_at c.copies t.0 ≡ None
    → outcome app.table app.image.words t.0 c.plain ≡ o → Moved app c t (first_move o)
starts app c t (Works class core shared) simple h chosen none is = acts_moved app c t (Works class core shared) simple h chosen none is refl
starts app c t (Falls cause) simple h chosen none is = acts_moved app c t (Falls cause) simple h chosen none is refl
starts app c t (Refuses code) simple h chosen none is = acts_moved app c t (Refuses code) simple h chosen none is refl
starts app c t Ends simple h chosen none is = acts_moved app c t Ends simple h chosen none is refl
starts app c t (Gets s) simple h chosen none is = acts_moved app c t (Gets s) simple h chosen none is refl
starts app c t (Blocks s) simple h chosen none is = acts_moved app c t (Blocks s) simple h chosen none is refl
starts app c t (Frees s) simple h chosen none is = acts_moved app c t (Frees s) simple h chosen none is refl
starts app c t (Puts port word) simple h chosen none is = acts_moved app c t (Puts port word) simple h chosen none is refl
starts app c t (Publishes m at count) simple h chosen none is = starts_write app c t m at count h chosen none is
starts app c t (Fetches m at) simple h chosen none is = starts_read app c t m at simple h chosen none is
starts app c t (Signals u word) simple h chosen none is = acts_moved app c t (Signals u word) simple h chosen none is refl
starts app c t Leaves simple h chosen none is = acts_moved app c t Leaves simple h chosen none is refl

is_more : (i n : ℕ) → nat_lt i n ≡ true → i < n
is_more i n e = grind (arith, nat_tests, e)

is_last : (i n : ℕ) → nat_lt i n ≡ false → n ≤ i
is_last i n e = grind (arith, nat_tests, e)

-- a step of the chosen task, whichever it is
pub move_moved : (app : App) (c : Counted) (t : TaskId) → IsSimple app → IsOrderly app c → IsChosen c t.0 → Moved app c t (move_of app c t.0)
move_moved app c t simple h chosen = by_copy (copy_at c.copies t.0) refl (h.copies.each t.0)
  where
    o : Outcome
    o = outcome app.table app.image.words t.0 c.plain

    write_on : (m : MsgId) (at i : ℕ) → copy_at c.copies t.0 ≡ Some (Writes m at i) → IsAtWrite app t.0 m.0 at (task_at c.plain.tasks t.0).core
        → (b : Bool)
        → Moved app c t (if b then TakesWord m at i else EndsWrite m at i)
    write_on m at i e is true = takes_word app c t m at i h chosen e is
    write_on m at i e is false = ends_write app c t m at i h chosen e is

    read_on : (m : MsgId) (at noted i : ℕ) → copy_at c.copies t.0 ≡ Some (Reads m at noted i) → IsNoted app c.plain m.0 noted i
        → (b d : Bool) → nat_lt (i + 1) (words_of app.table m.0) ≡ d
        → Moved app c t (if b then Lapses m noted else if d then PutsWord m at noted i else EndsRead m at noted i)
    read_on m at noted i e is true d q = lapses app c t m noted h
    read_on m at noted i e is false true q = puts_word app c t m at noted i h chosen e is (is_more (i + 1) (words_of app.table m.0) q)
    read_on m at noted i e is false false q = ends_read app c t m at noted i h chosen e is (is_last (i + 1) (words_of app.table m.0) q)

    by_copy : (copy : Option Copy) → copy_at c.copies t.0 ≡ copy → IsCopy app c.plain c.promises t.0 copy
        → Moved app c t (move_by app.table c.begun o copy)
    by_copy None e is = starts app c t o simple h chosen e refl
    by_copy (Some (Writes m at i)) e is = write_on m at i e is.1 (nat_lt (i + 1) (words_of app.table m.0))
    by_copy (Some (Reads m at noted i)) e is =
        read_on m at noted i e is.1 (nat_le (noted + depth app.table m.0) (begun_at c.begun m.0)) (nat_lt (i + 1) (words_of app.table m.0)) refl

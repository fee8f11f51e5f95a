-- What is kept of copies: each kind of change keeps it.
use Rattle.std.proofs.Common.{◌≡◌, ◌≢◌, ◌∙◌, ◌⊎◌, inl, inr, ℕ, ◌<◌, List, drop, length, slice_set, Option, None, Some, sym, ap, subst, refl}
use Rattle.std.proofs.lemmas.Bool.{cases_eq}
use Rattle.std.proofs.lemmas.List.{get_or-set_other, get_or-set_same, length-set}
use Rattle.em_base.specs.declared.apps.App.{App}
use Rattle.em_base.specs.declared.ids.SemId.{SemId}
use Rattle.em_gate.specs.Effects.{after_answer}
use Rattle.em_gate.specs.State.{Copy, Core, Counted, Plain, Reads, Value, Writes, task_at}
use Rattle.em_kernel.specs.Moves.{copy_at}
use Rattle.em_sched.specs.Agreement.{AreCopies, AreSized, IsAtWrite, IsCopy, settled_core}
use Rattle.em_system.specs.Windows.{with_words_from}
use Rattle.em_sched.proofs.Bare.{Bare}
use Rattle.em_sched.proofs.Commutes.{HasJob}
use Rattle.em_sched.proofs.Keeping.{Keeps}
use Rattle.em_sched.proofs.Published.{Grow}

-- ---- one copy

-- a copy of a task that is kept so
pub copy_kept : (app : App) (p p' : Plain) (promises promises' : List (Option SemId)) (t : ℕ) (copy : Option Copy)
    → Keeps (task_at p.tasks t) (task_at p'.tasks t)
    → Bare promises' → Grow p.values p'.values → IsCopy app p promises t copy → IsCopy app p' promises' t copy
copy_kept app p p' promises promises' t None keeps bare grow h = tt
copy_kept app p p' promises promises' t (Some (Writes m at i)) keeps bare grow (h, is) =
    let (awake, working, core) = keeps h.awake h.working in
    (record { awake = awake; working = working; unpromised = bare t }, subst (IsAtWrite app t m.0 at) (sym core) is)
copy_kept app p p' promises promises' t (Some (Reads m at noted i)) keeps bare grow (h, is) =
    let (awake, working, core) = keeps h.awake h.working in
    (record { awake = awake; working = working; unpromised = bare t }, record { published = (grow m.0 noted is.published).0; more = is.more })

pub copy_job : (app : App) (p : Plain) (promises : List (Option SemId)) (t : ℕ) (copy : Option Copy) → IsCopy app p promises t copy
    → HasJob copy (task_at p.tasks t)
copy_job app p promises t None h = tt
copy_job app p promises t (Some (Writes m at i)) h = tt
copy_job app p promises t (Some (Reads m at noted i)) h = h.0.working

-- a task with a read under way has a job
pub copy_jobs : (app : App) (c : Counted) → AreCopies app c → (u : ℕ) → HasJob (copy_at c.copies u) (task_at c.plain.tasks u)
copy_jobs app c h u = copy_job app c.plain c.promises u (copy_at c.copies u) (h.each u)

-- no copy sees more values than are there
pub copy_grown : (app : App) (p : Plain) (promises : List (Option SemId)) (t : ℕ) (copy : Option Copy) (values' : List (List Value))
    → Grow p.values values'
    → IsCopy app p promises t copy → settled_core p.values copy ≡ settled_core values' copy
copy_grown app p promises t None values' grow h = refl
copy_grown app p promises t (Some (Writes m at i)) values' grow h = refl
copy_grown app p promises t (Some (Reads m at noted i)) values' grow h =
    ap (seen at i) (sym (grow m.0 noted h.1.published).1)
  where
    seen : ℕ → ℕ → Value → Core → Core
    seen at i value core = after_answer 0 (with_words_from at i (drop i value) core)

-- ---- all of them

-- the same in a state with the same parts
pub copies_same : (app : App) (c c' : Counted) → c'.plain ≡ c.plain → c'.promises ≡ c.promises → c'.copies ≡ c.copies → AreCopies app c
    → AreCopies app c'
copies_same app c c' plain promises copies h = record {
  count = ap length copies ∙ h.count ∙ ap (λ (p : Plain). length p.tasks) (sym plain);
  messages = ap (λ (p : Plain). length p.values) plain ∙ h.messages;
  sized = subst (λ (p : Plain). AreSized app p.values) (sym plain) h.sized;
  each = λ t.
      subst (λ (p : Plain). IsCopy app p c'.promises t (copy_at c'.copies t)) (sym plain)
      (subst (λ ps. IsCopy app c.plain ps t (copy_at c'.copies t)) (sym promises)
      (subst (λ cs. IsCopy app c.plain c.promises t (copy_at cs t)) (sym copies) (h.each t)));
}

-- a change of others than the task t, which has another copy
pub copies_moved : (app : App) (c c' : Counted) (t : ℕ) (copy : Option Copy) → c'.copies ≡ slice_set c.copies t copy → t < length c.plain.tasks
    → length c'.plain.tasks ≡ length c.plain.tasks → length c'.plain.values ≡ length c.plain.values → Bare c'.promises
    → Grow c.plain.values c'.plain.values
    → AreSized app c'.plain.values → ((u : ℕ) → u ≢ t → Keeps (task_at c.plain.tasks u) (task_at c'.plain.tasks u))
    → IsCopy app c'.plain c'.promises t copy → AreCopies app c → AreCopies app c'
copies_moved app c c' t copy copies inside tasks messages bare grow sized keeps here h = record {
  count = ap length copies ∙ length-set c.copies t copy ∙ h.count ∙ sym tasks;
  messages = messages ∙ h.messages;
  sized = sized;
  each = λ u. subst (λ cs. IsCopy app c'.plain c'.promises u (copy_at cs u)) (sym copies) (each u (cases_eq u t));
}
  where
    within : t < length c.copies
    within = subst (λ n. t < n) (sym h.count) inside

    each : (u : ℕ) → (u ≡ t) ⊎ (u ≢ t) → IsCopy app c'.plain c'.promises u (copy_at (slice_set c.copies t copy) u)
    each u (inl e) =
        subst (λ v. IsCopy app c'.plain c'.promises v (copy_at (slice_set c.copies t copy) v)) (sym e)
        (subst (IsCopy app c'.plain c'.promises t) (sym (get_or-set_same c.copies t copy None within)) here)
    each u (inr other) =
        subst (IsCopy app c'.plain c'.promises u) (sym (get_or-set_other c.copies t u copy None other))
        (copy_kept app c.plain c'.plain c.promises c'.promises u (copy_at c.copies u) (keeps u other) bare grow (h.each u))

-- a change of each of the tasks, none of which has another copy
pub copies_kept : (app : App) (c c' : Counted) → c'.copies ≡ c.copies → length c'.plain.tasks ≡ length c.plain.tasks
    → c'.plain.values ≡ c.plain.values
    → Bare c'.promises → Grow c.plain.values c'.plain.values → ((u : ℕ) → Keeps (task_at c.plain.tasks u) (task_at c'.plain.tasks u))
    → AreCopies app c → AreCopies app c'
copies_kept app c c' copies tasks values bare grow keeps h = record {
  count = ap length copies ∙ h.count ∙ sym tasks;
  messages = ap length values ∙ h.messages;
  sized = subst (AreSized app) (sym values) h.sized;
  each = λ u.
      subst (λ cs. IsCopy app c'.plain c'.promises u (copy_at cs u)) (sym copies)
      (copy_kept app c.plain c'.plain c.promises c'.promises u (copy_at c.copies u) (keeps u) bare grow (h.each u));
}

-- Before anything has happened the counted machine and its image are level.
use Rattle.std.proofs.Common.{◌≡◌, ◌∙◌, ℕ, zero, suc, ◌<◌, List, [], ◌∷◌, length, map, replicate, slice_get, None, Some, sym, ap, subst, refl, arith}
use Rattle.std.proofs.lemmas.List.{length-map, length-replicate}
use Rattle.em_base.specs.declared.apps.App.{App}
use Rattle.em_base.specs.declared.ids.SemId.{SemId}
use Rattle.em_base.specs.declared.ids.TaskId.{TaskId}
use Rattle.em_base.specs.declared.jobs.Status.TheVariants.{Asleep, Waits}
use Rattle.em_base.specs.declared.tables.MsgRow.{MsgRow}
use Rattle.em_base.specs.declared.tables.TaskRow.{TaskRow}
use Rattle.em_base.specs.Images.{Labels}
use Rattle.em_base.specs.Selection.{owner_at}
use Rattle.em_ports.specs.Ports.{Places}
use Rattle.em_gate.specs.Boot.{boot, first_task}
use Rattle.em_gate.specs.Events.{events_of}
use Rattle.em_gate.specs.Calls.{row_words}
use Rattle.em_gate.specs.State.{Plain, Task, Value, task_at, value_at, values_at}
use Rattle.em_kernel.specs.Moves.{copy_at}
use Rattle.em_kernel.specs.Run.{counted_boot}
use Rattle.em_sched.specs.Agreement.{AreCopies, IsCopy}
use Rattle.em_sched.specs.Image.{image_boot}
use Rattle.em_sched.specs.Traces.{events_in}
use Rattle.em_sched.proofs.Bare.{Bare}
use Rattle.em_sched.proofs.Beside.{IsBeside}
use Rattle.em_sched.proofs.Flat.{settle_all}
use Rattle.em_sched.proofs.Keeping.{working_boot}
use Rattle.em_sched.proofs.Levels.{IsLevel}
use Rattle.em_sched.proofs.Orderly.{IsOrderly}
use Rattle.em_sched.proofs.Owned.{Owned}
use Rattle.em_sched.proofs.Published.{AreValued}
use Rattle.em_sched.proofs.Runs.{comes_first}

bare_boot : (n : ℕ) → Bare (replicate n None)
bare_boot zero t = refl
bare_boot (suc n) zero = refl
bare_boot (suc n) (suc t) = bare_boot n t

no_owner : (n s : ℕ) → owner_at (replicate n None) s ≡ None
no_owner zero s = refl
no_owner (suc n) zero = refl
no_owner (suc n) (suc s) = no_owner n s

asleep : (own : ℕ) (labels : Labels) (rows : List TaskRow) (t : ℕ) → (task_at (map (first_task own labels) rows) t).status ≡ Asleep
asleep own labels [] t = refl
asleep own labels (row ∷ rows) zero = refl
asleep own labels (row ∷ rows) (suc t) = asleep own labels rows t

none_some : (u : TaskId) → None ≡ Some u → ⊥
none_some u e = cc

asleep_waits : (s : SemId) → Asleep ≡ Waits s → ⊥
asleep_waits s e = cc

owned_boot : (app : App) (ports : Places) → Owned (boot app ports)
owned_boot app ports = record {
  owner = λ s u e. absurd (none_some u (sym (no_owner app.table.semaphores s) ∙ e));
  waits = λ t s e. absurd (asleep_waits s (sym (asleep app.table.own app.image.labels app.table.tasks t) ∙ e));
}

-- ---- copies and values

pub no_copies : (n t : ℕ) → copy_at (replicate n None) t ≡ None
no_copies zero t = refl
no_copies (suc n) zero = refl
no_copies (suc n) (suc t) = no_copies n t

settle_boot : (values : List (List Value)) (tasks : List Task) (n : ℕ) → settle_all values tasks (replicate n None) ≡ tasks
settle_boot values [] n = refl
settle_boot values (task ∷ tasks) zero = ap (λ ts. task ∷ ts) (settle_boot values tasks zero)
settle_boot values (task ∷ tasks) (suc n) = ap (λ ts. task ∷ ts) (settle_boot values tasks n)

-- the values before anything has happened
abbrev first_values : List MsgRow → List (List Value)
first_values messages = map (λ message. replicate message.words 0 ∷ []) messages

sized_boot : (messages : List MsgRow) (m number : ℕ) → number < length (values_at (first_values messages) m)
    → length (value_at (first_values messages) m number) ≡ row_words (slice_get messages m)
sized_boot [] m number h = absurd (omega (arith, h))
sized_boot (message ∷ messages) zero zero h = length-replicate message.words 0
sized_boot (message ∷ messages) zero (suc number) h = absurd (omega (arith, h))
sized_boot (message ∷ messages) (suc m) number h = sized_boot messages m number h

valued_boot : (messages : List MsgRow) → AreValued (first_values messages)
valued_boot [] m h = absurd (omega (arith, h))
valued_boot (message ∷ messages) zero h = omega arith
valued_boot (message ∷ messages) (suc m) h = valued_boot messages m (omega (arith, h))

copies_boot : (app : App) (ports : Places) → AreCopies app (counted_boot app ports)
copies_boot app ports = record {
  count = length-replicate n None ∙ sym (length-map app.table.tasks (first_task app.table.own app.image.labels));
  messages = length-map app.table.messages (λ message. replicate message.words 0 ∷ []);
  sized = sized_boot app.table.messages;
  each = λ t. subst (IsCopy app (counted_boot app ports).plain (counted_boot app ports).promises t) (sym (no_copies n t)) tt;
}
  where
    n : ℕ
    n = length app.table.tasks

-- ---- all of it

pub orderly_boot : (app : App) (ports : Places) → IsOrderly app (counted_boot app ports)
orderly_boot app ports = record {
  bare = bare_boot (length app.table.tasks);
  owned = owned_boot app ports;
  working = working_boot app.table.own app.image.labels app.table.tasks;
  tasks = length-map app.table.tasks (first_task app.table.own app.image.labels);
  semaphores = length-replicate app.table.semaphores None;
  copies = copies_boot app ports;
  valued = valued_boot app.table.messages;
}

pub level_boot : (app : App) (ports : Places) → IsLevel app (counted_boot app ports) (image_boot app ports)
level_boot app ports = record {
  same =
      let p : Plain = boot app ports in
      ap (λ tasks. let q : Plain = record p { tasks = tasks } in q) (sym (settle_boot p.values p.tasks (length app.table.tasks)));
  orderly = orderly_boot app ports;
}

pub beside_boot : (app : App) (ports : Places)
    → IsBeside app (boot app ports) (events_in (events_of app)) (counted_boot app ports) (image_boot app ports)
beside_boot app ports = record {
  level = level_boot app ports;
  comes = comes_first app (boot app ports);
  first = refl;
  rising = omega arith;
}

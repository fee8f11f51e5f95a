-- A task that passes its tests is one that a table may have.
use Rattle.std.proofs.Common.{◌≡◌, ℕ, ◌<◌, ◌≤◌, true, false, List, [], ◌∷◌, map, Option, Some, None, MatchOption, All, refl, sym, ap, subst}
use Rattle.std.proofs.Common.{nat_eq, arith, length, codes}
use Rattle.std.proofs.lemmas.Bool.{leb-true}
use Rattle.std.proofs.lemmas.List.Elements.{All-nil, All-cons, All-map}
use Rattle.std.specs.List.{IsDistinct}
use Rattle.std.specs.Option.{unwrap_or, is_some}
use Rattle.toml.specs.Data.{Data, Members, get_member}
use Rattle.em_base.specs.declared.ids.SemId.{SemId}
use Rattle.em_base.specs.declared.tables.Kind.{Kind}
use Rattle.em_base.specs.declared.tables.Kind.TheVariants.{Timer, Line, Background}
use Rattle.em_base.specs.declared.tables.TaskRow.{TaskRow}
use Rattle.em_base.specs.Tables.{IsTask, IsTaskName, IsFrom, IsGiven, SuitsKind, AreSemaphores, longest}
use Rattle.em_base.proofs.Trimming.{both}
use Rattle.em_table.specs.declared.faults.Fault.TheVariants.{Twice}
use Rattle.em_table.specs.declared.keys.Need.TheVariants.{Required, Optional}
use Rattle.em_table.specs.Faults.{first_of}
use Rattle.em_table.specs.Tests.{task_fault, task_faults, row_of, is_task_name, is_entry, with_deadlines, period_need, phase_need, line_need, kind_of}
use Rattle.em_table.specs.Values.{number_fault, number_at, text_at, numbers_fault, numbers_at, has_repeat}
use Rattle.em_table.proofs.ValuesFit.{each_is_none, unless_none, first_none, not_true, number_there, number_given, number_if_any, number_foreign}
use Rattle.em_table.proofs.ValuesFit.{most_or_default, below_high, text_fits, numbers_below, no_repeat}

-- a row by the values at its keys
abbrev row_with : Kind → (name entry : List ℕ) → (period phase deadline cost section writes : Option Data) → List SemId → (line band : Option Data) → TaskRow
row_with kind name entry period phase deadline cost section writes uses line band = record {
  name = name;
  entry = entry;
  kind = kind;
  period = number_at (period_need kind (is_some line)) period;
  phase = unwrap_or (number_at (phase_need kind) phase) 0;
  deadline = number_at (with_deadlines Required kind) deadline;
  cost = number_at (with_deadlines Required kind) cost;
  section = unwrap_or (number_at Optional section) 0;
  writes = unwrap_or (number_at (with_deadlines Optional kind) writes) 0;
  uses = uses;
  line = number_at (line_need kind) line;
  band = number_at (with_deadlines Optional kind) band;
}

-- a background task is released by a line exactly where it has a period
line_with_period : (period line : Option Data) → number_fault (period_need Background (is_some line)) 1 longest 1 period ≡ None
    → number_fault Optional 0 31 1 line ≡ None
    → MatchOption (number_at Optional line) (number_at (period_need Background (is_some line)) period ≡ None)
    (λ line'. (line' ≤ 31) × IsGiven 1 longest (number_at (period_need Background (is_some line)) period))
line_with_period period None p l = number_foreign period
line_with_period period (Some d) p l =
    let there = number_there 0 31 1 d l in
    subst (λ o. MatchOption o (number_at Required period ≡ None) (λ line'. (line' ≤ 31) × IsGiven 1 longest (number_at Required period)))
    (sym there.1) (there.2.1, number_given 1 longest 1 period p)

none_is_zero : (o : Option ℕ) → o ≡ None → unwrap_or o 0 ≡ 0
none_is_zero None h = refl
none_is_zero (Some n) h = absurd (cc)

suits : (kind : Kind) (name entry : List ℕ) (period phase deadline cost section writes : Option Data) (uses : List SemId) (line band : Option Data)
    → number_fault (period_need kind (is_some line)) 1 longest 1 period ≡ None
    → number_fault (phase_need kind) 0 longest 1 phase ≡ None
    → number_fault (with_deadlines Required kind) 1 (unwrap_or (number_at (period_need kind (is_some line)) period) 0) 1 deadline ≡ None
    → number_fault (with_deadlines Required kind) 1 longest 1 cost ≡ None
    → number_fault (line_need kind) 0 31 1 line ≡ None
    → number_fault (with_deadlines Optional kind) 0 3 1 band ≡ None
    → SuitsKind kind (row_with kind name entry period phase deadline cost section writes uses line band)
suits Timer name entry period phase deadline cost section writes uses line band p ph d c l b = (
  record {
    period = number_given 1 longest 1 period p;
    deadline = number_given 1 (unwrap_or (number_at Required period) 0) 1 deadline d;
    cost = number_given 1 longest 1 cost c;
    band = below_high 0 3 1 _ (number_if_any 0 3 1 band b);
  },
  number_foreign line,
  most_or_default 0 longest 1 0 _ (omega arith) (number_if_any 0 longest 1 phase ph),
)
suits Line name entry period phase deadline cost section writes uses line band p ph d c l b = (
  record {
    period = number_given 1 longest 1 period p;
    deadline = number_given 1 (unwrap_or (number_at Required period) 0) 1 deadline d;
    cost = number_given 1 longest 1 cost c;
    band = below_high 0 3 1 _ (number_if_any 0 3 1 band b);
  },
  number_given 0 31 1 line l,
  none_is_zero _ (number_foreign phase),
)
suits Background name entry period phase deadline cost section writes uses line band p ph d c l b = (
  record {
    deadline = number_foreign deadline;
    cost = number_foreign cost;
    band = number_foreign band;
    writes = none_is_zero _ (number_foreign writes);
    released = line_with_period period line p l;
  },
  none_is_zero _ (number_foreign phase),
)

writes_at_most : (kind : Kind) (writes : Option Data) → number_fault (with_deadlines Optional kind) 0 64 1 writes ≡ None
    → unwrap_or (number_at (with_deadlines Optional kind) writes) 0 ≤ 64
writes_at_most Timer writes h = most_or_default 0 64 1 0 _ (omega arith) (number_if_any 0 64 1 writes h)
writes_at_most Line writes h = most_or_default 0 64 1 0 _ (omega arith) (number_if_any 0 64 1 writes h)
writes_at_most Background writes h = subst (λ o. unwrap_or o 0 ≤ 64) (sym (number_foreign writes)) (omega arith)

name_fits : (name : List ℕ) → is_task_name name ≡ true → IsTaskName name
name_fits name h =
    let a = both _ _ h in
    let b = both _ _ a.0 in
    ((leb-true _ _ b.0, leb-true _ _ b.1), a.1)

entry_fits : (entry : List ℕ) → is_entry entry ≡ true → IsFrom 1 64 (length entry)
entry_fits entry h = let b = both _ _ h in (leb-true _ _ b.0, leb-true _ _ b.1)

-- the numbers of semaphores
numbers_same : (ns : List ℕ) → map (λ (s : SemId). s.0) (map (λ n. record { 0 = n }) ns) ≡ ns
numbers_same [] = refl
numbers_same (n ∷ ns) = ap (λ rest. n ∷ rest) (numbers_same ns)

uses_fit : (semaphores : ℕ) (uses : Option Data) → numbers_fault semaphores uses ≡ None → has_repeat nat_eq (numbers_at uses) ≡ false
    → AreSemaphores semaphores (map (λ s. record { 0 = s }) (numbers_at uses))
uses_fit semaphores uses h r = (
  All-map (λ s. s.0 < semaphores) (λ s. record { 0 = s }) (numbers_at uses) (numbers_below semaphores uses h),
  subst (IsDistinct nat_eq) (sym (numbers_same (numbers_at uses))) (no_repeat nat_eq (numbers_at uses) r),
)

-- a task whose tests find nothing
pub row_fits : (semaphores : ℕ) (task : Members) → task_fault semaphores task ≡ None → IsTask semaphores (row_of task)
row_fits semaphores task h =
    let at = λ (key : List ℕ). get_member key task in
    let t = each_is_none (task_faults semaphores task) h in
    let t4 = t.1.1.1 in
    let t8 = t4.1.1.1.1 in
    let t12 = t8.1.1.1.1 in
    record {
      name = name_fits _ (text_fits is_task_name (at (codes "name")) t.0);
      entry = entry_fits _ (text_fits is_entry (at (codes "entry")) t.1.0);
      suited = suits (kind_of task) (text_at (at (codes "name"))) (text_at (at (codes "entry"))) (at (codes "period")) (at (codes "phase")) (at (codes "deadline"))
          (at (codes "cost")) (at (codes "section")) (at (codes "writes")) (row_of task).uses (at (codes "line")) (at (codes "band"))
          t4.0 t4.1.0 t4.1.1.0 t4.1.1.1.0 t12.0 t12.1.0;
      section = most_or_default 0 longest 1 0 (number_at Optional (at (codes "section"))) (omega arith) (number_if_any 0 longest 1 (at (codes "section")) t8.0);
      writes = writes_at_most (kind_of task) (at (codes "writes")) t8.1.0;
      uses = uses_fit semaphores (at (codes "uses")) t8.1.1.0 (not_true _ (unless_none _ Twice t8.1.1.1.0));
    }

-- the same of all tasks
pub rows_fit : (semaphores : ℕ) (tasks : List Members) → first_of (map (task_fault semaphores) tasks) ≡ None → All (IsTask semaphores) (map row_of tasks)
rows_fit semaphores [] h = All-nil (IsTask semaphores)
rows_fit semaphores (task ∷ tasks) h =
    let a = first_none (task_fault semaphores task) (map (task_fault semaphores) tasks) h in All-cons (IsTask semaphores) (row_of task) (map row_of tasks) (row_fits semaphores task a.0) (rows_fit semaphores tasks a.1)

-- A table in which no fault is found is one that there may be.
use Rattle.std.proofs.Common.{◌≡◌, ◌∙◌, ℕ, ◌<◌, ◌≤◌, ◌%◌, ◌++◌, Bool, List, map, Option, Some, None, All, IfSome, IfOk, Result, Ok, Err}
use Rattle.std.proofs.Common.{MatchOption, refl, sym, ap, subst, nat_eq, length, get_or, arith, codes, nat_le}
use Rattle.std.proofs.lemmas.Bool.{leb-true}
use Rattle.std.proofs.lemmas.List.{length-map}
use Rattle.std.specs.List.{list_all}
use Rattle.std.specs.Option.{unwrap_or}
use Rattle.std.specs.Str.{bytes_eq}
use Rattle.toml.specs.Data.{Data, Members, get_member}
use Rattle.em_base.specs.declared.tables.Kind.{Kind}
use Rattle.em_base.specs.declared.tables.Kind.TheVariants.{Timer, Line, Background}
use Rattle.em_base.specs.declared.refusals.Fail.{Fail}
use Rattle.em_base.specs.declared.tables.Table.{Table}
use Rattle.em_base.specs.declared.tables.TaskRow.{TaskRow}
use Rattle.em_base.specs.Tables.{IsTable, IsFrom, IsGiven, IsWindow, SuitsKind, longest, longest_window, names_of, interrupt_lines_of}
use Rattle.em_base.proofs.Trimming.{both}
use Rattle.em_table.specs.declared.faults.Fault.TheVariants.{Twice, Unknown, Background as InBackground, TooManyReleases}
use Rattle.em_table.specs.declared.keys.Need.{Need}
use Rattle.em_table.specs.declared.keys.Need.TheVariants.{Required, Optional}
use Rattle.em_table.specs.Faults.{first_of}
use Rattle.em_table.specs.Reading.{GivesOrFails}
use Rattle.em_table.specs.Tests.{top_faults, task_fault, message_fault, across_faults, fault_in, table_of, row_of, task_groups, message_groups, message_of}
use Rattle.em_table.specs.Tests.{message_row, rows_of, messages_of, horizon_of, semaphores_of}
use Rattle.em_table.specs.Values.{passes, given, is_array, is_table, is_within, items_in, number_fault, number_at, tables_fault, tables_at}
use Rattle.em_table.proofs.MessagesFit.{messages_fit}
use Rattle.em_table.proofs.ValuesFit.{each_is_none, append_none, not_true, unless_none, key_fits, number_given, number_if_any, most_or_default}
use Rattle.em_table.proofs.ValuesFit.{multiple_or_default, count_of_tables, no_repeat}
use Rattle.em_table.proofs.RowsFit.{rows_fit}
use mathlib.Core.Bool.{◌&&◌}

-- ---- the top

count_in_range : (need : Need) (low high : ℕ) (d : Data) → tables_fault need low high (Some d) ≡ None → given need (Some d) ≡ Some d
    → IsFrom low high (length (tables_at (Some d)))
count_in_range need low high d h g =
    let kind : Data → Bool = is_array is_table in
    let range : Data → Bool = λ found. is_within low high 1 (length (items_in found)) in
    let k = key_fits need kind range (Some d) h in
    let tables = both _ (list_all is_table (items_in d)) (sym (ap (passes kind) g) ∙ k.1) in
    let bounds = both (nat_le low (length (items_in d)) && nat_le (length (items_in d)) high) _ (sym (ap (passes range) g) ∙ k.2) in
    let ends = both (nat_le low (length (items_in d))) (nat_le (length (items_in d)) high) bounds.0 in
    subst (IsFrom low high) (sym (count_of_tables (items_in d) tables.1)) (leb-true _ _ ends.0, leb-true _ _ ends.1)

some_tables : (value : Option Data) → tables_fault Required 1 32 value ≡ None → IsFrom 1 32 (length (tables_at value))
some_tables None h = absurd (cc)
some_tables (Some d) h = count_in_range Required 1 32 d h refl

count_at_most : (value : Option Data) → tables_fault Optional 0 16 value ≡ None → length (tables_at value) ≤ 16
count_at_most None h = omega arith
count_at_most (Some d) h = (count_in_range Optional 0 16 d h refl).1

horizon_given : (o : Option ℕ) → IsGiven 1 longest o → IsFrom 1 longest (unwrap_or o 0)
horizon_given None h = absurd h
horizon_given (Some n) h = h

window : (default : ℕ) (value : Option Data) → default ≤ longest_window → default % 4 ≡ 0 → number_fault Optional 0 longest_window 4 value ≡ None
    → IsWindow (unwrap_or (number_at Optional value) default)
window default value d e h =
    let m = number_if_any 0 longest_window 4 value h in
    (most_or_default 0 longest_window 4 default (number_at Optional value) d m, multiple_or_default 0 longest_window 4 default (number_at Optional value) e m)

-- ---- what the code needs on its way

number_is_period : (o : Option ℕ) → IsGiven 1 longest o → IfSome o (λ n. 0 < n)
number_is_period None h = absurd h
number_is_period (Some n) h = h.0

line_has_period : (line period : Option ℕ) → MatchOption line (period ≡ None) (λ l. (l ≤ 31) × IsGiven 1 longest period) → IfSome period (λ n. 0 < n)
line_has_period None period h = subst (λ o. IfSome o (λ n. 0 < n)) (sym h) tt
line_has_period (Some l) period h = number_is_period period h.1

row_has_period : (kind : Kind) (row : TaskRow) → SuitsKind kind row → IfSome row.period (λ n. 0 < n)
row_has_period Timer row h = number_is_period row.period h.0.period
row_has_period Line row h = number_is_period row.period h.0.period
row_has_period Background row h = line_has_period row.line row.period h.0.released

-- periods are no 0
pub rows_have_periods : (semaphores : ℕ) (groups : List Members) → first_of (map (task_fault semaphores) groups) ≡ None
    → All (λ row. IfSome row.period (λ n. 0 < n)) (map row_of groups)
rows_have_periods semaphores groups h = λ k d i. row_has_period _ (get_or (map row_of groups) k d) (rows_fit semaphores groups h k d i).suited

-- there are not too many tasks
pub rows_at_most : (top : Members) → first_of (top_faults top) ≡ None → length (rows_of top) ≤ 32
rows_at_most top h =
    let t = each_is_none (top_faults top) h in
    subst (λ n. n ≤ 32) (sym (length-map (task_groups top) row_of)) (some_tables (get_member (codes "task") top) t.1.1.1.1.0).1

-- ---- the whole

-- a table whose tests find nothing
pub table_fits : (top : Members) → fault_in top ≡ None → IsTable (table_of top)
table_fits top h =
    let rows = rows_of top in
    let messages = messages_of top in
    let task_tests = map (task_fault (semaphores_of top)) (task_groups top) in
    let message_tests = map message_fault (message_groups top) in
    let across_tests = across_faults (horizon_of top) rows messages in
    let first = append_none (top_faults top) (task_tests ++ (message_tests ++ across_tests)) h in
    let second = append_none task_tests (message_tests ++ across_tests) first.1 in
    let third = append_none message_tests across_tests second.1 in
    let t = each_is_none (top_faults top) first.0 in
    let a = each_is_none across_tests third.1 in
    record {
      horizon = horizon_given (number_at Required (get_member (codes "horizon") top)) (number_given 1 longest 1 (get_member (codes "horizon") top) t.0);
      semaphores = most_or_default 0 32 1 0 (number_at Optional (get_member (codes "semaphores") top)) (omega arith) (number_if_any 0 32 1 (get_member (codes "semaphores") top) t.1.0);
      own = window 1024 (get_member (codes "own") top) (omega arith) refl t.1.1.0;
      shared = window 0 (get_member (codes "shared") top) (omega arith) refl t.1.1.1.0;
      count = subst (IsFrom 1 32) (sym (length-map (task_groups top) row_of)) (some_tables (get_member (codes "task") top) t.1.1.1.1.0);
      tasks = rows_fit (semaphores_of top) (task_groups top) second.0;
      names = no_repeat bytes_eq (names_of rows) (not_true _ (unless_none _ Twice a.0));
      lines = no_repeat nat_eq (interrupt_lines_of rows) (not_true _ (unless_none _ Twice a.1.0));
      message_count = subst (λ n. n ≤ 16) (sym (length-map messages (message_row rows) ∙ length-map (message_groups top) message_of)) (count_at_most (get_member (codes "message") top) t.1.1.1.1.1.0);
      messages = messages_fit rows (message_groups top) third.0 (unless_none _ Unknown a.1.1.0) (unless_none _ Twice a.1.1.1.0) (unless_none _ InBackground a.1.1.1.1.0);
      releases = leb-true _ _ (unless_none _ TooManyReleases a.1.1.1.1.1.0);
    }

-- what is answered is a table that there may be
pub answer_fits : (result : Result Table Fail) (top : Members) → GivesOrFails result (fault_in top) (table_of top) → IfOk result IsTable
answer_fits (Ok found) top h = subst IsTable (sym h.1) (table_fits top h.0)
answer_fits (Err fail) top h = tt

-- The greatest of a list, as the code finds it, and a bound of the bands.
use Rattle.std.proofs.Common.{◌≡◌, ℕ, List, length, [], ◌∷◌, map, max, ap, sym, ◌∙◌, ◌≤◌, arith, subst, Option, None, Some, IfSome, All}
use Rattle.std.specs.List.{fold}
use Rattle.std.proofs.lemmas.List.Folds.{fold-map}
use Rattle.std.proofs.lemmas.List.Elements.{All-head, All-tail, All-weaker}
use Rattle.std.proofs.Math.Nat.{max-le}
use Rattle.em_base.specs.declared.tables.Kind.{Kind}
use Rattle.em_base.specs.declared.tables.Kind.TheVariants.{Timer, Line, Background}
use Rattle.em_base.specs.declared.tables.TaskRow.{TaskRow}
use Rattle.em_base.specs.declared.tables.Table.{Table}
use Rattle.em_base.specs.Tables.{HasDeadlines, IsTable, IsTask, SuitsKind}
use Rattle.em_demand.specs.Charges.{band_count, bands_up_to, greatest}

-- the greatest, as an iterator finds it
pub greatest_by_fold : {X : Type 0} (f : X → ℕ) (xs : List X) → fold (λ most x. max most (f x)) 0 xs ≡ greatest (map f xs)
greatest_by_fold f xs = sym (fold-map max f 0 xs)

-- the greatest of numbers within a limit is so
greatest_within : {X : Type 0} (limit start : ℕ) (f : X → ℕ) (xs : List X) → start ≤ limit → All (λ x. f x ≤ limit) xs → fold max start (map f xs) ≤ limit
greatest_within limit start f [] low all = low
greatest_within limit start f (x ∷ rest) low all =
    greatest_within limit (max start (f x)) f rest (max-le low (All-head (λ y. f y ≤ limit) x rest all)) (All-tail (λ y. f y ≤ limit) x rest all)

-- one more than the band of a task is at most 4
urgent_within : (row : TaskRow) → HasDeadlines row → bands_up_to row.band ≤ 4
urgent_within row has = within row.band has.band where
  within : (band : Option ℕ) → IfSome band (λ b. b ≤ 3) → bands_up_to band ≤ 4
  within None _ = omega arith
  within (Some b) small = omega arith

band_within : (semaphores : ℕ) (row : TaskRow) → IsTask semaphores row → bands_up_to row.band ≤ 4
band_within semaphores row task = by_kind row.kind task.suited where
  by_kind : (kind : Kind) → SuitsKind kind row → bands_up_to row.band ≤ 4
  by_kind Timer suited = urgent_within row suited.0
  by_kind Line suited = urgent_within row suited.0
  by_kind Background suited = subst (λ band. bands_up_to band ≤ 4) (sym suited.0.band) (omega arith)

-- a table has at most 4 bands
pub bands_within : (table : Table) (rows : List TaskRow) (count : ℕ) → IsTable table → rows ≡ table.tasks → count ≡ band_count rows → count ≤ 4
bands_within table rows count is_table is_rows is_count =
    let few : band_count table.tasks ≤ 4 = greatest_within 4 0 (λ row. bands_up_to row.band) table.tasks (omega arith)
    (All-weaker (IsTask table.semaphores) (λ row. bands_up_to row.band ≤ 4) (band_within table.semaphores) table.tasks is_table.tasks) in
    subst (λ n. n ≤ 4) (sym (is_count ∙ ap band_count is_rows)) few

-- and at most 32 tasks in one
pub fullest_within : (table : Table) (rows : List TaskRow) (count : ℕ) → IsTable table → rows ≡ table.tasks → count ≤ length rows → count ≤ 32
fullest_within table rows count is_table is_rows small =
    let few : length table.tasks ≤ 32 = is_table.count.1 in
    let same : length rows ≡ length table.tasks = ap length is_rows in
    omega arith

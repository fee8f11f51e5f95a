-- What the kernel's own work costs in cycles, by the size of its table: this project's own.
use Rattle.std.specs.Prelude.{ℕ, ◌+◌, Bool, false, ◌==◌, List, [], ◌∷◌, length, map, fold, max, Option, None, Some}
use Rattle.std.specs.List.{count_by}
use Rattle.em_base.specs.declared.jobs.Charges.{Charges}
use Rattle.em_base.specs.declared.tables.Table.{Table}
use Rattle.em_base.specs.declared.tables.TaskRow.{TaskRow}

-- the greatest of a list, 0 where it is empty
abbrev pub greatest : List ℕ → ℕ
greatest numbers = fold max 0 numbers

-- one more than the band of a task, 0 where it has none
abbrev pub bands_up_to : Option ℕ → ℕ
bands_up_to None = 0
bands_up_to (Some band) = 1 + band

-- one more than the greatest band in use, 0 where none is
abbrev pub band_count : List TaskRow → ℕ
band_count rows = greatest (map (λ row. bands_up_to row.band) rows)

abbrev pub is_band : ℕ → Option ℕ → Bool
is_band band None = false
is_band band (Some other) = other == band

-- how many tasks are in a band
abbrev pub in_band : List TaskRow → ℕ → ℕ
in_band rows band = count_by (λ row. is_band band row.band) rows

-- how many tasks are in the fullest of the four bands, 0 where none is in use
abbrev pub fullest_band : List TaskRow → ℕ
fullest_band rows = greatest (map (in_band rows) (0 ∷ 1 ∷ 2 ∷ 3 ∷ []))

-- a kernel call grows with the tasks, and so does the delivery of a release; a switch grows with the bands and the tasks in the fullest
abbrev pub charges_of : Table → Charges
charges_of table = record {
  call = 20 + length table.tasks;
  release = 30 + length table.tasks;
  switch = 10 + band_count table.tasks + fullest_band table.tasks;
}

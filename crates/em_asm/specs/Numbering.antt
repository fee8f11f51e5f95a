-- The numbers of lines in the whole input: this project's own.
use Rattle.std.specs.Prelude.{ℕ, ◌+◌, ◌≤◌, ◌^◌, length, slice_index}
use Rattle.em_asm.specs.declared.numbering.Numbers.{Numbers}
use Rattle.em_asm.specs.declared.numbering.Numbers.TheVariants.{Consecutive, Each}

-- the number of the line at a place, counted from 0
abbrev pub line_number_at : Numbers → ℕ → ℕ
line_number_at (Consecutive first) place = first + place
line_number_at (Each numbers) place = slice_index numbers.now place

-- there is a number of 32 bits for each of so many lines
abbrev pub AreNumbered : Numbers → ℕ → Type 0
AreNumbered (Consecutive first) count = first + count ≤ 2 ^ 32
AreNumbered (Each numbers) count = count ≤ length numbers.now

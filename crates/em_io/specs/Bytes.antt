-- What a source has left and what a sink has written, where they tell it, and their counts of faults: this project's own.
use Rattle.std.specs.Prelude.{◌≡◌, ℕ, ◌+◌, ◌-◌, ◌^◌, ◌≤◌, min, List, [], ◌++◌, length, Option, None, Some}

-- the longest input, in bytes: 16 MiB, this project's own limit
abbrev pub input_limit : ℕ
input_limit = 16777216

-- a count that went up by one, but stands still at its last value: this project's own
abbrev pub next_count : ℕ → ℕ
next_count n = min (n + 1) (2 ^ 64 - 1)

-- a count of faults rose, or stands at its last value: this project's own
abbrev pub Rose : ℕ → ℕ → Type 0
Rose before now = next_count before ≤ now

-- what was left before these bytes were taken, where what is left now is told: this project's own
abbrev pub then_left : List ℕ → Option (List ℕ) → Option (List ℕ)
then_left bytes None = None
then_left bytes (Some rest) = Some (bytes ++ rest)

-- what is written once these bytes were appended, where what was written is told: this project's own
abbrev pub and_then : Option (List ℕ) → List ℕ → Option (List ℕ)
and_then None bytes = None
and_then (Some written) bytes = Some (written ++ bytes)

-- nothing is left, where that is told: this project's own
abbrev pub IsAtEnd : Option (List ℕ) → Type 0
IsAtEnd None = Unit {0}
IsAtEnd (Some rest) = rest ≡ []

-- some bytes were taken, and their number has the property P: this project's own
abbrev pub Took : (ℕ → Type 0) → Option (List ℕ) → Option (List ℕ) → Type 0
Took P old new = (bytes : List ℕ) × (P (length bytes)) × (old ≡ then_left bytes new)

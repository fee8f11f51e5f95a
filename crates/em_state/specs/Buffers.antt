-- The buffer of a state message: what it keeps, and the values that it stands for. This project's own.
use Rattle.std.specs.Prelude.{◌≡◌, ℕ, ◌+◌, ◌-◌, ◌%◌, ◌<◌, Bool, true, false, List, [], All, length, map, take, drop, slice_index, slice_index_or}
use Rattle.std.specs.List.{range_with_len}

-- What a buffer keeps: how many words a value has, how many values it has room for, how many writes have begun, the number
-- of the newest value, and the values kept, the oldest first. Of the value that is being written, where one is: its words, and
-- which of them were put.
pub record Kept : Type 0 where
  pub words : ℕ
  pub depth : ℕ
  pub begun : ℕ
  pub newest : ℕ
  pub values : List (List ℕ)
  pub draft : List ℕ
  pub put : List Bool

-- a write has begun that isn't published
abbrev pub IsWriting : Kept → Type 0
IsWriting buf = buf.begun ≡ buf.newest + 1

-- each write that has begun is published
abbrev pub IsResting : Kept → Type 0
IsResting buf = buf.begun ≡ buf.newest

-- each word of the value that is being written was put
abbrev pub IsWhole : Kept → Type 0
IsWhole buf = (i : ℕ) → i < buf.words → slice_index_or buf.put i false ≡ true

-- the number of the oldest value that is kept, by the number of writes begun and the depth
abbrev pub oldest : ℕ → ℕ → ℕ
oldest begun depth = begun + 1 - depth

-- A buffer stands for the values published so far, value 0 first: the newest one is the last of them, each has the buffer's
-- number of words, and those kept are the ones from the oldest that is kept on.
pub record StandsFor (buf : Kept) (published : List (List ℕ)) : Type 0 where
  pub newest : length published ≡ buf.newest + 1
  pub widths : All (λ value. length value ≡ buf.words) published
  pub kept : buf.values ≡ drop (oldest buf.begun buf.depth) published

-- the word i of the value of a number, of the values published
abbrev pub word_of : List (List ℕ) → ℕ → ℕ → ℕ
word_of published number i = slice_index (slice_index_or published number []) i

-- the value of a number in a ring of places, which are wider than it
abbrev pub placed : ℕ → ℕ → List (List ℕ) → ℕ → List ℕ
placed words depth places number = take words (slice_index_or places (number % depth) [])

-- the values in such a ring from the oldest that is kept to the newest
abbrev pub placed_values : ℕ → ℕ → ℕ → ℕ → List (List ℕ) → List (List ℕ)
placed_values words depth begun newest places =
    drop (oldest begun depth) (map (placed words depth places) (range_with_len 0 (newest + 1)))

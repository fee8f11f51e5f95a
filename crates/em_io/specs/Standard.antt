-- A reader or a writer of the standard library with a count of its faults, as contracts see it: this project's own.
use Rattle.std.specs.Prelude.{ℕ}

-- the reader or writer, and how many of its calls failed
pub record Counting (R : Type 0) : Type 0 where
  pub inner : R
  pub faults : ℕ

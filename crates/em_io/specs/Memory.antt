-- A source and a sink in memory, as contracts see them: this project's own.
use Rattle.std.specs.Prelude.{ℕ, ◌-◌, min, List, length}

-- what a source in memory is: the bytes that are left, and how its calls go
pub record Supply : Type 0 where
  pub left : List ℕ
  -- the numbers of the calls that fail, counted from 1
  pub fails : List ℕ
  -- the most bytes that one call moves
  pub piece : ℕ
  -- how many calls there were, and how many of them failed
  pub calls : ℕ
  pub faults : ℕ

-- what a sink in memory is: the bytes that were written, and how its calls go
pub record Store : Type 0 where
  pub written : List ℕ
  -- the most bytes that may ever be written
  pub room : ℕ
  -- the numbers of the calls that fail, counted from 1
  pub fails : List ℕ
  -- the most bytes that one call moves
  pub piece : ℕ
  -- how many calls there were, and how many of them failed
  pub calls : ℕ
  pub faults : ℕ

-- how many bytes a call hands over that has room for this many: this project's own
abbrev pub read_size : Supply → ℕ → ℕ
read_size supply asked = min (min asked supply.piece) (length supply.left)

-- how many bytes a call takes that is offered this many: this project's own
abbrev pub write_size : Store → ℕ → ℕ
write_size store offered = min (min offered store.piece) (store.room - length store.written)

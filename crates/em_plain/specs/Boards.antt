-- The boards of the messages: each shows the newest value of its message, and the number of that value.
use Rattle.std.specs.Prelude.{◌≡◌, ℕ, ◌+◌, ◌<◌, ◌≤◌, List, [], All, length, map, replicate, slice_index_or}
use Rattle.em_base.specs.declared.tables.MsgRow.{MsgRow}
use Rattle.em_base.specs.declared.tables.Table.{Table}
use Rattle.em_gate.specs.State.{Value, values_at}

-- what a board shows
pub record Posted : Type 0 where
  pub number : ℕ
  pub words : Value

abbrev pub no_posted : Posted
no_posted = record { number = 0; words = [] }

abbrev pub posted_at : List Posted → ℕ → Posted
posted_at boards m = slice_index_or boards m no_posted

-- a board with so many words, all zero
abbrev pub blank : ℕ → Posted
blank words = record { number = 0; words = replicate words 0 }

-- the board of a message before anything has happened: value 0
abbrev pub first_posted : MsgRow → Posted
first_posted message = blank message.words

-- the next value of a message
abbrev pub posted : Value → Posted → Posted
posted words board = record { number = board.number + 1; words = words }

-- a board shows the newest of these values
pub record IsBoard (board : Posted) (values : List Value) : Type 0 where
  pub number : board.number + 1 ≡ length values
  pub words : board.words ≡ slice_index_or values board.number []

-- each board shows the newest value of its message
pub record AreBoards (boards : List Posted) (values : List (List Value)) : Type 0 where
  pub all : length boards ≡ length values
  pub each : (m : ℕ) → m < length values → IsBoard (posted_at boards m) (values_at values m)

-- there is a board for each message with as many words, which are few, and the numbers of the values are at most so high
pub record AreReady (table : Table) (most : ℕ) (boards : List Posted) : Type 0 where
  pub sized : map (λ board. length board.words) boards ≡ map (λ message. message.words) table.messages
  pub short : All (λ board. length board.words ≤ 16) boards
  pub few : All (λ board. board.number ≤ most) boards

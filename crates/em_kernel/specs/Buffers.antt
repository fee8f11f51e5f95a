-- What is always so of the buffers of messages and of the copies that a kernel keeps.
use Rattle.std.specs.Prelude.{◌≡◌, ℕ, ◌+◌, ◌<◌, ◌≤◌, ◌⊎◌, ⊤, true, false, List, [], ◌∷◌, ◌++◌, length, replicate, slice_index_or, slice_set, Option, None, Some}
use Rattle.em_base.specs.declared.tables.Table.{Table}
use Rattle.em_gate.specs.Calls.{words_of, writes}
use Rattle.em_gate.specs.State.{Copy, Core, Reads, Writes}
use Rattle.em_admit.specs.Depth.{depth}
use Rattle.em_state.specs.Buffers.{IsResting, IsWriting, Kept as Buffer, StandsFor}
use Rattle.em_system.specs.Asked.{IsInside}
use Rattle.em_system.specs.Held.{Held}
use Rattle.em_system.specs.Windows.{core_in, own_word}
use Rattle.em_kernel.specs.Kept.{buffer_at}
use Rattle.em_kernel.specs.Moves.{copy_at}

-- ---- what is so of them

-- the buffer of a message: it is as wide and as deep as the table says, and each value after the first has a line in the trace
pub record IsMade (table : Table) (m : ℕ) (buffer : Buffer) (count : ℕ) : Type 0 where
  pub some : 1 ≤ buffer.words
  pub few : buffer.words ≤ 16
  pub words : buffer.words ≡ words_of table m
  pub depth : buffer.depth ≡ depth table m
  pub early : buffer.newest ≤ count

-- the first so many words of what is written are those of the own window from an address on
pub record IsTaken (core : Core) (at done : ℕ) (buffer : Buffer) : Type 0 where
  pub writing : IsWriting buffer
  pub draft : length buffer.draft ≡ buffer.words
  pub put : length buffer.put ≡ buffer.words
  pub marked : (j : ℕ) → j < done → slice_index_or buffer.put j false ≡ true
  pub same : (j : ℕ) → j < done → slice_index_or buffer.draft j 0 ≡ own_word core at j

-- a write of the task t, and a read
pub record IsWrite (held : Held) (buffers : List Buffer) (t m at done : ℕ) : Type 0 where
  pub inside : IsInside held.app.table m at
  pub writes : writes held.app.table t m ≡ true
  pub more : done < words_of held.app.table m
  pub taken : IsTaken (core_in held.threads t) at done (buffer_at buffers m)

pub record IsRead (held : Held) (buffers : List Buffer) (m at noted done : ℕ) : Type 0 where
  pub inside : IsInside held.app.table m at
  pub more : done < words_of held.app.table m
  pub published : noted ≤ (buffer_at buffers m).newest

abbrev pub IsKept : Held → List Buffer → ℕ → Option Copy → Type 0
IsKept held buffers t None = ⊤
IsKept held buffers t (Some (Writes m at done)) = IsWrite held buffers t m.0 at done
IsKept held buffers t (Some (Reads m at noted done)) = IsRead held buffers m.0 at noted done

-- the writer of a message has a write of it under way
abbrev pub IsWritten : Table → List (Option Copy) → ℕ → Type 0
IsWritten table copies m =
    (t at done : ℕ) × (writes table t m ≡ true) × (copy_at copies t ≡ Some (Writes (record { 0 = m }) at done))

-- there is a place for a copy of each task and a buffer for each message, all of them are so, and a message that nobody writes rests
pub record AreBuffers (held : Held) (buffers : List Buffer) (copies : List (Option Copy)) (count : ℕ) : Type 0 where
  pub tasks : length copies ≡ length held.threads
  pub messages : length buffers ≡ length held.app.table.messages
  pub made : (m : ℕ) → m < length buffers → IsMade held.app.table m (buffer_at buffers m) count
  pub kept : (t : ℕ) → IsKept held buffers t (copy_at copies t)
  pub rests : (m : ℕ) → m < length buffers → IsResting (buffer_at buffers m) ⊎ IsWritten held.app.table copies m

-- the buffer of a message before anything has happened
pub record IsFirst (table : Table) (m : ℕ) (buffer : Buffer) : Type 0 where
  pub stands : StandsFor buffer (replicate (words_of table m) 0 ∷ [])
  pub begun : buffer.begun ≡ 0
  pub newest : buffer.newest ≡ 0
  pub some : 1 ≤ buffer.words
  pub few : buffer.words ≤ 16
  pub words : buffer.words ≡ words_of table m
  pub depth : buffer.depth ≡ depth table m

-- ---- what a step makes of a buffer

-- a buffer that stands for the same values, and is as wide and as deep
pub record IsSame (before after : Buffer) : Type 0 where
  pub stands : (values : List (List ℕ)) → StandsFor before values → StandsFor after values
  pub newest : after.newest ≡ before.newest
  pub words : after.words ≡ before.words
  pub depth : after.depth ≡ before.depth

-- a write has begun
pub record HasBegun (before after : Buffer) : Type 0 where
  pub same : IsSame before after
  pub begun : after.begun ≡ before.begun + 1
  pub draft : after.draft ≡ replicate before.words 0
  pub put : after.put ≡ replicate before.words false

-- a word was put
pub record HasPut (before after : Buffer) (i word : ℕ) : Type 0 where
  pub same : IsSame before after
  pub begun : after.begun ≡ before.begun
  pub draft : after.draft ≡ slice_set before.draft i word
  pub put : after.put ≡ slice_set before.put i true

-- the value that was written is published
pub record HasPublished (before after : Buffer) : Type 0 where
  pub stands : (values : List (List ℕ)) → StandsFor before values → StandsFor after (values ++ before.draft ∷ [])
  pub begun : after.begun ≡ before.begun
  pub newest : after.newest ≡ before.newest + 1
  pub words : after.words ≡ before.words
  pub depth : after.depth ≡ before.depth

-- What a step of a task is where the words of messages are copied one by one, and what it changes. An accepted write or read of a message
-- begins a copy; each later step of the task takes its next word, until the last. This project's own, after the state messages of EMERALDS.
use Rattle.std.specs.Prelude.{ℕ, ◌+◌, nat_le, nat_lt, List, [], ◌∷◌, ◌++◌, slice_index_or, slice_set, Option, None, Some, if◌then◌else◌}
use Rattle.em_base.specs.declared.apps.App.{App}
use Rattle.em_base.specs.declared.ids.MsgId.{MsgId}
use Rattle.em_base.specs.declared.ids.TaskId.{TaskId}
use Rattle.em_base.specs.declared.tables.Table.{Table}
use Rattle.em_trace.specs.declared.lines.Line.{Line}
use Rattle.em_trace.specs.declared.lines.Line.TheVariants.{Get}
use Rattle.em_gate.specs.Calls.{words_of}
use Rattle.em_gate.specs.Effects.{after_answer, after_outcome, line_by, newest, with_core}
use Rattle.em_gate.specs.Outcome.{Outcome, Works, Falls, Refuses, Ends, Gets, Blocks, Frees, Puts, Publishes, Fetches, Signals, Leaves, outcome}
use Rattle.em_gate.specs.State.{Copy, Core, Counted, Plain, Reads, Value, Writes, task_at, values_at}
use Rattle.em_admit.specs.Depth.{depth}
use Rattle.em_state.specs.Buffers.{word_of}
use Rattle.em_system.specs.Promises.{promises_after}
use Rattle.em_system.specs.Windows.{with_words_from}

-- what a step of a task is. A copy has the message and the address of its words in the own window; that of a read has the number that it
-- noted, too; then comes how many words are done
pub data Move : Type 0 where
  -- an instruction, a fault, or a call that begins no copy
  Acts : Outcome → Move
  -- a write begins
  StartsWrite : MsgId → ℕ → Move
  -- a word of the own window is copied that isn't the last one
  TakesWord : MsgId → ℕ → ℕ → Move
  -- the last word is copied, and the value is published
  EndsWrite : MsgId → ℕ → ℕ → Move
  -- a read begins: it notes the number of the newest value
  StartsRead : MsgId → ℕ → Move
  -- a word of the noted value is put into the own window that isn't the last one
  PutsWord : MsgId → ℕ → ℕ → ℕ → Move
  -- the last word is put
  EndsRead : MsgId → ℕ → ℕ → ℕ → Move
  -- the noted value may be gone: as many writes have begun since as the buffer keeps values
  Lapses : MsgId → ℕ → Move

-- ---- which step it is

abbrev pub copy_at : List (Option Copy) → ℕ → Option Copy
copy_at copies t = slice_index_or copies t None

-- how many values of a message were begun
abbrev pub begun_at : List ℕ → ℕ → ℕ
begun_at begun m = slice_index_or begun m 0

-- a task without a copy: what its step comes to may begin one
abbrev pub first_move : Outcome → Move
first_move (Works class core shared) = Acts (Works class core shared)
first_move (Falls cause) = Acts (Falls cause)
first_move (Refuses code) = Acts (Refuses code)
first_move Ends = Acts Ends
first_move (Gets s) = Acts (Gets s)
first_move (Blocks s) = Acts (Blocks s)
first_move (Frees s) = Acts (Frees s)
first_move (Puts port word) = Acts (Puts port word)
first_move (Publishes m at count) = StartsWrite (record { 0 = m }) at
first_move (Fetches m at) = StartsRead (record { 0 = m }) at
first_move (Signals u word) = Acts (Signals u word)
first_move Leaves = Acts Leaves

-- the next word of a read is put into the own window
abbrev pub put_move : Table → MsgId → ℕ → ℕ → ℕ → Move
put_move table m at noted i = if nat_lt (i + 1) (words_of table m.0) then PutsWord m at noted i else EndsRead m at noted i

-- the next word of a copy, by the table and the numbers of values begun
abbrev pub next_word : Table → List ℕ → Copy → Move
next_word table begun (Writes m at i) = if nat_lt (i + 1) (words_of table m.0) then TakesWord m at i else EndsWrite m at i
next_word table begun (Reads m at noted i) =
    if nat_le (noted + depth table m.0) (begun_at begun m.0) then Lapses m noted else put_move table m at noted i

-- a step by the copy that is under way, and by what it comes to else
abbrev pub move_by : Table → List ℕ → Outcome → Option Copy → Move
move_by table begun o None = first_move o
move_by table begun o (Some copy) = next_word table begun copy

-- a step of the task t
abbrev pub move_of : App → Counted → ℕ → Move
move_of app c t = move_by app.table c.begun (outcome app.table app.image.words t c.plain) (copy_at c.copies t)

-- ---- what it changes

abbrev pub with_line : Line → Plain → Plain
with_line line p = record p { lines = p.lines ++ line ∷ [] }

-- the state with the core of a task changed
abbrev pub with_core_at : ℕ → (Core → Core) → Plain → Plain
with_core_at t change p =
    record p { tasks = slice_set p.tasks t (with_core (change (task_at p.tasks t).core) (task_at p.tasks t)) }

-- the word i of the value of a message of a number
abbrev pub noted_word : List (List Value) → ℕ → ℕ → ℕ → ℕ
noted_word values m noted i = word_of (values_at values m) noted i

-- the core once it has that word in its own window
abbrev pub with_word_put : List (List Value) → ℕ → ℕ → ℕ → ℕ → Core → Core
with_word_put values m at noted i core = with_words_from at i (noted_word values m noted i ∷ []) core

-- the outcome of a write that ends
abbrev pub published : Table → MsgId → ℕ → Outcome
published table m at = Publishes m.0 at (words_of table m.0)

-- the line that a read gives as it begins
abbrev pub get_line : TaskId → MsgId → Plain → Line
get_line t m p = Get t m (newest p.values m.0)

-- the state with another copy of a task
abbrev pub with_copy : ℕ → Option Copy → Counted → Counted
with_copy t copy c = record c { copies = slice_set c.copies t copy }

-- the state after a step of the task t, at the same clock
unfoldable pub after_move : App → Move → TaskId → Counted → Counted
after_move app (Acts o) t c = record c {
  plain = after_outcome o t c.plain;
  promises = promises_after app o t.0 c.plain c.promises;
}
after_move app (StartsWrite m at) t c = record c {
  copies = slice_set c.copies t.0 (Some (Writes m at 0));
  begun = slice_set c.begun m.0 (begun_at c.begun m.0 + 1);
}
after_move app (TakesWord m at i) t c = with_copy t.0 (Some (Writes m at (i + 1))) c
after_move app (EndsWrite m at i) t c = record c {
  plain = after_outcome (published app.table m at) t c.plain;
  copies = slice_set c.copies t.0 None;
}
after_move app (StartsRead m at) t c = record c {
  plain = with_line (get_line t m c.plain) c.plain;
  copies = slice_set c.copies t.0 (Some (Reads m at (newest c.plain.values m.0) 0));
}
after_move app (PutsWord m at noted i) t c = record c {
  plain = with_core_at t.0 (with_word_put c.plain.values m.0 at noted i) c.plain;
  copies = slice_set c.copies t.0 (Some (Reads m at noted (i + 1)));
}
after_move app (EndsRead m at noted i) t c = record c {
  plain = with_core_at t.0 (λ core. after_answer 0 (with_word_put c.plain.values m.0 at noted i core)) c.plain;
  copies = slice_set c.copies t.0 None;
}
after_move app (Lapses m noted) t c = c

-- the line that it gives
unfoldable pub move_line : App → Move → TaskId → Plain → Option Line
move_line app (Acts o) t p = line_by o t (task_at p.tasks t.0) p
move_line app (StartsWrite m at) t p = None
move_line app (TakesWord m at i) t p = None
move_line app (EndsWrite m at i) t p = line_by (published app.table m at) t (task_at p.tasks t.0) p
move_line app (StartsRead m at) t p = Some (get_line t m p)
move_line app (PutsWord m at noted i) t p = None
move_line app (EndsRead m at noted i) t p = None
move_line app (Lapses m noted) t p = None

-- How many values the buffer of a state message keeps, by the table: this project's own.
use Rattle.std.specs.Prelude.{ℕ, ◌+◌, ◌*◌, ◌/◌, ◌<◌, ◌≤◌, List, [], length, map, slice_index_or, All, None}
use Rattle.std.specs.Option.{unwrap_or}
use Rattle.em_base.specs.declared.ids.TaskId.{TaskId}
use Rattle.em_base.specs.declared.tables.Kind.TheVariants.{Background}
use Rattle.em_base.specs.declared.tables.MsgRow.{MsgRow}
use Rattle.em_base.specs.declared.tables.Table.{Table}
use Rattle.em_base.specs.declared.tables.TaskRow.{TaskRow}
use Rattle.em_demand.specs.Charges.{greatest}

-- ---- rows

-- the row of a task, and that of a message
abbrev pub no_row : TaskRow
no_row = record {
  name = [];
  entry = [];
  kind = Background;
  period = None;
  phase = 0;
  deadline = None;
  cost = None;
  section = 0;
  writes = 0;
  uses = [];
  line = None;
  band = None;
}

abbrev pub row_at : List TaskRow → TaskId → TaskRow
row_at rows task = slice_index_or rows task.0 no_row

abbrev pub no_message : MsgRow
no_message = record { words = 0; writer = record { 0 = 0 }; readers = [] }

abbrev pub message_at : List MsgRow → ℕ → MsgRow
message_at messages m = slice_index_or messages m no_message

-- the deadline and the period of a task, 0 where it has none
abbrev pub deadline_of : TaskRow → ℕ
deadline_of row = unwrap_or row.deadline 0

abbrev pub period_of : TaskRow → ℕ
period_of row = unwrap_or row.period 0

-- ---- the depth

-- one more than the whole periods of the writer in the deadlines of a reader and of the writer together
abbrev pub writer_jobs : TaskRow → TaskRow → ℕ
writer_jobs writer reader = (deadline_of reader + deadline_of writer) / period_of writer + 1

-- the bound of a reader: what so many jobs of the writer write at most
abbrev pub reader_bound : TaskRow → TaskRow → ℕ
reader_bound writer reader = writer.writes * writer_jobs writer reader

-- the same of tasks by their numbers
abbrev pub bound : List TaskRow → TaskId → TaskId → ℕ
bound rows writer reader = reader_bound (row_at rows writer) (row_at rows reader)

-- the greatest bound of the readers of a message, 0 where it has none
abbrev pub greatest_bound : List TaskRow → MsgRow → ℕ
greatest_bound rows message = greatest (map (bound rows message.writer) message.readers)

-- how many values the buffer of a message is to keep: 2 more than that
abbrev pub depth : Table → ℕ → ℕ
depth table m = 2 + greatest_bound table.tasks (message_at table.messages m)

-- n is 2 or more, and at least 2 more than the bound of each reader of the message
pub record IsDeepEnough (table : Table) (m n : ℕ) : Type 0 where
  pub two : 2 ≤ n
  pub readers : let message = message_at table.messages m in All (λ reader. 2 + bound table.tasks message.writer reader ≤ n) message.readers

-- the most values that a buffer may keep
abbrev pub most_values : ℕ
most_values = 64

-- no buffer of a message is to keep more values than that
abbrev pub AreShallow : Table → Type 0
AreShallow table = (m : ℕ) → m < length table.messages → depth table m ≤ most_values

-- The tests of a table, group by group and key by key, in the order in which they are made: this project's own. Times are in
-- cycles, windows in bytes.
use Rattle.std.specs.Prelude.{ℕ, Bool, true, false, ◌&&◌, not, nat_le, nat_eq, List, [], ◌∷◌, ◌++◌, length, map, sum_by, Option, Some, None, codes}
use Rattle.std.specs.Prelude.{if◌then◌else◌}
use Rattle.std.specs.List.{list_all, list_any, position}
use Rattle.std.specs.Option.{unwrap_or, is_some}
use Rattle.std.specs.Str.{bytes_eq}
use Rattle.toml.specs.Data.{Members, get_member}
use Rattle.em_base.specs.declared.ids.TaskId.{TaskId}
use Rattle.em_base.specs.declared.tables.Kind.{Kind}
use Rattle.em_base.specs.declared.tables.Kind.TheVariants.{Timer, Line, Background}
use Rattle.em_base.specs.declared.tables.MsgRow.{MsgRow}
use Rattle.em_base.specs.declared.tables.Table.{Table}
use Rattle.em_base.specs.declared.tables.TaskRow.{TaskRow}
use Rattle.em_base.specs.Tables.{longest, longest_window, most_releases, is_name_byte, names_of, interrupt_lines_of, releases_of}
use Rattle.em_table.specs.declared.faults.Fault.{Fault}
use Rattle.em_table.specs.declared.faults.Fault.TheVariants.{NoToml, Unknown, Twice, Background as InBackground, TooManyReleases}
use Rattle.em_table.specs.declared.keys.Need.{Need}
use Rattle.em_table.specs.declared.keys.Need.TheVariants.{Required, Optional, Foreign}
use Rattle.em_table.specs.Faults.{unless, first_of}
use Rattle.em_table.specs.Values.{are_among, number_fault, number_at, text_fault, text_at, tables_fault, tables_at, numbers_fault, numbers_at, texts_fault}
use Rattle.em_table.specs.Values.{texts_at, has_repeat}

-- ---- the top

abbrev pub top_keys : List (List ℕ)
top_keys = codes "horizon" ∷ codes "semaphores" ∷ codes "own" ∷ codes "shared" ∷ codes "task" ∷ codes "message" ∷ []

abbrev pub top_faults : Members → List (Option Fault)
top_faults top =
    number_fault Required 1 longest 1 (get_member (codes "horizon") top)
    ∷ number_fault Optional 0 32 1 (get_member (codes "semaphores") top)
    ∷ number_fault Optional 0 longest_window 4 (get_member (codes "own") top)
    ∷ number_fault Optional 0 longest_window 4 (get_member (codes "shared") top)
    ∷ tables_fault Required 1 32 (get_member (codes "task") top)
    ∷ tables_fault Optional 0 16 (get_member (codes "message") top)
    ∷ unless (are_among top_keys top) Unknown
    ∷ []

abbrev pub horizon_of : Members → ℕ
horizon_of top = unwrap_or (number_at Required (get_member (codes "horizon") top)) 0

abbrev pub semaphores_of : Members → ℕ
semaphores_of top = unwrap_or (number_at Optional (get_member (codes "semaphores") top)) 0

abbrev pub own_of : Members → ℕ
own_of top = unwrap_or (number_at Optional (get_member (codes "own") top)) 1024

abbrev pub shared_of : Members → ℕ
shared_of top = unwrap_or (number_at Optional (get_member (codes "shared") top)) 0

-- the groups of the tasks and of the messages
abbrev pub task_groups : Members → List Members
task_groups top = tables_at (get_member (codes "task") top)

abbrev pub message_groups : Members → List Members
message_groups top = tables_at (get_member (codes "message") top)

-- ---- a task

abbrev pub is_task_name : List ℕ → Bool
is_task_name name = nat_le 1 (length name) && nat_le (length name) 32 && list_all is_name_byte name

abbrev pub is_entry : List ℕ → Bool
is_entry entry = nat_le 1 (length entry) && nat_le (length entry) 64

abbrev pub kind_named : List ℕ → Option Kind
kind_named text =
    if bytes_eq text (codes "timer") then Some Timer
    else if bytes_eq text (codes "line") then Some Line
    else if bytes_eq text (codes "background") then Some Background
    else None

abbrev pub is_kind : List ℕ → Bool
is_kind text = is_some (kind_named text)

abbrev pub kind_of : Members → Kind
kind_of task = unwrap_or (kind_named (text_at (get_member (codes "kind") task))) Timer

-- whether the key `line` stands in a task, whatever its value is
abbrev pub has_line : Members → Bool
has_line task = is_some (get_member (codes "line") task)

-- a key of the tasks that have deadlines: timer tasks and line tasks
abbrev pub with_deadlines : Need → Kind → Need
with_deadlines need Timer = need
with_deadlines need Line = need
with_deadlines need Background = Foreign

-- a background task has a period exactly where it has a line
abbrev pub period_need : Kind → Bool → Need
period_need Timer lined = Required
period_need Line lined = Required
period_need Background lined = if lined then Required else Foreign

abbrev pub phase_need : Kind → Need
phase_need Timer = Optional
phase_need Line = Foreign
phase_need Background = Foreign

abbrev pub line_need : Kind → Need
line_need Timer = Foreign
line_need Line = Required
line_need Background = Optional

-- the keys of a task of a kind, with `line` or without it
abbrev pub task_keys : Kind → Bool → List (List ℕ)
task_keys Timer lined =
    codes "name" ∷ codes "entry" ∷ codes "kind" ∷ codes "period" ∷ codes "phase" ∷ codes "deadline" ∷ codes "cost"
    ∷ codes "section" ∷ codes "writes" ∷ codes "uses" ∷ codes "band" ∷ []
task_keys Line lined =
    codes "name" ∷ codes "entry" ∷ codes "kind" ∷ codes "period" ∷ codes "deadline" ∷ codes "cost"
    ∷ codes "section" ∷ codes "writes" ∷ codes "uses" ∷ codes "line" ∷ codes "band" ∷ []
task_keys Background true =
    codes "name" ∷ codes "entry" ∷ codes "kind" ∷ codes "period" ∷ codes "section" ∷ codes "uses" ∷ codes "line" ∷ []
task_keys Background false =
    codes "name" ∷ codes "entry" ∷ codes "kind" ∷ codes "section" ∷ codes "uses" ∷ []

-- what stands at the keys of a task
abbrev pub period_at : Members → Option ℕ
period_at task = number_at (period_need (kind_of task) (has_line task)) (get_member (codes "period") task)

abbrev pub phase_of : Members → ℕ
phase_of task = unwrap_or (number_at (phase_need (kind_of task)) (get_member (codes "phase") task)) 0

abbrev pub deadline_of : Members → Option ℕ
deadline_of task = number_at (with_deadlines Required (kind_of task)) (get_member (codes "deadline") task)

abbrev pub cost_of : Members → Option ℕ
cost_of task = number_at (with_deadlines Required (kind_of task)) (get_member (codes "cost") task)

abbrev pub section_of : Members → ℕ
section_of task = unwrap_or (number_at Optional (get_member (codes "section") task)) 0

abbrev pub writes_of : Members → ℕ
writes_of task = unwrap_or (number_at (with_deadlines Optional (kind_of task)) (get_member (codes "writes") task)) 0

abbrev pub uses_of : Members → List ℕ
uses_of task = numbers_at (get_member (codes "uses") task)

abbrev pub line_of : Members → Option ℕ
line_of task = number_at (line_need (kind_of task)) (get_member (codes "line") task)

abbrev pub band_of : Members → Option ℕ
band_of task = number_at (with_deadlines Optional (kind_of task)) (get_member (codes "band") task)

-- the tests of its keys: what it is; its times; its counts; the semaphores that it uses; and where it is served, with which its
-- keys end
abbrev pub heading_faults : Members → List (Option Fault)
heading_faults task =
    text_fault is_task_name (get_member (codes "name") task)
    ∷ text_fault is_entry (get_member (codes "entry") task)
    ∷ text_fault is_kind (get_member (codes "kind") task)
    ∷ []

abbrev pub deadline_fault : Members → Option Fault
deadline_fault task =
    number_fault (with_deadlines Required (kind_of task)) 1 (unwrap_or (period_at task) 0) 1 (get_member (codes "deadline") task)

abbrev pub times_faults : Members → List (Option Fault)
times_faults task =
    number_fault (period_need (kind_of task) (has_line task)) 1 longest 1 (get_member (codes "period") task)
    ∷ number_fault (phase_need (kind_of task)) 0 longest 1 (get_member (codes "phase") task)
    ∷ deadline_fault task
    ∷ number_fault (with_deadlines Required (kind_of task)) 1 longest 1 (get_member (codes "cost") task)
    ∷ []

abbrev pub counts_faults : Members → List (Option Fault)
counts_faults task =
    number_fault Optional 0 longest 1 (get_member (codes "section") task)
    ∷ number_fault (with_deadlines Optional (kind_of task)) 0 64 1 (get_member (codes "writes") task)
    ∷ []

abbrev pub uses_faults : ℕ → Members → List (Option Fault)
uses_faults semaphores task =
    numbers_fault semaphores (get_member (codes "uses") task)
    ∷ unless (not (has_repeat nat_eq (uses_of task))) Twice
    ∷ []

abbrev pub places_faults : Members → List (Option Fault)
places_faults task =
    number_fault (line_need (kind_of task)) 0 31 1 (get_member (codes "line") task)
    ∷ number_fault (with_deadlines Optional (kind_of task)) 0 3 1 (get_member (codes "band") task)
    ∷ unless (are_among (task_keys (kind_of task) (has_line task)) task) Unknown
    ∷ []

abbrev pub task_faults : ℕ → Members → List (Option Fault)
task_faults semaphores task =
    heading_faults task ++ times_faults task ++ counts_faults task ++ uses_faults semaphores task ++ places_faults task

-- the task, key by key
abbrev pub row_of : Members → TaskRow
row_of task = record {
  name = text_at (get_member (codes "name") task);
  entry = text_at (get_member (codes "entry") task);
  kind = kind_of task;
  period = period_at task;
  phase = phase_of task;
  deadline = deadline_of task;
  cost = cost_of task;
  section = section_of task;
  writes = writes_of task;
  uses = map (λ s. record { 0 = s }) (uses_of task);
  line = line_of task;
  band = band_of task;
}

abbrev pub rows_of : Members → List TaskRow
rows_of top = map row_of (task_groups top)

-- ---- a message

abbrev pub message_keys : List (List ℕ)
message_keys = codes "words" ∷ codes "writer" ∷ codes "readers" ∷ []

abbrev pub message_faults : Members → List (Option Fault)
message_faults message =
    number_fault Required 1 16 1 (get_member (codes "words") message)
    ∷ text_fault (λ text. true) (get_member (codes "writer") message)
    ∷ texts_fault (get_member (codes "readers") message)
    ∷ unless (are_among message_keys message) Unknown
    ∷ []

-- a message by the names of its tasks
pub record Message : Type 0 where
  pub words : ℕ
  pub writer : List ℕ
  pub readers : List (List ℕ)

-- the message, key by key
abbrev pub message_of : Members → Message
message_of message = record {
  words = unwrap_or (number_at Required (get_member (codes "words") message)) 0;
  writer = text_at (get_member (codes "writer") message);
  readers = texts_at (get_member (codes "readers") message);
}

abbrev pub messages_of : Members → List Message
messages_of top = map message_of (message_groups top)

-- ---- across the groups

-- the place of the task of a name, counted from 0
abbrev pub place_of : List TaskRow → List ℕ → Option ℕ
place_of rows name = position (λ row. bytes_eq name row.name) rows

abbrev pub is_background : Kind → Bool
is_background Background = true
is_background _ = false

-- a task has the name; a background task has it
abbrev pub is_named : List TaskRow → List ℕ → Bool
is_named rows name = list_any (λ row. bytes_eq name row.name) rows

abbrev pub is_of_background : List TaskRow → List ℕ → Bool
is_of_background rows name = list_any (λ row. bytes_eq name row.name && is_background row.kind) rows

-- all names in a message pass a test: they are those of tasks; none is that of a background task
abbrev pub all_names : (List ℕ → Bool) → Message → Bool
all_names test message = test message.writer && list_all test message.readers

abbrev pub is_known : List TaskRow → Message → Bool
is_known rows message = all_names (is_named rows) message

abbrev pub is_urgent : List TaskRow → Message → Bool
is_urgent rows message = all_names (λ name. not (is_of_background rows name)) message

-- two tasks have one name, or one interrupt line; a message has a reader twice
abbrev pub has_name_twice : List TaskRow → Bool
has_name_twice rows = has_repeat bytes_eq (names_of rows)

abbrev pub has_line_twice : List TaskRow → Bool
has_line_twice rows = has_repeat nat_eq (interrupt_lines_of rows)

abbrev pub has_reader_twice : Message → Bool
has_reader_twice message = has_repeat bytes_eq message.readers

abbrev pub across_faults : ℕ → List TaskRow → List Message → List (Option Fault)
across_faults horizon rows messages =
    unless (not (has_name_twice rows)) Twice
    ∷ unless (not (has_line_twice rows)) Twice
    ∷ unless (list_all (is_known rows) messages) Unknown
    ∷ unless (list_all (λ message. not (has_reader_twice message)) messages) Twice
    ∷ unless (list_all (is_urgent rows) messages) InBackground
    ∷ unless (nat_le (sum_by (releases_of horizon) rows) most_releases) TooManyReleases
    ∷ []

-- ---- the whole

abbrev pub task_fault : ℕ → Members → Option Fault
task_fault semaphores task = first_of (task_faults semaphores task)

abbrev pub message_fault : Members → Option Fault
message_fault message = first_of (message_faults message)

-- the first fault of a table: at the top, in a task, in a message, and across them
abbrev pub fault_in : Members → Option Fault
fault_in top =
    first_of
    (top_faults top
    ++ (map (task_fault (semaphores_of top)) (task_groups top)
    ++ (map message_fault (message_groups top)
    ++ across_faults (horizon_of top) (rows_of top) (messages_of top))))

-- the first fault of a text, by the data that TOML has for it
abbrev pub fault_of : Option Members → Option Fault
fault_of None = Some NoToml
fault_of (Some top) = fault_in top

-- the number of the task of a name
abbrev pub task_named : List TaskRow → List ℕ → TaskId
task_named rows name = record { 0 = unwrap_or (place_of rows name) 0 }

-- a message by the numbers of its tasks
abbrev pub message_row : List TaskRow → Message → MsgRow
message_row rows message = record {
  words = message.words;
  writer = task_named rows message.writer;
  readers = map (task_named rows) message.readers;
}

-- the table, key by key
abbrev pub table_of : Members → Table
table_of top = record {
  horizon = horizon_of top;
  semaphores = semaphores_of top;
  own = own_of top;
  shared = shared_of top;
  tasks = rows_of top;
  messages = map (message_row (rows_of top)) (messages_of top);
}

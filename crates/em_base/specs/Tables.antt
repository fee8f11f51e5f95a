-- What holds of each task table: this project's own.
use Rattle.std.specs.Prelude.{ℕ, ◌<◌, ◌≤◌, ◌%◌, ◌≡◌, ◌||◌, nat_eq, Bool, IsTrue, List, length, map, slice_index_or, sum_by, All, Option, Some, None, IfSome, MatchOption}
use Rattle.std.specs.Char.{is_digit, is_ascii_alphabetic}
use Rattle.std.specs.Int.{div_ceil}
use Rattle.std.specs.List.{IsDistinct, filter_map, list_all}
use Rattle.std.specs.Option.{unwrap_or}
use Rattle.std.specs.Str.{bytes_eq}
use Rattle.em_base.specs.declared.ids.SemId.{SemId}
use Rattle.em_base.specs.declared.ids.TaskId.{TaskId}
use Rattle.em_base.specs.declared.tables.Kind.{Kind}
use Rattle.em_base.specs.declared.tables.Kind.TheVariants.{Timer, Line, Background}
use Rattle.em_base.specs.declared.tables.MsgRow.{MsgRow}
use Rattle.em_base.specs.declared.tables.Table.{Table}
use Rattle.em_base.specs.declared.tables.TaskRow.{TaskRow}

-- ---- numbers

-- the longest time that a table may name, in cycles, and the most releases that its periods may cause
abbrev pub longest : ℕ
longest = 20000000

abbrev pub most_releases : ℕ
most_releases = 200000

-- the longest window, in bytes
abbrev pub longest_window : ℕ
longest_window = 65536

-- from low to high
abbrev pub IsFrom : ℕ → ℕ → ℕ → Type 0
IsFrom low high n = (low ≤ n) × (n ≤ high)

-- there is a number, and it is from low to high
abbrev pub IsGiven : ℕ → ℕ → Option ℕ → Type 0
IsGiven low high None = ⊥
IsGiven low high (Some n) = IsFrom low high n

-- the length of a window in bytes: whole words
abbrev pub IsWindow : ℕ → Type 0
IsWindow length = (length ≤ longest_window) × (length % 4 ≡ 0)

-- ---- tasks

-- a letter, a digit, an underscore or a dash
abbrev pub is_name_byte : ℕ → Bool
is_name_byte byte = nat_eq byte 95 || nat_eq byte 45 || is_ascii_alphabetic byte || is_digit byte 10

-- 1 to 32 of these
abbrev pub IsTaskName : List ℕ → Type 0
IsTaskName name = IsFrom 1 32 (length name) × IsTrue (list_all is_name_byte name)

-- a task that has deadlines: it has a period, a deadline within it and a cost, and may have a band
pub record HasDeadlines (row : TaskRow) : Type 0 where
  pub period : IsGiven 1 longest row.period
  pub deadline : IsGiven 1 (unwrap_or row.period 0) row.deadline
  pub cost : IsGiven 1 longest row.cost
  pub band : IfSome row.band (λ band. band ≤ 3)

-- a task without deadlines: it writes no messages, and has a period exactly where it has a line
pub record HasNoDeadlines (row : TaskRow) : Type 0 where
  pub deadline : row.deadline ≡ None
  pub cost : row.cost ≡ None
  pub band : row.band ≡ None
  pub writes : row.writes ≡ 0
  pub released : MatchOption row.line (row.period ≡ None) (λ line. (line ≤ 31) × IsGiven 1 longest row.period)

-- what a task of a kind has
abbrev pub SuitsKind : Kind → TaskRow → Type 0
SuitsKind Timer row = HasDeadlines row × (row.line ≡ None) × (row.phase ≤ longest)
SuitsKind Line row = HasDeadlines row × IsGiven 0 31 row.line × (row.phase ≡ 0)
SuitsKind Background row = HasNoDeadlines row × (row.phase ≡ 0)

-- each number of a semaphore is below their number, and none stands twice
abbrev pub AreSemaphores : ℕ → List SemId → Type 0
AreSemaphores semaphores uses = All (λ s. s.0 < semaphores) uses × IsDistinct nat_eq (map (λ s. s.0) uses)

-- a task of a table with so many semaphores
pub record IsTask (semaphores : ℕ) (row : TaskRow) : Type 0 where
  pub name : IsTaskName row.name
  pub entry : IsFrom 1 64 (length row.entry)
  pub suited : SuitsKind row.kind row
  pub section : row.section ≤ longest
  pub writes : row.writes ≤ 64
  pub uses : AreSemaphores semaphores row.uses

-- the names of tasks, and the interrupt lines of those that have one
abbrev pub names_of : List TaskRow → List (List ℕ)
names_of rows = map (λ row. row.name) rows

abbrev pub interrupt_lines_of : List TaskRow → List ℕ
interrupt_lines_of rows = filter_map (λ row. row.line) rows

-- how many releases below the horizon the period of a task causes
abbrev pub releases_of : ℕ → TaskRow → ℕ
releases_of horizon row = elim row.period as (λ _. ℕ) [ None ↦ 0 | Some period ↦ div_ceil horizon period ]

-- ---- messages

-- the number is that of a task that isn't a background task
abbrev pub IsUrgent : List TaskRow → TaskId → Type 0
IsUrgent rows task = (row : TaskRow) × (task.0 < length rows) × (row ≡ slice_index_or rows task.0 row) × (row.kind ≡ Background → ⊥)

-- a message of these tasks
pub record IsMessage (rows : List TaskRow) (message : MsgRow) : Type 0 where
  pub words : IsFrom 1 16 message.words
  pub writer : IsUrgent rows message.writer
  pub readers : All (IsUrgent rows) message.readers
  pub once : IsDistinct nat_eq (map (λ t. t.0) message.readers)

-- ---- tables

pub record IsTable (table : Table) : Type 0 where
  pub horizon : IsFrom 1 longest table.horizon
  pub semaphores : table.semaphores ≤ 32
  pub own : IsWindow table.own
  pub shared : IsWindow table.shared
  pub count : IsFrom 1 32 (length table.tasks)
  pub tasks : All (IsTask table.semaphores) table.tasks
  pub names : IsDistinct bytes_eq (names_of table.tasks)
  pub lines : IsDistinct nat_eq (interrupt_lines_of table.tasks)
  pub message_count : length table.messages ≤ 16
  pub messages : All (IsMessage table.tasks) table.messages
  pub releases : sum_by (releases_of table.horizon) table.tasks ≤ most_releases

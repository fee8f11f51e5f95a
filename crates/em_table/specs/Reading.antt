-- What the readers of keys answer, in the words of the definitions. These stand between the code and the definitions inside the
-- crate.
use Rattle.std.specs.Prelude.{◌≡◌, ℕ, Bool, true, false, List, map, Option, Some, None, Result, Ok, Err, String, codes, string_bytes}
use Rattle.std.specs.BTreeMap.{BTreeMap}
use Rattle.std.specs.List.{filter_map, list_all, list_any}
use Rattle.std.specs.Option.{is_some}
use Rattle.std.specs.Str.{bytes_eq}
use Rattle.std.specs.declared.alloc.Global.{Global}
use denote.Ref.{Bor}
use Rattle.toml.specs.Data.{Data, Members, get_member}
use Rattle.toml.specs.View.{table_view, view}
use Rattle.toml.specs.declared.value.Value.{Value}
use Rattle.em_base.specs.declared.ids.SemId.{SemId}
use Rattle.em_base.specs.declared.refusals.Fail.{Fail}
use Rattle.em_base.specs.Text.{texts_of}
use Rattle.em_table.specs.declared.faults.Fault.{Fault}
use Rattle.em_table.specs.declared.messages.Draft.{Draft}
use Rattle.em_table.specs.declared.tops.Top.{Top}
use Rattle.em_table.specs.Faults.{IsFailBy}
use Rattle.em_table.specs.declared.tasks.Heading.{Heading}
use Rattle.em_table.specs.declared.tasks.Times.{Times}
use Rattle.em_table.specs.declared.tasks.Counts.{Counts}
use Rattle.em_table.specs.declared.tasks.Places.{Places}
use Rattle.em_table.specs.Values.{text_at}
use Rattle.em_table.specs.Tests.{kind_of, section_of, writes_of, line_of, band_of, phase_of, deadline_of, cost_of, period_at, horizon_of, semaphores_of}
use Rattle.em_table.specs.Tests.{own_of, shared_of, task_groups, message_groups, Message}

-- the groups that borrowed tables are, and the numbers of semaphores
abbrev pub groups_of : List (Bor (BTreeMap (String Global) Value)) → List Members
groups_of borrowed = map (λ table. table_view table.now) borrowed

abbrev pub numbers_of : List SemId → List ℕ
numbers_of semaphores = map (λ semaphore. semaphore.0) semaphores

-- the key is one of these texts
abbrev pub is_allowed : List (Bor (List ℕ)) → String Global → Bool
is_allowed texts key = list_any (λ text. bytes_eq (string_bytes key) text.now) texts

-- no fault was found and this is the value, or this fault was found
abbrev pub Gives : {A : Type 0} → Result A Fault → Option Fault → A → Type 0
Gives (Ok found) fault value = (fault ≡ None) × (found ≡ value)
Gives (Err found) fault value = fault ≡ Some found

-- the same of a text that is lent
abbrev pub GivesText : Result (Bor (List ℕ)) Fault → Option Fault → List ℕ → Type 0
GivesText (Ok found) fault value = (fault ≡ None) × (found.now ≡ value)
GivesText (Err found) fault value = fault ≡ Some found

-- the same, unless memory ran out
abbrev pub GivesOrFails : {A : Type 0} → Result A Fail → Option Fault → A → Type 0
GivesOrFails (Ok found) fault value = (fault ≡ None) × (found ≡ value)
GivesOrFails (Err fail) fault value = IsFailBy fault fail

-- the same of what a view makes of the answer, unless memory ran out
abbrev pub GivesSeen : {A B : Type 0} → (A → B) → Result A Fail → Option Fault → B → Type 0
GivesSeen seen (Ok found) fault value = (fault ≡ None) × (seen found ≡ value)
GivesSeen seen (Err fail) fault value = IsFailBy fault fail

-- a look finds something in each value, and these things; or it finds nothing in one
abbrev pub GivesAll : {A B : Type 0} → (Data → Option B) → Option A → (A → List B) → List Value → Type 0
GivesAll look None seen values = list_all (λ value. is_some (look value)) (map view values) ≡ false
GivesAll look (Some found) seen values =
    (list_all (λ value. is_some (look value)) (map view values) ≡ true) × (seen found ≡ filter_map look (map view values))

-- what was read at the top
pub record IsTopOf (top : Top) (members : Members) : Type 0 where
  pub horizon : top.horizon ≡ horizon_of members
  pub semaphores : top.semaphores ≡ semaphores_of members
  pub own : top.own ≡ own_of members
  pub shared : top.shared ≡ shared_of members
  pub tasks : groups_of top.tasks.items ≡ task_groups members
  pub messages : groups_of top.messages.items ≡ message_groups members

-- what was read in a task
pub record IsHeadingOf (heading : Heading) (task : Members) : Type 0 where
  pub name : heading.name.now ≡ text_at (get_member (codes "name") task)
  pub entry : heading.entry.now ≡ text_at (get_member (codes "entry") task)
  pub kind : heading.kind ≡ kind_of task

pub record IsTimesOf (times : Times) (task : Members) : Type 0 where
  pub period : times.period ≡ period_at task
  pub phase : times.phase ≡ phase_of task
  pub deadline : times.deadline ≡ deadline_of task
  pub cost : times.cost ≡ cost_of task

pub record IsCountsOf (counts : Counts) (task : Members) : Type 0 where
  pub section : counts.section ≡ section_of task
  pub writes : counts.writes ≡ writes_of task

pub record IsPlacesOf (places : Places) (task : Members) : Type 0 where
  pub line : places.line ≡ line_of task
  pub band : places.band ≡ band_of task

-- a message as it was read, by the names that are lent
abbrev pub message_in : Draft → Message
message_in draft = record { words = draft.words; writer = draft.writer.now; readers = texts_of draft.readers.items }

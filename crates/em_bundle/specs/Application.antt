-- The application that the bytes of a bundle stand for, or the first thing that is wrong with them: this project's own.
use Rattle.std.specs.Prelude.{◌≡◌, ℕ, ◌+◌, ◌<◌, ◌⊎◌, ⊤, Bool, true, false, nat_eq, List, length, take, count_by, Option, Some, None}
use Rattle.std.specs.Option.{option_map}
use Rattle.std.specs.Str.{IsUtf8, IsValidUpTo}
use Rattle.std.specs.Str.Lines.{lines}
use Rattle.toml.specs.Data.{Members}
use Rattle.toml.specs.Parse.{parse_document}
use Rattle.em_base.specs.declared.apps.App.{App}
use Rattle.em_base.specs.declared.apps.HintMap.{HintMap}
use Rattle.em_base.specs.declared.events.Schedule.{Schedule}
use Rattle.em_base.specs.declared.events.Timed.{Timed}
use Rattle.em_base.specs.declared.images.Image.{Image}
use Rattle.em_base.specs.declared.refusals.Fail.{Fail}
use Rattle.em_base.specs.declared.refusals.Fail.TheVariants.{Refused, NoMemory}
use Rattle.em_base.specs.declared.refusals.Refusal.{Refusal}
use Rattle.em_base.specs.declared.tables.Table.{Table}
use Rattle.em_base.specs.Apps.{have_entries}
use Rattle.em_table.specs.Faults.{refusal_of}
use Rattle.em_table.specs.Tests.{fault_in, fault_of, table_of}
use Rattle.em_script.specs.Script.{IsScriptOf, IsScriptRefused}
use Rattle.em_trace.specs.ScheduleFaults.{IsScheduleRefused}
use Rattle.em_trace.specs.Schedules.{IsScheduleOf}
use Rattle.em_hint.specs.Hints.{AreImageHints, AreRight, IsMishinted}
use Rattle.em_admit.specs.Depth.{AreShallow, depth, most_values}
use Rattle.em_bundle.specs.declared.faults.Fault.TheVariants.{MissingEntry, NotUtf8, TooDeep}
use Rattle.em_bundle.specs.Code.{IsCodeOf, IsCodeRefused}
use Rattle.em_bundle.specs.Faults.{refusal_at}
use Rattle.em_bundle.specs.Parts.{IsCut, IsUncut, PartLines, parts_of, text_of}

-- ---- each part

-- the table part is this table
pub record IsTabled (parts : PartLines) (table : Table) : Type 0 where
  pub top : Members
  pub parsed : parse_document (text_of parts.table) ≡ Some top
  pub clear : fault_in top ≡ None
  pub same : table ≡ table_of top

-- the code part has this image
abbrev pub IsCoded : PartLines → Image → Type 0
IsCoded parts image = IsCodeOf (parts.code_line + 1) parts.code image

-- no hint is written wrong beside a `waitjob` of the image, and the map has its hints
abbrev pub AreRightIn : Table → Image → Type 0
AreRightIn table image = AreRight image.words table.semaphores table.own image.waits

abbrev pub AreHintsIn : Table → Image → HintMap → Type 0
AreHintsIn table image hints = AreImageHints image table.semaphores table.own hints

-- the script part has these events
abbrev pub IsScripted : PartLines → Table → List Timed → Type 0
IsScripted parts table events = IsScriptOf table.tasks parts.script events

-- with replay there is a schedule, and the schedule part is this one; without there is none
abbrev pub IsScheduled : Bool → PartLines → Table → Option Schedule → Type 0
IsScheduled true parts table (Some schedule) = IsScheduleOf (length table.tasks) parts.schedule schedule
IsScheduled true parts table None = ⊥
IsScheduled false parts table schedule = schedule ≡ None

-- ---- the application

-- the parts are those of this application
pub record IsApplicationOf (replay : Bool) (parts : PartLines) (app : App) : Type 0 where
  pub table : IsTabled parts app.table
  pub shallow : AreShallow app.table
  pub code : IsCoded parts app.image
  pub entries : have_entries app.image app.table.tasks ≡ true
  pub right : AreRightIn app.table app.image
  pub script : IsScripted parts app.table app.script
  pub code_text : app.code_text ≡ text_of parts.code
  pub code_line : app.code_line ≡ parts.code_line
  pub hints : AreHintsIn app.table app.image app.hints
  pub schedule : IsScheduled replay parts app.table app.schedule

-- the bytes are those of this application, with a schedule where it is to be replayed
pub record IsApplicationFor (replay : Bool) (bytes : List ℕ) (app : App) : Type 0 where
  pub utf8 : IsUtf8 bytes
  pub cut : IsCut replay (lines bytes)
  pub stands : IsApplicationOf replay (parts_of (lines bytes)) app

-- the same where it isn't to be replayed
abbrev pub IsApplication : List ℕ → App → Type 0
IsApplication bytes app = IsApplicationFor false bytes app

-- ---- the refusals of parts, each where nothing that stands above it is refused

-- the table part is refused
abbrev pub IsUntabled : PartLines → Refusal → Type 0
IsUntabled parts refusal = option_map refusal_of (fault_of (parse_document (text_of parts.table))) ≡ Some refusal

-- the buffer of a message of the table would have to keep more values than one may
pub record HasDeepBuffer (table : Table) : Type 0 where
  pub m : ℕ
  pub here : m < length table.messages
  pub deep : most_values < depth table m

-- the table is too deep
pub record IsTooDeep (parts : PartLines) (refusal : Refusal) : Type 0 where
  pub table : Table
  pub tabled : IsTabled parts table
  pub buffer : HasDeepBuffer table
  pub named : refusal ≡ refusal_at TooDeep 1

-- the table part is this table, which isn't too deep
pub record IsReadable (parts : PartLines) (table : Table) : Type 0 where
  pub tabled : IsTabled parts table
  pub shallow : AreShallow table

-- the code part is refused
pub record IsUncoded (parts : PartLines) (refusal : Refusal) : Type 0 where
  pub table : Table
  pub readable : IsReadable parts table
  pub refused : IsCodeRefused (parts.code_line + 1) parts.code refusal

-- the entry of a task is no label of the code, and the refusal names the header line of the code
pub record HasNoEntry (parts : PartLines) (refusal : Refusal) : Type 0 where
  pub table : Table
  pub readable : IsReadable parts table
  pub image : Image
  pub coded : IsCoded parts image
  pub entries : have_entries image table.tasks ≡ false
  pub named : refusal ≡ refusal_at MissingEntry parts.code_line

-- the parts up to the code are this table and this image, in which each task has its entry
pub record IsAssembled (parts : PartLines) (table : Table) (image : Image) : Type 0 where
  pub readable : IsReadable parts table
  pub coded : IsCoded parts image
  pub entries : have_entries image table.tasks ≡ true

-- a hint is written beside a `waitjob` that isn't its hint
pub record IsHintWrong (parts : PartLines) (refusal : Refusal) : Type 0 where
  pub table : Table
  pub image : Image
  pub assembled : IsAssembled parts table image
  pub refused : IsMishinted image.words table.semaphores table.own image.waits refusal

-- the script part is refused
pub record IsUnscripted (parts : PartLines) (refusal : Refusal) : Type 0 where
  pub table : Table
  pub image : Image
  pub assembled : IsAssembled parts table image
  pub right : AreRightIn table image
  pub refused : IsScriptRefused (parts.script_line + 1) table.tasks parts.script refusal

-- with replay, the schedule part is refused
pub record IsUnscheduled (replay : Bool) (parts : PartLines) (refusal : Refusal) : Type 0 where
  pub replayed : replay ≡ true
  pub table : Table
  pub image : Image
  pub assembled : IsAssembled parts table image
  pub right : AreRightIn table image
  pub events : List Timed
  pub scripted : IsScripted parts table events
  pub refused : IsScheduleRefused (parts.schedule_line + 1) (length table.tasks) parts.schedule refusal

-- the refusal of parts
abbrev pub IsRefusedOf : Bool → PartLines → Refusal → Type 0
IsRefusedOf replay parts refusal =
    IsUntabled parts refusal
    ⊎ (IsTooDeep parts refusal
    ⊎ (IsUncoded parts refusal
    ⊎ (HasNoEntry parts refusal
    ⊎ (IsHintWrong parts refusal
    ⊎ (IsUnscripted parts refusal
    ⊎ IsUnscheduled replay parts refusal)))))

-- ---- the refusals of bytes

-- the bytes are no UTF-8, and the refusal names the line of the first bad byte
pub record IsBroken (bytes : List ℕ) (refusal : Refusal) : Type 0 where
  pub place : ℕ
  pub broken : IsValidUpTo bytes place
  pub named : refusal ≡ refusal_at NotUtf8 (count_by (λ byte. nat_eq byte 10) (take place bytes) + 1)

-- the refusal of lines: their parts aren't in order, or a part is refused
abbrev pub IsRefusedLines : Bool → List (List ℕ) → Refusal → Type 0
IsRefusedLines replay lines refusal =
    IsUncut replay lines refusal ⊎ (IsCut replay lines × IsRefusedOf replay (parts_of lines) refusal)

-- the refusal of the bytes of a bundle, which is to have a schedule where it is to be replayed
abbrev pub IsBundleRefusedFor : Bool → List ℕ → Refusal → Type 0
IsBundleRefusedFor replay bytes refusal = IsBroken bytes refusal ⊎ (IsUtf8 bytes × IsRefusedLines replay (lines bytes) refusal)

-- the same where it isn't to be replayed
abbrev pub IsBundleRefused : List ℕ → Refusal → Type 0
IsBundleRefused bytes refusal = IsBundleRefusedFor false bytes refusal

-- `NoMemory` may be answered at any time
abbrev pub IsBundleFail : Bool → List ℕ → Fail → Type 0
IsBundleFail replay bytes (Refused refusal) = IsBundleRefusedFor replay bytes refusal
IsBundleFail replay bytes NoMemory = ⊤

-- ---- inside the crate: what the readers of parts answer

abbrev pub IsPartsFail : Bool → PartLines → Fail → Type 0
IsPartsFail replay parts (Refused refusal) = IsRefusedOf replay parts refusal
IsPartsFail replay parts NoMemory = ⊤

abbrev pub IsTableFail : PartLines → Fail → Type 0
IsTableFail parts (Refused refusal) = IsUntabled parts refusal ⊎ IsTooDeep parts refusal
IsTableFail parts NoMemory = ⊤

abbrev pub IsImageFail : PartLines → Table → Fail → Type 0
IsImageFail parts table (Refused refusal) =
    IsReadable parts table → IsUncoded parts refusal ⊎ HasNoEntry parts refusal
IsImageFail parts table NoMemory = ⊤

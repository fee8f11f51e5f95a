-- What the readers of the parts answer, in the words of the whole.
use Rattle.std.proofs.Common.{◌≡◌, ◌⊎◌, ℕ, ◌+◌, Bool, true, false, List, length, Option, Some, None, is_some, IfSome, Result, Ok, Err, IfErr, IfOk, MatchResult, refl, inl, inr, ap, subst}
use Rattle.std.specs.Str.{IsUtf8}
use Rattle.std.specs.Str.Lines.{lines}
use Rattle.em_base.specs.declared.apps.App.{App}
use Rattle.em_base.specs.declared.events.Schedule.{Schedule}
use Rattle.em_base.specs.declared.events.Timed.{Timed}
use Rattle.em_base.specs.declared.images.Image.{Image}
use Rattle.em_base.specs.declared.refusals.Fail.{Fail}
use Rattle.em_base.specs.declared.refusals.Fail.TheVariants.{Refused, NoMemory}
use Rattle.em_base.specs.declared.refusals.Refusal.{Refusal}
use Rattle.em_base.specs.declared.tables.Table.{Table}
use Rattle.em_script.specs.Script.{IsScriptFail}
use Rattle.em_trace.specs.ScheduleFaults.{IsScheduleFail}
use Rattle.em_trace.specs.Schedules.{IsSchedule}
use Rattle.em_hint.specs.Hints.{IsHintFail}
use Rattle.em_hint.specs.Lines.{HaveWaitLines}
use Rattle.em_bundle.specs.Application.{AreRightIn, IsApplicationFor, IsAssembled, IsBundleFail, IsPartsFail, IsImageFail, IsReadable, IsBundleRefusedFor, IsScheduled, IsScripted, IsTableFail}
use Rattle.em_bundle.specs.Parts.{IsCut, PartLines, parts_of}

pub table-fails : (replay : Bool) (parts : PartLines) (fail : Fail) → IsTableFail parts fail → IsPartsFail replay parts fail
table-fails replay parts NoMemory h = tt
table-fails replay parts (Refused refusal) (inl h) = inl h
table-fails replay parts (Refused refusal) (inr h) = inr (inl h)

pub image-fails : (replay : Bool) (parts : PartLines) (table : Table) (fail : Fail) → IsReadable parts table → IsImageFail parts table fail → IsPartsFail replay parts fail
image-fails replay parts table NoMemory readable h = tt
image-fails replay parts table (Refused refusal) readable h = elim (h readable) [
  | inl uncoded ↦ inr (inr (inl uncoded))
  | inr entry ↦ inr (inr (inr (inl entry)))
]

pub hints-fail : (replay : Bool) (parts : PartLines) (table : Table) (image : Image) (fail : Fail) → IsAssembled parts table image
    → IsHintFail image table.semaphores table.own fail → IsPartsFail replay parts fail
hints-fail replay parts table image NoMemory assembled h = tt
hints-fail replay parts table image (Refused refusal) assembled h =
    inr (inr (inr (inr (inl (record { table = table; image = image; assembled = assembled; refused = h })))))

pub script-fails : (replay : Bool) (parts : PartLines) (table : Table) (image : Image) (fail : Fail) → IsAssembled parts table image → AreRightIn table image
    → IsScriptFail (parts.script_line + 1) table.tasks parts.script fail → IsPartsFail replay parts fail
script-fails replay parts table image NoMemory assembled right h = tt
script-fails replay parts table image (Refused refusal) assembled right h =
    inr (inr (inr (inr (inr (inl (record { table = table; image = image; assembled = assembled; right = right; refused = h }))))))

pub schedule-fails : (replay : Bool) (parts : PartLines) (table : Table) (image : Image) (events : List Timed) (fail : Fail) → IsAssembled parts table image
    → AreRightIn table image → IsScripted parts table events
    → (replay ≡ true) × IsScheduleFail (parts.schedule_line + 1) (length table.tasks) parts.schedule fail → IsPartsFail replay parts fail
schedule-fails replay parts table image events NoMemory assembled right scripted h = tt
schedule-fails replay parts table image events (Refused refusal) assembled right scripted h =
    inr (inr (inr (inr (inr (inr (record {
      replayed = h.0;
      table = table;
      image = image;
      assembled = assembled;
      right = right;
      events = events;
      scripted = scripted;
      refused = h.1;
    }))))))

-- the failure of the parts of a text is that of the text
text-fail : (replay : Bool) (text : List ℕ) (fail : Fail) → IsUtf8 text → IsCut replay (lines text) → IsPartsFail replay (parts_of (lines text)) fail → IsBundleFail replay text fail
text-fail replay text NoMemory u cut h = tt
text-fail replay text (Refused refusal) u cut h = inr (u, inr (cut, h))

pub text-fails : (replay : Bool) (text : List ℕ) (parts : PartLines) (result : Result App Fail) → IsUtf8 text → IsCut replay (lines text) → parts ≡ parts_of (lines text)
    → IfErr result (IsPartsFail replay parts) → IfErr result (IsBundleFail replay text)
text-fails replay text parts (Ok app) u cut e h = tt
text-fails replay text parts (Err fail) u cut e h = text-fail replay text fail u cut (subst (λ ps. IsPartsFail replay ps fail) e h)

-- what is answered where there is an application, which is the only one and isn't refused
pub complete : (replay : Bool) (bytes : List ℕ) (result : Result App Fail) (app : App) → ((one other : App) → IsApplicationFor replay bytes one → IsApplicationFor replay bytes other → one ≡ other)
    → ((one : App) (refusal : Refusal) → IsApplicationFor replay bytes one → IsBundleRefusedFor replay bytes refusal → ⊥) → IfOk result (IsApplicationFor replay bytes) → IfErr result (IsBundleFail replay bytes)
    → IsApplicationFor replay bytes app → MatchResult result (λ found. found ≡ app) (λ fail. fail ≡ NoMemory)
complete replay bytes (Ok found) app same never ok err a = same found app ok a
complete replay bytes (Err NoMemory) app same never ok err a = refl
complete replay bytes (Err (Refused refusal)) app same never ok err a = absurd (never app refusal a err)

-- what is answered where there is a refusal, which is the only one, and no application
pub refuses : (replay : Bool) (bytes : List ℕ) (result : Result App Fail) (refusal : Refusal) → ((one other : Refusal) → IsBundleRefusedFor replay bytes one → IsBundleRefusedFor replay bytes other → one ≡ other)
    → ((one : App) (refusal : Refusal) → IsApplicationFor replay bytes one → IsBundleRefusedFor replay bytes refusal → ⊥) → IfOk result (IsApplicationFor replay bytes) → IfErr result (IsBundleFail replay bytes)
    → IsBundleRefusedFor replay bytes refusal → MatchResult result (λ found. ⊥) (λ fail. (fail ≡ Refused refusal) ⊎ (fail ≡ NoMemory))
refuses replay bytes (Ok found) refusal same never ok err r = never found refusal ok r
refuses replay bytes (Err NoMemory) refusal same never ok err r = inr refl
refuses replay bytes (Err (Refused other)) refusal same never ok err r = inl (ap Refused (same other refusal err r))

-- there is a schedule exactly with replay
some-scheduled : (replay : Bool) (parts : PartLines) (table : Table) (schedule : Option Schedule) → IsScheduled replay parts table schedule → is_some schedule ≡ replay
some-scheduled true parts table (Some schedule) h = refl
some-scheduled true parts table None h = absurd h
some-scheduled false parts table schedule h = ap is_some h

pub scheduled : (replay : Bool) (bytes : List ℕ) (result : Result App Fail) → IfOk result (IsApplicationFor replay bytes) → IfOk result (λ app. is_some app.schedule ≡ replay)
scheduled replay bytes (Err fail) h = tt
scheduled replay bytes (Ok app) h = some-scheduled replay (parts_of (lines bytes)) app.table app.schedule h.stands.schedule

-- and it is one for the tasks of the table
valid-schedule : (replay : Bool) (parts : PartLines) (table : Table) (schedule : Option Schedule) → IsScheduled replay parts table schedule
    → IfSome schedule (IsSchedule (length table.tasks))
valid-schedule true parts table (Some schedule) h = h.valid
valid-schedule true parts table None h = tt
valid-schedule false parts table None h = tt
valid-schedule false parts table (Some schedule) h = absurd (cc)

pub schedules : (replay : Bool) (bytes : List ℕ) (result : Result App Fail) → IfOk result (IsApplicationFor replay bytes)
    → IfOk result (λ app. IfSome app.schedule (IsSchedule (length app.table.tasks)))
schedules replay bytes (Err fail) h = tt
schedules replay bytes (Ok app) h = valid-schedule replay (parts_of (lines bytes)) app.table app.schedule h.stands.schedule

-- each `waitjob` has its line
pub waits_found : (replay : Bool) (bytes : List ℕ) (result : Result App Fail)
    → ((app : App) → IsApplicationFor replay bytes app → HaveWaitLines (app.code_line + 1) (lines app.code_text) app.image.waits)
    → IfOk result (IsApplicationFor replay bytes) → IfOk result (λ app. HaveWaitLines (app.code_line + 1) (lines app.code_text) app.image.waits)
waits_found replay bytes (Err fail) found h = tt
waits_found replay bytes (Ok app) found h = found app h

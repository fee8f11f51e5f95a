-- The bytes of an application with a schedule put behind them are those of the application with this schedule.
use Rattle.std.proofs.Common.{◌≡◌, ◌∙◌, ℕ, ◌+◌, Bool, true, false, cond, nat_eq, List, [], ◌∷◌, ◌++◌, length, get_or, ◌-◌, Some, codes, refl, sym, ap, subst, append_assoc}
use Rattle.std.proofs.lemmas.Str.{IsAscii-append, IsUtf8-append, IsUtf8-from_ascii}
use Rattle.std.specs.Str.{IsAscii, IsUtf8}
use Rattle.std.specs.Str.Lines.{lines}
use Rattle.em_base.specs.declared.apps.App.{App}
use Rattle.em_base.specs.declared.events.Schedule.{Schedule}
use Rattle.em_bundle.proofs.EndedLines.{all-ended, tested-feed}
use Rattle.em_bundle.proofs.PartsBehind.{cut-behind, parts-behind, with_part}
use Rattle.em_bundle.proofs.ScheduleBytes.{lines-ascii, lines-plain, tested-ascii}
use Rattle.em_bundle.proofs.TextLines.{lines-feed}
use Rattle.em_bundle.specs.Application.{IsApplication, IsApplicationFor, IsApplicationOf}
use Rattle.em_bundle.specs.Parts.{IsCut, PartLines, parts_of, schedule_header}
use Rattle.em_bundle.specs.Scheduled.{line_end, with_schedule}
use Rattle.em_bundle.specs.Walk.{ArePlain}
use Rattle.em_trace.specs.Schedules.{IsSchedule, IsScheduleOf, schedule_lines, schedule_text}

-- the text of a schedule has its lines
abbrev pub ReadsBack : Type 0
ReadsBack = (tasks : ℕ) (s : Schedule) → IsSchedule tasks s → IsScheduleOf tasks (lines (schedule_text s)) s

-- ---- the lines and the bytes

-- the lines of the bytes, the schedule's header and the schedule's lines
lines-behind : ReadsBack → (bytes : List ℕ) (tasks : ℕ) (schedule : Schedule) → IsSchedule tasks schedule
    → lines (with_schedule bytes schedule) ≡ with_part (lines bytes) (schedule_lines schedule)
lines-behind back bytes tasks schedule h =
    let e = all-ended bytes in
    e.closed (codes "%schedule\n" ++ schedule_text schedule)
    ∙ ap (λ ls. ls ++ lines (codes "%schedule\n" ++ schedule_text schedule)) e.same
    ∙ ap (λ ls. lines bytes ++ ls) (lines-feed schedule_header (schedule_text schedule) (tested-feed schedule_header refl))
    ∙ ap (λ ls. with_part (lines bytes) ls) (sym (back tasks schedule h).spelled)

-- what ends a line is ASCII
end-ascii : (last : ℕ) → IsAscii (line_end last)
end-ascii last = by_tests (nat_eq last 10) (nat_eq last 13)
  where
    by_tests : (b c : Bool) → IsAscii (cond b [] (cond c (13 ∷ 10 ∷ []) (10 ∷ [])))
    by_tests true c = tested-ascii [] refl
    by_tests false true = tested-ascii (13 ∷ 10 ∷ []) refl
    by_tests false false = tested-ascii (10 ∷ []) refl

utf8-behind : (bytes : List ℕ) (tasks : ℕ) (schedule : Schedule) → IsUtf8 bytes → IsSchedule tasks schedule
    → IsUtf8 (with_schedule bytes schedule)
utf8-behind bytes tasks schedule u h =
    let last = get_or bytes (length bytes - 1) 10 in
    let text = codes "%schedule\n" ++ schedule_text schedule in
    let tail : IsAscii text
    = IsAscii-append (codes "%schedule\n") (schedule_text schedule) (tested-ascii (codes "%schedule\n") refl)
    (lines-ascii tasks 0 schedule.events schedule.last h) in
    subst IsUtf8 (sym (append_assoc bytes (line_end last) text))
    (IsUtf8-append bytes (line_end last ++ text) u
    (IsUtf8-from_ascii (line_end last ++ text) (IsAscii-append (line_end last) text (end-ascii last) tail)))

-- ---- the application

-- the parts of an application and a schedule are those of the application with this schedule
of-parts : (parts : PartLines) (app : App) (number : ℕ) (schedule : Schedule) → IsApplicationOf false parts app
    → IsSchedule (length app.table.tasks) schedule
    → IsApplicationOf true (record parts { schedule = schedule_lines schedule; schedule_line = number })
    (record app { schedule = Some schedule })
of-parts parts app number schedule a h = record {
  table = record { top = a.table.top; parsed = a.table.parsed; clear = a.table.clear; same = a.table.same };
  shallow = a.shallow;
  code = a.code;
  entries = a.entries;
  right = a.right;
  script = a.script;
  code_text = a.code_text;
  code_line = a.code_line;
  hints = a.hints;
  schedule = record { spelled = refl; valid = h };
}

-- the bytes with a schedule behind them are those of the application with this schedule
pub app-behind : ReadsBack → (bytes : List ℕ) (app : App) (schedule : Schedule) → IsApplication bytes app
    → IsSchedule (length app.table.tasks) schedule
    → IsApplicationFor true (with_schedule bytes schedule) (record app { schedule = Some schedule })
app-behind back bytes app schedule a h =
    let tasks = length app.table.tasks in
    let part = schedule_lines schedule in
    let plain : ArePlain part = lines-plain tasks 0 schedule.events schedule.last h in
    let whole : lines (with_schedule bytes schedule) ≡ with_part (lines bytes) part = lines-behind back bytes tasks schedule h in
    let parts = ap parts_of whole ∙ parts-behind (lines bytes) part a.cut plain in
    record {
      utf8 = utf8-behind bytes tasks schedule a.utf8 h;
      cut = subst (λ ls. IsCut true ls) (sym whole) (cut-behind (lines bytes) part a.cut plain);
      stands =
          subst (λ p. IsApplicationOf true p (record app { schedule = Some schedule })) (sym parts)
          (of-parts (parts_of (lines bytes)) app (length (lines bytes) + 1) schedule a.stands h);
    }

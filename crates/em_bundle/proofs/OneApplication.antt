-- Bytes stand for one application, or are refused, and never both.
use Rattle.std.proofs.Common.{◌≡◌, ◌∙◌, ℕ, zero, suc, ◌+◌, ◌<◌, Bool, true, false, cond, List, [], ◌∷◌, ◌++◌, length, take, drop, get_or, Option, Some, None, inl, inr, ◌⊎◌, refl, sym, ap, subst, arith, drop-cons, length-append, length-take}
use Rattle.std.proofs.lemmas.List.{take_all, take-append-drop, length-take-le, get_or-take}
use Rattle.std.proofs.lemmas.List.Elements.{filter-append}
use Rattle.std.proofs.lemmas.Grind.{common_steps}
use Rattle.std.proofs.lemmas.Slice.Eq.{bytes_eq-Decides}
use Rattle.std.specs.List.{slice_get}
use Rattle.std.specs.Option.{option_map}
use Rattle.std.specs.Str.{IsUtf8, IsValidUpTo, bytes_eq}
use Rattle.std.specs.Str.Lines.{lines}
use Rattle.toml.specs.Data.{Members}
use Rattle.toml.specs.Parse.{parse_document}
use Rattle.em_base.specs.declared.apps.App.{App}
use Rattle.em_base.specs.declared.apps.HintMap.{HintMap}
use Rattle.em_base.specs.declared.events.Schedule.{Schedule}
use Rattle.em_base.specs.declared.events.Timed.{Timed}
use Rattle.em_base.specs.declared.ids.SemId.{SemId}
use Rattle.em_base.specs.declared.images.Image.{Image}
use Rattle.em_base.specs.declared.images.Wait.{Wait}
use Rattle.em_base.specs.declared.refusals.Refusal.{Refusal}
use Rattle.em_base.specs.declared.tables.Table.{Table}
use Rattle.em_base.specs.declared.tables.TaskRow.{TaskRow}
use Rattle.em_base.specs.Apps.{have_entries}
use Rattle.em_asm_read.specs.declared.items.Line.{Line}
use Rattle.em_asm_read.specs.Lines.{IsFaulty, IsLine}
use Rattle.em_asm.specs.Image.{IsImageOf, IsAssemblyRefused}
use Rattle.em_table.specs.Faults.{refusal_of}
use Rattle.em_table.specs.Tests.{fault_of, table_of}
use Rattle.em_script.specs.Script.{IsScriptOf, IsScriptRefused}
use Rattle.em_trace.specs.ScheduleFaults.{IsScheduleRefused}
use Rattle.em_trace.specs.Schedules.{IsScheduleOf}
use Rattle.em_hint.specs.Hints.{AreHintsOf, AreRight, IsMishinted}
use Rattle.em_bundle.specs.Application.{AreHintsIn, AreRightIn, HasDeepBuffer, IsApplicationFor, IsApplicationOf, IsBundleRefusedFor, IsRefusedOf, IsScheduled, IsTabled, IsUntabled}
use Rattle.em_bundle.specs.Code.{AllSay, IsCodeOf, IsCodeRefused, IsMisread, lines_in, number_in, statements_of}
use Rattle.em_bundle.specs.Parts.{AreFirst, IsCut, IsShort, IsUncut, PartLines, headers, headers_in, is_header, line_at, parts_of, text_of}
use Rattle.em_bundle.proofs.DeepBuffers.{deep_not_shallow}

-- what holds of the lines of assembly, of the images of statements, of hints, of scripts and of schedules
pub record Laws : Type 0 where
  pub line_or_fault : (text : List ℕ) → ((line : Line) × IsLine text line) ⊎ ((code : ℕ) × IsFaulty text code)
  pub one_line : (text : List ℕ) (one other : Line) → IsLine text one → IsLine text other → one ≡ other
  pub one_fault : (text : List ℕ) (one other : ℕ) → IsFaulty text one → IsFaulty text other → one ≡ other
  pub line_not_fault : (text : List ℕ) (line : Line) (code : ℕ) → IsLine text line → IsFaulty text code → ⊥
  pub image_or_refusal : (number : ℕ → ℕ) (lines : List Line)
      → ((image : Image) × IsImageOf number lines image) ⊎ ((refusal : Refusal) × IsAssemblyRefused number lines refusal)
  pub one_image : (number : ℕ → ℕ) (lines : List Line) (one other : Image) → IsImageOf number lines one → IsImageOf number lines other → one ≡ other
  pub one_image_refusal : (number : ℕ → ℕ) (lines : List Line) (one other : Refusal)
      → IsAssemblyRefused number lines one → IsAssemblyRefused number lines other → one ≡ other
  pub image_not_refusal : (number : ℕ → ℕ) (lines : List Line) (image : Image) (refusal : Refusal)
      → IsImageOf number lines image → IsAssemblyRefused number lines refusal → ⊥
  pub some_hints : (code : List ℕ) (sems own : ℕ) (waits : List Wait) → (hints : List (ℕ × SemId)) × AreHintsOf code sems own waits hints
  pub one_hints : (code : List ℕ) (sems own : ℕ) (waits : List Wait) (one other : List (ℕ × SemId))
      → AreHintsOf code sems own waits one → AreHintsOf code sems own waits other → one ≡ other
  pub right_or_refusal : (code : List ℕ) (sems own : ℕ) (waits : List Wait)
      → AreRight code sems own waits ⊎ ((refusal : Refusal) × IsMishinted code sems own waits refusal)
  pub one_hint_refusal : (code : List ℕ) (sems own : ℕ) (waits : List Wait) (one other : Refusal)
      → IsMishinted code sems own waits one → IsMishinted code sems own waits other → one ≡ other
  pub right_not_refusal : (code : List ℕ) (sems own : ℕ) (waits : List Wait) (refusal : Refusal)
      → AreRight code sems own waits → IsMishinted code sems own waits refusal → ⊥
  pub script_or_refusal : (first : ℕ) (rows : List TaskRow) (lines : List (List ℕ))
      → ((events : List Timed) × IsScriptOf rows lines events) ⊎ ((refusal : Refusal) × IsScriptRefused first rows lines refusal)
  pub one_script : (rows : List TaskRow) (lines : List (List ℕ)) (one other : List Timed)
      → IsScriptOf rows lines one → IsScriptOf rows lines other → one ≡ other
  pub one_script_refusal : (first : ℕ) (rows : List TaskRow) (lines : List (List ℕ)) (one other : Refusal)
      → IsScriptRefused first rows lines one → IsScriptRefused first rows lines other → one ≡ other
  pub script_not_refusal : (first : ℕ) (rows : List TaskRow) (lines : List (List ℕ)) (events : List Timed) (refusal : Refusal)
      → IsScriptOf rows lines events → IsScriptRefused first rows lines refusal → ⊥
  pub schedule_or_refusal : (first tasks : ℕ) (lines : List (List ℕ))
      → ((schedule : Schedule) × IsScheduleOf tasks lines schedule) ⊎ ((refusal : Refusal) × IsScheduleRefused first tasks lines refusal)
  pub one_schedule : (tasks : ℕ) (lines : List (List ℕ)) (one other : Schedule) → IsScheduleOf tasks lines one → IsScheduleOf tasks lines other → one ≡ other
  pub one_schedule_refusal : (first tasks : ℕ) (lines : List (List ℕ)) (one other : Refusal)
      → IsScheduleRefused first tasks lines one → IsScheduleRefused first tasks lines other → one ≡ other
  pub schedule_not_refusal : (first tasks : ℕ) (lines : List (List ℕ)) (schedule : Schedule) (refusal : Refusal)
      → IsScheduleOf tasks lines schedule → IsScheduleRefused first tasks lines refusal → ⊥

-- a test has one answer
pub one_answer : (b : Bool) → b ≡ false → b ≡ true → ⊥
one_answer b e f = absurd (cc)

-- ---- the parts

header-first : (line : List ℕ) (rest : List (List ℕ)) → is_header line ≡ true → headers_in (line ∷ rest) ≡ line ∷ headers_in rest
header-first line rest h = ap (λ b. cond b (line ∷ headers_in rest) (headers_in rest)) h

middle : (xs ys : List (List ℕ)) (x : List ℕ) (n : ℕ) → n ≡ length xs → get_or (xs ++ x ∷ ys) n [] ≡ x
middle xs ys x n h = grind (arith, common_steps)

-- where the header lines are the first that are due, none is another
pub not_misplaced : (replay : Bool) (texts : List (List ℕ)) (place count n : ℕ) → place < length texts → is_header (line_at texts place) ≡ true → AreFirst replay (take place texts) count
    → bytes_eq (line_at texts place) (get_or (headers replay) count []) ≡ false → headers_in texts ≡ take n (headers replay) → ⊥
not_misplaced replay texts place count n within header before other due =
    let line = line_at texts place in
    let rest = drop (suc place) texts in
    let whole : texts ≡ take place texts ++ line ∷ rest = sym (take-append-drop place texts) ∙ ap (λ t. take place texts ++ t) (drop-cons texts place [] within) in
    let found : take n (headers replay) ≡ take count (headers replay) ++ line ∷ headers_in rest
    = sym due ∙ (ap headers_in whole ∙ (filter-append is_header (take place texts) (line ∷ rest)
    ∙ (ap (λ hs. hs ++ headers_in (line ∷ rest)) before.1 ∙ ap (λ hs. take count (headers replay) ++ hs) (header-first line rest header)))) in
    let few : length (take count (headers replay)) ≡ count = length-take-le count (headers replay) before.0 in
    let more : count < n
    = omega (arith, ap length found, length-append (take count (headers replay)) (line ∷ headers_in rest), few, length-take n (headers replay)) in
    let same : get_or (headers replay) count [] ≡ line
    = sym (get_or-take n (headers replay) count [] more) ∙ (ap (λ hs. get_or hs count []) found ∙ middle (take count (headers replay)) (headers_in rest) line count (sym few)) in
    one_answer (bytes_eq line (get_or (headers replay) count [])) other ((bytes_eq-Decides line (get_or (headers replay) count [])).1 (sym same))

-- where the header lines are all that are due, none is due at the end
not_short : (replay : Bool) (texts : List (List ℕ)) (refusal : Refusal) → headers_in texts ≡ headers replay → IsShort replay texts refusal → ⊥
not_short replay texts refusal due s =
    let n : length (headers replay) ≡ s.count = ap length (sym due ∙ s.before.1) ∙ length-take-le s.count (headers replay) s.before.0 in
    absurd (omega (arith, n, s.due))

-- lines whose parts are in order aren't refused for it
pub cut_not_uncut : (replay : Bool) (texts : List (List ℕ)) (refusal : Refusal) → IsCut replay texts → IsUncut replay texts refusal → ⊥
cut_not_uncut replay texts refusal cut (inl h) = one_answer (is_header (line_at texts 0)) h.headless cut.headed
cut_not_uncut replay texts refusal cut (inr (inl m)) =
    not_misplaced replay texts m.place m.count (length (headers replay)) m.within m.header m.before m.other (cut.due ∙ sym (take_all (length (headers replay)) (headers replay) (omega arith)))
cut_not_uncut replay texts refusal cut (inr (inr s)) = not_short replay texts refusal cut.due s

-- ---- the table

same_top : (one other : Members) (parsed : Option Members) → parsed ≡ Some one → parsed ≡ Some other → one ≡ other
same_top one other parsed e f = cc

-- the table part has one table
pub one_table : (parts : PartLines) (one other : Table) → IsTabled parts one → IsTabled parts other → one ≡ other
one_table parts one other a b =
    a.same ∙ (ap table_of (same_top a.top b.top (parse_document (text_of parts.table)) a.parsed b.parsed) ∙ sym b.same)

-- a table part that has a table isn't refused
pub table_not_refusal : (parts : PartLines) (table : Table) (refusal : Refusal) → IsTabled parts table → IsUntabled parts refusal → ⊥
table_not_refusal parts table refusal t u =
    let none : option_map refusal_of (fault_of (parse_document (text_of parts.table))) ≡ None
    = ap (λ p. option_map refusal_of (fault_of p)) t.parsed ∙ ap (option_map refusal_of) t.clear in
    let wrong = sym none ∙ u in
    absurd (cc)

-- ---- the code

-- texts say one list of items
pub same_items : Laws → (texts : List (List ℕ)) (xs ys : List Line) → AllSay texts xs → AllSay texts ys → xs ≡ ys
same_items laws [] xs ys h k = h ∙ sym k
same_items laws (t ∷ ts) xs ys h k =
    h.2 ∙ (ap (λ x. x ∷ h.1) (laws.one_line t h.0 k.0 h.3 k.3) ∙ (ap (λ rest. k.0 ∷ rest) (same_items laws ts h.1 k.1 h.4 k.4) ∙ sym k.2))

-- and an item at each place
item_at : (texts : List (List ℕ)) (items : List Line) (place : ℕ) (text : List ℕ) → AllSay texts items → slice_get texts place ≡ Some text
    → (item : Line) × IsLine text item
item_at [] items place text s e = absurd (cc)
item_at (t ∷ ts) items zero text s e =
    let k : Some t ≡ Some text = e in
    let same : t ≡ text = cc in
    (s.0, subst (λ x. IsLine x s.0) same s.3)
item_at (t ∷ ts) items (suc n) text s e = item_at ts s.1 n text s.4 e

-- texts that say something aren't refused as lines
pub items_not_misread : Laws → (first : ℕ) (texts : List (List ℕ)) (items : List Line) (refusal : Refusal) → AllSay texts items → IsMisread first texts refusal → ⊥
items_not_misread laws first texts items refusal s named =
    let item = item_at texts items named.place named.first.item s named.first.here in
    laws.line_not_fault named.first.item item.0 named.fault item.1 named.first.faulty

-- the code part has one image
pub one_code : Laws → (first : ℕ) (texts : List (List ℕ)) (one other : Image) → IsCodeOf first texts one → IsCodeOf first texts other → one ≡ other
one_code laws first texts one other a b =
    laws.one_image (number_in (statements_of first b.items)) (lines_in (statements_of first b.items)) one other
    (subst (λ items. IsImageOf (number_in (statements_of first items)) (lines_in (statements_of first items)) one) (same_items laws texts a.items b.items a.read b.read) a.assembled)
    b.assembled

-- a code part that has an image isn't refused
pub code_not_refusal : Laws → (first : ℕ) (texts : List (List ℕ)) (image : Image) (refusal : Refusal) → IsCodeOf first texts image → IsCodeRefused first texts refusal → ⊥
code_not_refusal laws first texts image refusal c (inl named) = items_not_misread laws first texts c.items refusal c.read named
code_not_refusal laws first texts image refusal c (inr none) =
    laws.image_not_refusal (number_in (statements_of first c.items)) (lines_in (statements_of first c.items)) image refusal c.assembled
    (subst (λ items. IsAssemblyRefused (number_in (statements_of first items)) (lines_in (statements_of first items)) refusal)
    (same_items laws texts none.items c.items none.read c.read) none.refused)

-- the hints of one table and one image are those of the same
pub same_mishinted : (table table' : Table) (image image' : Image) (refusal : Refusal) → table ≡ table' → image ≡ image'
    → IsMishinted image.words table.semaphores table.own image.waits refusal → IsMishinted image'.words table'.semaphores table'.own image'.waits refusal
same_mishinted table table' image image' refusal t i h =
    subst (λ it. IsMishinted image'.words it.semaphores it.own image'.waits refusal) t
    (subst (λ it. IsMishinted it.words table.semaphores table.own it.waits refusal) i h)

-- hints that are right aren't refused
pub right_not_wrong : Laws → (table table' : Table) (image image' : Image) (refusal : Refusal) → table ≡ table' → image ≡ image' → AreRightIn table' image'
    → IsMishinted image.words table.semaphores table.own image.waits refusal → ⊥
right_not_wrong laws table table' image image' refusal t i right wrong =
    laws.right_not_refusal image'.words table'.semaphores table'.own image'.waits refusal right (same_mishinted table table' image image' refusal t i wrong)

-- ---- the schedule

-- the schedule part has one schedule, or none without replay
one_scheduled : Laws → (replay : Bool) (parts : PartLines) (table : Table) (one other : Option Schedule) → IsScheduled replay parts table one → IsScheduled replay parts table other
    → one ≡ other
one_scheduled laws true parts table (Some one) (Some other) a b = ap Some (laws.one_schedule (length table.tasks) parts.schedule one other a b)
one_scheduled laws true parts table (Some one) None a b = absurd b
one_scheduled laws true parts table None other a b = absurd a
one_scheduled laws false parts table one other a b = a ∙ sym b

-- a schedule part that has a schedule isn't refused
scheduled_not_refused : Laws → (replay : Bool) (parts : PartLines) (table : Table) (schedule : Option Schedule) (refusal : Refusal) → IsScheduled replay parts table schedule
    → replay ≡ true → IsScheduleRefused (parts.schedule_line + 1) (length table.tasks) parts.schedule refusal → ⊥
scheduled_not_refused laws true parts table (Some schedule) refusal s e r =
    laws.schedule_not_refusal (parts.schedule_line + 1) (length table.tasks) parts.schedule schedule refusal s r
scheduled_not_refused laws true parts table None refusal s e r = s
scheduled_not_refused laws false parts table schedule refusal s e r = absurd (cc)

-- ---- the whole

parts_not_refused : Laws → (replay : Bool) (parts : PartLines) (app : App) (refusal : Refusal) → IsApplicationOf replay parts app → IsRefusedOf replay parts refusal → ⊥
parts_not_refused laws replay parts app refusal a (inl u) = table_not_refusal parts app.table refusal a.table u
parts_not_refused laws replay parts app refusal a (inr (inl m)) =
    deep_not_shallow app.table (subst HasDeepBuffer (one_table parts m.table app.table m.tabled a.table) m.buffer) a.shallow
parts_not_refused laws replay parts app refusal a (inr (inr (inl u))) = code_not_refusal laws (parts.code_line + 1) parts.code app.image refusal a.code u.refused
parts_not_refused laws replay parts app refusal a (inr (inr (inr (inl e)))) =
    let image = one_code laws (parts.code_line + 1) parts.code e.image app.image e.coded a.code in
    let table = one_table parts e.table app.table e.readable.tabled a.table in
    one_answer (have_entries app.image app.table.tasks)
    (ap (λ i. have_entries i app.table.tasks) (sym image) ∙ (ap (λ t. have_entries e.image t.tasks) (sym table) ∙ e.entries)) a.entries
parts_not_refused laws replay parts app refusal a (inr (inr (inr (inr (inl h))))) =
    let image = one_code laws (parts.code_line + 1) parts.code h.image app.image h.assembled.coded a.code in
    let table = one_table parts h.table app.table h.assembled.readable.tabled a.table in
    right_not_wrong laws h.table app.table h.image app.image refusal table image a.right h.refused
parts_not_refused laws replay parts app refusal a (inr (inr (inr (inr (inr (inl s)))))) =
    let table = one_table parts s.table app.table s.assembled.readable.tabled a.table in
    laws.script_not_refusal (parts.script_line + 1) app.table.tasks parts.script app.script refusal a.script
    (subst (λ t. IsScriptRefused (parts.script_line + 1) t.tasks parts.script refusal) table s.refused)
parts_not_refused laws replay parts app refusal a (inr (inr (inr (inr (inr (inr s)))))) =
    let table = one_table parts s.table app.table s.assembled.readable.tabled a.table in
    scheduled_not_refused laws replay parts app.table app.schedule refusal a.schedule s.replayed
    (subst (λ t. IsScheduleRefused (parts.schedule_line + 1) (length t.tasks) parts.schedule refusal) table s.refused)

-- bytes that are UTF-8 are so to their end
pub utf8_not_broken : (bytes : List ℕ) (n : ℕ) → IsValidUpTo bytes n → IsUtf8 bytes → ⊥
utf8_not_broken bytes n h u = h.longest (length bytes) h.short (subst IsUtf8 (sym (take_all (length bytes) bytes (omega arith))) u)

-- the bytes of an application aren't refused
pub application_or_refused : Laws → (replay : Bool) (bytes : List ℕ) (app : App) (refusal : Refusal) → IsApplicationFor replay bytes app → IsBundleRefusedFor replay bytes refusal
    → ⊥
application_or_refused laws replay bytes app refusal a (inl b) = utf8_not_broken bytes b.place b.broken a.utf8
application_or_refused laws replay bytes app refusal a (inr (_, inl u)) = cut_not_uncut replay (lines bytes) refusal a.cut u
application_or_refused laws replay bytes app refusal a (inr (_, inr r)) = parts_not_refused laws replay (parts_of (lines bytes)) app refusal a.stands r.1

same_app : {table table' : Table} {text text' : List ℕ} {line line' : ℕ} {image image' : Image} {hints hints' : HintMap} {script script' : List Timed} {schedule schedule' : Option Schedule}
    → table ≡ table' → text ≡ text' → line ≡ line' → image ≡ image' → hints ≡ hints' → script ≡ script' → schedule ≡ schedule'
    → ◌≡◌ {A = App}
    (record { table = table; code_text = text; code_line = line; image = image; hints = hints; script = script; schedule = schedule })
    (record { table = table'; code_text = text'; code_line = line'; image = image'; hints = hints'; script = script'; schedule = schedule' })
same_app a b c d e f g = rw (a, b, c, d, e, f, g) refl

same_hints : (one other : HintMap) → one.hints ≡ other.hints → one ≡ other
same_hints one other e = ap (λ hints. (let m : HintMap = record { hints = hints } in m)) e

parts_once : Laws → (replay : Bool) (parts : PartLines) (one other : App) → IsApplicationOf replay parts one → IsApplicationOf replay parts other → one ≡ other
parts_once laws replay parts one other a b =
    let table = one_table parts one.table other.table a.table b.table in
    let image = one_code laws (parts.code_line + 1) parts.code one.image other.image a.code b.code in
    let hints =
    laws.one_hints other.image.words other.table.semaphores other.table.own other.image.waits one.hints.hints other.hints.hints
    (subst (λ t. AreHintsIn t other.image one.hints) table (subst (λ i. AreHintsIn one.table i one.hints) image a.hints)) b.hints in
    same_app table (a.code_text ∙ sym b.code_text) (a.code_line ∙ sym b.code_line) image
    (same_hints one.hints other.hints hints)
    (laws.one_script other.table.tasks parts.script one.script other.script (subst (λ t. IsScriptOf t.tasks parts.script one.script) table a.script) b.script)
    (one_scheduled laws replay parts other.table one.schedule other.schedule (subst (λ t. IsScheduled replay parts t one.schedule) table a.schedule) b.schedule)

-- bytes are those of one application
pub one_application : Laws → (replay : Bool) (bytes : List ℕ) (one other : App) → IsApplicationFor replay bytes one → IsApplicationFor replay bytes other → one ≡ other
one_application laws replay bytes one other a b = parts_once laws replay (parts_of (lines bytes)) one other a.stands b.stands

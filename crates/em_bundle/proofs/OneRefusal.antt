-- Bytes have one refusal: each stands where nothing above it is refused, and there is one of each kind.
use Rattle.std.proofs.Common.{◌≡◌, ◌∙◌, ℕ, ◌+◌, ◌<◌, ◌⊎◌, true, Bool, List, [], length, take, get_or, count_by, nat_eq, Option, Some, inl, inr, sym, ap, subst, arith}
use Rattle.std.proofs.lemmas.List.{length-take-le, get_or-take, take-take}
use Rattle.std.specs.Str.{bytes_eq}
use Rattle.std.specs.Str.Lines.{lines}
use Rattle.em_base.proofs.FirstFaults.{one_place, one_refusal as one_first_refusal}
use Rattle.em_base.specs.declared.images.Image.{Image}
use Rattle.em_base.specs.declared.refusals.Refusal.{Refusal}
use Rattle.em_base.specs.declared.tables.Table.{Table}
use Rattle.em_base.specs.Apps.{have_entries}
use Rattle.em_asm.specs.Image.{IsAssemblyRefused}
use Rattle.em_script.specs.Script.{IsScriptRefused}
use Rattle.em_trace.specs.ScheduleFaults.{IsScheduleRefused}
use Rattle.em_bundle.specs.declared.faults.Fault.TheVariants.{MisplacedHeader, NotUtf8}
use Rattle.em_bundle.specs.Application.{AreRightIn, HasDeepBuffer, HasNoEntry, IsAssembled, IsBroken, IsCoded, IsHintWrong, IsReadable, IsBundleRefusedFor, IsRefusedLines, IsRefusedOf, IsTabled, IsTooDeep, IsUncoded, IsUnscheduled, IsUnscripted, IsUntabled}
use Rattle.em_bundle.specs.Code.{HasNoImage, IsCodeRefused, IsFaultyText, IsMisread, lines_in, number_in, statements_of}
use Rattle.em_bundle.specs.Faults.{refusal_at}
use Rattle.em_bundle.specs.Parts.{AreFirst, IsHeadless, IsMisplaced, IsShort, IsUncut, PartLines, headers, is_header, line_at, parts_of}
use Rattle.em_bundle.proofs.DeepBuffers.{deep_not_shallow}
use Rattle.em_bundle.proofs.OneApplication.{Laws, code_not_refusal, cut_not_uncut, items_not_misread, not_misplaced, one_answer, one_code, one_table, same_items, right_not_wrong, same_mishinted, table_not_refusal, utf8_not_broken}

-- two kinds of refusal, of which the later stands only where the first doesn't
first_or_later : {A B : Refusal → Type 0} → ((a b : Refusal) → A a → A b → a ≡ b) → ((a b : Refusal) → A a → B b → ⊥) → ((a b : Refusal) → B a → B b → a ≡ b)
    → (a b : Refusal) → A a ⊎ B a → A b ⊎ B b → a ≡ b
first_or_later once never later a b (inl h) (inl k) = once a b h k
first_or_later once never later a b (inl h) (inr k) = absurd (never a b h k)
first_or_later once never later a b (inr h) (inl k) = absurd (never b a k h)
first_or_later once never later a b (inr h) (inr k) = later a b h k

-- ---- the parts

headless_once : (texts : List (List ℕ)) (a b : Refusal) → IsHeadless texts a → IsHeadless texts b → a ≡ b
headless_once texts a b h k = h.named ∙ sym k.named

misplaced_not_before : (replay : Bool) (texts : List (List ℕ)) (a b : Refusal) (h : IsMisplaced replay texts a) (k : IsMisplaced replay texts b) → h.place < k.place → ⊥
misplaced_not_before replay texts a b h k before =
    let front = take k.place texts in
    let few : length front ≡ k.place = length-take-le k.place texts (omega (arith, k.within)) in
    let here : line_at front h.place ≡ line_at texts h.place = get_or-take k.place texts h.place [] before in
    let same : take h.place front ≡ take h.place texts = take-take h.place k.place texts (omega (arith, before)) in
    not_misplaced replay front h.place h.count k.count (omega (arith, few, before)) (ap is_header here ∙ h.header)
    (subst (λ t. AreFirst replay t h.count) (sym same) h.before)
    (ap (λ line. bytes_eq line (get_or (headers replay) h.count [])) here ∙ h.other) k.before.1

misplaced_once : (replay : Bool) (texts : List (List ℕ)) (a b : Refusal) → IsMisplaced replay texts a → IsMisplaced replay texts b → a ≡ b
misplaced_once replay texts a b h k =
    let place = one_place h.place k.place (misplaced_not_before replay texts a b h k) (misplaced_not_before replay texts b a k h) in
    h.named ∙ (ap (λ n. refusal_at MisplacedHeader (n + 1)) place ∙ sym k.named)

short_once : (replay : Bool) (texts : List (List ℕ)) (a b : Refusal) → IsShort replay texts a → IsShort replay texts b → a ≡ b
short_once replay texts a b h k = h.named ∙ sym k.named

misplaced_not_short : (replay : Bool) (texts : List (List ℕ)) (a b : Refusal) → IsMisplaced replay texts a → IsShort replay texts b → ⊥
misplaced_not_short replay texts a b h k = not_misplaced replay texts h.place h.count k.count h.within h.header h.before h.other k.before.1

headed : (replay : Bool) (texts : List (List ℕ)) (refusal : Refusal) → IsMisplaced replay texts refusal ⊎ IsShort replay texts refusal → is_header (line_at texts 0) ≡ true
headed replay texts refusal (inl m) = m.headed
headed replay texts refusal (inr s) = s.headed

uncut_once : (replay : Bool) (texts : List (List ℕ)) (a b : Refusal) → IsUncut replay texts a → IsUncut replay texts b → a ≡ b
uncut_once replay texts =
    first_or_later (headless_once texts) (λ a b h k. one_answer (is_header (line_at texts 0)) h.headless (headed replay texts b k))
    (first_or_later (misplaced_once replay texts) (misplaced_not_short replay texts) (short_once replay texts))

-- ---- the table

same_some : (o : Option Refusal) (a b : Refusal) → o ≡ Some a → o ≡ Some b → a ≡ b
same_some o a b e f = cc

untabled_once : (parts : PartLines) (a b : Refusal) → IsUntabled parts a → IsUntabled parts b → a ≡ b
untabled_once parts a b h k = same_some _ a b h k

deep_once : (parts : PartLines) (a b : Refusal) → IsTooDeep parts a → IsTooDeep parts b → a ≡ b
deep_once parts a b h k = h.named ∙ sym k.named

deep_not_readable : (parts : PartLines) (refusal : Refusal) (table : Table) → IsTooDeep parts refusal → IsReadable parts table → ⊥
deep_not_readable parts refusal table h r =
    deep_not_shallow table (subst HasDeepBuffer (one_table parts h.table table h.tabled r.tabled) h.buffer) r.shallow

-- ---- the code

misread_once : Laws → (first : ℕ) (texts : List (List ℕ)) (a b : Refusal) → IsMisread first texts a → IsMisread first texts b → a ≡ b
misread_once laws first texts a b h k =
    one_first_refusal IsFaultyText (λ code. code) (λ place. first + place) texts a b (λ before text one other f g. laws.one_fault text one other f g) h k

misread_not_assembled : Laws → (first : ℕ) (texts : List (List ℕ)) (a b : Refusal) → IsMisread first texts a → HasNoImage first texts b → ⊥
misread_not_assembled laws first texts a b h k = items_not_misread laws first texts k.items a k.read h

image_once : Laws → (first : ℕ) (texts : List (List ℕ)) (a b : Refusal) → HasNoImage first texts a → HasNoImage first texts b → a ≡ b
image_once laws first texts a b h k =
    laws.one_image_refusal (number_in (statements_of first k.items)) (lines_in (statements_of first k.items)) a b
    (subst (λ items. IsAssemblyRefused (number_in (statements_of first items)) (lines_in (statements_of first items)) a)
    (same_items laws texts h.items k.items h.read k.read) h.refused)
    k.refused

code_once : Laws → (first : ℕ) (texts : List (List ℕ)) (a b : Refusal) → IsCodeRefused first texts a → IsCodeRefused first texts b → a ≡ b
code_once laws first texts = first_or_later (misread_once laws first texts) (misread_not_assembled laws first texts) (image_once laws first texts)

uncoded_once : Laws → (parts : PartLines) (a b : Refusal) → IsUncoded parts a → IsUncoded parts b → a ≡ b
uncoded_once laws parts a b h k = code_once laws (parts.code_line + 1) parts.code a b h.refused k.refused

entry_once : (parts : PartLines) (a b : Refusal) → HasNoEntry parts a → HasNoEntry parts b → a ≡ b
entry_once parts a b h k = h.named ∙ sym k.named

hint_once : Laws → (parts : PartLines) (a b : Refusal) → IsHintWrong parts a → IsHintWrong parts b → a ≡ b
hint_once laws parts a b h k =
    let image = one_code laws (parts.code_line + 1) parts.code h.image k.image h.assembled.coded k.assembled.coded in
    let table = one_table parts h.table k.table h.assembled.readable.tabled k.assembled.readable.tabled in
    laws.one_hint_refusal k.image.words k.table.semaphores k.table.own k.image.waits a b
    (same_mishinted h.table k.table h.image k.image a table image h.refused) k.refused

-- ---- the script

script_once : Laws → (parts : PartLines) (a b : Refusal) → IsUnscripted parts a → IsUnscripted parts b → a ≡ b
script_once laws parts a b h k =
    let table = one_table parts h.table k.table h.assembled.readable.tabled k.assembled.readable.tabled in
    laws.one_script_refusal (parts.script_line + 1) k.table.tasks parts.script a b
    (subst (λ t. IsScriptRefused (parts.script_line + 1) t.tasks parts.script a) table h.refused) k.refused

-- ---- the schedule

schedule_once : Laws → (replay : Bool) (parts : PartLines) (a b : Refusal) → IsUnscheduled replay parts a → IsUnscheduled replay parts b → a ≡ b
schedule_once laws replay parts a b h k =
    let table = one_table parts h.table k.table h.assembled.readable.tabled k.assembled.readable.tabled in
    laws.one_schedule_refusal (parts.schedule_line + 1) (length k.table.tasks) parts.schedule a b
    (subst (λ t. IsScheduleRefused (parts.schedule_line + 1) (length t.tasks) parts.schedule a) table h.refused) k.refused

script_not_schedule : Laws → (replay : Bool) (parts : PartLines) (a b : Refusal) → IsUnscripted parts a → IsUnscheduled replay parts b → ⊥
script_not_schedule laws replay parts a b h k =
    let table = one_table parts h.table k.table h.assembled.readable.tabled k.assembled.readable.tabled in
    laws.script_not_refusal (parts.script_line + 1) k.table.tasks parts.script k.events a k.scripted
    (subst (λ t. IsScriptRefused (parts.script_line + 1) t.tasks parts.script a) table h.refused)

-- ---- what stands where a kind of refusal is looked at

-- what is refused after the code
abbrev IsLate : Bool → PartLines → Refusal → Type 0
IsLate replay parts refusal = IsUnscripted parts refusal ⊎ IsUnscheduled replay parts refusal

-- no hint is written wrong
right : (replay : Bool) (parts : PartLines) (refusal : Refusal) → IsLate replay parts refusal
    → (table : Table) × (image : Image) × IsAssembled parts table image × AreRightIn table image
right replay parts refusal (inl s) = (s.table, s.image, s.assembled, s.right)
right replay parts refusal (inr s) = (s.table, s.image, s.assembled, s.right)

-- the code is assembled, and each task has its entry
assembled : (replay : Bool) (parts : PartLines) (refusal : Refusal) → IsHintWrong parts refusal ⊎ IsLate replay parts refusal → (table : Table) × (image : Image) × IsAssembled parts table image
assembled replay parts refusal (inl h) = (h.table, h.image, h.assembled)
assembled replay parts refusal (inr late) = let l = right replay parts refusal late in (l.0, l.1, l.2)

hint_not_late : Laws → (replay : Bool) (parts : PartLines) (a b : Refusal) → IsHintWrong parts a → IsLate replay parts b → ⊥
hint_not_late laws replay parts a b h k =
    let l = right replay parts b k in
    let image = one_code laws (parts.code_line + 1) parts.code h.image l.1 h.assembled.coded l.2.coded in
    let table = one_table parts h.table l.0 h.assembled.readable.tabled l.2.readable.tabled in
    right_not_wrong laws h.table l.0 h.image l.1 a table image l.3 h.refused

entry_not_assembled : Laws → (parts : PartLines) (refusal : Refusal) (table : Table) (image : Image) → HasNoEntry parts refusal → IsAssembled parts table image → ⊥
entry_not_assembled laws parts refusal table image e l =
    let same_image = one_code laws (parts.code_line + 1) parts.code e.image image e.coded l.coded in
    let same_table = one_table parts e.table table e.readable.tabled l.readable.tabled in
    one_answer (have_entries image table.tasks)
    (ap (λ i. have_entries i table.tasks) (sym same_image) ∙ (ap (λ t. have_entries e.image t.tasks) (sym same_table) ∙ e.entries)) l.entries

-- the code is assembled
coded : (replay : Bool) (parts : PartLines) (refusal : Refusal) → HasNoEntry parts refusal ⊎ (IsHintWrong parts refusal ⊎ IsLate replay parts refusal) → (image : Image) × IsCoded parts image
coded replay parts refusal (inl e) = (e.image, e.coded)
coded replay parts refusal (inr later) = let l = assembled replay parts refusal later in (l.1, l.2.coded)

uncoded_not_coded : Laws → (parts : PartLines) (refusal : Refusal) → IsUncoded parts refusal → (image : Image) × IsCoded parts image → ⊥
uncoded_not_coded laws parts refusal u i = code_not_refusal laws (parts.code_line + 1) parts.code i.0 refusal i.1 u.refused

-- the table can be read
readable : (replay : Bool) (parts : PartLines) (refusal : Refusal) → IsUncoded parts refusal ⊎ (HasNoEntry parts refusal ⊎ (IsHintWrong parts refusal ⊎ IsLate replay parts refusal))
    → (table : Table) × IsReadable parts table
readable replay parts refusal (inl u) = (u.table, u.readable)
readable replay parts refusal (inr (inl e)) = (e.table, e.readable)
readable replay parts refusal (inr (inr later)) = let l = assembled replay parts refusal later in (l.0, l.2.readable)

-- the table part is a table
tabled : (replay : Bool) (parts : PartLines) (refusal : Refusal)
    → IsTooDeep parts refusal ⊎ (IsUncoded parts refusal ⊎ (HasNoEntry parts refusal ⊎ (IsHintWrong parts refusal ⊎ IsLate replay parts refusal)))
    → (table : Table) × IsTabled parts table
tabled replay parts refusal (inl m) = (m.table, m.tabled)
tabled replay parts refusal (inr later) = let r = readable replay parts refusal later in (r.0, r.1.tabled)

-- ---- the whole

parts_once : Laws → (replay : Bool) (parts : PartLines) (a b : Refusal) → IsRefusedOf replay parts a → IsRefusedOf replay parts b → a ≡ b
parts_once laws replay parts =
    first_or_later (untabled_once parts) (λ a b h k. (let t = tabled replay parts b k in table_not_refusal parts t.0 a t.1 h))
    (first_or_later (deep_once parts) (λ a b h k. (let r = readable replay parts b k in deep_not_readable parts a r.0 h r.1))
    (first_or_later (uncoded_once laws parts) (λ a b h k. uncoded_not_coded laws parts a h (coded replay parts b k))
    (first_or_later (entry_once parts) (λ a b h k. (let l = assembled replay parts b k in entry_not_assembled laws parts a l.0 l.1 h l.2))
    (first_or_later (hint_once laws parts) (hint_not_late laws replay parts)
    (first_or_later (script_once laws parts) (script_not_schedule laws replay parts) (schedule_once laws replay parts))))))

lines_once : Laws → (replay : Bool) (texts : List (List ℕ)) (a b : Refusal) → IsRefusedLines replay texts a → IsRefusedLines replay texts b → a ≡ b
lines_once laws replay texts =
    first_or_later (uncut_once replay texts) (λ a b h k. cut_not_uncut replay texts a k.0 h) (λ a b h k. parts_once laws replay (parts_of texts) a b h.1 k.1)

broken_once : (bytes : List ℕ) (a b : Refusal) → IsBroken bytes a → IsBroken bytes b → a ≡ b
broken_once bytes a b h k =
    let place = one_place h.place k.place (λ before. h.broken.longest k.place before k.broken.front) (λ before. k.broken.longest h.place before h.broken.front) in
    h.named ∙ (ap (λ n. refusal_at NotUtf8 (count_by (λ byte. nat_eq byte 10) (take n bytes) + 1)) place ∙ sym k.named)

-- bytes have one refusal
pub one_refusal : Laws → (replay : Bool) (bytes : List ℕ) (one other : Refusal) → IsBundleRefusedFor replay bytes one → IsBundleRefusedFor replay bytes other → one ≡ other
one_refusal laws replay bytes =
    first_or_later (broken_once bytes) (λ a b h k. utf8_not_broken bytes h.place h.broken k.0) (λ a b h k. lines_once laws replay (lines bytes) a b h.1 k.1)

-- Any bytes are those of an application or have a refusal.
use Rattle.std.proofs.Common.{◌≡◌, ◌∙◌, ℕ, zero, suc, ◌+◌, ◌<◌, Bool, true, false, List, [], ◌∷◌, length, take, count_by, nat_eq, Option, Some, None, inl, inr, ◌⊎◌, refl, ap, subst, arith}
use Rattle.std.proofs.lemmas.Bool.{cases_lt}
use Rattle.std.proofs.lemmas.List.{take_all}
use Rattle.std.proofs.lemmas.Option.{slice_get_within}
use Rattle.std.proofs.lemmas.Str.{IsUtf8-from_is_utf8, IsUtf8-nil, is_utf8-from_IsUtf8}
use Rattle.std.specs.List.{slice_get}
use Rattle.std.specs.Option.{option_map}
use Rattle.std.specs.Str.{IsUtf8, is_utf8}
use Rattle.std.specs.Str.Lines.{lines}
use Rattle.toml.specs.Data.{Members}
use Rattle.toml.specs.Parse.{parse_document}
use Rattle.em_base.proofs.FirstFaults.{clear_or_first}
use Rattle.em_base.specs.declared.apps.App.{App}
use Rattle.em_base.specs.declared.events.Schedule.{Schedule}
use Rattle.em_base.specs.declared.events.Timed.{Timed}
use Rattle.em_base.specs.declared.images.Image.{Image}
use Rattle.em_base.specs.declared.refusals.Refusal.{Refusal}
use Rattle.em_base.specs.declared.tables.Table.{Table}
use Rattle.em_base.specs.Apps.{have_entries}
use Rattle.em_base.specs.FirstFault.{AreClear}
use Rattle.em_asm_read.specs.declared.items.Line.{Line}
use Rattle.em_asm_read.specs.Lines.{IsFaulty}
use Rattle.em_table.specs.declared.faults.Fault.{Fault as TableFault}
use Rattle.em_table.specs.declared.faults.Fault.TheVariants.{NoToml}
use Rattle.em_table.specs.Faults.{refusal_of}
use Rattle.em_table.specs.Tests.{fault_in, fault_of, table_of}
use Rattle.em_trace.specs.ScheduleFaults.{IsScheduleRefused}
use Rattle.em_bundle.specs.declared.faults.Fault.TheVariants.{MissingEntry, NotUtf8, TooDeep}
use Rattle.em_bundle.specs.Application.{AreRightIn, IsApplicationFor, IsApplicationOf, IsAssembled, IsBroken, IsCoded, IsReadable, IsBundleRefusedFor, IsRefusedOf, IsScheduled, IsScripted, IsTabled, IsUntabled}
use Rattle.em_bundle.specs.Code.{AllSay, IsCodeOf, IsCodeRefused, IsFaultyText, lines_in, number_in, statements_of}
use Rattle.em_bundle.specs.Faults.{refusal_at}
use Rattle.em_bundle.specs.Parts.{PartLines, parts_of, text_of}
use Rattle.em_bundle.proofs.CutOrUncut.{cut_or_uncut}
use Rattle.em_bundle.proofs.DeepBuffers.{deep_or_shallow}
use Rattle.em_bundle.proofs.OneApplication.{Laws, one_answer}

-- ---- UTF-8

-- no front past a place is UTF-8
abbrev NonePast : List ℕ → ℕ → Type 0
NonePast bytes place = (m : ℕ) → place < m → IsUtf8 (take m bytes) → ⊥

none_past_next : (bytes : List ℕ) (n : ℕ) → is_utf8 (take (suc n) bytes) ≡ false → NonePast bytes (suc n) → NonePast bytes n
none_past_next bytes n e none m h u = elim (cases_lt (suc n) m) [
  | inl past ↦ none m past u
  | inr other ↦ (let same : m ≡ suc n = omega (arith, h, other) in
      one_answer (is_utf8 (take (suc n) bytes)) e (is_utf8-from_IsUtf8 (take (suc n) bytes) (subst (λ k. IsUtf8 (take k bytes)) same u)))
]

-- the longest front that is UTF-8, where none past a place is
longest_front : (bytes : List ℕ) (n : ℕ) → NonePast bytes n → (place : ℕ) × IsUtf8 (take place bytes) × NonePast bytes place
longest_front bytes zero none = (zero, IsUtf8-nil, none)
longest_front bytes (suc n) none = by_front (longest_front bytes n) (is_utf8 (take (suc n) bytes)) refl
  where
    by_front : (NonePast bytes n → (place : ℕ) × IsUtf8 (take place bytes) × NonePast bytes place)
        → (b : Bool) → is_utf8 (take (suc n) bytes) ≡ b → (place : ℕ) × IsUtf8 (take place bytes) × NonePast bytes place
    by_front shorter true e = (suc n, IsUtf8-from_is_utf8 (take (suc n) bytes) e, none)
    by_front shorter false e = shorter (none_past_next bytes n e none)

-- bytes are UTF-8, or the refusal names the line of the first bad byte
utf8_or_broken : (bytes : List ℕ) → IsUtf8 bytes ⊎ ((refusal : Refusal) × IsBroken bytes refusal)
utf8_or_broken bytes = by_bytes (is_utf8 bytes) refl
  where
    broken : (IsUtf8 bytes → ⊥) → (refusal : Refusal) × IsBroken bytes refusal
    broken none =
        let front = longest_front bytes (length bytes) (λ m h u. none (subst IsUtf8 (take_all m bytes (omega (arith, h))) u)) in
        let short : front.0 < length bytes = elim (cases_lt front.0 (length bytes)) [
          | inl within ↦ within
          | inr whole ↦ absurd (none (subst IsUtf8 (take_all front.0 bytes whole) front.1))
        ] in (
          refusal_at NotUtf8 (count_by (λ byte. nat_eq byte 10) (take front.0 bytes) + 1),
          record { place = front.0; broken = record { short = short; front = front.1; longest = front.2 }; named = refl },
        )

    by_bytes : (b : Bool) → is_utf8 bytes ≡ b → IsUtf8 bytes ⊎ ((refusal : Refusal) × IsBroken bytes refusal)
    by_bytes true e = inl (IsUtf8-from_is_utf8 bytes e)
    by_bytes false e = inr (broken (λ u. one_answer (is_utf8 bytes) e (is_utf8-from_IsUtf8 bytes u)))

-- ---- the table

-- the table part has a table or a refusal
table_or_refusal : (parts : PartLines) → ((table : Table) × IsTabled parts table) ⊎ ((refusal : Refusal) × IsUntabled parts refusal)
table_or_refusal parts = by_document (parse_document (text_of parts.table)) refl
  where
    by_fault : (top : Members) → parse_document (text_of parts.table) ≡ Some top → (found : Option TableFault) → fault_in top ≡ found
        → ((table : Table) × IsTabled parts table) ⊎ ((refusal : Refusal) × IsUntabled parts refusal)
    by_fault top e None f = inl (table_of top, record { top = top; parsed = e; clear = f; same = refl })
    by_fault top e (Some fault) f = inr (refusal_of fault, ap (λ p. option_map refusal_of (fault_of p)) e ∙ ap (option_map refusal_of) f)

    by_document : (document : Option Members) → parse_document (text_of parts.table) ≡ document
        → ((table : Table) × IsTabled parts table) ⊎ ((refusal : Refusal) × IsUntabled parts refusal)
    by_document None e = inr (refusal_of NoToml, ap (λ p. option_map refusal_of (fault_of p)) e)
    by_document (Some top) e = by_fault top e (fault_in top) refl

-- ---- the code

fault_or_none : Laws → (before : List (List ℕ)) (text : List ℕ) → ((code : ℕ) × IsFaultyText before text code) ⊎ ((code : ℕ) → IsFaultyText before text code → ⊥)
fault_or_none laws before text = elim (laws.line_or_fault text) [
  | inl line ↦ inr (λ code faulty. laws.line_not_fault text line.0 code line.1 faulty)
  | inr fault ↦ inl fault
]

-- texts without a fault say something
all_say : Laws → (texts : List (List ℕ)) → ((i : ℕ) (text : List ℕ) (code : ℕ) → slice_get texts i ≡ Some text → IsFaulty text code → ⊥)
    → (items : List Line) × AllSay texts items
all_say laws [] none = ([], refl)
all_say laws (text ∷ texts) none = elim (laws.line_or_fault text) [
  | inl line ↦ (let rest = all_say laws texts (λ i. none (suc i)) in (line.0 ∷ rest.0, (line.0, rest.0, refl, line.1, rest.1)))
  | inr fault ↦ absurd (none 0 text fault.0 refl fault.1)
]

-- the code part has an image or a refusal
code_or_refusal : Laws → (first : ℕ) (texts : List (List ℕ)) → ((image : Image) × IsCodeOf first texts image) ⊎ ((refusal : Refusal) × IsCodeRefused first texts refusal)
code_or_refusal laws first texts = elim (clear_or_first IsFaultyText texts (length texts) (fault_or_none laws)) [
  | inl clear ↦ by_items clear
  | inr named ↦ inr (
    record { code = named.1; line = first + named.0 },
    inl record { place = named.0; fault = named.1; first = named.2; coded = refl; placed = refl },
  )
]
  where
    by_items : AreClear IsFaultyText texts (length texts) → ((image : Image) × IsCodeOf first texts image) ⊎ ((refusal : Refusal) × IsCodeRefused first texts refusal)
    by_items clear =
        let said = all_say laws texts (λ i text code here faulty. clear i (slice_get_within texts i text here) text code here faulty) in
        elim (laws.image_or_refusal (number_in (statements_of first said.0)) (lines_in (statements_of first said.0))) [
          | inl image ↦ inl (image.0, record { items = said.0; read = said.1; assembled = image.1 })
          | inr none ↦ inr (none.0, inr record { items = said.0; read = said.1; refused = none.1 })
        ]

-- ---- the schedule

-- with replay the schedule part has a schedule or a refusal, and without there is no schedule
scheduled_or_refused : Laws → (replay : Bool) (parts : PartLines) (table : Table)
    → ((schedule : Option Schedule) × IsScheduled replay parts table schedule)
    ⊎ ((refusal : Refusal) × (replay ≡ true) × IsScheduleRefused (parts.schedule_line + 1) (length table.tasks) parts.schedule refusal)
scheduled_or_refused laws false parts table = inl (None, refl)
scheduled_or_refused laws true parts table = elim (laws.schedule_or_refusal (parts.schedule_line + 1) (length table.tasks) parts.schedule) [
  | inl schedule ↦ inl (Some schedule.0, schedule.1)
  | inr s ↦ inr (s.0, refl, s.1)
]

-- ---- the whole

-- parts are those of an application or have a refusal
parts_or_refusal : Laws → (replay : Bool) (parts : PartLines) → ((app : App) × IsApplicationOf replay parts app) ⊎ ((refusal : Refusal) × IsRefusedOf replay parts refusal)
parts_or_refusal laws replay parts = elim (table_or_refusal parts) [
  | inl table ↦ by_depth table.0 table.1
  | inr u ↦ inr (u.0, inl u.1)
]
  where
    answered : (table : Table) (image : Image) (events : List Timed) (schedule : Option Schedule) → IsAssembled parts table image → AreRightIn table image
        → IsScripted parts table events → IsScheduled replay parts table schedule → (app : App) × IsApplicationOf replay parts app
    answered table image events schedule assembled right scripted scheduled =
        let found = laws.some_hints image.words table.semaphores table.own image.waits in (
          record {
            table = table;
            code_text = text_of parts.code;
            code_line = parts.code_line;
            image = image;
            hints = record { hints = found.0 };
            script = events;
            schedule = schedule;
          },
          record {
            table = assembled.readable.tabled;
            shallow = assembled.readable.shallow;
            code = assembled.coded;
            entries = assembled.entries;
            right = right;
            script = scripted;
            code_text = refl;
            code_line = refl;
            hints = found.1;
            schedule = scheduled;
          },
        )

    by_schedule : (table : Table) (image : Image) (events : List Timed) → IsAssembled parts table image → AreRightIn table image → IsScripted parts table events
        → ((app : App) × IsApplicationOf replay parts app) ⊎ ((refusal : Refusal) × IsRefusedOf replay parts refusal)
    by_schedule table image events assembled right scripted = elim (scheduled_or_refused laws replay parts table) [
      | inl schedule ↦ inl (answered table image events schedule.0 assembled right scripted schedule.1)
      | inr s ↦ inr (
        s.0,
        inr (inr (inr (inr (inr (inr record {
          replayed = s.1;
          table = table;
          image = image;
          assembled = assembled;
          right = right;
          events = events;
          scripted = scripted;
          refused = s.2;
        }))))),
      )
    ]

    by_script : (table : Table) (image : Image) → IsAssembled parts table image → AreRightIn table image
        → ((app : App) × IsApplicationOf replay parts app) ⊎ ((refusal : Refusal) × IsRefusedOf replay parts refusal)
    by_script table image assembled right = elim (laws.script_or_refusal (parts.script_line + 1) table.tasks parts.script) [
      | inl events ↦ by_schedule table image events.0 assembled right events.1
      | inr s ↦ inr (s.0, inr (inr (inr (inr (inr (inl record { table = table; image = image; assembled = assembled; right = right; refused = s.1 }))))))
    ]

    by_hints : (table : Table) (image : Image) → IsAssembled parts table image
        → ((app : App) × IsApplicationOf replay parts app) ⊎ ((refusal : Refusal) × IsRefusedOf replay parts refusal)
    by_hints table image assembled = elim (laws.right_or_refusal image.words table.semaphores table.own image.waits) [
      | inl right ↦ by_script table image assembled right
      | inr h ↦ inr (h.0, inr (inr (inr (inr (inl record { table = table; image = image; assembled = assembled; refused = h.1 })))))
    ]

    by_entries : (table : Table) (image : Image) → IsReadable parts table → IsCoded parts image → (b : Bool) → have_entries image table.tasks ≡ b
        → ((app : App) × IsApplicationOf replay parts app) ⊎ ((refusal : Refusal) × IsRefusedOf replay parts refusal)
    by_entries table image readable coded true e = by_hints table image record { readable = readable; coded = coded; entries = e }
    by_entries table image readable coded false e = inr (
      refusal_at MissingEntry parts.code_line,
      inr (inr (inr (inl record { table = table; readable = readable; image = image; coded = coded; entries = e; named = refl }))),
    )

    by_code : (table : Table) → IsReadable parts table → ((app : App) × IsApplicationOf replay parts app) ⊎ ((refusal : Refusal) × IsRefusedOf replay parts refusal)
    by_code table readable = elim (code_or_refusal laws (parts.code_line + 1) parts.code) [
      | inl image ↦ by_entries table image.0 readable image.1 (have_entries image.0 table.tasks) refl
      | inr u ↦ inr (u.0, inr (inr (inl record { table = table; readable = readable; refused = u.1 })))
    ]

    by_depth : (table : Table) → IsTabled parts table → ((app : App) × IsApplicationOf replay parts app) ⊎ ((refusal : Refusal) × IsRefusedOf replay parts refusal)
    by_depth table tabled = elim (deep_or_shallow table) [
      | inl buffer ↦ inr (refusal_at TooDeep 1, inr (inl record { table = table; tabled = tabled; buffer = buffer; named = refl }))
      | inr shallow ↦ by_code table record { tabled = tabled; shallow = shallow }
    ]

-- any bytes are those of an application or have a refusal
pub some_application : Laws → (replay : Bool) (bytes : List ℕ)
    → ((app : App) × IsApplicationFor replay bytes app) ⊎ ((refusal : Refusal) × IsBundleRefusedFor replay bytes refusal)
some_application laws replay bytes = elim (utf8_or_broken bytes) [
  | inl utf8 ↦ elim (cut_or_uncut replay (lines bytes)) [
    | inl cut ↦ elim (parts_or_refusal laws replay (parts_of (lines bytes))) [
      | inl app ↦ inl (app.0, record { utf8 = utf8; cut = cut; stands = app.1 })
      | inr r ↦ inr (r.0, inr (utf8, inr (cut, r.1)))
    ]
    | inr u ↦ inr (u.0, inr (utf8, inl u.1))
  ]
  | inr broken ↦ inr (broken.0, inl broken.1)
]

-- A text walked line by line, and cut into parts. These are used inside the crate alone.
use Rattle.std.specs.Prelude.{◌≡◌, ◌⊎◌, ℕ, ⊤, Bool, true, false, not, List, [], ◌∷◌, ◌++◌, map}
use Rattle.std.specs.List.{list_all}
use Rattle.std.specs.Str.{bytes_eq}
use Rattle.std.specs.Str.Lines.{lines}
use Rattle.em_base.specs.declared.refusals.Fail.{Fail}
use Rattle.em_base.specs.declared.refusals.Fail.TheVariants.{Refused, NoMemory}
use Rattle.em_base.specs.declared.refusals.Refusal.{Refusal}
use Rattle.em_asm_read.specs.declared.items.Line.{Line}
use Rattle.em_bundle.specs.declared.code.Statements.{Statements}
use Rattle.em_bundle.specs.declared.faults.Fault.TheVariants.{MissingPart, MisplacedHeader}
use Rattle.em_bundle.specs.declared.parts.Parts.{Parts}
use Rattle.em_bundle.specs.Code.{AllSay, IsCodeRefused, IsMisread, lines_in, statements_of}
use Rattle.em_bundle.specs.Faults.{refusal_at}
use Rattle.em_bundle.specs.Parts.{PartLines, is_header, line_at, schedule_header}

-- what follows the bytes is cut into lines of its own
abbrev pub IsClosed : List ℕ → Type 0
IsClosed front = (more : List ℕ) → lines (front ++ more) ≡ lines front ++ lines more

-- a text is the bytes of its first line, and what follows it
pub record IsFirstLine (text line rest : List ℕ) : Type 0 where
  pub bytes : List ℕ
  pub split : text ≡ bytes ++ rest
  pub first : lines text ≡ line ∷ lines rest
  pub alone : lines bytes ≡ line ∷ []
  pub closed : (rest ≡ []) ⊎ IsClosed bytes
  pub headed : is_header line ≡ is_header text

-- no line is a header line
abbrev pub ArePlain : List (List ℕ) → Type 0
ArePlain texts = list_all (λ line. not (is_header line)) texts ≡ true

-- no line is left, or the first is a header line
abbrev pub IsHeaded : List (List ℕ) → Type 0
IsHeaded texts = (texts ≡ []) ⊎ (is_header (line_at texts 0) ≡ true)

-- a text is bytes whose lines are no header lines, and what follows them, which is headed
pub record IsPassed (text rest : List ℕ) : Type 0 where
  pub front : List ℕ
  pub split : text ≡ front ++ rest
  pub joined : lines text ≡ lines front ++ lines rest
  pub plain : ArePlain (lines front)

-- the lines are those before the first header line, and the rest
pub record IsFront (texts part rest : List (List ℕ)) : Type 0 where
  pub joined : texts ≡ part ++ rest
  pub plain : ArePlain part
  pub headed : IsHeaded rest

-- the lines are a header, the lines of its part and the rest
pub record IsParted (header : List ℕ) (texts part rest : List (List ℕ)) : Type 0 where
  pub after : List (List ℕ)
  pub joined : texts ≡ header ∷ after
  pub parted : IsFront after part rest

-- no header is left, or the next header line is another
abbrev pub IsUnparted : List ℕ → ℕ → List (List ℕ) → Refusal → Type 0
IsUnparted header number texts refusal =
    ((texts ≡ []) × (refusal ≡ refusal_at MissingPart number))
    ⊎ ((line : List ℕ) × (rest : List (List ℕ)) × (texts ≡ line ∷ rest) × (bytes_eq line header ≡ false)
    × (refusal ≡ refusal_at MisplacedHeader number))

-- with replay the lines are the schedule's header, the lines of its part and the rest; without there is no part, and all are the rest
abbrev pub IsLastParted : Bool → List (List ℕ) → List (List ℕ) → List (List ℕ) → Type 0
IsLastParted true texts part rest = IsParted schedule_header texts part rest
IsLastParted false texts part rest = (part ≡ []) × (rest ≡ texts)

-- with replay the schedule's header is the one that is missing, or another stands there
abbrev pub IsLastUnparted : Bool → ℕ → List (List ℕ) → Refusal → Type 0
IsLastUnparted true number texts refusal = IsUnparted schedule_header number texts refusal
IsLastUnparted false number texts refusal = ⊥

-- the lines of the parts
abbrev pub part_lines : Parts → PartLines
part_lines parts = record {
  table = lines parts.table.now;
  code = lines parts.code.now;
  code_line = parts.code_line;
  script = lines parts.script.now;
  script_line = parts.script_line;
  schedule = lines parts.schedule.now;
  schedule_line = parts.schedule_line;
}

-- ---- code

-- the statements of texts that are lines of assembly
pub record AreStatements (first : ℕ) (texts : List (List ℕ)) (statements : Statements) : Type 0 where
  pub items : List Line
  pub read : AllSay texts items
  pub lines : statements.lines ≡ lines_in (statements_of first items)
  pub numbers : statements.numbers ≡ map (λ s. s.0) (statements_of first items)

-- the failure names the first line that has a fault, unless memory ran out
abbrev pub IsMisreadFail : ℕ → List (List ℕ) → Fail → Type 0
IsMisreadFail first texts (Refused refusal) = IsMisread first texts refusal
IsMisreadFail first texts NoMemory = ⊤

-- the failure is the refusal of the code part, unless memory ran out
abbrev pub IsCodeFail : ℕ → List (List ℕ) → Fail → Type 0
IsCodeFail first texts (Refused refusal) = IsCodeRefused first texts refusal
IsCodeFail first texts NoMemory = ⊤

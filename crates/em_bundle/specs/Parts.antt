-- The parts of a bundle: its header lines, and the lines between them. This project's own.
use Rattle.std.specs.Prelude.{◌≡◌, ◌⊎◌, ℕ, ◌+◌, ◌<◌, ◌≤◌, Bool, true, false, nat_eq, List, [], ◌∷◌, ◌++◌, length, take, filter, slice_index, slice_index_or, codes, if◌then◌else◌}
use Rattle.std.specs.List.{position_or_len, before_first, after_first, flat_map}
use Rattle.std.specs.Str.{bytes_eq}
use Rattle.em_base.specs.declared.refusals.Refusal.{Refusal}
use Rattle.em_bundle.specs.declared.faults.Fault.TheVariants.{MissingPart, MisplacedHeader}
use Rattle.em_bundle.specs.Faults.{refusal_at}

-- whether a line is a header line: it begins with `%`
abbrev pub is_header : List ℕ → Bool
is_header line = nat_eq (slice_index line 0) 37

-- the line at a place, counted from 0
abbrev pub line_at : List (List ℕ) → ℕ → List ℕ
line_at lines place = slice_index_or lines place []

-- the headers
abbrev pub table_header : List ℕ
table_header = codes "%table"

abbrev pub code_header : List ℕ
code_header = codes "%code"

abbrev pub script_header : List ℕ
script_header = codes "%script"

abbrev pub schedule_header : List ℕ
schedule_header = codes "%schedule"

-- the headers that are due, in order: with replay the schedule's is the last of them
abbrev pub headers : Bool → List (List ℕ)
headers replay = table_header ∷ code_header ∷ script_header ∷ (if replay then schedule_header ∷ [] else [])

-- the header lines among lines, in order
abbrev pub headers_in : List (List ℕ) → List (List ℕ)
headers_in lines = filter is_header lines

-- the header lines so far are the first that are due
abbrev pub AreFirst : Bool → List (List ℕ) → ℕ → Type 0
AreFirst replay lines count = (count ≤ length (headers replay)) × (headers_in lines ≡ take count (headers replay))

-- ---- where the parts are in order

-- the first line is a header line, and the header lines are those that are due
pub record IsCut (replay : Bool) (lines : List (List ℕ)) : Type 0 where
  pub headed : is_header (line_at lines 0) ≡ true
  pub due : headers_in lines ≡ headers replay

-- the part of a header: the lines after its header line, up to the next header line or the end
abbrev pub part_of : List ℕ → List (List ℕ) → List (List ℕ)
part_of header lines = before_first is_header (after_first (bytes_eq header) lines)

-- the number of the header line, counted from 1
abbrev pub header_number : List ℕ → List (List ℕ) → ℕ
header_number header lines = position_or_len (bytes_eq header) lines + 1

-- the parts: their lines, and the numbers of the header lines of code, script and schedule. Without replay no line is the schedule's
-- header, so that its part has no lines.
pub record PartLines : Type 0 where
  pub table : List (List ℕ)
  pub code : List (List ℕ)
  pub code_line : ℕ
  pub script : List (List ℕ)
  pub script_line : ℕ
  pub schedule : List (List ℕ)
  pub schedule_line : ℕ

abbrev pub parts_of : List (List ℕ) → PartLines
parts_of lines = record {
  table = part_of table_header lines;
  code = part_of code_header lines;
  code_line = header_number code_header lines;
  script = part_of script_header lines;
  script_line = header_number script_header lines;
  schedule = part_of schedule_header lines;
  schedule_line = header_number schedule_header lines;
}

-- lines as a text: each of them followed by a line feed
abbrev pub text_of : List (List ℕ) → List ℕ
text_of lines = flat_map (λ line. line ++ 10 ∷ []) lines

-- ---- where they aren't

-- the first line is no header line, or there is none
pub record IsHeadless (lines : List (List ℕ)) (refusal : Refusal) : Type 0 where
  pub headless : is_header (line_at lines 0) ≡ false
  pub named : refusal ≡ refusal_at MissingPart 1

-- a header line isn't the next one due, and it is the first such line
pub record IsMisplaced (replay : Bool) (lines : List (List ℕ)) (refusal : Refusal) : Type 0 where
  pub headed : is_header (line_at lines 0) ≡ true
  pub place : ℕ
  pub count : ℕ
  pub within : place < length lines
  pub header : is_header (line_at lines place) ≡ true
  pub before : AreFirst replay (take place lines) count
  pub other : bytes_eq (line_at lines place) (slice_index_or (headers replay) count []) ≡ false
  pub named : refusal ≡ refusal_at MisplacedHeader (place + 1)

-- headers are due at the end
pub record IsShort (replay : Bool) (lines : List (List ℕ)) (refusal : Refusal) : Type 0 where
  pub headed : is_header (line_at lines 0) ≡ true
  pub count : ℕ
  pub before : AreFirst replay lines count
  pub due : count < length (headers replay)
  pub named : refusal ≡ refusal_at MissingPart (length lines + 1)

-- the refusal of lines whose parts aren't in order
abbrev pub IsUncut : Bool → List (List ℕ) → Refusal → Type 0
IsUncut replay lines refusal = IsHeadless lines refusal ⊎ (IsMisplaced replay lines refusal ⊎ IsShort replay lines refusal)

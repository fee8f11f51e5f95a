-- The grammar of a line: `[label:] [statement] [# comment]`, with spaces and tabs at both ends, before the comment and
-- after the colon. A statement is a mnemonic, and after at least one space or tab its operands, with commas between them.
-- This project's own.
use Rattle.std.specs.Prelude.{◌≡◌, ℕ, ◌<◌, ◌⊎◌, ⊤, Bool, IsTrue, List, [], ◌∷◌, ◌++◌, length, map, Option, Some, None, codes}
use Rattle.std.specs.List.{join_with_byte, list_all}
use Rattle.em_base.specs.Text.{is_space, is_hash, is_colon, is_comma, has_no, HasNo, trimmed, unindented}

-- a statement: its mnemonic and its operands, as texts
pub record Words : Type 0 where
  pub mnemonic : List ℕ
  pub operands : List (List ℕ)

-- the parts of a line: what stands before the colon, where there is one, and the statement, where there is one
pub record Parts : Type 0 where
  pub label : Option (List ℕ)
  pub statement : Option Words

-- the text ends, or its first byte passes the test
abbrev pub StopsAt : (ℕ → Bool) → List ℕ → Type 0
StopsAt test [] = ⊤
StopsAt test (byte ∷ rest) = IsTrue (test byte)

-- no operands in an empty text; else the pieces that commas join, without the spaces and tabs around them
abbrev pub AreOperands : List ℕ → List (List ℕ) → Type 0
AreOperands text operands =
    ((text ≡ []) × (operands ≡ []))
    ⊎ ((0 < length text) × ((pieces : List (List ℕ)) × (0 < length pieces) × (text ≡ join_with_byte 44 pieces)
    × IsTrue (list_all (has_no is_comma) pieces) × (operands ≡ map trimmed pieces)))

-- the text is no statement, or a mnemonic, which ends where the text ends or at a space or tab, and operands
abbrev pub IsStated : List ℕ → Option Words → Type 0
IsStated text None = text ≡ []
IsStated text (Some words) =
    (0 < length text) × ((rest : List ℕ) × (text ≡ words.mnemonic ++ rest) × HasNo is_space words.mnemonic
    × StopsAt is_space rest × AreOperands (unindented rest) words.operands)

-- the text is a label with its colon, and the rest; or it has no colon, and is the rest
abbrev pub IsLabelled : List ℕ → Option (List ℕ) → List ℕ → Type 0
IsLabelled text None rest = HasNo is_colon text × (rest ≡ text)
IsLabelled text (Some label) rest =
    (after : List ℕ) × (text ≡ label ++ codes ":" ++ after) × HasNo is_colon label × (rest ≡ unindented after)

-- the line has these parts, before its comment, which begins at the first `#`
pub record HasParts (line : List ℕ) (parts : Parts) : Type 0 where
  pub text : List ℕ
  pub comment : List ℕ
  pub split : line ≡ text ++ comment
  pub uncommented : HasNo is_hash text
  pub commented : StopsAt is_hash comment
  pub rest : List ℕ
  pub labelled : IsLabelled (trimmed text) parts.label rest
  pub stated : IsStated rest parts.statement

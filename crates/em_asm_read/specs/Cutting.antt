-- The parts of a line, as functions of its text: where each of them is cut.
use Rattle.std.specs.Prelude.{ℕ, nat_eq, List, [], length, map, drop, Option, Some, None, if◌then◌else◌}
use Rattle.std.specs.List.{list_any, before_first, after_first, position_or_len, slice_split}
use Rattle.em_asm_read.specs.Grammar.{Words, Parts}
use Rattle.em_base.specs.Text.{is_space, is_hash, is_colon, is_comma, trimmed, unindented}

-- the operands in a text
abbrev pub operands_in : List ℕ → List (List ℕ)
operands_in text = if nat_eq (length text) 0 then [] else map trimmed (slice_split is_comma text)

-- the statement that a text is
abbrev pub statement_in : List ℕ → Option Words
statement_in text =
    if nat_eq (length text) 0 then None
    else Some record { mnemonic = before_first is_space text; operands = operands_in (unindented (drop (position_or_len is_space text) text)) }

-- the parts of a line with this label and this text after its colon
abbrev pub labelled_parts : List ℕ → List ℕ → Parts
labelled_parts label rest = record { label = Some label; statement = statement_in rest }

-- the parts of a line without its comment and without the spaces and tabs around it
abbrev pub parts_in : List ℕ → Parts
parts_in code =
    if list_any is_colon code
    then record { label = Some (before_first is_colon code); statement = statement_in (unindented (after_first is_colon code)) }
    else record { label = None; statement = statement_in code }

-- the parts of a line
abbrev pub parts_of : List ℕ → Parts
parts_of line = parts_in (trimmed (before_first is_hash line))

-- What an operand says, or what is wrong with it. Each is a text between commas, without the spaces and tabs around it.
use Rattle.std.specs.Prelude.{ℕ, ◌-◌, ◌%◌, ℤ, pos, negsuc, unsigned_abs, int_le, Bool, ◌&&◌, ◌||◌, nat_eq, List, length, take, slice_index, Option, Some, None, Result, Ok, Err, if◌then◌else◌}
use Rattle.std.specs.Char.{is_digit}
use Rattle.std.specs.List.{list_any, before_first, after_first}
use Rattle.em_asm_read.specs.declared.faults.Fault.{Fault}
use Rattle.em_asm_read.specs.declared.faults.Fault.TheVariants.{Operands, Register, Number, Label as BadLabel}
use Rattle.em_asm_read.specs.declared.items.Target.{Target}
use Rattle.em_asm_read.specs.declared.items.Target.TheVariants.{Label, Offset}
use Rattle.em_asm_read.specs.Faults.{found_or, then_read}
use Rattle.em_asm_read.specs.Labels.{is_label}
use Rattle.em_base.specs.Number.{written_number}
use Rattle.em_asm_read.specs.Registers.{register_of}
use Rattle.em_base.specs.Text.{has_space, is_opening, trimmed}

-- ---- registers and numbers

-- the register that the text names
abbrev pub named_register : List ℕ → Result ℕ Fault
named_register text = found_or Register (register_of text)

-- a number that is at least low and at most high
abbrev pub in_range : ℤ → ℤ → ℤ → Result ℤ Fault
in_range low high number = if int_le low number && int_le number high then Ok number else Err Number

-- the number that the text writes, from low to high
abbrev pub ranged_number : ℤ → ℤ → List ℕ → Result ℤ Fault
ranged_number low high text = then_read (found_or Number (written_number text)) (in_range low high)

-- an operand that is a register. A space or a tab inside an operand stands where a comma is missing.
abbrev pub register_operand : List ℕ → Result ℕ Fault
register_operand text = if has_space text then Err Operands else named_register text

-- an operand that is a number from low to high
abbrev pub number_operand : ℤ → ℤ → List ℕ → Result ℤ Fault
number_operand low high text = if has_space text then Err Operands else ranged_number low high text

-- ---- imm(rs1)

-- what stands before the first opening parenthesis, and what stands between it and the closing one, with which the text
-- ends; both without spaces and tabs around them
abbrev pub address_parts : List ℕ → Option (List ℕ × List ℕ)
address_parts text =
    if list_any is_opening text && nat_eq (slice_index text (length text - 1)) 41
    then Some (trimmed (before_first is_opening text), trimmed (take (length (after_first is_opening text) - 1) (after_first is_opening text)))
    else None

-- an immediate of 12 bits and a register
abbrev pub address_in : List ℕ × List ℕ → Result (ℤ × ℕ) Fault
address_in parts = then_read (ranged_number (negsuc 2047) (pos 2047) parts.0) (λ imm. then_read (named_register parts.1) (λ rs1. Ok (imm, rs1)))

-- the same, where neither part has a space or a tab inside it
abbrev pub whole_address : List ℕ × List ℕ → Result (ℤ × ℕ) Fault
whole_address parts = if has_space parts.0 || has_space parts.1 then Err Operands else address_in parts

-- an operand that is an address: its shape is looked at first, then its number, then its register
abbrev pub address_operand : List ℕ → Result (ℤ × ℕ) Fault
address_operand text = then_read (found_or Operands (address_parts text)) whole_address

-- ---- targets

-- the offset, where it is even
abbrev pub even_offset : ℤ → Result ℤ Fault
even_offset offset = if nat_eq (unsigned_abs offset % 2) 0 then Ok offset else Err Number

-- whether the text begins with a digit or a minus sign, as numbers do
abbrev pub looks_numeric : List ℕ → Bool
looks_numeric text = is_digit (slice_index text 0) 10 || nat_eq (slice_index text 0) 45

-- the offset that the text writes: an even number from low to high
abbrev pub offset : ℤ → ℤ → List ℕ → Result ℤ Fault
offset low high text = then_read (ranged_number low high text) even_offset

-- a label, or an offset
abbrev pub target_in : ℤ → ℤ → List ℕ → Result Target Fault
target_in low high text =
    if is_label text then Ok (Label text)
    else if looks_numeric text then then_read (offset low high text) (λ z. Ok (Offset z))
    else Err BadLabel

-- an operand that is a target
abbrev pub target_operand : ℤ → ℤ → List ℕ → Result Target Fault
target_operand low high text = if has_space text then Err Operands else target_in low high text

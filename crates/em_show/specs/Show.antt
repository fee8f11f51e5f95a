-- How instructions are written: by their mnemonics (the manual's "RV32/64G Instruction Set Listings"), with registers as x0 to
-- x31, operands in the order of the assembly language, and immediates and offsets in decimal. The form is this project's own.
use Rattle.std.specs.Prelude.{ℕ, ◌-◌, ℤ, pos, negsuc, Bool, false, ◌&&◌, nat_eq, List, [], ◌∷◌, ◌++◌, length, replicate, slice_index_or, if◌then◌else◌, codes}
use Rattle.std.specs.Fmt.{decimal, digits, signed_decimal}
use Rattle.em_isa.specs.declared.instructions.Instr.{Instr}
use Rattle.em_isa.specs.declared.instructions.Instr.TheVariants.{Lui, Auipc, Jal, Jalr, Branch, Load, Store, OpImm, Op, Fence, Ecall, Ebreak}
use Rattle.em_isa.specs.Encoding.{word_of}

-- ---- numbers and operands

-- hexadecimal digits in lower case, with zeros before them where they are fewer than 8
abbrev pub hexadecimal : ℕ → List ℕ
hexadecimal n = replicate (8 - length (digits 16 false n)) 48 ++ digits 16 false n

abbrev pub register_text : ℕ → List ℕ
register_text register = codes "x" ++ decimal register

-- imm(rs1)
abbrev pub address_text : ℤ → ℕ → List ℕ
address_text imm rs1 = signed_decimal imm ++ codes "(" ++ register_text rs1 ++ codes ")"

-- operands with a comma and a space between them
abbrev pub operands_text : List (List ℕ) → List ℕ
operands_text [] = []
operands_text (operand ∷ []) = operand
operands_text (operand ∷ next ∷ more) = operand ++ codes ", " ++ operands_text (next ∷ more)

-- a mnemonic and its operands
abbrev pub statement_text : List ℕ → List (List ℕ) → List ℕ
statement_text mnemonic operands = mnemonic ++ codes " " ++ operands_text operands

-- ---- mnemonics, each at the place of its funct3

abbrev pub branch_names : List (List ℕ)
branch_names =
    codes "beq" ∷ codes "bne" ∷ [] ∷ [] ∷ codes "blt" ∷ codes "bge" ∷ codes "bltu" ∷ codes "bgeu" ∷ []

abbrev pub load_names : List (List ℕ)
load_names = codes "lb" ∷ codes "lh" ∷ codes "lw" ∷ [] ∷ codes "lbu" ∷ codes "lhu" ∷ []

abbrev pub store_names : List (List ℕ)
store_names = codes "sb" ∷ codes "sh" ∷ codes "sw" ∷ []

abbrev pub immediate_names : List (List ℕ)
immediate_names =
    codes "addi" ∷ codes "slli" ∷ codes "slti" ∷ codes "sltiu" ∷ codes "xori" ∷ codes "srli" ∷ codes "ori" ∷ codes "andi" ∷ []

abbrev pub operation_names : List (List ℕ)
operation_names =
    codes "add" ∷ codes "sll" ∷ codes "slt" ∷ codes "sltu" ∷ codes "xor" ∷ codes "srl" ∷ codes "or" ∷ codes "and" ∷ []

-- the name at the place of a funct3
abbrev pub name_at : List (List ℕ) → ℕ → List ℕ
name_at names op = slice_index_or names op []

-- srai is the alternative of srli
abbrev pub immediate_name : ℕ → Bool → List ℕ
immediate_name op alt = if alt then codes "srai" else name_at immediate_names op

-- sub is the alternative of add, and sra that of srl
abbrev pub operation_name : ℕ → Bool → List ℕ
operation_name op alt = if alt then (if nat_eq op 0 then codes "sub" else codes "sra") else name_at operation_names op

-- ---- instructions

-- a code word that is written as a number
abbrev pub raw_text : ℕ → List ℕ
raw_text word = codes ".code 0x" ++ hexadecimal word

-- whether a fence has the fields of `fence`, whose word is 0x0ff0000f
abbrev pub is_whole_fence : ℕ → ℕ → ℤ → Bool
is_whole_fence rd rs1 (pos imm) = nat_eq rd 0 && nat_eq rs1 0 && nat_eq imm 255
is_whole_fence rd rs1 (negsuc imm) = false

-- the text of an instruction; a fence with other fields than those of `fence` is written as its word
abbrev pub text_of : Instr → List ℕ
text_of (Lui rd imm) = statement_text (codes "lui") (register_text rd ∷ decimal imm ∷ [])
text_of (Auipc rd imm) = statement_text (codes "auipc") (register_text rd ∷ decimal imm ∷ [])
text_of (Jal rd offset) = statement_text (codes "jal") (register_text rd ∷ signed_decimal offset ∷ [])
text_of (Jalr rd rs1 imm) = statement_text (codes "jalr") (register_text rd ∷ address_text imm rs1 ∷ [])
text_of (Branch op rs1 rs2 offset) =
    statement_text (name_at branch_names op) (register_text rs1 ∷ register_text rs2 ∷ signed_decimal offset ∷ [])
text_of (Load op rd rs1 imm) = statement_text (name_at load_names op) (register_text rd ∷ address_text imm rs1 ∷ [])
text_of (Store op rs1 rs2 imm) = statement_text (name_at store_names op) (register_text rs2 ∷ address_text imm rs1 ∷ [])
text_of (OpImm op alt rd rs1 imm) =
    statement_text (immediate_name op alt) (register_text rd ∷ register_text rs1 ∷ signed_decimal imm ∷ [])
text_of (Op op alt rd rs1 rs2) =
    statement_text (operation_name op alt) (register_text rd ∷ register_text rs1 ∷ register_text rs2 ∷ [])
text_of (Fence rd rs1 imm) = if is_whole_fence rd rs1 imm then codes "fence" else raw_text (word_of (Fence rd rs1 imm))
text_of Ecall = codes "ecall"
text_of Ebreak = codes "ebreak"

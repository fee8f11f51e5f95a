-- Which fields an instruction of RV32I may have, and the word that it is written as: the RISC-V unprivileged manual,
-- chapter "RV32I Base Integer Instruction Set" and the table of RV32I in "RV32/64G Instruction Set Listings".
use Rattle.std.specs.Prelude.{◌≡◌, ℕ, suc, ◌+◌, ◌-◌, ◌*◌, ◌/◌, ◌%◌, ◌^◌, ◌<◌, ◌≤◌, ℤ, pos, negsuc, unsigned_abs, Bool, IsTrue, ◌==◌, if◌then◌else◌, List, [], ◌∷◌, ⊤, Option, Some, IfSome}
use Rattle.std.specs.Bool.{MatchBool, OnTrue}
use Rattle.std.specs.List.{list_any}
use Rattle.em_isa.specs.declared.instructions.Instr.{Instr}
use Rattle.em_isa.specs.declared.instructions.Instr.TheVariants.{Lui, Auipc, Jal, Jalr, Branch, Load, Store, OpImm, Op, Fence, Ecall, Ebreak}

-- the number is one of these
abbrev pub is_one_of : ℕ → List ℕ → Bool
is_one_of n choices = list_any (λ choice. n == choice) choices

-- ---- which fields there may be

-- a register of x0 to x31 ("Programmers' Model for Base Integer ISA")
abbrev pub IsRegister : ℕ → Type 0
IsRegister r = r < 32

-- the number is at least -half and below half
abbrev pub IsWithin : ℕ → ℤ → Type 0
IsWithin half (pos n) = n < half
IsWithin half (negsuc n) = suc n ≤ half

-- an immediate of 12 bits: from -2048 to 2047 ("Immediate Encoding Variants")
abbrev pub IsImmediate : ℤ → Type 0
IsImmediate imm = IsWithin 2048 imm

-- an offset is even, since its bit 0 is not written ("Immediate Encoding Variants")
abbrev pub IsOffset : ℕ → ℤ → Type 0
IsOffset half offset = IsWithin half offset × (unsigned_abs offset % 2 ≡ 0)

-- the shifts among the operations with an immediate: slli, srli and srai
abbrev pub is_shift : ℕ → Bool
is_shift op = is_one_of op (1 ∷ 5 ∷ [])

-- a shift amount: from 0 to 31 ("Integer Register-Immediate Instructions")
abbrev pub IsShiftAmount : ℤ → Type 0
IsShiftAmount (pos n) = n < 32
IsShiftAmount (negsuc n) = ⊥

-- each field of the instruction is in its range
abbrev pub Fits : Instr → Type 0
Fits (Lui rd imm) = IsRegister rd × (imm < 2 ^ 20)
Fits (Auipc rd imm) = IsRegister rd × (imm < 2 ^ 20)
Fits (Jal rd offset) = IsRegister rd × IsOffset 1048576 offset
Fits (Jalr rd rs1 imm) = IsRegister rd × IsRegister rs1 × IsImmediate imm
Fits (Branch op rs1 rs2 offset) =
    IsTrue (is_one_of op (0 ∷ 1 ∷ 4 ∷ 5 ∷ 6 ∷ 7 ∷ [])) × IsRegister rs1 × IsRegister rs2 × IsOffset 4096 offset
Fits (Load op rd rs1 imm) =
    IsTrue (is_one_of op (0 ∷ 1 ∷ 2 ∷ 4 ∷ 5 ∷ [])) × IsRegister rd × IsRegister rs1 × IsImmediate imm
Fits (Store op rs1 rs2 imm) =
    IsTrue (is_one_of op (0 ∷ 1 ∷ 2 ∷ [])) × IsRegister rs1 × IsRegister rs2 × IsImmediate imm
Fits (OpImm op alt rd rs1 imm) =
    (op < 8) × OnTrue alt (op ≡ 5) × IsRegister rd × IsRegister rs1
    × MatchBool (is_shift op) (IsShiftAmount imm) (IsImmediate imm)
Fits (Op op alt rd rs1 rs2) =
    (op < 8) × OnTrue alt (IsTrue (is_one_of op (0 ∷ 5 ∷ []))) × IsRegister rd × IsRegister rs1 × IsRegister rs2
Fits (Fence rd rs1 imm) = IsRegister rd × IsRegister rs1 × IsImmediate imm
Fits Ecall = ⊤
Fits Ebreak = ⊤

-- ---- the formats ("Base Instruction Formats", "Immediate Encoding Variants"): fields from the left, opcode last

-- a signed number in the two's complement of so many bits
abbrev pub twos_complement : ℕ → ℤ → ℕ
twos_complement width (pos n) = n
twos_complement width (negsuc n) = 2 ^ width - suc n

-- the bits of a number from high down to low, which the manual writes as number[high:low]
abbrev pub bits : ℕ → ℕ → ℕ → ℕ
bits high low number = number / 2 ^ low % 2 ^ (high + 1 - low)

-- format R
abbrev pub r_format : ℕ → ℕ → ℕ → ℕ → ℕ → ℕ → ℕ
r_format funct7 rs2 rs1 funct3 rd opcode =
    funct7 * 2 ^ 25 + rs2 * 2 ^ 20 + rs1 * 2 ^ 15 + funct3 * 2 ^ 12 + rd * 2 ^ 7 + opcode

-- format I: imm[11:0]
abbrev pub i_format : ℕ → ℕ → ℕ → ℕ → ℕ → ℕ
i_format imm rs1 funct3 rd opcode = imm * 2 ^ 20 + rs1 * 2 ^ 15 + funct3 * 2 ^ 12 + rd * 2 ^ 7 + opcode

-- format S: imm[11:5], imm[4:0]
abbrev pub s_format : ℕ → ℕ → ℕ → ℕ → ℕ → ℕ
s_format imm rs2 rs1 funct3 opcode =
    bits 11 5 imm * 2 ^ 25 + rs2 * 2 ^ 20 + rs1 * 2 ^ 15 + funct3 * 2 ^ 12 + bits 4 0 imm * 2 ^ 7 + opcode

-- format B: imm[12], imm[10:5], imm[4:1], imm[11]
abbrev pub b_format : ℕ → ℕ → ℕ → ℕ → ℕ → ℕ
b_format imm rs2 rs1 funct3 opcode =
    bits 12 12 imm * 2 ^ 31 + bits 10 5 imm * 2 ^ 25 + rs2 * 2 ^ 20 + rs1 * 2 ^ 15 + funct3 * 2 ^ 12
    + bits 4 1 imm * 2 ^ 8 + bits 11 11 imm * 2 ^ 7 + opcode

-- format U: imm[31:12], here as a number of 20 bits
abbrev pub u_format : ℕ → ℕ → ℕ → ℕ
u_format imm rd opcode = imm * 2 ^ 12 + rd * 2 ^ 7 + opcode

-- format J: imm[20], imm[10:1], imm[11], imm[19:12]
abbrev pub j_format : ℕ → ℕ → ℕ → ℕ
j_format imm rd opcode =
    bits 20 20 imm * 2 ^ 31 + bits 10 1 imm * 2 ^ 21 + bits 11 11 imm * 2 ^ 20 + bits 19 12 imm * 2 ^ 12
    + rd * 2 ^ 7 + opcode

-- ---- the words

-- imm[11:5] of srai, which tells it from srli ("Integer Register-Immediate Instructions")
abbrev pub shift_kind : Bool → ℕ
shift_kind alt = (if alt then 0b0100000 * 2 ^ 5 else 0)

-- the funct7 of sub and sra, and that of the others ("Integer Register-Register Operations")
abbrev pub operation_kind : Bool → ℕ
operation_kind alt = (if alt then 0b0100000 else 0)

-- the word of each instruction: its format, its fields and the opcode of its group
abbrev pub word_of : Instr → ℕ
-- "Integer Register-Immediate Instructions": lui, auipc
word_of (Lui rd imm) = u_format imm rd 0b0110111
word_of (Auipc rd imm) = u_format imm rd 0b0010111
-- "Unconditional Jumps": jal, jalr
word_of (Jal rd offset) = j_format (twos_complement 21 offset) rd 0b1101111
word_of (Jalr rd rs1 imm) = i_format (twos_complement 12 imm) rs1 0b000 rd 0b1100111
-- "Conditional Branches": beq 000, bne 001, blt 100, bge 101, bltu 110, bgeu 111
word_of (Branch op rs1 rs2 offset) = b_format (twos_complement 13 offset) rs2 rs1 op 0b1100011
-- "Load and Store Instructions": lb 000, lh 001, lw 010, lbu 100, lhu 101; sb 000, sh 001, sw 010
word_of (Load op rd rs1 imm) = i_format (twos_complement 12 imm) rs1 op rd 0b0000011
word_of (Store op rs1 rs2 imm) = s_format (twos_complement 12 imm) rs2 rs1 op 0b0100011
-- "Integer Register-Immediate Instructions": addi 000, slli 001, slti 010, sltiu 011, xori 100, srli and srai 101,
-- ori 110, andi 111
word_of (OpImm op alt rd rs1 imm) = i_format (shift_kind alt + twos_complement 12 imm) rs1 op rd 0b0010011
-- "Integer Register-Register Operations": add and sub 000, sll 001, slt 010, sltu 011, xor 100, srl and sra 101,
-- or 110, and 111
word_of (Op op alt rd rs1 rs2) = r_format (operation_kind alt) rs2 rs1 op rd 0b0110011
-- "Memory Ordering Instructions": fence, with fm, pred and succ as imm[11:0]
word_of (Fence rd rs1 imm) = i_format (twos_complement 12 imm) rs1 0b000 rd 0b0001111
-- "Environment Call and Breakpoints": ecall, ebreak
word_of Ecall = i_format 0 0 0b000 0 0b1110011
word_of Ebreak = i_format 1 0 0b000 0 0b1110011

-- what a word stands for: its instruction, and none where no instruction has the word
pub record Decodes (word : ℕ) (result : Option Instr) : Type 0 where
  pub sound : IfSome result (λ i. Fits i × (word_of i ≡ word))
  pub complete : (i : Instr) → Fits i → word_of i ≡ word → result ≡ Some i

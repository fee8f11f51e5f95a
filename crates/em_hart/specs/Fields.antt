-- The fields of an instruction word, as whole numbers.
-- RISC-V unprivileged manual, RV32I version 2.1, sections 2.2 "Base Instruction Formats" and 2.3 "Immediate Encoding
-- Variants".
use Rattle.std.specs.Prelude.{ℕ, ◌+◌, ◌-◌, ◌*◌, ◌^◌, nat_lt, if◌then◌else◌}
-- `bits high low word` is what the manual writes as inst[high:low]
pub use Rattle.em_isa.specs.Encoding.{bits}

-- ---- the fields of the formats R, I, S and U (2.2)

abbrev pub opcode : ℕ → ℕ
opcode word = bits 6 0 word

abbrev pub rd : ℕ → ℕ
rd word = bits 11 7 word

abbrev pub funct3 : ℕ → ℕ
funct3 word = bits 14 12 word

abbrev pub rs1 : ℕ → ℕ
rs1 word = bits 19 15 word

abbrev pub rs2 : ℕ → ℕ
rs2 word = bits 24 20 word

abbrev pub funct7 : ℕ → ℕ
funct7 word = bits 31 25 word

-- ---- the immediates, modulo 2^32 (2.3)

-- a number of `width` bits, its sign bit copied into all bits above it
abbrev pub sign_extended : ℕ → ℕ → ℕ
sign_extended width number = if nat_lt number (2 ^ (width - 1)) then number else number + (2 ^ 32 - 2 ^ width)

abbrev pub imm_i : ℕ → ℕ
imm_i word = sign_extended 12 (bits 31 20 word)

abbrev pub imm_s : ℕ → ℕ
imm_s word = sign_extended 12 (bits 31 25 word * 2 ^ 5 + bits 11 7 word)

abbrev pub imm_b : ℕ → ℕ
imm_b word =
    sign_extended 13 (bits 31 31 word * 2 ^ 12 + bits 7 7 word * 2 ^ 11 + bits 30 25 word * 2 ^ 5 + bits 11 8 word * 2)

abbrev pub imm_u : ℕ → ℕ
imm_u word = bits 31 12 word * 2 ^ 12

abbrev pub imm_j : ℕ → ℕ
imm_j word =
    sign_extended 21 (bits 31 31 word * 2 ^ 20 + bits 19 12 word * 2 ^ 12 + bits 20 20 word * 2 ^ 11 + bits 30 21 word * 2)

-- the amount of a shift by an immediate, the low five bits of the I-immediate (2.4.1)
abbrev pub shamt : ℕ → ℕ
shamt word = bits 24 20 word

-- Which instruction a word is.
-- RISC-V unprivileged manual, chapter "RV32/64G Instruction Set Listings", table "RV32I Base Instruction Set"; the
-- opcodes are those of the table "RISC-V base opcode map" there.
use Rattle.std.specs.Prelude.{ℕ, Bool, ◌&&◌, ◌==◌, List, [], ◌∷◌, if◌then◌else◌, Option, Some, None}
use Rattle.em_hart.specs.Fields.{opcode, funct3, funct7}

-- the instructions of RV32I
pub data Mnemonic : Type 0 where
  lui : Mnemonic
  auipc : Mnemonic
  jal : Mnemonic
  jalr : Mnemonic
  beq : Mnemonic
  bne : Mnemonic
  blt : Mnemonic
  bge : Mnemonic
  bltu : Mnemonic
  bgeu : Mnemonic
  lb : Mnemonic
  lh : Mnemonic
  lw : Mnemonic
  lbu : Mnemonic
  lhu : Mnemonic
  sb : Mnemonic
  sh : Mnemonic
  sw : Mnemonic
  addi : Mnemonic
  slti : Mnemonic
  sltiu : Mnemonic
  xori : Mnemonic
  ori : Mnemonic
  andi : Mnemonic
  slli : Mnemonic
  srli : Mnemonic
  srai : Mnemonic
  add : Mnemonic
  sub : Mnemonic
  sll : Mnemonic
  slt : Mnemonic
  sltu : Mnemonic
  xor : Mnemonic
  srl : Mnemonic
  sra : Mnemonic
  or : Mnemonic
  and : Mnemonic
  fence : Mnemonic
  ecall : Mnemonic
  ebreak : Mnemonic

-- what a row of the table fixes: the opcode; the opcode and funct3; these and funct7; or every bit
pub data Pattern : Type 0 where
  by_opcode : ℕ → Pattern
  by_funct3 : ℕ → ℕ → Pattern
  by_funct7 : ℕ → ℕ → ℕ → Pattern
  by_word : ℕ → Pattern

-- a word with these fields is of the pattern
abbrev pub is_of : Pattern → ℕ → ℕ → ℕ → ℕ → Bool
is_of (by_opcode o) op f3 f7 word = op == o
is_of (by_funct3 o f) op f3 f7 word = (op == o) && (f3 == f)
is_of (by_funct7 o f g) op f3 f7 word = (op == o) && (f3 == f) && (f7 == g)
is_of (by_word whole) op f3 f7 word = word == whole

-- a row of the table
pub record Row : Type 0 where
  pub pattern : Pattern
  pub named : Mnemonic

abbrev row : Pattern → Mnemonic → Row
row pattern named = record { pattern = pattern; named = named }

-- the opcodes
abbrev LUI : ℕ
LUI = 0b0110111

abbrev AUIPC : ℕ
AUIPC = 0b0010111

abbrev JAL : ℕ
JAL = 0b1101111

abbrev JALR : ℕ
JALR = 0b1100111

abbrev BRANCH : ℕ
BRANCH = 0b1100011

abbrev LOAD : ℕ
LOAD = 0b0000011

abbrev STORE : ℕ
STORE = 0b0100011

abbrev OP_IMM : ℕ
OP_IMM = 0b0010011

abbrev OP : ℕ
OP = 0b0110011

abbrev MISC_MEM : ℕ
MISC_MEM = 0b0001111

-- the table; each MISC-MEM word with funct3 000 is a fence, whatever its other fields (2.7)
unfoldable pub instruction_table : List Row
instruction_table =
    row (by_opcode LUI) lui
    ∷ row (by_opcode AUIPC) auipc
    ∷ row (by_opcode JAL) jal
    ∷ row (by_funct3 JALR 0b000) jalr
    ∷ row (by_funct3 BRANCH 0b000) beq
    ∷ row (by_funct3 BRANCH 0b001) bne
    ∷ row (by_funct3 BRANCH 0b100) blt
    ∷ row (by_funct3 BRANCH 0b101) bge
    ∷ row (by_funct3 BRANCH 0b110) bltu
    ∷ row (by_funct3 BRANCH 0b111) bgeu
    ∷ row (by_funct3 LOAD 0b000) lb
    ∷ row (by_funct3 LOAD 0b001) lh
    ∷ row (by_funct3 LOAD 0b010) lw
    ∷ row (by_funct3 LOAD 0b100) lbu
    ∷ row (by_funct3 LOAD 0b101) lhu
    ∷ row (by_funct3 STORE 0b000) sb
    ∷ row (by_funct3 STORE 0b001) sh
    ∷ row (by_funct3 STORE 0b010) sw
    ∷ row (by_funct3 OP_IMM 0b000) addi
    ∷ row (by_funct3 OP_IMM 0b010) slti
    ∷ row (by_funct3 OP_IMM 0b011) sltiu
    ∷ row (by_funct3 OP_IMM 0b100) xori
    ∷ row (by_funct3 OP_IMM 0b110) ori
    ∷ row (by_funct3 OP_IMM 0b111) andi
    ∷ row (by_funct7 OP_IMM 0b001 0b0000000) slli
    ∷ row (by_funct7 OP_IMM 0b101 0b0000000) srli
    ∷ row (by_funct7 OP_IMM 0b101 0b0100000) srai
    ∷ row (by_funct7 OP 0b000 0b0000000) add
    ∷ row (by_funct7 OP 0b000 0b0100000) sub
    ∷ row (by_funct7 OP 0b001 0b0000000) sll
    ∷ row (by_funct7 OP 0b010 0b0000000) slt
    ∷ row (by_funct7 OP 0b011 0b0000000) sltu
    ∷ row (by_funct7 OP 0b100 0b0000000) xor
    ∷ row (by_funct7 OP 0b101 0b0000000) srl
    ∷ row (by_funct7 OP 0b101 0b0100000) sra
    ∷ row (by_funct7 OP 0b110 0b0000000) or
    ∷ row (by_funct7 OP 0b111 0b0000000) and
    ∷ row (by_funct3 MISC_MEM 0b000) fence
    ∷ row (by_word 0x00000073) ecall
    ∷ row (by_word 0x00100073) ebreak
    ∷ []

-- the first row whose pattern a word with these fields is of
unfoldable pub first_row : List Row → ℕ → ℕ → ℕ → ℕ → Option Mnemonic
first_row [] op f3 f7 word = None
first_row (r ∷ rows) op f3 f7 word = if is_of r.pattern op f3 f7 word then Some r.named else first_row rows op f3 f7 word

-- the instruction that a word is; every other word is no instruction of RV32I
unfoldable pub mnemonic : ℕ → Option Mnemonic
mnemonic word = first_row instruction_table (opcode word) (funct3 word) (funct7 word) word

-- The mnemonics: those of the instructions are the manual's ("RV32/64G Instruction Set Listings"), and `nop`, `mv`, `j`,
-- `ret` and `li` are pseudo instructions of its "RISC-V Assembly Programmer's Handbook". `waitjob`, `.code` and `.word`
-- are this project's own.
use Rattle.std.specs.Prelude.{ℕ, true, false, List, [], ◌∷◌, Option, Some, None, if◌then◌else◌, codes}
use Rattle.std.specs.Str.{bytes_eq}
use Rattle.em_asm_read.specs.declared.mnemonics.Mnemonic.{Mnemonic}
use Rattle.em_asm_read.specs.declared.mnemonics.Mnemonic.TheVariants.{Operation, Immediate, Load, Store, Branch, Jal, Jalr, Lui, Auipc, Fence, Ecall, Ebreak, Nop, Mv, J, Ret, Li, WaitJob, Code, Word}

-- each mnemonic, with what it is
abbrev pub mnemonics : List (List ℕ × Mnemonic)
mnemonics =
    (codes "add", Operation 0 false) ∷ (codes "sub", Operation 0 true) ∷ (codes "sll", Operation 1 false)
    ∷ (codes "slt", Operation 2 false) ∷ (codes "sltu", Operation 3 false) ∷ (codes "xor", Operation 4 false)
    ∷ (codes "srl", Operation 5 false) ∷ (codes "sra", Operation 5 true) ∷ (codes "or", Operation 6 false)
    ∷ (codes "and", Operation 7 false)
    ∷ (codes "addi", Immediate 0 false) ∷ (codes "slli", Immediate 1 false) ∷ (codes "slti", Immediate 2 false)
    ∷ (codes "sltiu", Immediate 3 false) ∷ (codes "xori", Immediate 4 false) ∷ (codes "srli", Immediate 5 false)
    ∷ (codes "srai", Immediate 5 true) ∷ (codes "ori", Immediate 6 false) ∷ (codes "andi", Immediate 7 false)
    ∷ (codes "lb", Load 0) ∷ (codes "lh", Load 1) ∷ (codes "lw", Load 2) ∷ (codes "lbu", Load 4) ∷ (codes "lhu", Load 5)
    ∷ (codes "sb", Store 0) ∷ (codes "sh", Store 1) ∷ (codes "sw", Store 2)
    ∷ (codes "beq", Branch 0) ∷ (codes "bne", Branch 1) ∷ (codes "blt", Branch 4) ∷ (codes "bge", Branch 5)
    ∷ (codes "bltu", Branch 6) ∷ (codes "bgeu", Branch 7)
    ∷ (codes "jal", Jal) ∷ (codes "jalr", Jalr) ∷ (codes "lui", Lui) ∷ (codes "auipc", Auipc)
    ∷ (codes "fence", Fence) ∷ (codes "ecall", Ecall) ∷ (codes "ebreak", Ebreak)
    ∷ (codes "nop", Nop) ∷ (codes "mv", Mv) ∷ (codes "j", J) ∷ (codes "ret", Ret) ∷ (codes "li", Li)
    ∷ (codes "waitjob", WaitJob) ∷ (codes ".code", Code) ∷ (codes ".word", Word)
    ∷ []

-- what the text is among mnemonics: the first of that name
unfoldable pub among : List ℕ → List (List ℕ × Mnemonic) → Option Mnemonic
among text [] = None
among text (row ∷ rows) = if bytes_eq row.0 text then Some row.1 else among text rows

-- the mnemonic that the text is
abbrev pub mnemonic_of : List ℕ → Option Mnemonic
mnemonic_of text = among text mnemonics

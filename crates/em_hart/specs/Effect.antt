-- What each instruction does, one line an instruction.
-- RISC-V unprivileged manual, RV32I version 2.1, sections 2.4 to 2.8. A word holds its instruction's fields, the
-- instruction stands at the address pc, and a and b are what rs1 and rs2 hold. Numbers are taken modulo 2^32.
use Rattle.std.specs.Prelude.{ℕ, ◌+◌, ◌-◌, ◌*◌, ◌/◌, ◌%◌, ◌^◌, Bool, true, false, not, ◌==◌, nat_lt, bit_and, bit_or, bit_xor, pos, int_lt, if◌then◌else◌}
use Rattle.std.specs.Int.{w32, cast_signed, cast_unsigned, int_div_euclid}
use Rattle.em_hart.specs.Fields.{imm_i, imm_s, imm_b, imm_u, imm_j, shamt}
use Rattle.em_hart.specs.InstructionTable.{Mnemonic, lui, auipc, jal, jalr, beq, bne, blt, bge, bltu, bgeu, lb, lh, lw, lbu, lhu, sb, sh, sw, addi, slti, sltiu, xori, ori, andi, slli, srli, srai, add, sub, sll, slt, sltu, xor, srl, sra, or, and, fence, ecall, ebreak}

-- what an instruction does
pub data Effect : Type 0 where
  -- rd gets the value
  writes : ℕ → Effect
  -- rd gets the value, and the program goes on at the target: jal
  jumps : ℕ → ℕ → Effect
  -- the same, the target taken from a register: jalr
  jumps_by_register : ℕ → ℕ → Effect
  -- the program goes on at the target if the condition holds
  branches : Bool → ℕ → Effect
  -- rd gets the n bytes at the address, sign-extended if the flag says so
  loads : Bool → ℕ → ℕ → Effect
  -- the n bytes at the address get the value
  stores : ℕ → ℕ → ℕ → Effect
  -- nothing but the program counter changes: fence
  passes : Effect
  -- a request to the execution environment: ecall
  calls : Effect
  -- a return to a debugger: ebreak
  breaks : Effect

-- ---- arithmetic on 32 bits

abbrev pub sum : ℕ → ℕ → ℕ
sum a b = (a + b) % 2 ^ 32

abbrev pub difference : ℕ → ℕ → ℕ
difference a b = (a + (2 ^ 32 - b)) % 2 ^ 32

-- a is less than b, both read as signed numbers, as two's complement
abbrev pub is_less_signed : ℕ → ℕ → Bool
is_less_signed a b = int_lt (cast_signed w32 a) (cast_signed w32 b)

-- a flag as a number
abbrev pub one_if : Bool → ℕ
one_if condition = if condition then 1 else 0

-- a shifted left by n: zeros come in from below
abbrev pub shifted_left : ℕ → ℕ → ℕ
shifted_left a n = a * 2 ^ n % 2 ^ 32

-- a shifted right by n: zeros come in from above
abbrev pub shifted_right : ℕ → ℕ → ℕ
shifted_right a n = a / 2 ^ n

-- a shifted right by n: copies of the sign come in from above, which is the signed quotient rounded down
abbrev pub shifted_right_signed : ℕ → ℕ → ℕ
shifted_right_signed a n = cast_unsigned w32 (int_div_euclid (cast_signed w32 a) (pos (2 ^ n)))

-- the amount of a shift by a register: its low five bits (2.4.2)
abbrev pub amount : ℕ → ℕ
amount b = b % 2 ^ 5

-- an address with bit 0 cleared (2.5.1)
abbrev pub even : ℕ → ℕ
even address = address / 2 * 2

-- ---- the instructions

unfoldable pub effect : Mnemonic → ℕ → ℕ → ℕ → ℕ → Effect
-- 2.4.1 "Integer Register-Immediate Instructions"
effect addi word pc a b = writes (sum a (imm_i word))
effect slti word pc a b = writes (one_if (is_less_signed a (imm_i word)))
effect sltiu word pc a b = writes (one_if (nat_lt a (imm_i word)))
effect andi word pc a b = writes (bit_and a (imm_i word))
effect ori word pc a b = writes (bit_or a (imm_i word))
effect xori word pc a b = writes (bit_xor a (imm_i word))
effect slli word pc a b = writes (shifted_left a (shamt word))
effect srli word pc a b = writes (shifted_right a (shamt word))
effect srai word pc a b = writes (shifted_right_signed a (shamt word))
effect lui word pc a b = writes (imm_u word)
effect auipc word pc a b = writes (sum pc (imm_u word))
-- 2.4.2 "Integer Register-Register Operations"
effect add word pc a b = writes (sum a b)
effect slt word pc a b = writes (one_if (is_less_signed a b))
effect sltu word pc a b = writes (one_if (nat_lt a b))
effect and word pc a b = writes (bit_and a b)
effect or word pc a b = writes (bit_or a b)
effect xor word pc a b = writes (bit_xor a b)
effect sll word pc a b = writes (shifted_left a (amount b))
effect srl word pc a b = writes (shifted_right a (amount b))
effect sub word pc a b = writes (difference a b)
effect sra word pc a b = writes (shifted_right_signed a (amount b))
-- 2.5.1 "Unconditional Jumps"
effect jal word pc a b = jumps (sum pc 4) (sum pc (imm_j word))
effect jalr word pc a b = jumps_by_register (sum pc 4) (even (sum a (imm_i word)))
-- 2.5.2 "Conditional Branches"
effect beq word pc a b = branches (a == b) (sum pc (imm_b word))
effect bne word pc a b = branches (not (a == b)) (sum pc (imm_b word))
effect blt word pc a b = branches (is_less_signed a b) (sum pc (imm_b word))
effect bltu word pc a b = branches (nat_lt a b) (sum pc (imm_b word))
effect bge word pc a b = branches (not (is_less_signed a b)) (sum pc (imm_b word))
effect bgeu word pc a b = branches (not (nat_lt a b)) (sum pc (imm_b word))
-- 2.6 "Load and Store Instructions"
effect lw word pc a b = loads false 4 (sum a (imm_i word))
effect lh word pc a b = loads true 2 (sum a (imm_i word))
effect lhu word pc a b = loads false 2 (sum a (imm_i word))
effect lb word pc a b = loads true 1 (sum a (imm_i word))
effect lbu word pc a b = loads false 1 (sum a (imm_i word))
effect sw word pc a b = stores 4 (sum a (imm_s word)) b
effect sh word pc a b = stores 2 (sum a (imm_s word)) b
effect sb word pc a b = stores 1 (sum a (imm_s word)) b
-- 2.7 "Memory Ordering Instructions"
effect fence word pc a b = passes
-- 2.8 "Environment Call and Breakpoints"
effect ecall word pc a b = calls
effect ebreak word pc a b = breaks

-- What an instruction does, by its fields as the code has them. The proofs show that it is what Effect says of its word.
use Rattle.std.specs.Prelude.{ℕ, ◌*◌, ◌%◌, ◌^◌, Bool, not, Result, Ok, Err, ◌==◌, nat_lt, bit_and, bit_or, bit_xor, ℤ, if◌then◌else◌}
use Rattle.std.specs.Int.{w32, cast_unsigned}
use Rattle.em_isa.specs.declared.instructions.Instr.{Instr}
use Rattle.em_isa.specs.declared.instructions.Instr.TheVariants.{Lui, Auipc, Jal, Jalr, Branch, Load, Store, OpImm, Op, Fence, Ecall, Ebreak}
use Rattle.em_hart.specs.declared.widths.Width.{Width}
use Rattle.em_hart.specs.declared.widths.Width.TheVariants.{Byte, Half, Word}
use Rattle.em_hart.specs.Hart.{Registers, Memory, register, has_bytes, window_number}
use Rattle.em_hart.specs.Widths.{bytes_in}
use Rattle.em_hart.specs.Effect.{Effect, writes, jumps, jumps_by_register, branches, loads, stores, passes, calls, breaks, sum, difference, is_less_signed, one_if, shifted_left, shifted_right, shifted_right_signed, amount, even}
use Rattle.em_hart.specs.Instruction.{Outcome, effect_outcome, is_aligned, misaligned_data, outside_windows}

-- a signed number modulo 2^32
abbrev pub modulo : ℤ → ℕ
modulo z = cast_unsigned w32 z

-- the value of an OP with this funct3; alt tells sub from add and sra from srl
unfoldable pub operation_value : ℕ → Bool → ℕ → ℕ → ℕ
operation_value op alt a b =
    if op == 0 then (if alt then difference a b else sum a b)
    else if op == 1 then shifted_left a (amount b)
    else if op == 2 then one_if (is_less_signed a b)
    else if op == 3 then one_if (nat_lt a b)
    else if op == 4 then bit_xor a b
    else if op == 5 then (if alt then shifted_right_signed a (amount b) else shifted_right a (amount b))
    else if op == 6 then bit_or a b
    else bit_and a b

-- whether the branch with this funct3 is taken
unfoldable pub branch_condition : ℕ → ℕ → ℕ → Bool
branch_condition op a b =
    if op == 0 then a == b
    else if op == 1 then not (a == b)
    else if op == 4 then is_less_signed a b
    else if op == 5 then not (is_less_signed a b)
    else if op == 6 then nat_lt a b
    else not (nat_lt a b)

-- how much a load or store with this funct3 touches
unfoldable pub width_of : ℕ → Width
width_of op = if op % 4 == 0 then Byte else if op % 4 == 1 then Half else Word

-- the load with this funct3 extends the sign
abbrev pub is_signed : ℕ → Bool
is_signed op = nat_lt op 2

-- what a load reads: the number in the n bytes from an address on, or the cause of its fault
unfoldable pub read_of : Memory → Memory → ℕ → ℕ → Result ℕ ℕ
read_of own shared n address =
    if not (is_aligned n address) then Err misaligned_data
    else if has_bytes own n address then Ok (window_number own n address)
    else if has_bytes shared n address then Ok (window_number shared n address)
    else Err outside_windows

-- the register that is written, and 0 where there is none
abbrev pub rd_of : Instr → ℕ
rd_of (Lui rd imm) = rd
rd_of (Auipc rd imm) = rd
rd_of (Jal rd offset) = rd
rd_of (Jalr rd rs1 imm) = rd
rd_of (Branch op rs1 rs2 offset) = 0
rd_of (Load op rd rs1 imm) = rd
rd_of (Store op rs1 rs2 imm) = 0
rd_of (OpImm op alt rd rs1 imm) = rd
rd_of (Op op alt rd rs1 rs2) = rd
rd_of (Fence rd rs1 imm) = 0
rd_of Ecall = 0
rd_of Ebreak = 0

-- the first register that is read, and 0 where there is none
abbrev pub rs1_of : Instr → ℕ
rs1_of (Lui rd imm) = 0
rs1_of (Auipc rd imm) = 0
rs1_of (Jal rd offset) = 0
rs1_of (Jalr rd rs1 imm) = rs1
rs1_of (Branch op rs1 rs2 offset) = rs1
rs1_of (Load op rd rs1 imm) = rs1
rs1_of (Store op rs1 rs2 imm) = rs1
rs1_of (OpImm op alt rd rs1 imm) = rs1
rs1_of (Op op alt rd rs1 rs2) = rs1
rs1_of (Fence rd rs1 imm) = 0
rs1_of Ecall = 0
rs1_of Ebreak = 0

-- the second register that is read, and 0 where there is none
abbrev pub rs2_of : Instr → ℕ
rs2_of (Lui rd imm) = 0
rs2_of (Auipc rd imm) = 0
rs2_of (Jal rd offset) = 0
rs2_of (Jalr rd rs1 imm) = 0
rs2_of (Branch op rs1 rs2 offset) = rs2
rs2_of (Load op rd rs1 imm) = 0
rs2_of (Store op rs1 rs2 imm) = rs2
rs2_of (OpImm op alt rd rs1 imm) = 0
rs2_of (Op op alt rd rs1 rs2) = rs2
rs2_of (Fence rd rs1 imm) = 0
rs2_of Ecall = 0
rs2_of Ebreak = 0

-- the effect at the address pc where rs1 holds a and rs2 holds b
abbrev pub effect_of : Instr → ℕ → ℕ → ℕ → Effect
effect_of (Lui rd imm) pc a b = writes (imm * 2 ^ 12)
effect_of (Auipc rd imm) pc a b = writes (sum pc (imm * 2 ^ 12))
effect_of (Jal rd offset) pc a b = jumps (sum pc 4) (sum pc (modulo offset))
effect_of (Jalr rd rs1 imm) pc a b = jumps_by_register (sum pc 4) (even (sum a (modulo imm)))
effect_of (Branch op rs1 rs2 offset) pc a b = branches (branch_condition op a b) (sum pc (modulo offset))
effect_of (Load op rd rs1 imm) pc a b = loads (is_signed op) (bytes_in (width_of op)) (sum a (modulo imm))
effect_of (Store op rs1 rs2 imm) pc a b = stores (bytes_in (width_of op)) (sum a (modulo imm)) b
effect_of (OpImm op alt rd rs1 imm) pc a b = writes (operation_value op alt a (modulo imm))
effect_of (Op op alt rd rs1 rs2) pc a b = writes (operation_value op alt a b)
effect_of (Fence rd rs1 imm) pc a b = passes
effect_of Ecall pc a b = calls
effect_of Ebreak pc a b = breaks

-- the outcome of the instruction
abbrev pub exec_instr : Instr → Registers → Memory → Memory → Outcome
exec_instr i registers own shared =
    effect_outcome (effect_of i registers.pc (register registers (rs1_of i)) (register registers (rs2_of i))) (rd_of i) registers own shared

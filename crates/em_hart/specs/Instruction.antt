-- One instruction: what the word at the program counter does to the registers and the two windows.
-- RISC-V unprivileged manual, RV32I version 2.1, over the tables of InstructionTable and Effect; the causes of faults, and their
-- order, are this project's own.
use Rattle.std.specs.Prelude.{ℕ, ◌*◌, ◌/◌, ◌%◌, Bool, not, ◌&&◌, ◌==◌, nat_lt, List, length, slice_index, if◌then◌else◌, Option, Some, None}
use Rattle.em_hart.specs.declared.answers.Class.{Class}
use Rattle.em_hart.specs.declared.answers.Class.TheVariants.{Plain, Memory as MemoryClass}
use Rattle.em_hart.specs.Hart.{Registers, Memory, register, with_register, with_pc, has_bytes, window_number, after_store}
use Rattle.em_hart.specs.Fields.{rd, rs1, rs2, sign_extended}
use Rattle.em_hart.specs.InstructionTable.{Mnemonic, mnemonic}
use Rattle.em_hart.specs.Effect.{Effect, writes, jumps, jumps_by_register, branches, loads, stores, passes, calls, breaks, effect, sum}

-- the outcome of one instruction
pub data Outcome : Type 0 where
  -- it was carried out: its class, the registers, the own window and the shared window after it
  Ran : Class → Registers → Memory → Memory → Outcome
  -- it is an ecall; nothing changes
  Call : Outcome
  -- it can't be carried out, for this cause; nothing changes
  Fault : ℕ → Outcome

-- ---- the causes of faults

-- the target of a taken transfer isn't a multiple of 4
abbrev pub misaligned_target : ℕ
misaligned_target = 1

-- the program counter is outside the code
abbrev pub outside_code : ℕ
outside_code = 2

-- the word is no instruction
abbrev pub no_instruction : ℕ
no_instruction = 3

-- a data address isn't a multiple of the access's size
abbrev pub misaligned_data : ℕ
misaligned_data = 4

-- the access isn't wholly inside one of the two windows
abbrev pub outside_windows : ℕ
outside_windows = 5

-- the instruction is an ebreak
abbrev pub breakpoint : ℕ
breakpoint = 6

-- ---- the steps

-- an address is inside the code: a multiple of 4, and below four times the number of code words
abbrev pub is_inside_code : List ℕ → ℕ → Bool
is_inside_code code address = (address % 4 == 0) && nat_lt address (4 * length code)

-- the registers at the instruction that follows
abbrev pub next_registers : Registers → Registers
next_registers registers = with_pc registers (sum registers.pc 4)

-- the transfer to a target is taken
abbrev pub transfer_outcome : ℕ → Registers → Memory → Memory → Outcome
transfer_outcome target registers own shared =
    if target % 4 == 0 then Ran Plain (with_pc registers target) own shared else Fault misaligned_target

-- what a load gives for n bytes that were read, by its sign flag
abbrev pub load_value : Bool → ℕ → ℕ → ℕ
load_value signed n number = if signed then sign_extended (8 * n) number else number

-- an address is a multiple of the size of its access
abbrev pub is_aligned : ℕ → ℕ → Bool
is_aligned n address = address % n == 0

-- the registers after a load from a window
abbrev pub after_load : Bool → ℕ → ℕ → ℕ → Memory → Registers → Registers
after_load signed n address d memory registers =
    next_registers (with_register registers d (load_value signed n (window_number memory n address)))

-- an instruction is carried out that has this effect and this destination
unfoldable pub effect_outcome : Effect → ℕ → Registers → Memory → Memory → Outcome
effect_outcome (writes value) d registers own shared = Ran Plain (next_registers (with_register registers d value)) own shared
effect_outcome (jumps value target) d registers own shared = transfer_outcome target (with_register registers d value) own shared
effect_outcome (jumps_by_register value target) d registers own shared = transfer_outcome target (with_register registers d value) own shared
effect_outcome (branches condition target) d registers own shared =
    if condition then transfer_outcome target registers own shared else Ran Plain (next_registers registers) own shared
effect_outcome (loads signed n address) d registers own shared =
    if not (is_aligned n address) then Fault misaligned_data
    else if has_bytes own n address then Ran MemoryClass (after_load signed n address d own registers) own shared
    else if has_bytes shared n address then Ran MemoryClass (after_load signed n address d shared registers) own shared
    else Fault outside_windows
effect_outcome (stores n address value) d registers own shared =
    if not (is_aligned n address) then Fault misaligned_data
    else if has_bytes own n address then Ran MemoryClass (next_registers registers) (after_store own n address value) shared
    else if has_bytes shared n address then Ran MemoryClass (next_registers registers) own (after_store shared n address value)
    else Fault outside_windows
effect_outcome passes d registers own shared = Ran Plain (next_registers registers) own shared
effect_outcome calls d registers own shared = Call
effect_outcome breaks d registers own shared = Fault breakpoint

-- the outcome of a word that is this instruction, or none
unfoldable pub mnemonic_outcome : Option Mnemonic → ℕ → Registers → Memory → Memory → Outcome
mnemonic_outcome None word registers own shared = Fault no_instruction
mnemonic_outcome (Some name) word registers own shared =
    let a = register registers (rs1 word) in
    let b = register registers (rs2 word) in
    effect_outcome (effect name word registers.pc a b) (rd word) registers own shared

-- the outcome of a word
abbrev pub word_outcome : ℕ → Registers → Memory → Memory → Outcome
word_outcome word registers own shared = mnemonic_outcome (mnemonic word) word registers own shared

-- one instruction: the word at the program counter, over the registers, the own and the shared window, and the code,
-- whose words stand from address 0
unfoldable pub exec : Registers → Memory → Memory → List ℕ → Outcome
exec registers own shared code =
    let word = slice_index code (registers.pc / 4) in
    if is_inside_code code registers.pc
    then word_outcome word registers own shared
    else Fault outside_code

-- ---- the value that a word writes

-- the value that an effect writes to rd whatever the memory and the target
unfoldable pub value_of : Effect → Option ℕ
value_of (writes value) = Some value
value_of (jumps value target) = Some value
value_of _ = None

unfoldable pub mnemonic_value : Option Mnemonic → ℕ → ℕ → ℕ → ℕ → Option ℕ
mnemonic_value None word pc a b = None
mnemonic_value (Some name) word pc a b = value_of (effect name word pc a b)

-- the value that the word at pc writes to its destination where rs1 holds a and rs2 holds b: that of an OP, OP-IMM, LUI,
-- AUIPC or JAL; every other word has none
unfoldable pub written_value : ℕ → ℕ → ℕ → ℕ → Option ℕ
written_value word pc a b = mnemonic_value (mnemonic word) word pc a b

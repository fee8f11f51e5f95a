-- What a statement says, by its mnemonic and its operands, or the first fault in it: first their count, then the operands
-- from the left. The instructions are the manual's; the pseudo instructions are those of its "RISC-V Assembly Programmer's
-- Handbook", and `waitjob`, `.code` and `.word` are this project's own.
use Rattle.std.specs.Prelude.{ℕ, ℤ, pos, negsuc, false, Bool, List, [], ◌∷◌, Some, None, Result, Ok, Err, if◌then◌else◌, unsigned_abs}
use Rattle.em_isa.specs.declared.instructions.Instr.{Instr}
use Rattle.em_isa.specs.declared.instructions.Instr.TheVariants.{Lui as LuiOf, Auipc as AuipcOf, Jalr as JalrOf, Load as LoadOf, Store as StoreOf, OpImm, Op, Fence as FenceOf, Ecall as EcallOf, Ebreak as EbreakOf}
use Rattle.em_isa.specs.Encoding.{is_shift, twos_complement}
use Rattle.em_asm_read.specs.declared.faults.Fault.{Fault}
use Rattle.em_asm_read.specs.declared.faults.Fault.TheVariants.{Operands}
use Rattle.em_asm_read.specs.declared.items.Item.{Item}
use Rattle.em_asm_read.specs.declared.items.Item.TheVariants.{One, Branch as BranchTo, Jal as JalTo, Li as LiOf, Wait, Word as WordOf, Raw}
use Rattle.em_asm_read.specs.declared.mnemonics.Mnemonic.{Mnemonic}
use Rattle.em_asm_read.specs.declared.mnemonics.Mnemonic.TheVariants.{Operation, Immediate, Load, Store, Branch, Jal, Jalr, Lui, Auipc, Fence, Ecall, Ebreak, Nop, Mv, J, Ret, Li, WaitJob, Code, Word}
use Rattle.em_asm_read.specs.Faults.{then_read}
use Rattle.em_asm_read.specs.Operands.{register_operand, number_operand, address_operand, target_operand}

-- ---- statements of one instruction

-- rd, rs1, rs2
abbrev pub operation : ℕ → Bool → List (List ℕ) → Result Instr Fault
operation op alt (rd ∷ rs1 ∷ rs2 ∷ []) =
    then_read (register_operand rd) (λ d. then_read (register_operand rs1) (λ a. then_read (register_operand rs2) (λ b. Ok (Op op alt d a b))))
operation op alt operands = Err Operands

-- the immediate of an operation: a shift amount, or a number of 12 bits
abbrev pub immediate_operand : ℕ → List ℕ → Result ℤ Fault
immediate_operand op text =
    if is_shift op then number_operand (pos 0) (pos 31) text else number_operand (negsuc 2047) (pos 2047) text

-- rd, rs1, imm
abbrev pub immediate : ℕ → Bool → List (List ℕ) → Result Instr Fault
immediate op alt (rd ∷ rs1 ∷ imm ∷ []) =
    then_read (register_operand rd) (λ d. then_read (register_operand rs1) (λ a. then_read (immediate_operand op imm) (λ i. Ok (OpImm op alt d a i))))
immediate op alt operands = Err Operands

-- rd, imm(rs1)
abbrev pub load : ℕ → List (List ℕ) → Result Instr Fault
load op (rd ∷ address ∷ []) =
    then_read (register_operand rd) (λ d. then_read (address_operand address) (λ a. Ok (LoadOf op d a.1 a.0)))
load op operands = Err Operands

-- rs2, imm(rs1)
abbrev pub store : ℕ → List (List ℕ) → Result Instr Fault
store op (rs2 ∷ address ∷ []) =
    then_read (register_operand rs2) (λ b. then_read (address_operand address) (λ a. Ok (StoreOf op a.1 b a.0)))
store op operands = Err Operands

-- rd, imm(rs1)
abbrev pub jump_register : List (List ℕ) → Result Instr Fault
jump_register (rd ∷ address ∷ []) =
    then_read (register_operand rd) (λ d. then_read (address_operand address) (λ a. Ok (JalrOf d a.1 a.0)))
jump_register operands = Err Operands

-- rd, n, with an n below 2^20
abbrev pub upper : List (List ℕ) → Result (ℕ × ℕ) Fault
upper (rd ∷ n ∷ []) =
    then_read (register_operand rd) (λ d. then_read (number_operand (pos 0) (pos 1048575) n) (λ i. Ok (d, unsigned_abs i)))
upper operands = Err Operands

abbrev pub load_upper : List (List ℕ) → Result Instr Fault
load_upper operands = then_read (upper operands) (λ u. Ok (LuiOf u.0 u.1))

abbrev pub add_upper : List (List ℕ) → Result Instr Fault
add_upper operands = then_read (upper operands) (λ u. Ok (AuipcOf u.0 u.1))

-- rd, rs: an addition of 0
abbrev pub copy : List (List ℕ) → Result Instr Fault
copy (rd ∷ rs ∷ []) =
    then_read (register_operand rd) (λ d. then_read (register_operand rs) (λ a. Ok (OpImm 0 false d a (pos 0))))
copy operands = Err Operands

-- no operand
abbrev pub alone : Instr → List (List ℕ) → Result Instr Fault
alone instruction [] = Ok instruction
alone instruction operands = Err Operands

-- ---- statements with a target

-- rs1, rs2, target
abbrev pub branch : ℕ → List (List ℕ) → Result Item Fault
branch op (rs1 ∷ rs2 ∷ target ∷ []) =
    then_read (register_operand rs1) (λ a. then_read (register_operand rs2) (λ b. then_read (target_operand (negsuc 4095) (pos 4094) target) (λ t. Ok (BranchTo op a b t))))
branch op operands = Err Operands

-- rd, target
abbrev pub jump : List (List ℕ) → Result Item Fault
jump (rd ∷ target ∷ []) =
    then_read (register_operand rd) (λ d. then_read (target_operand (negsuc 1048575) (pos 1048574) target) (λ t. Ok (JalTo d t)))
jump operands = Err Operands

-- target: a jump that keeps no address
abbrev pub plain_jump : List (List ℕ) → Result Item Fault
plain_jump (target ∷ []) = then_read (target_operand (negsuc 1048575) (pos 1048574) target) (λ t. Ok (JalTo 0 t))
plain_jump operands = Err Operands

-- ---- statements with a word

-- a number of 32 bits, signed or unsigned, modulo 2^32
abbrev pub word_operand : List ℕ → Result ℕ Fault
word_operand text = then_read (number_operand (negsuc 2147483647) (pos 4294967295) text) (λ n. Ok (twos_complement 32 n))

-- a number of 32 bits without a sign
abbrev pub unsigned_operand : List ℕ → Result ℕ Fault
unsigned_operand text = then_read (number_operand (pos 0) (pos 4294967295) text) (λ n. Ok (unsigned_abs n))

-- rd, n
abbrev pub load_number : List (List ℕ) → Result Item Fault
load_number (rd ∷ n ∷ []) = then_read (register_operand rd) (λ d. then_read (word_operand n) (λ value. Ok (LiOf d value)))
load_number operands = Err Operands

-- s, or nothing
abbrev pub wait : List (List ℕ) → Result Item Fault
wait [] = Ok (Wait None)
wait (s ∷ []) = then_read (unsigned_operand s) (λ semaphore. Ok (Wait (Some semaphore)))
wait operands = Err Operands

-- n
abbrev pub raw : List (List ℕ) → Result Item Fault
raw (n ∷ []) = then_read (unsigned_operand n) (λ word. Ok (Raw word))
raw operands = Err Operands

-- n
abbrev pub shared_word : List (List ℕ) → Result Item Fault
shared_word (n ∷ []) = then_read (word_operand n) (λ word. Ok (WordOf word))
shared_word operands = Err Operands

-- ---- all statements

-- the fence of every access: its word is 0x0ff0000f
abbrev pub whole_fence : Instr
whole_fence = FenceOf 0 0 (pos 255)

abbrev pub one : Result Instr Fault → Result Item Fault
one instruction = then_read instruction (λ i. Ok (One i))

-- what a statement says
abbrev pub statement : Mnemonic → List (List ℕ) → Result Item Fault
statement (Operation op alt) operands = one (operation op alt operands)
statement (Immediate op alt) operands = one (immediate op alt operands)
statement (Load op) operands = one (load op operands)
statement (Store op) operands = one (store op operands)
statement (Branch op) operands = branch op operands
statement Jal operands = jump operands
statement Jalr operands = one (jump_register operands)
statement Lui operands = one (load_upper operands)
statement Auipc operands = one (add_upper operands)
statement Fence operands = one (alone whole_fence operands)
statement Ecall operands = one (alone EcallOf operands)
statement Ebreak operands = one (alone EbreakOf operands)
statement Nop operands = one (alone (OpImm 0 false 0 0 (pos 0)) operands)
statement Mv operands = one (copy operands)
statement J operands = plain_jump operands
statement Ret operands = one (alone (JalrOf 0 1 (pos 0)) operands)
statement Li operands = load_number operands
statement WaitJob operands = wait operands
statement Code operands = raw operands
statement Word operands = shared_word operands

-- The code words of an item: those of the instructions that its statement stands for. The instructions are the manual's; what
-- `li` comes to is its "RISC-V Assembly Programmer's Handbook", and `waitjob` is this project's own.
use Rattle.std.specs.Prelude.{ℕ, ◌-◌, ◌/◌, ◌%◌, ◌^◌, ℤ, pos, negsuc, ◌-ℤ◌, int_le, int_lt, neg_ℤ, unsigned_abs, Bool, false, ◌&&◌, nat_lt, nat_eq, List, [], ◌∷◌, length, map, Option, Some, None, Result, Ok, Err, if◌then◌else◌}
use Rattle.em_base.specs.Images.{Labels, address_of}
use Rattle.em_isa.specs.declared.instructions.Instr.{Instr}
use Rattle.em_isa.specs.declared.instructions.Instr.TheVariants.{Lui, OpImm, Ecall, Branch as BranchBy, Jal as JalBy}
use Rattle.em_isa.specs.Encoding.{word_of}
use Rattle.em_asm_read.specs.declared.items.Item.{Item}
use Rattle.em_asm_read.specs.declared.items.Item.TheVariants.{Nothing, One, Branch, Jal, Li, Wait, Word, Raw}
use Rattle.em_asm_read.specs.declared.items.Target.{Target}
use Rattle.em_asm_read.specs.declared.items.Target.TheVariants.{Label, Offset}
use Rattle.em_asm.specs.declared.faults.Fault.{Fault}
use Rattle.em_asm.specs.declared.faults.Fault.TheVariants.{LabelMissing, TargetTooFar}

-- ---- li

-- the bits of a number in the two's complement of so many bits, as a signed number
abbrev pub signed : ℕ → ℕ → ℤ
signed width bits = if nat_lt bits (2 ^ (width - 1)) then pos bits else neg_ℤ (pos (2 ^ width - bits))

-- the low 12 bits of a value, as a signed number
abbrev pub low_part : ℕ → ℤ
low_part value = signed 12 (value % 2 ^ 12)

-- what is left of the value, divided by 2^12
abbrev pub high_part : ℕ → ℕ
high_part value = unsigned_abs (pos value -ℤ low_part value) / 2 ^ 12 % 2 ^ 20

-- whether the value, as a signed number, is an immediate of 12 bits
abbrev pub is_short : ℕ → Bool
is_short value = int_le (negsuc 2047) (signed 32 value) && int_le (signed 32 value) (pos 2047)

-- an addition of an immediate
abbrev pub adds : ℕ → ℕ → ℤ → Instr
adds rd rs1 imm = OpImm 0 false rd rs1 imm

-- the instructions that load a value into a register
abbrev pub loads : ℕ → ℕ → List Instr
loads rd value =
    if is_short value then adds rd 0 (signed 32 value) ∷ []
    else Lui rd (high_part value) ∷ (if nat_eq (value % 2 ^ 12) 0 then [] else adds rd rd (low_part value) ∷ [])

-- ---- waitjob

-- the call waitjob, which has the number 1
abbrev pub waits : List Instr
waits = adds 17 0 (pos 1) ∷ Ecall ∷ []

-- ---- targets

-- an offset that is at least -half and below half
abbrev pub reaching : ℕ → ℤ → Result ℤ Fault
reaching half offset =
    if int_le (neg_ℤ (pos half)) offset && int_lt offset (pos half) then Ok offset else Err TargetTooFar

-- the offset from an instruction at an address to another address, where there is one
abbrev pub between : ℕ → ℕ → Option ℕ → Result ℤ Fault
between half at None = Err LabelMissing
between half at (Some address) = reaching half (pos address -ℤ pos at)

-- the offset of a target from an instruction at an address
abbrev pub aim : Labels → ℕ → ℕ → Target → Result ℤ Fault
aim labels half at (Offset offset) = Ok offset
aim labels half at (Label name) = between half at (address_of labels name)

-- ---- items

-- goes on with the value, unless there is a fault already
abbrev pub then_code : {X : Type 0} → Result X Fault → (X → List ℕ) → Result (List ℕ) Fault
then_code (Ok x) code = Ok (code x)
then_code (Err fault) code = Err fault

-- the code words of an item at an address, or the fault of its target
abbrev pub words_of_item : Labels → ℕ → Item → Result (List ℕ) Fault
words_of_item labels at Nothing = Ok []
words_of_item labels at (One instruction) = Ok (word_of instruction ∷ [])
words_of_item labels at (Branch op rs1 rs2 target) = then_code (aim labels 4096 at target) (λ offset. word_of (BranchBy op rs1 rs2 offset) ∷ [])
words_of_item labels at (Jal rd target) = then_code (aim labels 1048576 at target) (λ offset. word_of (JalBy rd offset) ∷ [])
words_of_item labels at (Li rd value) = Ok (map word_of (loads rd value))
words_of_item labels at (Wait hint) = Ok (map word_of waits)
words_of_item labels at (Word word) = Ok []
words_of_item labels at (Raw word) = Ok (word ∷ [])

-- how many code words an item has
abbrev pub size_of : Item → ℕ
size_of Nothing = 0
size_of (One instruction) = 1
size_of (Branch op rs1 rs2 target) = 1
size_of (Jal rd target) = 1
size_of (Li rd value) = length (loads rd value)
size_of (Wait hint) = 2
size_of (Word word) = 0
size_of (Raw word) = 1

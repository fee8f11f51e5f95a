-- The code of `li` puts the value into the register.
use Rattle.std.proofs.Common.{◌≡◌, ℕ, ◌+◌, ◌*◌, ◌%◌, ◌^◌, ◌/◌, ◌<◌, ℤ, Bool, true, false, nat_eq, ◌==◌, List, [], ◌∷◌, ◌++◌, length, length-append, map, slice_index, slice_set, refl, ap, ap₂, ◌∙◌, arith, lit<, if◌then◌else◌}
use Rattle.std.proofs.lemmas.Bool.Decides.{nat_tests}
use Rattle.std.proofs.lemmas.Int.{ints}
use Rattle.std.proofs.Math.ListN.{set, get_or}
use Rattle.std.proofs.lemmas.List.{get_or-set_same, set-set}
use Rattle.std.proofs.lemmas.Bool.{cond-true}
use Rattle.std.proofs.Math.Seq.{get_or-append_seam}
use Rattle.em_isa.specs.declared.instructions.Instr.TheVariants.{Lui, OpImm}
use Rattle.em_isa.specs.Encoding.{Fits, IsImmediate, twos_complement, word_of}
use Rattle.em_hart.specs.declared.answers.Class.TheVariants.{Plain}
use Rattle.em_hart.specs.Effect.{sum}
use Rattle.em_hart.specs.Hart.{Memory, Registers, register, with_pc, with_register}
use Rattle.em_hart.specs.Instruction.{Ran, exec, is_inside_code, next_registers, word_outcome}
use Rattle.em_asm.specs.Code.{adds, high_part, is_short, loads, low_part, signed}

-- ---- what is known of the words and the parts

-- what the word of `lui` does
abbrev pub Upper : Type 0
Upper = (rd imm : ℕ) → rd < 32 → imm < 2 ^ 20 → (registers : Registers) (own shared : Memory)
    → word_outcome (word_of (Lui rd imm)) registers own shared ≡ Ran Plain (next_registers (with_register registers rd (imm * 2 ^ 12))) own shared

-- what the word of `addi` does
abbrev pub Addition : Type 0
Addition = (rd rs1 : ℕ) (imm : ℤ) → Fits (OpImm 0 false rd rs1 imm) → (registers : Registers) (own shared : Memory)
    → word_outcome (word_of (OpImm 0 false rd rs1 imm)) registers own shared
    ≡ Ran Plain (next_registers (with_register registers rd (sum (register registers rs1) (twos_complement 32 imm)))) own shared

-- the two parts of a value make it up
abbrev pub Parts : Type 0
Parts = (value : ℕ) → value < 2 ^ 32 → (high_part value * 2 ^ 12 + twos_complement 32 (low_part value)) % 2 ^ 32 ≡ value

-- ---- numbers

-- a short value is its own immediate modulo 2^32
short_value : (value : ℕ) → value < 2 ^ 32 → is_short value ≡ true → sum 0 (twos_complement 32 (signed 32 value)) ≡ value
short_value value h e = grind (arith, nat_tests, ints)

short_immediate : (value : ℕ) → value < 2 ^ 32 → is_short value ≡ true → IsImmediate (signed 32 value)
short_immediate value h e = grind (arith, nat_tests, ints)

low_immediate : (value : ℕ) → IsImmediate (low_part value)
low_immediate value = grind (arith, nat_tests, ints)

high_fits : (value : ℕ) → high_part value < 2 ^ 20
high_fits value = grind (arith)

-- a value without a low part is its upper part
upper_value : (value : ℕ) → value < 2 ^ 32 → nat_eq (value % 2 ^ 12) 0 ≡ true → high_part value * 2 ^ 12 ≡ value
upper_value value h e = grind (arith, nat_tests, ints)

-- the fields of an addition are in their ranges
addition_fits : (rd rs1 : ℕ) (imm : ℤ) → rd < 32 → rs1 < 32 → IsImmediate imm → Fits (adds rd rs1 imm)
addition_fits rd rs1 imm h k i = (lit< tt, tt, h, k, i)

-- ---- registers

-- writing a register leaves the program counter
next-written : (registers : Registers) (rd value : ℕ)
    → next_registers (with_register registers rd value) ≡ with_pc (with_register registers rd value) (sum registers.pc 4)
next-written registers rd value = by_test (rd == 0)
  where
    by_test : (zeroth : Bool)
        → (let after = if zeroth then registers else record registers { values = slice_set registers.values rd value } in
        next_registers after ≡ with_pc after (sum registers.pc 4))
    by_test true = refl
    by_test false = refl

-- the last of two writes counts, and it may read what the first wrote
next-twice : (registers : Registers) (rd one other : ℕ) → rd < 32 → length registers.values ≡ 32
    → (let between = next_registers (with_register registers rd one) in
    next_registers (with_register between rd (sum (register between rd) other)) ≡ with_pc (with_register registers rd (sum one other)) (sum registers.pc 8))
next-twice registers rd one other h size = by_test (rd == 0)
  where
    twice : sum (sum registers.pc 4) 4 ≡ sum registers.pc 8
    twice = omega arith

    read : get_or (set registers.values rd one) rd 0 ≡ one
    read = get_or-set_same registers.values rd one 0 (omega arith)

    by_test : (zeroth : Bool)
        → (let write = λ (r : Registers) (value : ℕ). if zeroth then r else record r { values = slice_set r.values rd value } in
        let between = next_registers (write registers one) in
        next_registers (write between (sum (if zeroth then 0 else slice_index between.values rd) other)) ≡ with_pc (write registers (sum one other)) (sum registers.pc 8))
    by_test true = ap (with_pc registers) twice
    by_test false =
        ap₂ (λ (values : List ℕ) (pc : ℕ). let after : Registers = record { values = values; pc = pc } in after)
        (set-set registers.values rd one (sum (get_or (set registers.values rd one) rd 0) other) ∙ ap (λ x. set registers.values rd (sum x other)) read) twice

-- the program counter of registers after a write is the next one
next-pc : (registers : Registers) (rd value : ℕ) → (next_registers (with_register registers rd value)).pc ≡ sum registers.pc 4
next-pc registers rd value = ap (λ (r : Registers). r.pc) (next-written registers rd value)

-- ---- words one after the other

-- words that are carried out one after the other, each going on with the next and leaving the windows, lead from some
-- registers to others
abbrev pub IsRun : List ℕ → Registers → Memory → Memory → Registers → Type 0
IsRun [] registers own shared after = registers ≡ after
IsRun (word ∷ words) registers own shared after =
    (between : Registers) × (word_outcome word registers own shared ≡ Ran Plain between own shared) × (between.pc ≡ sum registers.pc 4) × IsRun words between own shared after

-- the word at the program counter is carried out
pub at-word : (registers : Registers) (own shared : Memory) (before : List ℕ) (word : ℕ) (rest : List ℕ) → registers.pc ≡ 4 * length before
    → exec registers own shared (before ++ word ∷ rest) ≡ word_outcome word registers own shared
unfolding exec
at-word registers own shared before word rest e =
    cond-true _ _ _ inside ∙ ap (λ (w : ℕ). word_outcome w registers own shared) here
  where
    long : length (before ++ word ∷ rest) ≡ length before + length (word ∷ rest)
    long = length-append before (word ∷ rest)

    inside : is_inside_code (before ++ word ∷ rest) registers.pc ≡ true
    inside = grind (arith, nat_tests, long)

    here : slice_index (before ++ word ∷ rest) (registers.pc / 4) ≡ word
    here = let place : registers.pc / 4 ≡ length before = omega arith in ap (λ n. get_or (before ++ word ∷ rest) n 0) place ∙ get_or-append_seam before word rest 0

-- ---- the code of li

-- the registers after the value was put into a register by so many instructions
abbrev pub with_value_in : Registers → ℕ → ℕ → ℕ → Registers
with_value_in registers rd value count = with_pc (with_register registers rd value) (sum registers.pc (4 * count))

pub number-run : Upper → Addition → Parts → (rd value : ℕ) → rd < 32 → value < 2 ^ 32
    → (registers : Registers) (own shared : Memory) → length registers.values ≡ 32
    → IsRun (map word_of (loads rd value)) registers own shared (with_value_in registers rd value (length (loads rd value)))
number-run upper addition parts rd value h k registers own shared size = by_tests (is_short value) refl (nat_eq (value % 2 ^ 12) 0) refl
  where
    written : (v : ℕ) → v ≡ value → next_registers (with_register registers rd v) ≡ with_value_in registers rd value 1
    written v e = ap (λ x. next_registers (with_register registers rd x)) e ∙ next-written registers rd value

    by_tests : (short : Bool) → is_short value ≡ short → (upper_only : Bool) → nat_eq (value % 2 ^ 12) 0 ≡ upper_only
        → (let code = if short then adds rd 0 (signed 32 value) ∷ [] else Lui rd (high_part value) ∷ (if upper_only then [] else adds rd rd (low_part value) ∷ []) in
        IsRun (map word_of code) registers own shared (with_value_in registers rd value (length code)))
    by_tests true e _ d =
        let imm = signed 32 value in
        let loaded = sum 0 (twos_complement 32 imm) in (
          next_registers (with_register registers rd loaded),
          addition rd 0 imm (addition_fits rd 0 imm h (lit< tt) (short_immediate value k e)) registers own shared,
          next-pc registers rd loaded,
          written loaded (short_value value k e),
        )
    by_tests false e true d =
        let loaded = high_part value * 2 ^ 12 in (
          next_registers (with_register registers rd loaded),
          upper rd (high_part value) h (high_fits value) registers own shared,
          next-pc registers rd loaded,
          written loaded (upper_value value k d),
        )
    by_tests false e false d =
        let one = high_part value * 2 ^ 12 in
        let low = twos_complement 32 (low_part value) in
        let between = next_registers (with_register registers rd one) in
        let loaded = sum (register between rd) low in (
          between,
          upper rd (high_part value) h (high_fits value) registers own shared,
          next-pc registers rd one,
          (
            next_registers (with_register between rd loaded),
            addition rd rd (low_part value) (addition_fits rd rd (low_part value) h h (low_immediate value)) between own shared,
            next-pc between rd loaded,
            next-twice registers rd one low h size ∙ ap (λ v. with_pc (with_register registers rd v) (sum registers.pc 8)) (parts value k),
          ),
        )

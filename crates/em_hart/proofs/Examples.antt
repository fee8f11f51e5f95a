-- Worked examples of the definition: words encoded by hand from the manual's formats, and what they come to.
use Rattle.std.proofs.Common.{◌≡◌, ℕ, [], ◌∷◌, replicate, refl}
use Rattle.std.specs.Prelude.{Some}
use Rattle.em_hart.specs.declared.answers.Class.TheVariants.{Plain, Memory as MemoryClass}
use Rattle.em_hart.specs.Hart.{Registers, Memory}
use Rattle.em_hart.specs.InstructionTable.{mnemonic, instruction_table, first_row}
use Rattle.em_hart.specs.Effect.{effect}
use Rattle.em_hart.specs.Instruction.{Ran, Call, Fault, exec, mnemonic_outcome, effect_outcome, written_value, mnemonic_value, value_of}

at : ℕ → ℕ → ℕ → Registers
at x1 x2 pc = record { values = 0 ∷ x1 ∷ x2 ∷ replicate 29 0; pc = pc }

own : Memory
own = record { base = 0x10000000; bytes = 1 ∷ 2 ∷ 3 ∷ 0x84 ∷ [] }

shared : Memory
shared = record { base = 0x20000000; bytes = [] }

-- add x1, x1, x2
adds : exec (at 7 0xffffffff 0) own shared (0x002080b3 ∷ []) ≡ Ran Plain (at 6 0xffffffff 4) own shared
unfolding exec mnemonic_outcome effect_outcome mnemonic instruction_table first_row effect at
adds = refl

-- ecall
requests : exec (at 7 9 4) own shared (0 ∷ 0x00000073 ∷ []) ≡ Call
unfolding exec mnemonic_outcome effect_outcome mnemonic instruction_table first_row effect at
requests = refl

-- sltiu x1, x2, -1
below_all : written_value 0xfff13093 0 5 0 ≡ Some 1
unfolding written_value mnemonic_value value_of mnemonic instruction_table first_row effect
below_all = refl

-- srai x1, x2, 31
all_signs : written_value 0x41f15093 0 0x80000000 0 ≡ Some 0xffffffff
unfolding written_value mnemonic_value value_of mnemonic instruction_table first_row effect
all_signs = refl

-- lb x1, 3(x2)
sign_of_byte : exec (at 7 0x10000000 0) own shared (0x00310083 ∷ []) ≡ Ran MemoryClass (at 0xffffff84 0x10000000 4) own shared
unfolding exec mnemonic_outcome effect_outcome mnemonic instruction_table first_row effect at own shared
sign_of_byte = refl

-- sh x1, 2(x2)
puts_half : exec (at 0xabcd1234 0x10000000 0) own shared (0x00111123 ∷ [])
    ≡ Ran MemoryClass (at 0xabcd1234 0x10000000 4) (record { base = 0x10000000; bytes = 1 ∷ 2 ∷ 0x34 ∷ 0x12 ∷ [] }) shared
unfolding exec mnemonic_outcome effect_outcome mnemonic instruction_table first_row effect at own shared
puts_half = refl

-- lw x1, 1(x2), and lw x1, 4(x2)
misaligned : exec (at 7 0x10000000 0) own shared (0x00112083 ∷ []) ≡ Fault 4
unfolding exec mnemonic_outcome effect_outcome mnemonic instruction_table first_row effect at own shared
misaligned = refl

past_end : exec (at 7 0x10000000 0) own shared (0x00412083 ∷ []) ≡ Fault 5
unfolding exec mnemonic_outcome effect_outcome mnemonic instruction_table first_row effect at own shared
past_end = refl

-- beq x1, x1, -4 at 4; jalr x1, 3(x2); jal x0, 2
back : exec (at 7 0 4) own shared (0 ∷ 0xfe108ee3 ∷ []) ≡ Ran Plain (at 7 0 0) own shared
unfolding exec mnemonic_outcome effect_outcome mnemonic instruction_table first_row effect at own shared
back = refl

even_target : exec (at 7 1 0) own shared (0x003100e7 ∷ []) ≡ Ran Plain (at 4 1 4) own shared
unfolding exec mnemonic_outcome effect_outcome mnemonic instruction_table first_row effect at own shared
even_target = refl

half_way : exec (at 7 1 0) own shared (0x0020006f ∷ []) ≡ Fault 1
unfolding exec mnemonic_outcome effect_outcome mnemonic instruction_table first_row effect at own shared
half_way = refl

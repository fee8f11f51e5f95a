-- What the two instructions do that load a number.
use Rattle.std.proofs.Common.{◌≡◌, ℕ, ◌*◌, ◌^◌, ◌<◌, ℤ, pos, negsuc, false, refl, ap, ◌∙◌}
use Rattle.em_isa.specs.declared.instructions.Instr.TheVariants.{Lui, OpImm}
use Rattle.em_isa.specs.Encoding.{Fits, twos_complement, word_of}
use Rattle.em_hart.specs.declared.answers.Class.TheVariants.{Plain}
use Rattle.em_hart.specs.Decoded.{operation_value, modulo}
use Rattle.em_hart.specs.Effect.{sum}
use Rattle.em_hart.specs.Hart.{Memory, Registers, register, with_register}
use Rattle.em_hart.specs.Instruction.{Ran, effect_outcome, next_registers, word_outcome}
use Rattle.em_hart.proofs.OutcomeOfWord.{outcome_of_word}

-- lui puts its immediate, shifted left by 12, into its destination
pub upper : (rd imm : ℕ) → rd < 32 → imm < 2 ^ 20 → (registers : Registers) (own shared : Memory)
    → word_outcome (word_of (Lui rd imm)) registers own shared ≡ Ran Plain (next_registers (with_register registers rd (imm * 2 ^ 12))) own shared
unfolding effect_outcome
upper rd imm h k registers own shared = outcome_of_word (Lui rd imm) (h, k) (word_of (Lui rd imm)) refl registers own shared

modulo_is : (imm : ℤ) → modulo imm ≡ twos_complement 32 imm
modulo_is (pos n) = refl
modulo_is (negsuc n) = refl

-- addi puts the sum of a register and its immediate into its destination
pub addition : (rd rs1 : ℕ) (imm : ℤ) → Fits (OpImm 0 false rd rs1 imm) → (registers : Registers) (own shared : Memory)
    → word_outcome (word_of (OpImm 0 false rd rs1 imm)) registers own shared
    ≡ Ran Plain (next_registers (with_register registers rd (sum (register registers rs1) (twos_complement 32 imm)))) own shared
unfolding effect_outcome operation_value
addition rd rs1 imm fits registers own shared =
    outcome_of_word (OpImm 0 false rd rs1 imm) fits (word_of (OpImm 0 false rd rs1 imm)) refl registers own shared
    ∙ ap (λ (x : ℕ). Ran Plain (next_registers (with_register registers rd (sum (register registers rs1) x))) own shared) (modulo_is imm)

-- A statement with too few or too many operands.
use Rattle.std.proofs.Common.{◌≡◌, ℕ, List, [], ◌∷◌, length, map, Err, refl, arith}
use Rattle.std.proofs.lemmas.List.{length-map}
use denote.Ref.{Bor}
use Rattle.em_asm_read.specs.declared.faults.Fault.TheVariants.{Operands}
use Rattle.em_asm_read.specs.declared.faults.LineFail.{LineFail}
use Rattle.em_asm_read.specs.declared.faults.LineFail.TheVariants.{Code}
use Rattle.em_asm_read.specs.Faults.{FailsAs}
use Rattle.em_asm_read.specs.Statements.{plain_jump}

not_one : (operands : List (List ℕ)) → (length operands ≡ 1 → ⊥) → plain_jump operands ≡ Err Operands
not_one [] other = refl
not_one (one ∷ []) other = absurd (other refl)
not_one (one ∷ two ∷ more) other = refl

-- a jump has one operand
pub no_target : (operands : List (Bor (List ℕ))) (fail : LineFail) → (length operands ≡ 1 → ⊥) → fail ≡ Code 2 → FailsAs (plain_jump (map (λ text. text.now) operands)) fail
no_target operands fail other e =
    let count : length (map (λ (text : Bor (List ℕ)). text.now) operands) ≡ 1 → ⊥ = λ k. other (omega (arith, length-map operands (λ (text : Bor (List ℕ)). text.now), k)) in
    rw e (Operands, not_one (map (λ (text : Bor (List ℕ)). text.now) operands) count, refl)

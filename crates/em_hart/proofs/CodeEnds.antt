-- Whether the program counter is inside the code.
use Rattle.std.proofs.Common.{◌≡◌, ℕ, ◌*◌, ◌/◌, ◌%◌, ◌<◌, ◌≤◌, ◌⊎◌, false, List, length, get_or, sym, ap, ◌∙◌, inl, inr, arith}
use Rattle.std.specs.Prelude.{Option, None}
use Rattle.std.proofs.lemmas.Bool.{cond-true, cond-false, eq-eqb, ne_eqb, lt-ltb, le-ltb, and_from, and_left, and_right}
use Rattle.em_hart.specs.Hart.{Registers, Memory}
use Rattle.em_hart.specs.InstructionTable.{Mnemonic, mnemonic}
use Rattle.em_hart.specs.Instruction.{Fault, exec, mnemonic_outcome, is_inside_code, outside_code, no_instruction}

-- what the code tests tells whether the address is inside
outside : (code : List ℕ) (p : ℕ) → (p % 4 ≡ 0 → ⊥) ⊎ ((p % 4 ≡ 0) × (length code ≤ p / 4)) → is_inside_code code p ≡ false
outside code p (inl h) = and_left _ _ (ne_eqb (p % 4) 0 h)
outside code p (inr h) = and_right _ _ (le-ltb p (4 * length code) (omega arith))

-- outside the code an instruction faults
pub exec_outside : (r : Registers) (o m : Memory) (code : List ℕ) (p : ℕ) → p ≡ r.pc → (p % 4 ≡ 0 → ⊥) ⊎ ((p % 4 ≡ 0) × (length code ≤ p / 4))
    → exec r o m code ≡ Fault outside_code
unfolding exec
exec_outside r o m code p e h = cond-false _ _ _ (ap (is_inside_code code) (sym e) ∙ outside code p h)

-- inside the code the outcome is that of the word there
pub exec_inside : (r : Registers) (o m : Memory) (code : List ℕ) (p : ℕ) → p ≡ r.pc → p % 4 ≡ 0 → p / 4 < length code
    → exec r o m code ≡ mnemonic_outcome (mnemonic (get_or code (p / 4) 0)) (get_or code (p / 4) 0) r o m
unfolding exec
exec_inside r o m code p e h l =
    cond-true _ _ _ (ap (is_inside_code code) (sym e) ∙ and_from _ _ (eq-eqb (p % 4) 0 h) (lt-ltb p (4 * length code) (omega arith)))
    ∙ ap (λ (x : ℕ). mnemonic_outcome (mnemonic (get_or code (x / 4) 0)) (get_or code (x / 4) 0) r o m) (sym e)

-- a word of no mnemonic faults
pub no_mnemonic_faults : (w : ℕ) (r : Registers) (o m : Memory) (name : Option Mnemonic) → name ≡ None → mnemonic_outcome name w r o m ≡ Fault no_instruction
unfolding mnemonic_outcome
no_mnemonic_faults w r o m name e = ap (λ (x : Option Mnemonic). mnemonic_outcome x w r o m) e

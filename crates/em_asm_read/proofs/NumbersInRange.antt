-- A number in a range.
use mathlib.Core.Bool.{◌&&◌}
use Rattle.std.proofs.Common.{◌≡◌, ℤ, Bool, true, false, List, ℕ, Option, Some, None, Result, Ok, Err, refl, sym, ap, subst, ◌∙◌, arith, if◌then◌else◌}
use Rattle.std.proofs.lemmas.Int.{ints}
use Rattle.std.specs.Int.{w128}
use Rattle.std.specs.Prelude.{FitsSigned, T, int_le, ◌≤ℤ◌}
use Rattle.em_base.specs.Number.{IsNumber, written_number}
use Rattle.em_base.proofs.Trimming.{both}
use Rattle.em_base.proofs.WrittenNumbers.{number_found, number_tells}
use Rattle.em_asm_read.specs.declared.faults.Fault.{Fault}
use Rattle.em_asm_read.specs.declared.faults.Fault.TheVariants.{Number}
use Rattle.em_asm_read.specs.Faults.{found_or, then_read}
use Rattle.em_asm_read.specs.Operands.{in_range, ranged_number}

-- ---- a number in a range

-- what is in range fits the limits' type
fits_between : (low high z : ℤ) → FitsSigned w128 low → FitsSigned w128 high → (int_le low z && int_le z high) ≡ true → FitsSigned w128 z
fits_between low high z l h e =
    let b = both (int_le low z) (int_le z high) e in
    let least : low ≤ℤ z = record { le = subst T (sym b.0) tt } in
    let most : z ≤ℤ high = record { le = subst T (sym b.1) tt } in
    omega (arith, ints)

pub read_some : (text : List ℕ) (low high z : ℤ) (r : Result ℤ Fault) → IsNumber text z → r ≡ in_range low high z → r ≡ ranged_number low high text
read_some text low high z r n e = e ∙ sym (ap (λ o. then_read (found_or Number o) (in_range low high)) (number_found text z n))

pub read_none : (text : List ℕ) (low high : ℤ) → FitsSigned w128 low → FitsSigned w128 high
    → ((z : ℤ) → IsNumber text z → FitsSigned w128 z → None ≡ Some z) → Err Number ≡ ranged_number low high text
read_none text low high l h none = by_number (written_number text) refl
  where
    out : (z : ℤ) → written_number text ≡ Some z → (b : Bool) → (int_le low z && int_le z high) ≡ b → Err Number ≡ (if b then Ok z else Err Number)
    out z e false t = refl
    out z e true t = absurd (cc (none z (number_tells text z e) (fits_between low high z l h t)))

    by_number : (o : Option ℤ) → written_number text ≡ o → Err Number ≡ then_read (found_or Number o) (in_range low high)
    by_number None e = refl
    by_number (Some z) e = out z e (int_le low z && int_le z high) refl

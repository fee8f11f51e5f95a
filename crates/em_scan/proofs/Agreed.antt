-- What is known of registers stays right when one is written.
use Rattle.std.proofs.Common.{◌≡◌, ◌≢◌, ◌⊎◌, ◌∙◌, ◌<◌, ◌==◌, ℕ, zero, suc, false, if◌then◌else◌, length, slice_index_or, slice_set, Option, Some, None, sym, ap, subst, inl, inr, arith}
use Rattle.std.specs.Prelude.{slice_index}
use Rattle.std.proofs.lemmas.Bool.{cases_eq}
use Rattle.std.proofs.lemmas.Bool.Decides.{nat_tests}
use Rattle.std.proofs.lemmas.List.{get_or-set_other, get_or-set_same, length-set}
use Rattle.em_hart.specs.Hart.{Registers, register, with_register}
use Rattle.em_scan.specs.Known.{Known, known_of, with_known}

-- what is known of registers is so, and there are 32 of them
pub record Agrees (known : Known) (registers : Registers) : Type 0 where
  pub each : (r v : ℕ) → known_of known r ≡ Some v → register registers r ≡ v
  pub count : length registers.values ≡ 32
  pub kept : length known ≡ 32

some_is : (a b : ℕ) → Some a ≡ Some b → a ≡ b
some_is a b e = cc

-- ---- registers but x0

not_zero : (n : ℕ) → (suc n == 0) ≡ false
not_zero n = grind (arith, nat_tests)

register_is : (registers : Registers) (q : ℕ) → register registers (suc q) ≡ slice_index registers.values (suc q)
register_is registers q = ap (λ b. if b then 0 else slice_index registers.values (suc q)) (not_zero q)

pub with_register_is : (registers : Registers) (d v : ℕ) → with_register registers (suc d) v ≡ record registers { values = slice_set registers.values (suc d) v }
with_register_is registers d v = ap (λ b. if b then registers else record registers { values = slice_set registers.values (suc d) v }) (not_zero d)

pub known_is : (known : Known) (q : ℕ) → known_of known (suc q) ≡ slice_index_or known (suc q) None
known_is known q = ap (λ b. if b then Some 0 else slice_index_or known (suc q) None) (not_zero q)

with_known_is : (known : Known) (d : ℕ) (value : Option ℕ) → with_known known (suc d) value ≡ slice_set known (suc d) value
with_known_is known d value = ap (λ b. if b then known else slice_set known (suc d) value) (not_zero d)

-- ---- a write

set_agrees : (known : Known) (registers : Registers) (d v : ℕ) (value : Option ℕ) → suc d < 32 → Agrees known registers
    → ((w : ℕ) → value ≡ Some w → w ≡ v) → Agrees (slice_set known (suc d) value) (record registers { values = slice_set registers.values (suc d) v })
set_agrees known registers d v value small agrees is = record {
  each = each;
  count = length-set registers.values (suc d) v ∙ agrees.count;
  kept = length-set known (suc d) value ∙ agrees.kept;
}
  where
    after : Registers
    after = record registers { values = slice_set registers.values (suc d) v }

    own : suc d < length known
    own = omega (arith, small, agrees.kept)

    inside : suc d < length registers.values
    inside = omega (arith, small, agrees.count)

    by_place : (q w : ℕ) → (suc q ≡ suc d) ⊎ (suc q ≢ suc d) → slice_index_or (slice_set known (suc d) value) (suc q) None ≡ Some w
        → slice_index (slice_set registers.values (suc d) v) (suc q) ≡ w
    by_place q w (inl same) h =
        let found : value ≡ Some w = sym (get_or-set_same known (suc d) value None own) ∙ ap (λ n. slice_index_or (slice_set known (suc d) value) n None) (sym same) ∙ h in
        ap (λ n. slice_index (slice_set registers.values (suc d) v) n) same ∙ get_or-set_same registers.values (suc d) v 0 inside ∙ sym (is w found)
    by_place q w (inr other) h =
        get_or-set_other registers.values (suc d) (suc q) v 0 other
        ∙ sym (register_is registers q)
        ∙ agrees.each (suc q) w (known_is known q ∙ sym (get_or-set_other known (suc d) (suc q) value None other) ∙ h)

    each : (q w : ℕ) → known_of (slice_set known (suc d) value) q ≡ Some w → register after q ≡ w
    each zero w h = some_is 0 w h
    each (suc q) w h = register_is after q ∙ by_place q w (cases_eq (suc q) (suc d)) (sym (known_is (slice_set known (suc d) value) q) ∙ h)

-- after a register was written, whose value is known so or not known
pub agrees_written : (known : Known) (registers : Registers) (d v : ℕ) (value : Option ℕ) → d < 32 → Agrees known registers
    → ((w : ℕ) → value ≡ Some w → w ≡ v) → Agrees (with_known known d value) (with_register registers d v)
agrees_written known registers zero v value small agrees is = agrees
agrees_written known registers (suc d) v value small agrees is =
    subst (λ k. Agrees k (with_register registers (suc d) v)) (sym (with_known_is known d value))
    (subst (Agrees (slice_set known (suc d) value)) (sym (with_register_is registers d v)) (set_agrees known registers d v value small agrees is))

-- Sets of numbers below 32, as the bits of a number.
use Rattle.std.proofs.Common.{◌≡◌, ℕ, suc, ◌+◌, ◌*◌, ◌%◌, ◌^◌, ◌<◌, ◌≤◌, ◌||◌, ◌==◌, Bool, true, false, not, length, get_or, ap, refl, sym, zero, subst, inl, inr, ◌∙◌, arith, w32, bit_or}
use Rattle.std.specs.Int.{bit_at, trailing_zeros}
use Rattle.std.specs.List.{list_any, range_with_len}
use Rattle.std.proofs.lemmas.Bool.Decides.{eqb_tells}
use Rattle.std.proofs.Math.Dec.{eqb-suc-zero}
use Rattle.std.proofs.lemmas.Nat.{one_shl, or_lt}
use Rattle.std.proofs.Math.Pow.{pow-lt}
use Rattle.std.proofs.lemmas.List.Folds.{list_any_at}
use Rattle.std.proofs.lemmas.List.FromFn.{length-range_with_len, get_or-range_with_len}
use Rattle.std.proofs.lemmas.Nat.Bits.{bit_at-zero, bit_at_above, bit_at_set_same, bit_at_set_other, bit_at-trailing_zeros}
use Rattle.em_gate.specs.Calls.{has_bit}

-- no bit of 0 is set
pub no_bit : (j : ℕ) → has_bit 0 j ≡ false
no_bit j = ap (λ b. b == 1) (bit_at-zero j)

-- a number of 32 bits has none from bit 32 on
pub no_bit_above : (bits j : ℕ) → bits < 2 ^ 32 → 32 ≤ j → has_bit bits j ≡ false
no_bit_above bits j small above = ap (λ b. b == 1) (bit_at_above bits 32 j small above)

-- the bits with one more
pub bit_set : (bits i j : ℕ) → i < 32 → has_bit (bit_or bits (1 * 2 ^ i % 2 ^ 32)) j ≡ ((j == i) || has_bit bits j)
bit_set bits i j within = elim (eqb_tells j i) [
  | inl t ↦ (ap (λ b. b == 1) (ap (bit_at (bit_or bits (1 * 2 ^ i % 2 ^ 32))) t.1 ∙ bit_at_set_same w32 bits i within)) ∙ sym (ap (λ b. b || has_bit bits j) t.0)
  | inr t ↦ ap (λ b. b == 1) (bit_at_set_other w32 bits i within j t.1) ∙ sym (ap (λ b. b || has_bit bits j) t.0)
]

-- it has no more digits than before, and than the new bit needs
pub within_set : (bits i k : ℕ) → i < 32 → i < k → bits < 2 ^ k → bit_or bits (1 * 2 ^ i % 2 ^ 32) < 2 ^ k
within_set bits i k within below small = or_lt k bits (1 * 2 ^ i % 2 ^ 32) small (subst (λ n. n < 2 ^ k) (sym (one_shl i 32 within)) (pow-lt below))

-- a test that some number below n passes
any_below : (test : ℕ → Bool) (n i : ℕ) → i < n → test i ≡ true → list_any test (range_with_len 0 n) ≡ true
any_below test n i within passes =
    let short : i < length (range_with_len 0 n) = subst (λ m. i < m) (sym (length-range_with_len 0 n)) within in
    let there : get_or (range_with_len 0 n) i 0 ≡ 0 + i = get_or-range_with_len 0 n i 0 within in
    let same : 0 + i ≡ i = omega arith in
    list_any_at test (range_with_len 0 n) i 0 short (ap test (there ∙ same) ∙ passes)

-- a number of 32 bits has one exactly where it isn't 0
pub some_bit : (bits : ℕ) → bits < 2 ^ 32 → not (bits == 0) ≡ list_any (has_bit bits) (range_with_len 0 32)
some_bit zero small = refl
some_bit (suc n) small =
    let lowest = bit_at-trailing_zeros w32 (suc n) (omega arith) small in
    ap not (eqb-suc-zero n) ∙ sym (any_below (has_bit (suc n)) 32 (trailing_zeros w32 (suc n)) lowest.0 (ap (λ b. b == 1) lowest.1))

-- Numbers and their two's complements.
use Rattle.std.proofs.Common.{◌≡◌, ℕ, zero, suc, ◌+◌, ◌-◌, ◌*◌, ◌%◌, ◌^◌, ◌<◌, ◌≤◌, bit_and, ◌∙◌, ap, arith, w32, lit<}
use Rattle.std.specs.Prelude.{ℤ, pos, negsuc, FitsSigned}
use Rattle.std.proofs.lemmas.Int.{ints, to_z_pos, to_z-of_z}
use Rattle.std.proofs.lemmas.Nat.{one_shl, mod-mul-add, pow-add, pow_pos}
use Rattle.std.proofs.Math.Nat.{pow-le-pow_right, pow-suc, mod-eq_of_lt}
use lib.IntN.{◌-ℤ◌}
use mir.Val.{to_z, of_z}
use Rattle.em_isa.specs.Encoding.{IsWithin, twos_complement}
use Rattle.em_isa.proofs.Joined.{masked}

-- a power of two at a width below 31
pub power_small : (width : ℕ) → width < 31 → 2 ^ width ≤ 1073741824
power_small width h = pow-le-pow_right {n = 2} (lit< tt) {i = width} {j = 30} (omega arith)

fits_small :
    (field power : ℕ) → field < power → power ≤ 1073741824 → FitsSigned w32 (to_z w32 field -ℤ to_z w32 power)
fits_small field power h p =
    rw (to_z_pos w32 field (omega arith), to_z_pos w32 power (omega arith)) (search (arith, ints))

pub difference_fits :
    (field width : ℕ) → field < 2 ^ width → width < 31 →
    FitsSigned w32 (to_z w32 field -ℤ to_z w32 (1 * 2 ^ width % 4294967296))
difference_fits field width h w =
    rw (one_shl width 32 (omega arith)) (fits_small field (2 ^ width) h (power_small width w))

twice : (width : ℕ) → 0 < width → 2 ^ width ≡ 2 * 2 ^ (width - 1)
twice zero h = absurd (omega arith)
twice (suc k) h = grind (arith, pow-suc)

-- what is below a multiple of p by less than p
below_multiple : (q p n : ℕ) → 0 < q → n < p → (q * p - suc n) % p ≡ p - suc n
below_multiple zero p n h l = absurd (omega arith)
below_multiple (suc q) p n h l =
    let e : suc q * p - suc n ≡ q * p + (p - suc n) = grind arith in
    rw e (mod-mul-add q p (p - suc n) (omega arith))

-- the lowest bits of a number's 32
low_bits :
    (z : ℤ) (width : ℕ) → 0 < width → width < 32 → IsWithin (2 ^ (width - 1)) z →
    of_z w32 z % 2 ^ width ≡ twos_complement width z
low_bits (pos n) width h w l = mod-eq_of_lt (omega (arith, twice width h))
low_bits (negsuc n) width h w l =
    let e : 2 ^ 32 ≡ 2 ^ (32 - width) * 2 ^ width = ap (λ k. 2 ^ k) {x = 32} {y = 32 - width + width} (omega arith) ∙ pow-add 2 (32 - width) width in
    ap (λ p. (p - suc n) % 2 ^ width) e ∙ below_multiple (2 ^ (32 - width)) (2 ^ width) n (pow_pos (32 - width)) (omega (arith, twice width h))

pub masked_bits :
    (z : ℤ) (width word : ℕ) → 0 < width → width < 32 → IsWithin (2 ^ (width - 1)) z → FitsSigned w32 z →
    word ≡ of_z w32 (to_z w32 (of_z w32 z)) → bit_and word (1 * 2 ^ width % 4294967296 - 1) ≡ twos_complement width z
masked_bits z width word h w l f e =
    masked word width w ∙ ap (λ n. n % 2 ^ width) (e ∙ ap (of_z w32) (to_z-of_z w32 z f)) ∙ low_bits z width h w l

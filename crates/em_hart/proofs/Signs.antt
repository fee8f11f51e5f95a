-- Signed and unsigned tests, masks and shifts as the language has them.
use Rattle.std.proofs.Common.{◌≡◌, ℕ, ◌+◌, ◌*◌, ◌/◌, ◌%◌, ◌^◌, ◌<◌, not, nat_lt, nat_le, bit_and, ℤ, pos, negsuc, refl, ap, ◌∙◌, arith}
use Rattle.std.specs.Prelude.{int_lt, int_le, FitsSigned}
use Rattle.std.specs.Int.{w32, cast_signed, cast_unsigned, int_shr, int_div_euclid}
use Rattle.em_hart.specs.Effect.{sum, amount, shifted_right_signed}
use Rattle.em_hart.specs.Decoded.{modulo}
use Rattle.std.proofs.lemmas.Int.{of_z-to_z, to_z-of_z}
use Rattle.std.specs.Int.Signed.{mag_shr}
use Rattle.std.proofs.lemmas.Nat.{and_mask}
use Rattle.std.proofs.lemmas.Nat.Bits.{and_high_mask}
use Rattle.std.proofs.lemmas.Bool.Decides.{nat_tests}

-- a number read as signed is one of the signed type
pub signed_twice : (a : ℕ) → a < 2 ^ 32 → cast_signed w32 (cast_unsigned w32 (cast_signed w32 a)) ≡ cast_signed w32 a
signed_twice a h = ap (cast_signed w32) (of_z-to_z w32 a h)

-- not below is at least
pub not_below : (a b : ℕ) → not (nat_lt a b) ≡ nat_le b a
not_below a b = grind (arith, nat_tests)

-- the same of signed numbers
pub not_below_signed : (x y : ℤ) → not (int_lt x y) ≡ int_le y x
not_below_signed (pos a) (pos b) = not_below a b
not_below_signed (pos a) (negsuc b) = refl
not_below_signed (negsuc a) (pos b) = refl
not_below_signed (negsuc a) (negsuc b) = not_below b a

-- the low five bits
pub low_five : (b : ℕ) → bit_and b 31 ≡ b % 32
low_five b = and_mask b 5

-- bit 0 cleared
pub bit_cleared : (a : ℕ) → a < 2 ^ 32 → bit_and a 4294967294 ≡ a / 2 * 2
bit_cleared a h = and_high_mask 32 1 (omega arith) a h

-- a shift to the right that copies the sign is the quotient rounded down
pub shifted_as_quotient : (x : ℤ) (n : ℕ) → int_shr x n ≡ int_div_euclid x (pos (2 ^ n))
shifted_as_quotient (pos a) n = refl
shifted_as_quotient (negsuc a) n = refl

-- a signed number's bits, as the language passes them on
pub same_bits : (z : ℤ) (x : ℕ) → FitsSigned w32 z → x ≡ cast_unsigned w32 (cast_signed w32 (cast_unsigned w32 z)) → x ≡ modulo z
same_bits z x f h = h ∙ ap (cast_unsigned w32) (to_z-of_z w32 z f)

-- a signed number added to an address, as the language adds its bits
pub moved : (p q x : ℕ) (z : ℤ) → FitsSigned w32 z → p ≡ q → x ≡ cast_unsigned w32 (cast_signed w32 (cast_unsigned w32 z)) → (p + x) % 2 ^ 32 ≡ sum q (modulo z)
moved p q x z f e h =
    ap (λ (k : ℕ). (k + x) % 2 ^ 32) e ∙ ap (λ (k : ℕ). (q + k) % 2 ^ 32) (same_bits z x f h)

-- a signed shift to the right by the low five bits, as the language passes signed numbers on
pub signed_shift : (a b x : ℕ) (s : ℤ) → FitsSigned w32 s → s ≡ cast_signed w32 a
    → x ≡ cast_unsigned w32 (cast_signed w32 (cast_unsigned w32 (int_shr (cast_signed w32 (cast_unsigned w32 s)) (bit_and b 31))))
    → x ≡ shifted_right_signed a (amount b)
signed_shift a b x s f e h =
    let n = bit_and b 31 in
    let fits : FitsSigned w32 (int_shr s n) = record { sfits = omega (arith, mag_shr s (2 ^ n), f.sfits) } in
    h
    ∙ ap (λ (z : ℤ). cast_unsigned w32 (cast_signed w32 (cast_unsigned w32 (int_shr z n)))) (to_z-of_z w32 s f)
    ∙ ap (cast_unsigned w32) (to_z-of_z w32 (int_shr s n) fits)
    ∙ ap (cast_unsigned w32) (shifted_as_quotient s n)
    ∙ ap (λ (z : ℤ). cast_unsigned w32 (int_div_euclid z (pos (2 ^ n)))) e
    ∙ ap (λ (k : ℕ). shifted_right_signed a k) (low_five b)

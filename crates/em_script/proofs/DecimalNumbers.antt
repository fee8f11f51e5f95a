-- The number of decimal digits within a limit, as the definition finds it.
use mathlib.Core.Bool.{◌&&◌}
use Rattle.std.proofs.Common.{◌≡◌, ℕ, ◌<◌, ◌≤◌, ◌^◌, Bool, true, false, nat_lt, List, [], ◌∷◌, length, Some, None}
use Rattle.std.proofs.Common.{refl, sym, ap, ◌∙◌, arith, if◌then◌else◌}
use Rattle.std.proofs.lemmas.Bool.Decides.{nat_tests}
use Rattle.std.proofs.lemmas.Fmt.{IsAscii-from_digits}
use Rattle.std.proofs.lemmas.Str.{IsUtf8-from_ascii}
use Rattle.std.specs.Char.{digit_value, is_digit}
use Rattle.std.specs.List.{list_all}
use Rattle.std.specs.Prelude.{nat_le}
use Rattle.std.specs.Str.{IsUtf8}
use Rattle.std.specs.Str.Parse.{AllDigits, IsNumeral, digits_value}
use Rattle.em_base.specs.Number.{numeral_of}
use Rattle.em_base.proofs.Trimming.{both, both_are}
use Rattle.em_script.specs.Lines.{at_most, decimal}

-- digits are text
pub utf8-digits : (text : List ℕ) → IsNumeral 10 text → IsUtf8 text
utf8-digits text h = IsUtf8-from_ascii text (IsAscii-from_digits text h.1)

-- ---- as a relation and as a function

abbrev are_digits : List ℕ → Bool
are_digits digits = list_all (λ c. is_digit c 10) digits

digits-pass : (digits : List ℕ) → AllDigits 10 digits → are_digits digits ≡ true
digits-pass [] h = refl
digits-pass (c ∷ cs) h =
    let first : is_digit c 10 ≡ true = grind (arith, nat_tests, h.0) in
    both_are (is_digit c 10) (are_digits cs) first (digits-pass cs h.1)

pass-digits : (digits : List ℕ) → are_digits digits ≡ true → AllDigits 10 digits
pass-digits [] h = tt
pass-digits (c ∷ cs) h =
    let b = both (is_digit c 10) (are_digits cs) h in
    let first : digit_value c < 10 = grind (arith, nat_tests, b.0) in
    (first, pass-digits cs b.1)

numeral-found : (digits : List ℕ) → IsNumeral 10 digits → numeral_of 10 digits ≡ Some (digits_value 10 digits)
numeral-found digits h =
    let some : nat_lt 0 (length digits) ≡ true = grind (arith, nat_tests, h.0) in
    ap (λ b. if b then Some (digits_value 10 digits) else None) (both_are (nat_lt 0 (length digits)) (are_digits digits) some (digits-pass digits h.1))

numeral-tells : (digits : List ℕ) → (nat_lt 0 (length digits) && are_digits digits) ≡ true → IsNumeral 10 digits
numeral-tells digits e =
    let b = both (nat_lt 0 (length digits)) (are_digits digits) e in
    let some : 0 < length digits = grind (arith, nat_tests, b.0) in
    (some, pass-digits digits b.1)

-- ---- at most so great

-- digits of a number within the limit
pub decimal-some : (high n : ℕ) (text : List ℕ) → IsNumeral 10 text → digits_value 10 text ≡ n → n ≤ high → Some n ≡ decimal high text
decimal-some high n text h e small =
    let low : nat_le n high ≡ true = grind (arith, nat_tests) in
    sym (ap (at_most high) (numeral-found text h) ∙ ap (λ k. at_most high (Some k)) e ∙ ap (λ b. if b then Some n else None) low)

-- a text that is no number of 32 bits
pub decimal-none : (high : ℕ) (text : List ℕ) → high < 2 ^ 32 → (IsNumeral 10 text × (digits_value 10 text < 2 ^ 32) → ⊥) → None ≡ decimal high text
decimal-none high text fits none = by_digits (nat_lt 0 (length text) && are_digits text) refl
  where
    n : ℕ
    n = digits_value 10 text

    by_size : IsNumeral 10 text → (b : Bool) → nat_le n high ≡ b → None ≡ (if b then Some n else None)
    by_size h false e = refl
    by_size h true e =
        let low : n ≤ high = grind (arith, nat_tests) in
        absurd (none (h, omega arith))

    by_digits : (b : Bool) → (nat_lt 0 (length text) && are_digits text) ≡ b → None ≡ at_most high (if b then Some n else None)
    by_digits false e = refl
    by_digits true e = by_size (numeral-tells text e) (nat_le n high) refl

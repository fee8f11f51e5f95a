-- The number that a word spells is the one of which the word is the decimal text.
use mathlib.Core.Bool.{◌&&◌}
use Rattle.std.proofs.Common.{◌≡◌, ℕ, zero, suc, ◌<◌, ◌^◌, Bool, true, false, nat_lt, List, length, get_or, Option, Some, None, Result, Ok, Err, refl, sym, ap, subst, ◌∙◌, arith, if◌then◌else◌}
use Rattle.std.proofs.lemmas.Bool.Decides.{nat_tests}
use Rattle.std.proofs.lemmas.Fmt.{decimal-digits_value, decimal_digit, decimal_is_IsNumeral, first_decimal}
use Rattle.std.proofs.lemmas.Slice.Eq.{bytes_eq-Decides}
use Rattle.std.proofs.lemmas.Str.Parse.{numerals_by_value, tells_digits}
use Rattle.std.specs.Fmt.{decimal}
use Rattle.std.specs.Result.{OkIff, result_ok}
use Rattle.std.specs.Str.{bytes_eq}
use Rattle.std.specs.Str.Parse.{AllDigits, IsNumeral, digits_value}
use Rattle.em_base.proofs.Trimming.{both, both_are}
use Rattle.em_trace.specs.Words.{count_of}

chosen : (b : Bool) (m n : ℕ) → (if b then Some m else None) ≡ Some n → (b ≡ true) × (m ≡ n)
chosen true m n e = (refl, cc)
chosen false m n e = absurd (cc)

-- the number that is found is spelled by the word
pub count-tells : (text : List ℕ) (n : ℕ) → count_of text ≡ Some n → (decimal n ≡ text) × (n < 2 ^ 64)
unfolding count_of
count-tells text n e =
    let v = digits_value 10 text in
    let c = chosen (nat_lt v (2 ^ 64) && bytes_eq (decimal v) text) v n e in
    let b = both (nat_lt v (2 ^ 64)) (bytes_eq (decimal v) text) c.0 in
    let small : v < 2 ^ 64 = grind (arith, nat_tests, b.0) in
    let spelled : decimal v ≡ text = (bytes_eq-Decides (decimal v) text).0 b.1 in
    (subst (λ m. decimal m ≡ text) c.1 spelled, subst (λ m. m < 2 ^ 64) c.1 small)

-- a number is found again
pub count-finds : (n : ℕ) → n < 2 ^ 64 → count_of (decimal n) ≡ Some n
unfolding count_of
count-finds n h =
    let v = digits_value 10 (decimal n) in
    let same : v ≡ n = (decimal_is_IsNumeral n h).1 in
    let small : nat_lt v (2 ^ 64) ≡ true = grind (arith, nat_tests, same) in
    let spelled = (bytes_eq-Decides (decimal v) (decimal n)).1 (ap decimal same) in
    ap (λ b. if b then Some v else None) (both_are (nat_lt v (2 ^ 64)) (bytes_eq (decimal v) (decimal n)) small spelled) ∙ ap Some same

-- the number whose text the word is, is found
pub count-some : (text : List ℕ) (n : ℕ) → n < 2 ^ 64 → decimal n ≡ text → count_of text ≡ Some n
count-some text n h e = subst (λ t. count_of t ≡ Some n) e (count-finds n h)

-- where a word is the text of no number, none is found
pub count-none : (text : List ℕ) → ((n : ℕ) → n < 2 ^ 64 → decimal n ≡ text → ⊥) → count_of text ≡ None
count-none text none = by_option (count_of text) refl
  where
    by_option : (o : Option ℕ) → count_of text ≡ o → o ≡ None
    by_option None e = refl
    by_option (Some n) e =
        let t = count-tells text n e in
        absurd (none n t.1 t.0)

-- the text of a number has no zero in front
pub no_zero : (text : List ℕ) (n : ℕ) → 1 < length text → get_or text 0 0 ≡ 48 → n < 2 ^ 64 → decimal n ≡ text → ⊥
no_zero text zero long first h e =
    let one : length text ≡ 1 = ap length (sym e ∙ decimal_digit 0 (omega arith)) in
    omega arith
no_zero text (suc n) long first h e =
    let above : 48 < get_or (decimal (suc n)) 0 0 = first_decimal (suc n) (omega arith) h in
    omega (arith, ap (λ t. get_or t 0 0) e)

-- digits that are no number are the text of none
pub no_numeral : (text : List ℕ) (n : ℕ) → (IsNumeral 10 text × (digits_value 10 text < 2 ^ 128) → ⊥) → n < 2 ^ 64 → decimal n ≡ text → ⊥
no_numeral text n none h e =
    let d = subst (λ t. IsNumeral 10 t × (digits_value 10 t ≡ n)) e (decimal_is_IsNumeral n h) in
    none (d.0, omega (arith, d.1))

-- digits without a zero in front, read as a number of 64 bits
pub count-digits : {E : Type 0} (text : List ℕ) (v : ℕ) (r : Result ℕ E) → IsNumeral 10 text → v ≡ digits_value 10 text → (get_or text 0 0 ≡ 48 → length text ≡ 1)
    → OkIff r (v < 2 ^ 64) v → result_ok r ≡ count_of text
count-digits text v (Ok n) digits e first fits =
    let small : digits_value 10 text < 2 ^ 64 = omega (arith, fits.0, e) in
    let spelled = decimal-digits_value (numerals_by_value (AllDigits 10) tells_digits) text digits.1 digits.0 first small in
    sym (count-some text (digits_value 10 text) small spelled ∙ ap Some (sym (fits.1 ∙ e)))
count-digits text v (Err error) digits e first fits =
    sym (count-none text (λ n small spelled. fits (omega (arith, e, (subst (λ t. digits_value 10 t ≡ n) spelled (decimal_is_IsNumeral n small).1), small))))

-- The number that a text writes is the one that the function finds.
use mathlib.Core.Bool.{◌&&◌}
use Rattle.std.proofs.Common.{◌≡◌, ℕ, ◌<◌, ℤ, pos, neg_ℤ, Bool, true, false, nat_eq, nat_lt, List, [], ◌∷◌, ◌++◌, length, drop, get_or, Option, Some, None, inl, inr, refl, sym, ap, subst, ◌∙◌, arith, codes, if◌then◌else◌}
use Rattle.std.proofs.lemmas.Bool.Decides.{nat_tests}
use Rattle.std.specs.Char.{digit_value, is_digit}
use Rattle.std.specs.List.{list_all, starts_with}
use Rattle.std.specs.Option.{option_map}
use Rattle.std.specs.Str.Parse.{AllDigits, IsNumeral, digits_value}
use Rattle.em_base.specs.Number.{IsMagnitude, IsNumber, numeral_of, magnitude_of, written_number}
use Rattle.em_base.proofs.Trimming.{both, both_are}

-- ---- digits

digits_pass : (radix : ℕ) (ds : List ℕ) → AllDigits radix ds → list_all (λ c. is_digit c radix) ds ≡ true
digits_pass radix [] h = refl
digits_pass radix (c ∷ cs) h =
    let first : is_digit c radix ≡ true = grind (arith, nat_tests, h.0) in
    both_are (is_digit c radix) (list_all (λ d. is_digit d radix) cs) first (digits_pass radix cs h.1)

pass_digits : (radix : ℕ) (ds : List ℕ) → list_all (λ c. is_digit c radix) ds ≡ true → AllDigits radix ds
pass_digits radix [] h = tt
pass_digits radix (c ∷ cs) h =
    let b = both (is_digit c radix) (list_all (λ d. is_digit d radix) cs) h in
    let first : digit_value c < radix = grind (arith, nat_tests, b.0) in
    (first, pass_digits radix cs b.1)

chosen : (b : Bool) (m n : ℕ) → (if b then Some m else None) ≡ Some n → (b ≡ true) × (m ≡ n)
chosen true m n e = (refl, cc)
chosen false m n e = absurd (cc)

numeral_found : (radix : ℕ) (ds : List ℕ) (n : ℕ) → IsNumeral radix ds → digits_value radix ds ≡ n → numeral_of radix ds ≡ Some n
numeral_found radix ds n h e =
    let some : nat_lt 0 (length ds) ≡ true = grind (arith, nat_tests, h.0) in
    let passes = both_are (nat_lt 0 (length ds)) (list_all (λ c. is_digit c radix) ds) some (digits_pass radix ds h.1) in
    ap (λ b. if b then Some (digits_value radix ds) else None) passes ∙ ap Some e

numeral_tells : (radix : ℕ) (ds : List ℕ) (n : ℕ) → numeral_of radix ds ≡ Some n → IsNumeral radix ds × (digits_value radix ds ≡ n)
numeral_tells radix ds n e =
    let c = chosen (nat_lt 0 (length ds) && list_all (λ d. is_digit d radix) ds) (digits_value radix ds) n e in
    let b = both (nat_lt 0 (length ds)) (list_all (λ d. is_digit d radix) ds) c.0 in
    let some : 0 < length ds = grind (arith, nat_tests, b.0) in
    ((some, pass_digits radix ds b.1), c.1)

-- ---- fronts

is_same : (a b : ℕ) → nat_eq a b ≡ true → a ≡ b
is_same a b e = grind (arith, nat_tests)

-- a text begins with 0x, or it doesn't
hex_front : (text : List ℕ) → starts_with nat_eq text (codes "0x") ≡ true → text ≡ codes "0x" ++ drop 2 text
hex_front [] e = absurd (cc)
hex_front (a ∷ []) e =
    let h : false ≡ true = (both (nat_eq 48 a) false e).1 in
    absurd (cc)
hex_front (a ∷ b ∷ rest) e =
    let h = both (nat_eq 48 a) (nat_eq 120 b && true) e in
    let k = both (nat_eq 120 b) true h.1 in
    ap (λ x. x ∷ b ∷ rest) (sym (is_same 48 a h.0)) ∙ ap (λ x. 48 ∷ x ∷ rest) (sym (is_same 120 b k.0))

minus_front : (text : List ℕ) → starts_with nat_eq text (codes "-") ≡ true → text ≡ codes "-" ++ drop 1 text
minus_front [] e = absurd (cc)
minus_front (a ∷ rest) e =
    let h = both (nat_eq 45 a) true e in
    ap (λ x. x ∷ rest) (sym (is_same 45 a h.0))

no_hex_digits : (text : List ℕ) → AllDigits 10 text → starts_with nat_eq text (codes "0x") ≡ false
no_hex_digits text h = by_test (starts_with nat_eq text (codes "0x")) refl
  where
    by_test : (b : Bool) → starts_with nat_eq text (codes "0x") ≡ b → b ≡ false
    by_test false e = refl
    by_test true e =
        let k : AllDigits 10 (codes "0x" ++ drop 2 text) = subst (AllDigits 10) (hex_front text e) h in
        let second : digit_value 120 < 10 = k.1.0 in
        absurd (omega arith)

-- ---- magnitudes

magnitude_found : (text : List ℕ) (n : ℕ) → IsMagnitude text n → magnitude_of text ≡ Some n
magnitude_found text n (inl p) =
    ap (λ b. if b then numeral_of 16 (drop 2 text) else numeral_of 10 text) (no_hex_digits text p.0.1) ∙ numeral_found 10 text n p.0 p.1
magnitude_found text n (inr p) = ap magnitude_of p.1 ∙ numeral_found 16 p.0 n p.2 p.3

magnitude_tells : (text : List ℕ) (n : ℕ) → magnitude_of text ≡ Some n → IsMagnitude text n
magnitude_tells text n e = by_test (starts_with nat_eq text (codes "0x")) refl e
  where
    by_test : (b : Bool) → starts_with nat_eq text (codes "0x") ≡ b → (if b then numeral_of 16 (drop 2 text) else numeral_of 10 text) ≡ Some n → IsMagnitude text n
    by_test true t k = let f = numeral_tells 16 (drop 2 text) n k in inr (drop 2 text, hex_front text t, f.0, f.1)
    by_test false t k = let f = numeral_tells 10 text n k in inl (f.0, f.1)

-- ---- numbers

no_minus_digits : (text : List ℕ) (n : ℕ) → IsMagnitude text n → starts_with nat_eq text (codes "-") ≡ false
no_minus_digits text n h = by_test (starts_with nat_eq text (codes "-")) refl
  where
    by_case : text ≡ codes "-" ++ drop 1 text → IsMagnitude text n → ⊥
    by_case e (inl p) =
        let k : IsNumeral 10 (codes "-" ++ drop 1 text) = subst (IsNumeral 10) e p.0 in
        let first : digit_value 45 < 10 = k.1.0 in
        omega arith
    by_case e (inr p) =
        let minus : get_or text 0 0 ≡ 45 = ap (λ t. get_or t 0 0) e in
        let digit : get_or text 0 0 ≡ 48 = ap (λ t. get_or t 0 0) p.1 in
        omega arith

    by_test : (b : Bool) → starts_with nat_eq text (codes "-") ≡ b → b ≡ false
    by_test false e = refl
    by_test true e = absurd (by_case (minus_front text e) h)

pub number_found : (text : List ℕ) (z : ℤ) → IsNumber text z → written_number text ≡ Some z
unfolding written_number
number_found text z (inl p) =
    ap (λ b. if b then option_map (λ n. neg_ℤ (pos n)) (magnitude_of (drop 1 text)) else option_map pos (magnitude_of text)) (no_minus_digits text p.0 p.1)
    ∙ ap (option_map pos) (magnitude_found text p.0 p.1) ∙ ap Some (sym p.2)
number_found text z (inr p) =
    ap written_number p.2 ∙ ap (option_map (λ n. neg_ℤ (pos n))) (magnitude_found p.1 p.0 p.3) ∙ ap Some (sym p.4)

mapped : (f : ℕ → ℤ) (o : Option ℕ) (z : ℤ) → option_map f o ≡ Some z → (n : ℕ) × (o ≡ Some n) × (z ≡ f n)
mapped f None z e = absurd (cc)
mapped f (Some n) z e = (n, refl, cc)

pub number_tells : (text : List ℕ) (z : ℤ) → written_number text ≡ Some z → IsNumber text z
unfolding written_number
number_tells text z e = by_test (starts_with nat_eq text (codes "-")) refl e
  where
    by_test : (b : Bool) → starts_with nat_eq text (codes "-") ≡ b → (if b then option_map (λ n. neg_ℤ (pos n)) (magnitude_of (drop 1 text)) else option_map pos (magnitude_of text)) ≡ Some z → IsNumber text z
    by_test true t k =
        let m = mapped (λ n. neg_ℤ (pos n)) (magnitude_of (drop 1 text)) z k in
        inr (m.0, drop 1 text, minus_front text t, magnitude_tells (drop 1 text) m.0 m.1, m.2)
    by_test false t k =
        let m = mapped pos (magnitude_of text) z k in
        inl (m.0, magnitude_tells text m.0 m.1, m.2)

-- Registers, numbers, addresses and targets, as they are written, read back.
use mathlib.Core.Bool.{◌&&◌, ◌||◌}
use Rattle.std.proofs.Common.{◌≡◌, ℕ, zero, suc, ◌+◌, ◌-◌, ◌%◌, ◌^◌, ◌<◌, ◌≤◌, ℤ, pos, negsuc, ◌≤ℤ◌, Bool, true, false, not, nat_eq, nat_lt, nat_le, List, [], ◌∷◌, ◌++◌, length, take, drop, get_or, replicate, Some, None, Result, Ok, Err, inl, inr, refl, sym, ap, ap₂, subst, ◌∙◌, arith, codes, append_assoc, length-append, lit<, if◌then◌else◌}
use Rattle.std.proofs.Math.Seq.{drop-append-add, get_or-append_seam, take-append_seam}
use Rattle.std.proofs.lemmas.Bool.{cases_lt}
use Rattle.std.proofs.lemmas.Bool.Decides.{nat_tests}
use Rattle.std.proofs.lemmas.Fmt.{decimal_is_IsNumeral, digits_is_IsNumeral}
use Rattle.std.proofs.lemmas.Int.{ints}
use Rattle.std.specs.Char.{digit_value, is_digit}
use Rattle.std.specs.Fmt.{decimal, digits, signed_decimal}
use Rattle.std.specs.List.{list_all, list_any, before_first, after_first}
use Rattle.std.specs.Prelude.{T, int_le, unsigned_abs, slice_index}
use Rattle.std.specs.Str.Parse.{AllDigits, IsNumeral, digits_value, digits_value_after}
use Rattle.em_base.specs.Number.{IsNumber}
use Rattle.em_asm_read.specs.declared.faults.Fault.{Fault}
use Rattle.em_asm_read.specs.declared.faults.Fault.TheVariants.{Operands, Number, Label as BadLabel}
use Rattle.em_asm_read.specs.declared.items.Target.TheVariants.{Label, Offset}
use Rattle.em_asm_read.specs.Faults.{found_or, then_read}
use Rattle.em_asm_read.specs.Labels.{is_label, is_label_start, is_label_byte}
use Rattle.em_asm_read.specs.Operands.{address_operand, address_parts, target_in, even_offset, in_range, looks_numeric, named_register, number_operand, offset, address_in, ranged_number, register_operand, target_operand, whole_address}
use Rattle.em_asm_read.specs.Registers.{register_of}
use Rattle.em_base.specs.Text.{has_space, is_opening, is_space, trimmed}
use Rattle.em_base.proofs.WrittenNumbers.{number_found}
use Rattle.em_base.proofs.Trimming.{both, both_are, list_all-joined, prefix_len-to_mark}
use Rattle.em_show.specs.Show.{address_text, hexadecimal, register_text}
use Rattle.em_show.proofs.TokensArePlain.{is_plain, is_token, plain, token-more, trimmed-token}

-- ---- a test that is passed below a number

abbrev all_below : (ℕ → Bool) → ℕ → Bool
all_below p zero = true
all_below p (suc n) = p n && all_below p n

below : (p : ℕ → Bool) (n r : ℕ) → all_below p n ≡ true → r < n → p r ≡ true
below p zero r h k = absurd (omega arith)
below p (suc n) r h k =
    let b = both (p n) (all_below p n) h in
    elim (cases_lt r n) [
      | inl less ↦ below p n r b.1 less
      | inr more ↦ let same : n ≡ r = omega arith in subst (λ m. p m ≡ true) same b.0
    ]

-- ---- registers

abbrev names : Result ℕ Fault → ℕ → Bool
names (Ok found) r = nat_eq found r
names (Err fault) r = false

abbrev reads_register : ℕ → Bool
reads_register r = is_token (register_text r) && names (register_operand (register_text r)) r

registers-read : all_below reads_register 32 ≡ true
unfolding register_of digits
registers-read = refl

named : (o : Result ℕ Fault) (r : ℕ) → names o r ≡ true → o ≡ Ok r
named (Ok found) r e = let same : found ≡ r = grind (arith, nat_tests, e) in ap Ok same
named (Err fault) r e = absurd (cc)

register-reads : (r : ℕ) → r < 32 → (is_token (register_text r) ≡ true) × (register_operand (register_text r) ≡ Ok r)
register-reads r h =
    let b = both (is_token (register_text r)) (names (register_operand (register_text r)) r) (below reads_register 32 r registers-read h) in
    (b.0, named (register_operand (register_text r)) r b.1)

-- a register's text is a token
pub register-token : (r : ℕ) → r < 32 → is_token (register_text r) ≡ true
register-token r h = (register-reads r h).0

-- a register's text reads as the register
pub register-back : (r : ℕ) → r < 32 → register_operand (register_text r) ≡ Ok r
register-back r h = (register-reads r h).1

-- ---- numbers

plain-digit : (c : ℕ) → digit_value c < 36 → is_plain c ≡ true
plain-digit c h = grind (arith, nat_tests)

plain-digits : (radix : ℕ) (ds : List ℕ) → radix ≤ 36 → AllDigits radix ds → list_all is_plain ds ≡ true
plain-digits radix [] small h = refl
plain-digits radix (c ∷ cs) small h = both_are (is_plain c) (list_all is_plain cs) (plain-digit c (omega (arith, h.0))) (plain-digits radix cs small h.1)

numeral-token : (radix : ℕ) (ds : List ℕ) → radix ≤ 36 → IsNumeral radix ds → is_token ds ≡ true
numeral-token radix ds small h =
    let many : nat_lt 0 (length ds) ≡ true = grind (arith, nat_tests, h.0) in
    both_are (nat_lt 0 (length ds)) (list_all is_plain ds) many (plain-digits radix ds small h.1)

-- a number of a size that 64 bits have
abbrev pub IsSmall : ℤ → Type 0
IsSmall (pos n) = n < 2 ^ 63
IsSmall (negsuc n) = n < 2 ^ 63

-- a number's text is a token
pub number-token : (z : ℤ) → IsSmall z → is_token (signed_decimal z) ≡ true
number-token (pos n) h = numeral-token 10 (decimal n) (omega arith) (decimal_is_IsNumeral n (omega arith)).0
number-token (negsuc n) h =
    let d = (decimal_is_IsNumeral (suc n) (omega arith)).0 in
    token-more (45 ∷ []) (decimal (suc n)) refl (plain (decimal (suc n)) (numeral-token 10 (decimal (suc n)) (omega arith) d))

written : (z : ℤ) → IsSmall z → IsNumber (signed_decimal z) z
written (pos n) h = inl (n, inl (decimal_is_IsNumeral n (omega arith)), refl)
written (negsuc n) h = inr (suc n, decimal (suc n), refl, inl (decimal_is_IsNumeral (suc n) (omega arith)), refl)

unbroken-bytes : (text : List ℕ) → list_all is_plain text ≡ true → has_space text ≡ false
unbroken-bytes [] h = refl
unbroken-bytes (c ∷ cs) h =
    let b = both (is_plain c) (list_all is_plain cs) h in
    neither (is_space c) (has_space cs) (not-space c b.0) (unbroken-bytes cs b.1)
  where
    not-space : (c : ℕ) → is_plain c ≡ true → is_space c ≡ false
    not-space c k = grind (arith, nat_tests)

    neither : (f g : Bool) → f ≡ false → g ≡ false → (f || g) ≡ false
    neither false g e k = k
    neither true g e k = absurd (cc)

unbroken : (text : List ℕ) → is_token text ≡ true → has_space text ≡ false
unbroken text h = unbroken-bytes text (plain text h)

passes : (b : Bool) → T b → b ≡ true
passes true h = refl
passes false h = absurd h

in-range : (low high z : ℤ) → low ≤ℤ z → z ≤ℤ high → in_range low high z ≡ Ok z
in-range low high z l h = ap (λ b. if b then Ok z else Err Number) (both_are (int_le low z) (int_le z high) (passes (int_le low z) l.le) (passes (int_le z high) h.le))

ranged-back : (low high z : ℤ) → IsSmall z → low ≤ℤ z → z ≤ℤ high → ranged_number low high (signed_decimal z) ≡ Ok z
ranged-back low high z s l h = ap (λ o. then_read (found_or Number o) (in_range low high)) (number_found (signed_decimal z) z (written z s)) ∙ in-range low high z l h

-- a number's text reads as the number, where it is within the bounds
pub number-back : (low high z : ℤ) → IsSmall z → low ≤ℤ z → z ≤ℤ high → number_operand low high (signed_decimal z) ≡ Ok z
number-back low high z s l h =
    ap (λ b. if b then Err Operands else ranged_number low high (signed_decimal z)) (unbroken (signed_decimal z) (number-token z s)) ∙ ranged-back low high z s l h

-- ---- addresses

named-back : (r : ℕ) → r < 32 → named_register (register_text r) ≡ Ok r
named-back r h = sym (ap (λ b. if b then Err Operands else named_register (register_text r)) (unbroken (register_text r) (register-token r h))) ∙ register-back r h

-- the text is imm, an opening parenthesis, a register and a closing one
shape : (imm : ℤ) (rs1 : ℕ) → address_text imm rs1 ≡ signed_decimal imm ++ (40 ∷ (register_text rs1 ++ codes ")"))
shape imm rs1 =
    append_assoc (signed_decimal imm ++ codes "(") (register_text rs1) (codes ")") ∙ append_assoc (signed_decimal imm) (codes "(") (register_text rs1 ++ codes ")")

-- the text of an address is a token
pub address-token : (imm : ℤ) (rs1 : ℕ) → IsSmall imm → rs1 < 32 → is_token (address_text imm rs1) ≡ true
address-token imm rs1 s h =
    let inner = list_all-joined is_plain (register_text rs1) (codes ")") (plain (register_text rs1) (register-token rs1 h)) refl in
    subst (λ t. is_token t ≡ true) (sym (shape imm rs1)) (token-more (signed_decimal imm) (40 ∷ (register_text rs1 ++ codes ")")) (number-token imm s) inner)

digits-closed : (ds : List ℕ) → AllDigits 10 ds → list_all (λ c. not (is_opening c)) ds ≡ true
digits-closed [] h = refl
digits-closed (c ∷ cs) h = both_are (not (is_opening c)) (list_all (λ c. not (is_opening c)) cs) (closed c h.0) (digits-closed cs h.1)
  where
    closed : (c : ℕ) → digit_value c < 10 → not (is_opening c) ≡ true
    closed c k = grind (arith, nat_tests)

number-closed : (z : ℤ) → IsSmall z → list_all (λ c. not (is_opening c)) (signed_decimal z) ≡ true
number-closed (pos n) h = digits-closed (decimal n) (decimal_is_IsNumeral n (omega arith)).0.1
number-closed (negsuc n) h = digits-closed (decimal (suc n)) (decimal_is_IsNumeral (suc n) (omega arith)).0.1

any-opening : (front rest : List ℕ) → list_any is_opening (front ++ (40 ∷ rest)) ≡ true
any-opening [] rest = refl
any-opening (c ∷ front) rest = either (is_opening c) (list_any is_opening (front ++ (40 ∷ rest))) (any-opening front rest)
  where
    either : (f g : Bool) → g ≡ true → (f || g) ≡ true
    either true g e = refl
    either false g e = e

last-closing : (front : List ℕ) → nat_eq (slice_index (front ++ codes ")") (length (front ++ codes ")") - 1)) 41 ≡ true
last-closing front =
    let place : length (front ++ codes ")") - 1 ≡ length front = omega (arith, length-append front (codes ")")) in
    let byte : get_or (front ++ codes ")") (length (front ++ codes ")") - 1) 0 ≡ 41 = ap (λ n. get_or (front ++ codes ")") n 0) place ∙ get_or-append_seam front 41 [] 0 in
    ap (λ b. nat_eq b 41) byte

parts-found : (imm : ℤ) (rs1 : ℕ) → IsSmall imm → rs1 < 32 → address_parts (address_text imm rs1) ≡ Some (signed_decimal imm, register_text rs1)
parts-found imm rs1 s h =
    let text = address_text imm rs1 in
    let number = signed_decimal imm in
    let register = register_text rs1 in
    let inner = register ++ codes ")" in
    let opens : list_any is_opening text ≡ true = ap (list_any is_opening) (shape imm rs1) ∙ any-opening number inner in
    let tests = both_are (list_any is_opening text) (nat_eq (slice_index text (length text - 1)) 41) opens (last-closing (number ++ codes "(" ++ register)) in
    let place = prefix_len-to_mark (λ c. not (is_opening c)) number inner 40 (number-closed imm s) refl in
    let before : before_first is_opening text ≡ number = ap (before_first is_opening) (shape imm rs1) ∙ ap (λ n. take n (number ++ (40 ∷ inner))) place ∙ take-append_seam number (40 ∷ inner) in
    let after : after_first is_opening text ≡ inner = ap (after_first is_opening) (shape imm rs1) ∙ ap (λ n. drop (n + 1) (number ++ (40 ∷ inner))) place ∙ drop-append-add number (40 ∷ inner) 1 in
    let short : length inner - 1 ≡ length register = omega (arith, length-append register (codes ")")) in
    let middle : take (length (after_first is_opening text) - 1) (after_first is_opening text) ≡ register = ap (λ t. take (length t - 1) t) after ∙ ap (λ n. take n inner) short ∙ take-append_seam register (codes ")") in
    let left : trimmed (before_first is_opening text) ≡ number = ap trimmed before ∙ trimmed-token number (number-token imm s) in
    let right : trimmed (take (length (after_first is_opening text) - 1) (after_first is_opening text)) ≡ register = ap trimmed middle ∙ trimmed-token register (register-token rs1 h) in
    ap (λ b. if b then Some (trimmed (before_first is_opening text), trimmed (take (length (after_first is_opening text) - 1) (after_first is_opening text))) else None) tests
    ∙ ap₂ (λ (a b : List ℕ). Some (a, b)) left right

-- the text of an address reads as its parts
pub address-back : (imm : ℤ) (rs1 : ℕ) → IsSmall imm → negsuc 2047 ≤ℤ imm → imm ≤ℤ pos 2047 → rs1 < 32 → address_operand (address_text imm rs1) ≡ Ok (imm, rs1)
address-back imm rs1 s l h r =
    let number = signed_decimal imm in
    let register = register_text rs1 in
    ap (λ o. then_read (found_or Operands o) whole_address) (parts-found imm rs1 s r)
    ∙ ap₂ (λ a b. if a || b then Err Operands else address_in (number, register)) (unbroken number (number-token imm s)) (unbroken register (register-token rs1 r))
    ∙ ap (λ o. then_read o (λ i. then_read (named_register register) (λ d. Ok (i, d)))) (ranged-back (negsuc 2047) (pos 2047) imm s l h)
    ∙ ap (λ o. then_read o (λ d. Ok (imm, d))) (named-back rs1 r)

-- ---- targets

not-first : (a b c d : Bool) → c ≡ false → (a && b && c && d) ≡ false
not-first true true false d e = refl
not-first true false false d e = refl
not-first false b false d e = refl
not-first a b true d e = absurd (cc)

-- a text whose first byte is a digit is no label
digit-first : (c : ℕ) (cs : List ℕ) → digit_value c < 10 → (is_label (c ∷ cs) ≡ false) × (looks_numeric (c ∷ cs) ≡ true)
digit-first c cs h =
    let start : is_label_start c ≡ false = grind (arith, nat_tests) in
    let digit : is_digit c 10 ≡ true = grind (arith, nat_tests) in
    (not-first (nat_lt 0 (length (c ∷ cs))) (nat_le (length (c ∷ cs)) 64) (is_label_start c) (list_all is_label_byte (c ∷ cs)) start, ap (λ b. b || nat_eq c 45) digit)

numeral-first : (ds : List ℕ) → IsNumeral 10 ds → (is_label ds ≡ false) × (looks_numeric ds ≡ true)
numeral-first [] h = absurd (omega (arith, h.0))
numeral-first (c ∷ cs) h = digit-first c cs h.1.0

number-first : (z : ℤ) → IsSmall z → (is_label (signed_decimal z) ≡ false) × (looks_numeric (signed_decimal z) ≡ true)
number-first (pos n) h = numeral-first (decimal n) (decimal_is_IsNumeral n (omega arith)).0
number-first (negsuc n) h = (not-first (nat_lt 0 (length (45 ∷ decimal (suc n)))) (nat_le (length (45 ∷ decimal (suc n))) 64) false (list_all is_label_byte (45 ∷ decimal (suc n))) refl, refl)

-- the text of an offset reads as a target by that offset
pub target-back : (low high z : ℤ) → IsSmall z → low ≤ℤ z → z ≤ℤ high → unsigned_abs z % 2 ≡ 0 → target_operand low high (signed_decimal z) ≡ Ok (Offset z)
target-back low high z s l h e =
    let text = signed_decimal z in
    let first = number-first z s in
    let ready : nat_eq (unsigned_abs z % 2) 0 ≡ true = ap (λ n. nat_eq n 0) e in
    let found : offset low high text ≡ Ok z = ap (λ r. then_read r even_offset) (ranged-back low high z s l h) ∙ ap (λ b. if b then Ok z else Err Number) ready in
    ap (λ b. if b then Err Operands else target_in low high text) (unbroken text (number-token z s))
    ∙ ap₂ (λ a b. if a then Ok (Label text) else if b then then_read (offset low high text) (λ o. Ok (Offset o)) else Err BadLabel) first.0 first.1
    ∙ ap (λ r. then_read r (λ o. Ok (Offset o))) found

-- ---- hexadecimal numbers

zeros-digits : (k : ℕ) (ds : List ℕ) → AllDigits 16 ds → AllDigits 16 (replicate k 48 ++ ds)
zeros-digits zero ds h = h
zeros-digits (suc k) ds h = (lit< tt, zeros-digits k ds h)

zeros-value : (k : ℕ) (ds : List ℕ) → digits_value_after 16 0 (replicate k 48 ++ ds) ≡ digits_value_after 16 0 ds
zeros-value zero ds = refl
zeros-value (suc k) ds = zeros-value k ds

hexadecimal-numeral : (w : ℕ) → w < 2 ^ 32 → IsNumeral 16 (hexadecimal w) × (digits_value 16 (hexadecimal w) ≡ w)
hexadecimal-numeral w h =
    let ds = digits 16 false w in
    let d = digits_is_IsNumeral 16 false (omega arith) (omega arith) w (omega arith) in
    let long : 0 < length (hexadecimal w) = omega (arith, d.0.0, length-append (replicate (8 - length ds) 48) ds) in
    ((long, zeros-digits (8 - length ds) ds d.0.1), zeros-value (8 - length ds) ds ∙ d.1)

-- a word in hexadecimal is a token
pub hexadecimal-token : (w : ℕ) → w < 2 ^ 32 → is_token (codes "0x" ++ hexadecimal w) ≡ true
hexadecimal-token w h = token-more (codes "0x") (hexadecimal w) refl (plain-digits 16 (hexadecimal w) (omega arith) (hexadecimal-numeral w h).0.1)

-- a word in hexadecimal reads as the word
pub hexadecimal-back : (w : ℕ) → w < 2 ^ 32 → number_operand (pos 0) (pos 4294967295) (codes "0x" ++ hexadecimal w) ≡ Ok (pos w)
hexadecimal-back w h =
    let text = codes "0x" ++ hexadecimal w in
    let d = hexadecimal-numeral w h in
    let number : IsNumber text (pos w) = inl (w, inr (hexadecimal w, refl, d.0, d.1), refl) in
    let low : pos 0 ≤ℤ pos w = omega (arith, ints) in
    let high : pos w ≤ℤ pos 4294967295 = omega (arith, ints) in
    ap (λ b. if b then Err Operands else ranged_number (pos 0) (pos 4294967295) text) (unbroken text (hexadecimal-token w h))
    ∙ ap (λ o. then_read (found_or Number o) (in_range (pos 0) (pos 4294967295))) (number_found text (pos w) number)
    ∙ in-range (pos 0) (pos 4294967295) (pos w) low high

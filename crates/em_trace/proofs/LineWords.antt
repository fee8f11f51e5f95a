-- The words of a line are found again, and what is found is spelled by the word.
use Rattle.std.proofs.Common.{◌≡◌, ℕ, zero, suc, ◌<◌, ◌≤◌, ◌^◌, ℤ, pos, negsuc, Bool, true, false, nat_eq, nat_lt, List, [], ◌∷◌, Option, Some, None, refl, sym, ap, subst, ◌∙◌, arith, lit≤, codes, if◌then◌else◌}
use Rattle.std.proofs.lemmas.Bool.Decides.{nat_tests}
use Rattle.std.proofs.lemmas.Fmt.{decimal_is_IsNumeral}
use Rattle.std.proofs.lemmas.Int.{ints}
use Rattle.std.proofs.lemmas.Slice.Eq.{bytes_eq-Decides}
use Rattle.std.proofs.lemmas.Str.Parse.{digit_from_value}
use Rattle.std.specs.Fmt.{decimal, signed_decimal}
use Rattle.std.specs.List.{list_all}
use Rattle.std.specs.Option.{option_map}
use Rattle.std.specs.Prelude.{◌&&◌, ◌≤ℤ◌, nat_le}
use Rattle.std.specs.Str.{bytes_eq}
use Rattle.std.specs.Str.Parse.{AllDigits}
use Rattle.em_base.proofs.Trimming.{both, both_are}
use Rattle.em_base.specs.declared.ids.SemId.{SemId}
use Rattle.em_trace.proofs.SpelledNumbers.{count-finds, count-tells}
use Rattle.em_trace.specs.Printed.{IsByte, IsCode, IsCount, IsSemaphore, IsWord, semaphore_text}
use Rattle.em_trace.specs.Words.{below, byte_of, code_of, count_of, negative, semaphore_of, word_of}

-- no byte of the text is a space, or below one
abbrev pub IsPlain : List ℕ → Type 0
IsPlain text = list_all (λ byte. nat_lt 32 byte) text ≡ true

-- what is read is the value that the word spells, one that fits, whose text has no space
pub record IsExact {A : Type 0} (read : List ℕ → Option A) (spell : A → List ℕ) (Fits : A → Type 0) : Type 0 where
  pub tells : (text : List ℕ) (a : A) → read text ≡ Some a → (spell a ≡ text) × Fits a
  pub finds : (a : A) → Fits a → read (spell a) ≡ Some a
  pub plain : (a : A) → Fits a → IsPlain (spell a)

-- ---- numbers

plain-digits : (digits : List ℕ) → AllDigits 10 digits → IsPlain digits
plain-digits [] h = refl
plain-digits (d ∷ ds) h =
    let digit = digit_from_value d h.0 in
    let above : nat_lt 32 d ≡ true = grind (arith, nat_tests, digit.0) in
    both_are (nat_lt 32 d) (list_all (λ byte. nat_lt 32 byte) ds) above (plain-digits ds h.1)

pub plain-decimal : (n : ℕ) → n < 2 ^ 64 → IsPlain (decimal n)
plain-decimal n h = plain-digits (decimal n) (decimal_is_IsNumeral n h).0.1

pub count-exact : IsExact count_of decimal IsCount
count-exact = record { tells = count-tells; finds = count-finds; plain = plain-decimal }

-- a number below a limit is the one that there was
pub below-tells : (limit : ℕ) (found : Option ℕ) (n : ℕ) → below limit found ≡ Some n → (found ≡ Some n) × (n < limit)
below-tells limit None n e = absurd (cc)
below-tells limit (Some m) n e = by_size (nat_lt m limit) refl e
  where
    by_size : (b : Bool) → nat_lt m limit ≡ b → (if b then Some m else None) ≡ Some n → (Some m ≡ Some n) × (n < limit)
    by_size false t k = absurd (cc)
    by_size true t k =
        let same : m ≡ n = cc in
        let small : m < limit = grind (arith, nat_tests) in
        (k, omega arith)

-- a number that is below the limit stays
pub below-finds : (limit n : ℕ) → n < limit → below limit (Some n) ≡ Some n
below-finds limit n h =
    let small : nat_lt n limit ≡ true = grind (arith, nat_tests) in
    ap (λ b. if b then Some n else None) small

-- numbers below a limit are found again
pub below-exact : (limit : ℕ) → limit ≤ 2 ^ 64 → IsExact (λ text. below limit (count_of text)) decimal (λ n. n < limit)
below-exact limit h = record {
  tells = λ text n e. (let b = below-tells limit (count_of text) n e in ((count-tells text n b.0).0, b.1));
  finds = λ n small. ap (below limit) (count-finds n (omega arith)) ∙ below-finds limit n small;
  plain = λ n small. plain-decimal n (omega arith);
}

pub byte-exact : IsExact byte_of decimal IsByte
byte-exact = below-exact (2 ^ 8) (lit≤ tt)

pub word-exact : IsExact word_of decimal IsWord
word-exact = below-exact (2 ^ 32) (lit≤ tt)

-- ---- codes

negative-tells : (found : Option ℕ) (code : ℤ) → negative found ≡ Some code → (m : ℕ) × (found ≡ Some (suc m)) × (m ≤ 9) × (code ≡ negsuc m)
negative-tells None code e = absurd (cc)
negative-tells (Some zero) code e = absurd (cc)
negative-tells (Some (suc m)) code e = by_size (nat_lt 0 (suc m) && nat_le (suc m) 10) refl e
  where
    by_size : (b : Bool) → (nat_lt 0 (suc m) && nat_le (suc m) 10) ≡ b → (if b then Some (negsuc m) else None) ≡ Some code
        → (k : ℕ) × (Some (suc m) ≡ Some (suc k)) × (k ≤ 9) × (code ≡ negsuc k)
    by_size false t k = absurd (cc)
    by_size true t k =
        let b = both (nat_lt 0 (suc m)) (nat_le (suc m) 10) t in
        let small : m ≤ 9 = grind (arith, nat_tests, b.1) in
        (m, refl, small, cc)

code-tells : (text : List ℕ) (code : ℤ) → code_of text ≡ Some code → (signed_decimal code ≡ text) × IsCode code
unfolding code_of
code-tells [] code e = absurd (cc)
code-tells (sign ∷ digits) code e = by_sign (nat_eq sign 45) refl e
  where
    by_sign : (b : Bool) → nat_eq sign 45 ≡ b → (if b then negative (count_of digits) else None) ≡ Some code → (signed_decimal code ≡ sign ∷ digits) × IsCode code
    by_sign false t k = absurd (cc)
    by_sign true t k =
        let minus : sign ≡ 45 = grind (arith, nat_tests) in
        let n = negative-tells (count_of digits) code k in
        let spelled = (count-tells digits (suc n.0) n.1).0 in
        let low : negsuc 9 ≤ℤ negsuc n.0 = omega (arith, ints, n.2) in
        let high : negsuc n.0 ≤ℤ negsuc 0 = omega (arith, ints) in
        (ap signed_decimal n.3 ∙ ap (λ t. 45 ∷ t) spelled ∙ ap (λ s. s ∷ digits) (sym minus), subst IsCode (sym n.3) (low, high))

code-finds : (code : ℤ) → IsCode code → code_of (signed_decimal code) ≡ Some code
unfolding code_of
code-finds (pos n) h =
    let low : pos n ≤ℤ negsuc 0 = h.1 in
    absurd (omega (arith, ints, low))
code-finds (negsuc m) h =
    let low : negsuc 9 ≤ℤ negsuc m = h.0 in
    let small : m ≤ 9 = omega (arith, ints, low) in
    let some : nat_lt 0 (suc m) ≡ true = grind (arith, nat_tests) in
    let few : nat_le (suc m) 10 ≡ true = grind (arith, nat_tests) in
    ap negative (count-finds (suc m) (omega arith)) ∙ ap (λ b. if b then Some (negsuc m) else None) (both_are (nat_lt 0 (suc m)) (nat_le (suc m) 10) some few)

code-plain : (code : ℤ) → IsCode code → IsPlain (signed_decimal code)
code-plain (pos n) h =
    let low : pos n ≤ℤ negsuc 0 = h.1 in
    absurd (omega (arith, ints, low))
code-plain (negsuc m) h =
    let low : negsuc 9 ≤ℤ negsuc m = h.0 in
    plain-decimal (suc m) (omega (arith, ints, low))

pub code-exact : IsExact code_of signed_decimal IsCode
code-exact = record { tells = code-tells; finds = code-finds; plain = code-plain }

-- ---- semaphores

some-tells : (text : List ℕ) (found : Option ℕ) (sem : Option SemId) → byte_of text ≡ found
    → option_map (λ n. (let id : SemId = record { 0 = n } in Some id)) found ≡ Some sem → (semaphore_text sem ≡ text) × IsSemaphore sem
some-tells text None sem e k = absurd (cc)
some-tells text (Some n) sem e k =
    let id : SemId = record { 0 = n } in
    let same : Some id ≡ sem = cc in
    subst (λ s. (semaphore_text s ≡ text) × IsSemaphore s) same (byte-exact.tells text n e)

semaphore-tells : (text : List ℕ) (sem : Option SemId) → semaphore_of text ≡ Some sem → (semaphore_text sem ≡ text) × IsSemaphore sem
semaphore-tells text sem e = by_dash (bytes_eq text (codes "-")) refl e
  where
    by_dash : (b : Bool) → bytes_eq text (codes "-") ≡ b
        → (if b then Some None else option_map (λ n. (let id : SemId = record { 0 = n } in Some id)) (byte_of text)) ≡ Some sem
        → (semaphore_text sem ≡ text) × IsSemaphore sem
    by_dash false t k = some-tells text (byte_of text) sem refl k
    by_dash true t k =
        let same : None ≡ sem = cc in
        let dash : codes "-" ≡ text = sym ((bytes_eq-Decides text (codes "-")).0 t) in
        subst (λ s. (semaphore_text s ≡ text) × IsSemaphore s) same (dash, tt)

no-dash : (n : ℕ) → n < 2 ^ 64 → (b : Bool) → bytes_eq (decimal n) (codes "-") ≡ b → b ≡ false
no-dash n h false e = refl
no-dash n h true e =
    let dash = (bytes_eq-Decides (decimal n) (codes "-")).0 e in
    let digits = subst (λ t. AllDigits 10 t) dash (decimal_is_IsNumeral n h).0.1 in
    absurd (omega (arith, (digit_from_value 45 digits.0)))

semaphore-finds : (sem : Option SemId) → IsSemaphore sem → semaphore_of (semaphore_text sem) ≡ Some sem
semaphore-finds None h = refl
semaphore-finds (Some sem) h =
    let found = option_map (λ n. (let id : SemId = record { 0 = n } in Some id)) (byte_of (decimal sem.0)) in
    ap (λ b. if b then Some None else found) (no-dash sem.0 (omega arith) (bytes_eq (decimal sem.0) (codes "-")) refl)
    ∙ ap (option_map (λ n. (let id : SemId = record { 0 = n } in Some id))) (byte-exact.finds sem.0 h)

semaphore-plain : (sem : Option SemId) → IsSemaphore sem → IsPlain (semaphore_text sem)
semaphore-plain None h = refl
semaphore-plain (Some sem) h = byte-exact.plain sem.0 h

pub semaphore-exact : IsExact semaphore_of semaphore_text IsSemaphore
semaphore-exact = record { tells = semaphore-tells; finds = semaphore-finds; plain = semaphore-plain }

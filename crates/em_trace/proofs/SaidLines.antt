-- What is found in a line of a schedule is what the line says, and what it says is found.
use mathlib.Core.Bool.{◌&&◌}
use Rattle.std.proofs.Common.{◌≡◌, ℕ, ◌+◌, ◌<◌, ◌≤◌, ◌^◌, Bool, true, false, nat_eq, nat_lt, List, [], ◌∷◌, length, get_or, Option, Some, None, refl, sym, ap, ap₂, subst, ◌∙◌, arith, lit≤, codes, if◌then◌else◌}
use Rattle.std.proofs.lemmas.Bool.Decides.{nat_tests}
use Rattle.std.proofs.lemmas.Fmt.{decimal-digits_value, decimal_is_IsNumeral}
use Rattle.std.proofs.lemmas.List.Splits.{length-slice_split}
use Rattle.std.proofs.lemmas.Slice.Eq.{bytes_eq-Decides}
use Rattle.std.proofs.lemmas.Str.Parse.{numerals_by_value, tells_digits}
use Rattle.std.specs.Char.{digit_value, is_digit}
use Rattle.std.specs.Fmt.{decimal}
use Rattle.std.specs.List.{list_all}
use Rattle.std.specs.Str.{bytes_eq}
use Rattle.std.specs.Str.Parse.{AllDigits, digits_value}
use Rattle.em_base.proofs.Trimming.{both}
use Rattle.em_trace.specs.declared.schedule_lines.Said.{Said}
use Rattle.em_trace.specs.declared.schedule_lines.Said.TheVariants.{Released, Unplugged, Ended}
use Rattle.em_trace.proofs.LineWords.{below-exact, byte-exact, word-exact}
use Rattle.em_trace.specs.ScheduleFaults.{Says, SaysBy, Writes, has_front, is_numeral}
use Rattle.em_trace.specs.Schedules.{IsSteps, most_steps}
use Rattle.em_trace.specs.ScheduleWords.{ended, large_of, number_of, number_or, released, said_of, said_of_words, steps_of, unplugged}
use Rattle.em_trace.specs.Words.{byte_of, word_of, words_of}

-- ---- the words

steps-tells : (text : List ℕ) (n : ℕ) → steps_of text ≡ Some n → (decimal n ≡ text) × IsSteps n
steps-tells text n e =
    let b = (below-exact (most_steps + 1) (lit≤ tt)).tells text n e in
    (b.0, omega (arith, b.1))

steps-finds : (n : ℕ) → IsSteps n → steps_of (decimal n) ≡ Some n
steps-finds n h = (below-exact (most_steps + 1) (lit≤ tt)).finds n (omega arith)

pass-digits : (digits : List ℕ) → list_all (λ byte. is_digit byte 10) digits ≡ true → AllDigits 10 digits
pass-digits [] h = tt
pass-digits (c ∷ cs) h =
    let b = both (is_digit c 10) (list_all (λ byte. is_digit byte 10) cs) h in
    let first : digit_value c < 10 = grind (arith, nat_tests, b.0) in
    (first, pass-digits cs b.1)

front : (digits : List ℕ) → has_front digits ≡ true → get_or digits 0 0 ≡ 48 → length digits ≡ 1
front digits h zero = grind (arith, nat_tests)

-- a number below 2^8 is one of 8 bits
numeral-large : (word : List ℕ) → is_numeral word ≡ true → byte_of word ≡ None → 2 ^ 8 ≤ digits_value 10 word
numeral-large word h none = by_size (nat_lt (digits_value 10 word) (2 ^ 8)) refl
  where
    v : ℕ
    v = digits_value 10 word

    by_size : (b : Bool) → nat_lt v (2 ^ 8) ≡ b → 2 ^ 8 ≤ v
    by_size false e = grind (arith, nat_tests)
    by_size true e =
        let small : v < 2 ^ 8 = grind (arith, nat_tests) in
        let a = both (nat_lt 0 (length word) && list_all (λ byte. is_digit byte 10) word) (has_front word) h in
        let b = both (nat_lt 0 (length word)) (list_all (λ byte. is_digit byte 10) word) a.0 in
        let some : 0 < length word = grind (arith, nat_tests, b.0) in
        let spelled : decimal v ≡ word =
        decimal-digits_value (numerals_by_value (AllDigits 10) tells_digits) word (pass-digits word b.1) some (front word a.1) (omega arith) in
        let found : byte_of word ≡ Some v = subst (λ w. byte_of w ≡ Some v) spelled (byte-exact.finds v small) in
        absurd (cc)

-- a number that isn't below 2^8 isn't
large-none : (word : List ℕ) → 2 ^ 8 ≤ digits_value 10 word → (o : Option ℕ) → byte_of word ≡ o → o ≡ None
large-none word large None e = refl
large-none word large (Some n) e =
    let t = byte-exact.tells word n e in
    let value : digits_value 10 word ≡ n = subst (λ w. digits_value 10 w ≡ n) t.0 (decimal_is_IsNumeral n (omega (arith, t.1))).1 in
    absurd (omega (arith, t.1))

number-tells : (word : List ℕ) (number : Option ℕ) → number_of word ≡ Some number → Writes number word
unfolding number_of
number-tells word number e = by_byte (byte_of word) refl e
  where
    by_numeral : byte_of word ≡ None → (b : Bool) → is_numeral word ≡ b → large_of b ≡ Some number → Writes number word
    by_numeral none false t k = absurd (cc)
    by_numeral none true t k =
        let same : None ≡ number = cc in
        subst (λ n. Writes n word) same (t, numeral-large word t none)

    by_byte : (o : Option ℕ) → byte_of word ≡ o → number_or o (is_numeral word) ≡ Some number → Writes number word
    by_byte None t k = by_numeral t (is_numeral word) refl k
    by_byte (Some n) t k =
        let same : Some n ≡ number = cc in
        subst (λ n. Writes n word) same (byte-exact.tells word n t)

number-finds : (word : List ℕ) (number : Option ℕ) → Writes number word → number_of word ≡ Some number
unfolding number_of
number-finds word None h =
    ap₂ number_or (large-none word h.1 (byte_of word) refl) h.0
number-finds word (Some n) h =
    let found : byte_of word ≡ Some n = subst (λ w. byte_of w ≡ Some n) h.0 (byte-exact.finds n h.1) in
    ap (λ o. number_or o (is_numeral word)) found

-- ---- what is found is said

chosen : {A : Type 0} (b : Bool) (o : Option A) (a : A) → (if b then o else None) ≡ Some a → (b ≡ true) × (o ≡ Some a)
chosen true o a e = (refl, e)
chosen false o a e = absurd (cc)

ended-tells : (count verb : List ℕ) (said : Said) → verb ≡ codes "end" → (o : Option ℕ) → steps_of count ≡ o → ended o ≡ Some said
    → SaysBy said (count ∷ verb ∷ [])
ended-tells count verb said v None e k = absurd (cc)
ended-tells count verb said v (Some n) e k =
    let same : Ended n ≡ said = cc in
    let t = steps-tells count n e in
    subst (λ s. SaysBy s (count ∷ verb ∷ [])) same (ap₂ (λ c v. c ∷ v ∷ []) (sym t.0) v, t.1)

unplugged-tells : (count verb port : List ℕ) (said : Said) → verb ≡ codes "unplug" → (o : Option ℕ) → steps_of count ≡ o
    → (p : Option (Option ℕ)) → number_of port ≡ p → unplugged o p ≡ Some said → SaysBy said (count ∷ verb ∷ port ∷ [])
unplugged-tells count verb port said v None e p f k = absurd (cc)
unplugged-tells count verb port said v (Some n) e None f k = absurd (cc)
unplugged-tells count verb port said v (Some n) e (Some m) f k =
    let same : Unplugged n m ≡ said = cc in
    let t = steps-tells count n e in
    subst (λ s. SaysBy s (count ∷ verb ∷ port ∷ [])) same
    (port, ap₂ (λ c v. c ∷ v ∷ port ∷ []) (sym t.0) v, number-tells port m f, t.1)

released-tells : (count verb task time word : List ℕ) (said : Said) → verb ≡ codes "rel" → (o : Option ℕ) → steps_of count ≡ o
    → (p : Option (Option ℕ)) → number_of task ≡ p → (q : Option ℕ) → word_of time ≡ q → (r : Option ℕ) → word_of word ≡ r
    → released o p q r ≡ Some said → SaysBy said (count ∷ verb ∷ task ∷ time ∷ word ∷ [])
released-tells count verb task time word said v None e p f q g r h k = absurd (cc)
released-tells count verb task time word said v (Some n) e None f q g r h k = absurd (cc)
released-tells count verb task time word said v (Some n) e (Some m) f None g r h k = absurd (cc)
released-tells count verb task time word said v (Some n) e (Some m) f (Some at) g None h k = absurd (cc)
released-tells count verb task time word said v (Some n) e (Some m) f (Some at) g (Some w) h k =
    let same : Released n m at w ≡ said = cc in
    let s = steps-tells count n e in
    let t = word-exact.tells time at g in
    let u = word-exact.tells word w h in
    subst (λ s. SaysBy s (count ∷ verb ∷ task ∷ time ∷ word ∷ [])) same (
      task,
      ap₂ (λ c v. c ∷ v ∷ task ∷ time ∷ word ∷ []) (sym s.0) v ∙ ap₂ (λ t u. decimal n ∷ codes "rel" ∷ task ∷ t ∷ u ∷ []) (sym t.0) (sym u.0),
      number-tells task m f,
      s.1,
      t.1,
      u.1,
    )

words-tell : (words : List (List ℕ)) (said : Said) → said_of_words words ≡ Some said → SaysBy said words
words-tell [] said e = absurd (cc)
words-tell (a ∷ []) said e = absurd (cc)
words-tell (count ∷ verb ∷ []) said e =
    let c = chosen (bytes_eq verb (codes "end")) (ended (steps_of count)) said e in
    ended-tells count verb said ((bytes_eq-Decides verb (codes "end")).0 c.0) (steps_of count) refl c.1
words-tell (count ∷ verb ∷ port ∷ []) said e =
    let c = chosen (bytes_eq verb (codes "unplug")) (unplugged (steps_of count) (number_of port)) said e in
    unplugged-tells count verb port said ((bytes_eq-Decides verb (codes "unplug")).0 c.0) (steps_of count) refl (number_of port) refl c.1
words-tell (a ∷ b ∷ c ∷ d ∷ []) said e = absurd (cc)
words-tell (count ∷ verb ∷ task ∷ time ∷ word ∷ []) said e =
    let c = chosen (bytes_eq verb (codes "rel")) (released (steps_of count) (number_of task) (word_of time) (word_of word)) said e in
    released-tells count verb task time word said ((bytes_eq-Decides verb (codes "rel")).0 c.0)
    (steps_of count) refl (number_of task) refl (word_of time) refl (word_of word) refl c.1
words-tell (a ∷ b ∷ c ∷ d ∷ e ∷ f ∷ more) said k = absurd (cc)

-- what is found in a line is what it says
pub said-tells : (line : List ℕ) (said : Said) → said_of line ≡ Some said → Says said line
said-tells line said e = words-tell (words_of line) said e

-- ---- what is said is found

words-find : (said : Said) (words : List (List ℕ)) → SaysBy said words → said_of_words words ≡ Some said
words-find (Ended count) words h =
    ap said_of_words h.0 ∙ ap ended (steps-finds count h.1)
words-find (Unplugged count port) words h =
    ap said_of_words h.1 ∙ ap₂ unplugged (steps-finds count h.3) (number-finds h.0 port h.2)
words-find (Released count task time word) words h =
    ap said_of_words h.1
    ∙ ap₂ (λ o p. released o p (word_of (decimal time)) (word_of (decimal word))) (steps-finds count h.3) (number-finds h.0 task h.2)
    ∙ ap₂ (λ q r. released (Some count) (Some task) q r) (word-exact.finds time h.4) (word-exact.finds word h.5)

-- what a line says is found in it
pub said-finds : (line : List ℕ) (said : Said) → Says said line → said_of line ≡ Some said
said-finds line said h = words-find said (words_of line) h

-- six words and more say nothing
pub too_many : (a b c d e text : List ℕ) → said_of_words (a ∷ b ∷ c ∷ d ∷ e ∷ words_of text) ≡ None
too_many a b c d e text = by_words (words_of text) (omega (arith, length-slice_split (λ byte. nat_eq byte 32) text))
  where
    by_words : (words : List (List ℕ)) → 0 < length words → said_of_words (a ∷ b ∷ c ∷ d ∷ e ∷ words) ≡ None
    by_words [] some = absurd (omega arith)
    by_words (word ∷ more) some = refl

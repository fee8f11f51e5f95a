-- The first word of a text, and the words of what follows it.
use Rattle.std.proofs.Common.{◌≡◌, ℕ, suc, ◌+◌, ◌<◌, Bool, true, false, not, cond, nat_lt, List, [], ◌∷◌, length, take, drop}
use Rattle.std.proofs.Common.{refl, sym, ap, subst, ◌∙◌, arith}
use Rattle.std.proofs.lemmas.Bool.Decides.{nat_tests}
use Rattle.std.specs.List.{filter, before_first, onto_first, position_or_len, prefix_len, slice_split}
use Rattle.em_base.specs.Text.{is_space, unindented}
use Rattle.em_script.specs.Lines.{words_in}

abbrev parts_of : List ℕ → List (List ℕ)
parts_of text = slice_split is_space text

-- the parts with one byte more in front, which is a space or isn't
abbrev parts_with : Bool → ℕ → List ℕ → List (List ℕ)
parts_with b x xs = cond b ([] ∷ parts_of xs) (onto_first x (parts_of xs))

abbrev nonempty : List (List ℕ) → List (List ℕ)
nonempty parts = filter (λ word. nat_lt 0 (length word)) parts

-- where the first part ends, with one byte more in front
abbrev word_end : Bool → List ℕ → ℕ
word_end b xs = cond (not b) (1 + position_or_len is_space xs) 0

-- what follows the first part
abbrev after_word : List ℕ → List ℕ
after_word text = drop (position_or_len is_space text) text

one_more : (n : ℕ) → 1 + n ≡ suc n
one_more n = omega arith

-- ---- the first part and the parts after it, of which the words stand after the first

parts-more : (x : ℕ) (xs : List ℕ) → (others : List (List ℕ)) × (parts_of xs ≡ before_first is_space xs ∷ others) × (nonempty others ≡ words_in (after_word xs))
    → (b : Bool) → is_space x ≡ b
    → (others : List (List ℕ)) × (parts_with b x xs ≡ take (word_end b xs) (x ∷ xs) ∷ others)
    × (nonempty others ≡ words_in (drop (word_end b xs) (x ∷ xs)))
parts-more x xs more true e = (parts_of xs, refl, sym (ap (λ c. nonempty (parts_with c x xs)) e))
parts-more x xs more false e =
    let n = sym (one_more (position_or_len is_space xs)) in
    (more.0, ap (onto_first x) more.1 ∙ ap (λ k. take k (x ∷ xs) ∷ more.0) n, more.2 ∙ ap (λ k. words_in (drop k (x ∷ xs))) n)

parts-in : (text : List ℕ) → (others : List (List ℕ)) × (parts_of text ≡ before_first is_space text ∷ others) × (nonempty others ≡ words_in (after_word text))
parts-in [] = ([], refl, refl)
parts-in (x ∷ xs) = parts-more x xs (parts-in xs) (is_space x) refl

nonempty-first : (word : List ℕ) (others : List (List ℕ)) → 0 < length word → nonempty (word ∷ others) ≡ word ∷ nonempty others
nonempty-first word others h =
    let some : nat_lt 0 (length word) ≡ true = grind (arith, nat_tests) in
    ap (λ b. cond b (word ∷ nonempty others) (nonempty others)) some

-- ---- blanks in front

indent-more : (x : ℕ) (xs : List ℕ) → words_in xs ≡ words_in (unindented xs) → (b : Bool) → is_space x ≡ b
    → nonempty (parts_with b x xs) ≡ words_in (drop (cond b (1 + prefix_len is_space xs) 0) (x ∷ xs))
indent-more x xs same true e = same ∙ ap (λ k. words_in (drop k (x ∷ xs))) (sym (one_more (prefix_len is_space xs)))
indent-more x xs same false e = sym (ap (λ c. nonempty (parts_with c x xs)) e)

words-unindented : (text : List ℕ) → words_in text ≡ words_in (unindented text)
words-unindented [] = refl
words-unindented (x ∷ xs) = indent-more x xs (words-unindented xs) (is_space x) refl

empty-more : (x : ℕ) (xs : List ℕ) → (length (before_first is_space (unindented xs)) ≡ 0 → words_in xs ≡ []) → (b : Bool) → is_space x ≡ b
    → length (before_first is_space (drop (cond b (1 + prefix_len is_space xs) 0) (x ∷ xs))) ≡ 0 → nonempty (parts_with b x xs) ≡ []
empty-more x xs none true e h = none (subst (λ k. length (before_first is_space (drop k (x ∷ xs))) ≡ 0) (one_more (prefix_len is_space xs)) h)
empty-more x xs none false e h =
    let k : length (take (1 + position_or_len is_space xs) (x ∷ xs)) ≡ 0 = subst (λ c. length (take (word_end c xs) (x ∷ xs)) ≡ 0) e h in
    let l : length (x ∷ take (position_or_len is_space xs) xs) ≡ 0 = subst (λ n. length (take n (x ∷ xs)) ≡ 0) (one_more (position_or_len is_space xs)) k in
    absurd (omega arith)

-- ---- the first word

-- where the text begins with no word, there is none
pub no-word : (text : List ℕ) → length (before_first is_space (unindented text)) ≡ 0 → words_in text ≡ []
no-word [] h = refl
no-word (x ∷ xs) h = empty-more x xs (no-word xs) (is_space x) refl h

-- the first word, and the words of what follows it
pub some-word : (text word rest : List ℕ) → word ≡ before_first is_space (unindented text) → rest ≡ after_word (unindented text) → 0 < length word
    → words_in text ≡ word ∷ words_in rest
some-word text word rest e f h =
    let parts = parts-in (unindented text) in
    let some : 0 < length (before_first is_space (unindented text)) = subst (λ w. 0 < length w) e h in
    words-unindented text ∙ ap nonempty parts.1 ∙ nonempty-first (before_first is_space (unindented text)) parts.0 some
    ∙ ap (λ t. before_first is_space (unindented text) ∷ t) parts.2
    ∙ ap (λ t. before_first is_space (unindented text) ∷ words_in t) (sym f) ∙ ap (λ w. w ∷ words_in rest) (sym e)

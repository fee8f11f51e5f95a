-- Texts that are put one after the other at the end of a text.
use Rattle.std.proofs.Common.{◌≡◌, ℕ, ◌+◌, List, [], ◌∷◌, ◌++◌, append_assoc, append-nil, map, arith, sym, ap, ◌∙◌}
use Rattle.std.proofs.lemmas.List.Concat.{flat_map-append}
use Rattle.std.proofs.lemmas.List.FromFn.{map-range_with_len_more}
use Rattle.std.proofs.lemmas.List.Folds.{flat_map-map}
use Rattle.std.specs.List.{flat_map, range_with_len}

-- three texts after one
pub three-after : (text a b c : List ℕ) → text ++ (a ++ b ++ c) ≡ text ++ a ++ b ++ c
three-after text a b c = simp append_assoc

-- what the numbers below one more give
flat_map-range_more : (f : ℕ → List ℕ) (n : ℕ) → flat_map f (range_with_len 0 (n + 1)) ≡ flat_map f (range_with_len 0 n) ++ f n
flat_map-range_more f n =
    let same : ℕ → ℕ = λ k. k in
    let few = range_with_len 0 n in
    sym (flat_map-map f same (range_with_len 0 (n + 1)))
    ∙ ap (flat_map f) (map-range_with_len_more same 0 n n (omega arith))
    ∙ flat_map-append f (map same few) (n ∷ [])
    ∙ ap (λ t. t ++ (f n ++ [])) (flat_map-map f same few)
    ∙ ap (λ t. flat_map f few ++ t) (append-nil (f n))

-- one more text, after a head and those of the numbers so far
pub next-after : (f : ℕ → List ℕ) (before head text : List ℕ) (n : ℕ) → text ≡ before ++ head ++ flat_map f (range_with_len 0 n)
    → text ++ f n ≡ before ++ head ++ flat_map f (range_with_len 0 (n + 1))
next-after f before head text n e =
    ap (λ t. t ++ f n) e ∙ append_assoc (before ++ head) (flat_map f (range_with_len 0 n)) (f n)
    ∙ ap (λ t. before ++ head ++ t) (sym (flat_map-range_more f n))

-- a head and the texts of all numbers, as one
pub all-after : (f : ℕ → List ℕ) (before head text : List ℕ) (n limit : ℕ) → n ≡ limit
    → text ≡ before ++ head ++ flat_map f (range_with_len 0 n)
    → text ≡ before ++ (head ++ flat_map f (range_with_len 0 limit))
all-after f before head text n limit all e =
    e ∙ append_assoc before head (flat_map f (range_with_len 0 n)) ∙ ap (λ k. before ++ (head ++ flat_map f (range_with_len 0 k))) all

-- three texts, put one after the other where nothing stood
pub three-alone : (start one two three a b c : List ℕ)
    → start ≡ [] → one ≡ start ++ a → two ≡ one ++ b → three ≡ two ++ c → three ≡ a ++ b ++ c
three-alone start one two three a b c e is_one is_two is_three =
    is_three ∙ ap (λ t. t ++ c) (is_two ∙ ap (λ t. t ++ b) (is_one ∙ ap (λ t. t ++ a) e))

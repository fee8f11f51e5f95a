-- A list that is changed in place, one item after the other.
use Rattle.std.proofs.Common.{◌≡◌, ◌∙◌, ℕ, zero, suc, ◌+◌, ◌<◌, ◌≤◌, List, [], ◌∷◌, ◌++◌, length, map, take, drop, slice_index_or, slice_set, ap, refl, arith}

-- the first i items are changed
abbrev pub changed_up_to : {A : Type 0} → (A → A) → ℕ → List A → List A
changed_up_to f i xs = map f (take i xs) ++ drop i xs

one_more : {A : Type 0} (f : A → A) (xs : List A) (i : ℕ) (d : A) → i < length xs
    → slice_set (changed_up_to f i xs) i (f (slice_index_or (changed_up_to f i xs) i d)) ≡ changed_up_to f (suc i) xs
one_more f [] i d h = absurd (omega (arith, h))
one_more f (x ∷ xs) zero d h = refl
one_more f (x ∷ xs) (suc i) d h = ap (λ rest. f x ∷ rest) (one_more f xs i d (omega (arith, h)))

-- one item more
pub changed_one_more : {A : Type 0} (f : A → A) (xs : List A) (i : ℕ) (d : A) → i < length xs
    → slice_set (changed_up_to f i xs) i (f (slice_index_or (changed_up_to f i xs) i d)) ≡ changed_up_to f (i + 1) xs
changed_one_more f xs i d h =
    let next : suc i ≡ i + 1 = omega arith in
    one_more f xs i d h ∙ ap (λ k. changed_up_to f k xs) next

-- all items
pub changed_all : {A : Type 0} (f : A → A) (xs : List A) (i : ℕ) → length xs ≤ i → changed_up_to f i xs ≡ map f xs
changed_all f [] zero h = refl
changed_all f [] (suc i) h = refl
changed_all f (x ∷ xs) zero h = absurd (omega (arith, h))
changed_all f (x ∷ xs) (suc i) h = ap (λ rest. f x ∷ rest) (changed_all f xs i (omega (arith, h)))

-- Tests of all items of a list, of any, and of repeats, where the list is mapped.
use Rattle.std.proofs.Common.{◌≡◌, ◌∙◌, List, [], ◌∷◌, Bool, map, refl, ap}
use Rattle.std.specs.List.{list_all, list_any}
use Rattle.em_table.specs.Values.{has_repeat}
use mathlib.Core.Bool.{◌&&◌, ◌||◌}

-- a test of all items
pub all-map : {A B : Type 0} (p : B → Bool) (f : A → B) (xs : List A) → list_all (λ x. p (f x)) xs ≡ list_all p (map f xs)
all-map p f [] = refl
all-map p f (x ∷ xs) = ap (λ b. p (f x) && b) (all-map p f xs)

-- a test of any item
pub any-map : {A B : Type 0} (p : B → Bool) (f : A → B) (xs : List A) → list_any (λ x. p (f x)) xs ≡ list_any p (map f xs)
any-map p f [] = refl
any-map p f (x ∷ xs) = ap (λ b. p (f x) || b) (any-map p f xs)

-- repeats by a test of what a function gives
pub has_repeat-map : {A B : Type 0} (same : B → B → Bool) (f : A → B) (xs : List A) → has_repeat (λ x y. same (f x) (f y)) xs ≡ has_repeat same (map f xs)
has_repeat-map same f [] = refl
has_repeat-map same f (x ∷ xs) =
    ap (λ b. b || has_repeat (λ x y. same (f x) (f y)) xs) (any-map (same (f x)) f xs)
    ∙ ap (λ b. list_any (same (f x)) (map f xs) || b) (has_repeat-map same f xs)

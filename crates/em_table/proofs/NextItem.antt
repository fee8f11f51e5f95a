-- The items of a list from a place on.
use Rattle.std.proofs.Common.{◌≡◌, ◌∙◌, ℕ, ◌+◌, ◌<◌, zero, suc, List, [], ◌∷◌, map, drop, length, get_or, drop-cons, add-one, refl, ap, sym, arith}

-- there is an item at a place within a list
pub item_at : {A : Type 0} (xs : List A) (i : ℕ) → i < length xs → (x : A) × (x ≡ get_or xs i x)
item_at [] i h = absurd (omega (arith, h))
item_at (x ∷ xs) zero h = (x, refl)
item_at (x ∷ xs) (suc i) h = item_at xs i (omega (arith, h))

-- the item at a place within a list, whatever is given for one outside it
pub same_item : {A : Type 0} (xs : List A) (i : ℕ) (d e : A) → i < length xs → get_or xs i d ≡ get_or xs i e
same_item [] i d e h = absurd (omega (arith, h))
same_item (x ∷ xs) zero d e h = refl
same_item (x ∷ xs) (suc i) d e h = same_item xs i d e (omega (arith, h))

-- the item there, and the items after it
pub next_item : {A B : Type 0} (see : A → B) (xs : List A) (i : ℕ) (x : A) → i < length xs → x ≡ get_or xs i x
    → map see (drop i xs) ≡ see x ∷ map see (drop (i + 1) xs)
next_item see xs i x h e =
    rw add-one (ap (map see) (drop-cons xs i x h) ∙ ap (λ y. see y ∷ map see (drop (suc i) xs)) (sym e))

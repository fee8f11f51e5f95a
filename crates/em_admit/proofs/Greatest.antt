-- The greatest of a list is the least number that none of the list is above.
use Rattle.std.proofs.Common.{◌≤◌, ℕ, List, [], ◌∷◌, map, max, All, arith}
use Rattle.std.specs.List.{fold}
use Rattle.std.proofs.lemmas.List.Elements.{All-cons, All-head, All-nil, All-tail}
use Rattle.std.proofs.Math.Nat.{max-le}
use Rattle.em_demand.specs.Charges.{greatest}

-- it is no less than where it begins
from_start : (start : ℕ) (numbers : List ℕ) → start ≤ fold max start numbers
from_start start [] = omega arith
from_start start (n ∷ rest) = omega (arith, from_start (max start n) rest)

-- none is above it
none_above_from : {X : Type 0} (start : ℕ) (f : X → ℕ) (xs : List X) → All (λ x. f x ≤ fold max start (map f xs)) xs
none_above_from start f [] = All-nil (λ x. f x ≤ start)
none_above_from {X} start f (x ∷ rest) =
    let below : X → Type 0 = λ y. f y ≤ fold max (max start (f x)) (map f rest) in
    All-cons below x rest (omega (arith, from_start (max start (f x)) (map f rest))) (none_above_from (max start (f x)) f rest)

pub none_above : {X : Type 0} (f : X → ℕ) (xs : List X) → All (λ x. f x ≤ greatest (map f xs)) xs
none_above f xs = none_above_from 0 f xs

-- where none is above a limit, it isn't either
least_from : {X : Type 0} (limit start : ℕ) (f : X → ℕ) (xs : List X) → start ≤ limit → All (λ x. f x ≤ limit) xs
    → fold max start (map f xs) ≤ limit
least_from limit start f [] low all = low
least_from limit start f (x ∷ rest) low all =
    least_from limit (max start (f x)) f rest (max-le low (All-head (λ y. f y ≤ limit) x rest all)) (All-tail (λ y. f y ≤ limit) x rest all)

pub least : {X : Type 0} (limit : ℕ) (f : X → ℕ) (xs : List X) → All (λ x. f x ≤ limit) xs → greatest (map f xs) ≤ limit
least limit f xs all = least_from limit 0 f xs (omega arith) all

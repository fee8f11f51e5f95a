-- How many lines a text has.
use Rattle.std.proofs.Common.{ℕ, ◌+◌, ◌≤◌, Bool, true, false, cond, ◌==◌, List, [], ◌∷◌, length, arith, lit≤}
use Rattle.std.specs.List.{slice_split, onto_first}
use Rattle.std.specs.Str.Lines.{lines, lines_of_parts}

-- an empty part in front is one line more at most
few_before : (parts : List (List ℕ)) → length (lines_of_parts ([] ∷ parts)) ≤ length (lines_of_parts parts) + 1
few_before [] = lit≤ tt
few_before (part ∷ parts) = omega arith

-- a last part is one line at most
one_at_most : (x : ℕ) (part : List ℕ) → length (lines_of_parts ((x ∷ part) ∷ [])) ≤ 1
one_at_most x part = by_cases (length (x ∷ part) == 0)
  where
    by_cases : (b : Bool) → length (cond b [] ((x ∷ part) ∷ [])) ≤ 1
    by_cases true = lit≤ tt
    by_cases false = lit≤ tt

-- a byte put before the first part makes one line more at most
few_onto : (x : ℕ) (parts : List (List ℕ)) → length (lines_of_parts (onto_first x parts)) ≤ length (lines_of_parts parts) + 1
few_onto x [] = omega (arith, one_at_most x [])
few_onto x (part ∷ []) = omega (arith, one_at_most x part)
few_onto x (part ∷ next ∷ parts) = omega arith

-- the same, whether the byte ends a line or not
few_either : (b : Bool) (x : ℕ) (parts : List (List ℕ)) → length (lines_of_parts (cond b ([] ∷ parts) (onto_first x parts))) ≤ length (lines_of_parts parts) + 1
few_either true x parts = few_before parts
few_either false x parts = few_onto x parts

-- each line takes a byte at least
pub length-lines : (text : List ℕ) → length (lines text) ≤ length text
length-lines [] = lit≤ tt
length-lines (x ∷ xs) = omega (arith, few_either (x == 10) x (slice_split (λ b. b == 10) xs), length-lines xs)

-- What a search finds among hints whose addresses rise.
use Rattle.std.proofs.Common.{◌≡◌, ℕ, ◌+◌, ◌<◌, ◌≤◌, ◌≢◌, List, [], ◌∷◌, length, get_or, eqb, Option, Some, None, Ok, Err, refl, sym, ap, arith, zero, suc}
use Rattle.std.proofs.lemmas.Bool.Decides.{nat_tests}
use Rattle.std.proofs.lemmas.Cmp.{ranked}
use Rattle.std.proofs.lemmas.List.Sorted.{IsNonDecreasingBy-from_default}
use Rattle.std.specs.List.Sorted.{IsBinarySearchResult, IsNonDecreasingBy}
use Rattle.std.specs.Map.{lookup}
use Rattle.std.specs.Ordering.{nat_cmp, ordering_index}
use Rattle.em_base.specs.Hints.{AreHintsRising}
use Rattle.em_base.specs.declared.ids.SemId.{SemId}

abbrev pub Hints : Type 0
Hints = List (ℕ × SemId)

-- what a read past the end gives
abbrev pub past_end : ℕ × SemId
past_end = (0, record { 0 = 0 })

abbrev address_at : Hints → ℕ → ℕ
address_at hints place = let hint = get_or hints place past_end in hint.0

abbrev pub found : Hints → ℕ → Option SemId
found hints address = lookup (λ other. eqb other address) hints

-- no address is below the lowest
lowest-le : (lowest : ℕ) (hints : Hints) (place : ℕ) → AreHintsRising lowest hints → place < length hints → lowest ≤ address_at hints place
lowest-le lowest [] place rising within = absurd (omega arith)
lowest-le lowest (hint ∷ hints) zero rising within = rising.0
lowest-le lowest (hint ∷ hints) (suc place) rising within = omega (arith, rising.0, lowest-le (hint.0 + 1) hints place rising.1 (omega arith))

-- each address is below those behind it
address_at-lt : (lowest : ℕ) (hints : Hints) (i j : ℕ) → AreHintsRising lowest hints → i < j → j < length hints → address_at hints i < address_at hints j
address_at-lt lowest [] i j rising below within = absurd (omega arith)
address_at-lt lowest (hint ∷ hints) i zero rising below within = absurd (omega arith)
address_at-lt lowest (hint ∷ hints) zero (suc j) rising below within = omega (arith, lowest-le (hint.0 + 1) hints j rising.1 (omega arith))
address_at-lt lowest (hint ∷ hints) (suc i) (suc j) rising below within = address_at-lt (hint.0 + 1) hints i j rising.1 (omega arith) (omega arith)

-- the address of a place has the hint of that place
found_at : (lowest : ℕ) (hints : Hints) (place address : ℕ) → AreHintsRising lowest hints → place < length hints → address_at hints place ≡ address → found hints address ≡ Some (get_or hints place past_end).1
found_at lowest [] place address rising within same = absurd (omega arith)
found_at lowest (hint ∷ hints) zero address rising within same = grind (arith, nat_tests)
found_at lowest (hint ∷ hints) (suc place) address rising within same =
    grind (arith, nat_tests, lowest-le (hint.0 + 1) hints place rising.1 (omega arith), found_at (hint.0 + 1) hints place address rising.1 (omega arith) same)

-- an address that no place has isn't found
found_nowhere : (hints : Hints) (address : ℕ) → ((place : ℕ) → place < length hints → address_at hints place ≢ address) → found hints address ≡ None
found_nowhere [] address other = refl
found_nowhere (hint ∷ hints) address other =
    grind (arith, nat_tests, other 0 (omega arith), found_nowhere hints address (λ place within. other (suc place) (omega arith)))

-- the comparisons with an address rise along the hints, as a binary search asks
comparisons_rise : (hints : Hints) (address : ℕ) → AreHintsRising 0 hints → IsNonDecreasingBy (λ hint. ordering_index (nat_cmp hint.0 address)) hints
comparisons_rise hints address rising = IsNonDecreasingBy-from_default (λ hint. ordering_index (nat_cmp hint.0 address)) hints past_end (λ i j le within.
    let rise : address_at hints i ≤ address_at hints j = grind (arith, address_at-lt 0 hints i j rising, λ (same : i ≡ j). ap (address_at hints) same) in
    grind (arith, nat_tests))

-- where a binary search ends at a place, that place has the hint
pub found_where : (hints : Hints) (address place : ℕ) → AreHintsRising 0 hints → place < length hints → IsBinarySearchResult (λ hint. nat_cmp hint.0 address) hints (Ok place) → found hints address ≡ Some (get_or hints place past_end).1
found_where hints address place rising within equal = found_at 0 hints place address rising within (ranked _ address _ (sym (equal past_end)))

-- where it ends in a gap, there is none
pub found_none : (hints : Hints) (address gap : ℕ) → AreHintsRising 0 hints → IsBinarySearchResult (λ hint. nat_cmp hint.0 address) hints (Err gap) → found hints address ≡ None
found_none hints address gap rising parted = found_nowhere hints address (λ place within same.
    let below = λ (lt : place < gap). ranked (address_at hints place) address _ (sym ((parted (comparisons_rise hints address rising)).0 place past_end (omega arith) lt)) in
    let above = λ (le : gap ≤ place). ranked (address_at hints place) address _ (sym ((parted (comparisons_rise hints address rising)).1 place past_end le within)) in
    grind (arith, below, above))

-- The map of an image has the hint of each `waitjob` at its address, and nothing else.
use Rattle.std.proofs.Common.{◌≡◌, ◌++◌, ◌+◌, ◌<◌, ◌≤◌, ◌==◌, ℕ, zero, suc, false, List, [], ◌∷◌, map, Option, Some, None, All, refl, sym, ap, subst, ◌∙◌, arith}
use Rattle.std.specs.List.{slice_index_or}
use Rattle.std.specs.Map.{lookup}
use Rattle.std.proofs.lemmas.Bool.Decides.{nat_tests}
use Rattle.std.proofs.lemmas.Map.Entries.{lookup_head, lookup_tail}
use Rattle.std.proofs.lemmas.List.Elements.{All-nil, All-cons}
use Rattle.em_base.specs.declared.apps.HintMap.{HintMap}
use Rattle.em_base.specs.declared.ids.SemId.{SemId}
use Rattle.em_base.specs.declared.images.Wait.{Wait}
use Rattle.em_base.specs.Hints.{AreHints, AreHintsRising, IsHintFor}
use Rattle.em_base.specs.Images.{AreRising}
use Rattle.em_hart.specs.Effect.{sum}
use Rattle.em_scan.specs.Hint.{IsHint}
use Rattle.em_hint.specs.Hints.{AreHintsOf, HasEach, IsWaitHint, entry}

abbrev Found : Type 0
Found = List (ℕ × SemId)

-- ---- the addresses rise

-- from a lower start they rise, too
rising_from : (low start : ℕ) (hints : Found) → low ≤ start → AreHintsRising start hints → AreHintsRising low hints
rising_from low start [] h r = tt
rising_from low start (hint ∷ hints) h r = (omega (arith, h, r.0), r.1)

-- where those of the `waitjob` statements do, those of the hints do
pub hints_rise : (code : List ℕ) (sems own low : ℕ) (waits : List Wait) (hints : Found) → AreRising low waits → AreHintsOf code sems own waits hints
    → AreHintsRising low hints
hints_rise code sems own low [] hints rise h = subst (AreHintsRising low) (sym h) tt
hints_rise code sems own low (wait ∷ waits) hints rise h =
    subst (AreHintsRising low) (sym h.3) (by_found h.0 (hints_rise code sems own (wait.address + 1) waits h.1 rise.1 h.4))
  where
    by_found : (found : Option SemId) → AreHintsRising (wait.address + 1) h.1 → AreHintsRising low (entry wait.address found ++ h.1)
    by_found None rest = rising_from low (wait.address + 1) h.1 (omega (arith, rise.0)) rest
    by_found (Some s) rest = (rise.0, rest)

-- ---- each is at the address of a `waitjob`

-- a call has no hint but one below the number of semaphores
abbrev pub Below : Type 0
Below = (code : List ℕ) (after sems own : ℕ) (s : SemId) → IsHint code after sems own s → s.0 < sems

addresses : List Wait → List ℕ
addresses waits = map (λ wait. wait.address) waits

-- what stands at an address of the rest stands at one of the whole
behind : (sems : ℕ) (wait : Wait) (waits : List Wait) (hint : ℕ × SemId) → IsHintFor sems waits hint → IsHintFor sems (wait ∷ waits) hint
behind sems wait waits hint h = ((suc h.0.0, omega (arith, h.0.1), h.0.2), h.1)

-- the hints are possible
pub hints_possible : Below → (code : List ℕ) (sems own : ℕ) (waits : List Wait) (hints : Found) → AreHintsOf code sems own waits hints
    → All (IsHintFor sems waits) hints
hints_possible below code sems own [] hints h = subst (All (IsHintFor sems [])) (sym h) (All-nil (IsHintFor sems []))
hints_possible below code sems own (wait ∷ waits) hints h =
    subst (All (IsHintFor sems (wait ∷ waits))) (sym h.3) (by_found h.0 h.2 (λ k d within. behind sems wait waits (slice_index_or h.1 k d) (hints_possible below code sems own waits h.1 h.4 k d within)))
  where
    by_found : (found : Option SemId) → IsWaitHint code sems own wait found → All (IsHintFor sems (wait ∷ waits)) h.1
        → All (IsHintFor sems (wait ∷ waits)) (entry wait.address found ++ h.1)
    by_found None is rest = rest
    by_found (Some s) is rest =
        All-cons (IsHintFor sems (wait ∷ waits)) (wait.address, s) h.1 ((zero, omega arith, refl), below code (sum wait.address 4) sems own s ((is s).0 refl)) rest

-- ---- each `waitjob` has its hint

-- nothing stands below the lowest address
none_below : (low x : ℕ) (hints : Found) → AreHintsRising low hints → x < low → lookup (λ other. other == x) hints ≡ None
none_below low x [] r h = refl
none_below low x (hint ∷ hints) r h =
    let far : (hint.0 == x) ≡ false = grind (arith, nat_tests, r.0) in
    lookup_tail (λ other. other == x) hint hints far ∙ none_below (hint.0 + 1) x hints r.1 (omega (arith, h, r.0))

-- the hint of a `waitjob` stands at its address, before those of later ones
found_at : (address : ℕ) (found : Option SemId) (rest : Found) → AreHintsRising (address + 1) rest
    → lookup (λ other. other == address) (entry address found ++ rest) ≡ found
found_at address None rest r = none_below (address + 1) address rest r (omega arith)
found_at address (Some s) rest r = lookup_head (λ other. other == address) (address, s) rest (grind (arith, nat_tests))

-- it isn't found at a later address
found_behind : (address x : ℕ) (found : Option SemId) (rest : Found) → address < x
    → lookup (λ other. other == x) (entry address found ++ rest) ≡ lookup (λ other. other == x) rest
found_behind address x None rest h = refl
found_behind address x (Some s) rest h = lookup_tail (λ other. other == x) (address, s) rest (grind (arith, nat_tests))

-- a `waitjob` has its hint in these, at an address that isn't below this one
abbrev HasItsHint : List ℕ → ℕ → ℕ → ℕ → Found → Wait → Type 0
HasItsHint code sems own low hints wait = IsWaitHint code sems own wait (lookup (λ other. other == wait.address) hints) × (low ≤ wait.address)

have_theirs : (code : List ℕ) (sems own low : ℕ) (waits : List Wait) (hints : Found) → AreRising low waits → AreHintsOf code sems own waits hints
    → All (HasItsHint code sems own low hints) waits
have_theirs code sems own low [] hints rise h = All-nil (HasItsHint code sems own low hints)
have_theirs code sems own low (wait ∷ waits) hints rise h =
    let rest = have_theirs code sems own (wait.address + 1) waits h.1 rise.1 h.4 in
    let up = hints_rise code sems own (wait.address + 1) waits h.1 rise.1 h.4 in
    All-cons (HasItsHint code sems own low hints) wait waits (first up, rise.0) (λ k d within. later (slice_index_or waits k d) (rest k d within))
  where
    at : (x : ℕ) → lookup (λ other. other == x) hints ≡ lookup (λ other. other == x) (entry wait.address h.0 ++ h.1)
    at x = ap (lookup (λ other. other == x)) h.3

    first : AreHintsRising (wait.address + 1) h.1 → IsWaitHint code sems own wait (lookup (λ other. other == wait.address) hints)
    first up = subst (IsWaitHint code sems own wait) (sym (at wait.address ∙ found_at wait.address h.0 h.1 up)) h.2

    later : (other : Wait) → HasItsHint code sems own (wait.address + 1) h.1 other → HasItsHint code sems own low hints other
    later other its =
        let same = at other.address ∙ found_behind wait.address other.address h.0 h.1 (omega (arith, its.1)) in
        (subst (IsWaitHint code sems own other) (sym same) its.0, omega (arith, its.1, rise.0))

-- the map has the hint of each
pub has_each : (code : List ℕ) (sems own : ℕ) (waits : List Wait) (hints : HintMap) → AreRising 0 waits → AreHintsOf code sems own waits hints.hints
    → HasEach code sems own waits hints
has_each code sems own waits hints rise h = λ k d within. (have_theirs code sems own 0 waits hints.hints rise h k d within).0

-- and it is a map of hints
pub is_map : Below → (code : List ℕ) (sems own : ℕ) (waits : List Wait) (hints : HintMap) → AreRising 0 waits → AreHintsOf code sems own waits hints.hints
    → AreHints sems waits hints
is_map below code sems own waits hints rise h = record {
  rising = hints_rise code sems own 0 waits hints.hints rise h;
  possible = hints_possible below code sems own waits hints.hints h;
}

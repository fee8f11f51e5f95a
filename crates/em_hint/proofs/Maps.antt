-- An image has one map of hints.
use Rattle.std.proofs.Common.{◌≡◌, ◌⊎◌, ◌++◌, ◌+◌, ◌≤◌, ℕ, suc, List, [], ◌∷◌, length, take, get_or, Option, Some, None, refl, sym, ap, ap₂, subst, ◌∙◌, inl, inr, arith}
use Rattle.std.specs.List.{slice_get}
use Rattle.std.proofs.lemmas.List.{append-nil, append_assoc, take_all}
use Rattle.std.proofs.lemmas.Option.{get_or_from_slice_get, slice_get_within}
use Rattle.std.proofs.Math.Seq.{take-suc}
use Rattle.em_base.specs.declared.ids.SemId.{SemId}
use Rattle.em_base.specs.declared.images.Wait.{Wait}
use Rattle.em_hart.specs.Effect.{sum}
use Rattle.em_scan.specs.Hint.{IsHint, IsHintOf}
use Rattle.em_hint.specs.Hints.{AreHintsOf, IsWaitHint, entry}

-- a call has a hint or none
abbrev pub Decided : Type 0
Decided = (code : List ℕ) (after sems own : ℕ) → ((s : SemId) × IsHint code after sems own s) ⊎ ((s : SemId) → IsHint code after sems own s → ⊥)

-- two hints of a call are one
abbrev pub OneHint : Type 0
OneHint = (code : List ℕ) (after sems own : ℕ) (one other : SemId) → IsHint code after sems own one → IsHint code after sems own other → one ≡ other

-- ---- what is found

-- what is found is one
pub one_found : (code : List ℕ) (after sems own : ℕ) (one other : Option SemId) → IsHintOf code after sems own one → IsHintOf code after sems own other
    → one ≡ other
one_found code after sems own None None a b = refl
one_found code after sems own None (Some t) a b = let h = (a t).1 ((b t).0 refl) in absurd (cc)
one_found code after sems own (Some s) other a b = sym ((b s).1 ((a s).0 refl))

-- something is found
pub some_found : Decided → OneHint → (code : List ℕ) (after sems own : ℕ) → (found : Option SemId) × IsHintOf code after sems own found
some_found decided one code after sems own = elim (decided code after sems own) [
  | inl found ↦ (Some found.0, (λ s. (λ e. subst (IsHint code after sems own) (unwrapped found.0 s e) found.1, λ h. ap Some (one code after sems own found.0 s found.1 h))))
  | inr none ↦ (None, (λ s. (λ e. absurd (cc), λ h. absurd (none s h))))
]
  where
    unwrapped : (a b : SemId) → Some a ≡ Some b → a ≡ b
    unwrapped a b e = cc

-- ---- the hints of a list

-- the hints of a list of `waitjob` statements are one list
pub same_hints : (code : List ℕ) (sems own : ℕ) (waits : List Wait) (one other : List (ℕ × SemId)) → AreHintsOf code sems own waits one
    → AreHintsOf code sems own waits other → one ≡ other
same_hints code sems own [] one other a b = a ∙ sym b
same_hints code sems own (wait ∷ waits) one other a b =
    let found = one_found code (sum wait.address 4) sems own a.0 b.0 a.2 b.2 in
    let rest = same_hints code sems own waits a.1 b.1 a.4 b.4 in
    a.3 ∙ ap₂ (λ f r. entry wait.address f ++ r) found rest ∙ sym b.3

-- there are some
pub some_hints : Decided → OneHint → (code : List ℕ) (sems own : ℕ) (waits : List Wait) → (hints : List (ℕ × SemId)) × AreHintsOf code sems own waits hints
some_hints decided one code sems own [] = ([], refl)
some_hints decided one code sems own (wait ∷ waits) =
    let found = some_found decided one code (sum wait.address 4) sems own in
    let rest = some_hints decided one code sems own waits in
    (entry wait.address found.0 ++ rest.0, (found.0, rest.0, found.1, refl, rest.1))

-- one `waitjob` more
pub more_hints : (code : List ℕ) (sems own : ℕ) (waits : List Wait) (hints : List (ℕ × SemId)) (wait : Wait) (found : Option SemId)
    → AreHintsOf code sems own waits hints → IsWaitHint code sems own wait found
    → AreHintsOf code sems own (waits ++ wait ∷ []) (hints ++ entry wait.address found)
more_hints code sems own [] hints wait found h is =
    let first : hints ++ entry wait.address found ≡ entry wait.address found ++ [] = ap (λ x. x ++ entry wait.address found) h ∙ sym (append-nil (entry wait.address found)) in
    (found, [], is, first, refl)
more_hints code sems own (other ∷ waits) hints wait found h is =
    let more = h.1 ++ entry wait.address found in
    let rest = more_hints code sems own waits h.1 wait found h.4 is in
    let joined : hints ++ entry wait.address found ≡ entry other.address h.0 ++ more =
    ap (λ x. x ++ entry wait.address found) h.3 ∙ append_assoc (entry other.address h.0) h.1 (entry wait.address found) in
    (h.0, more, h.2, joined, rest)

-- the same at a place of a list
pub hints_past : (code : List ℕ) (sems own : ℕ) (waits : List Wait) (i : ℕ) (hints : List (ℕ × SemId)) (wait : Wait) (found : Option SemId)
    → AreHintsOf code sems own (take i waits) hints → slice_get waits i ≡ Some wait → IsWaitHint code sems own wait found
    → AreHintsOf code sems own (take (i + 1) waits) (hints ++ entry wait.address found)
hints_past code sems own waits i hints wait found h here is =
    let one : get_or waits i wait ≡ wait = get_or_from_slice_get waits i wait wait here in
    let next : i + 1 ≡ suc i = omega arith in
    let longer : take (i + 1) waits ≡ take i waits ++ wait ∷ [] =
    ap (λ n. take n waits) next ∙ take-suc waits i wait (slice_get_within waits i wait here) ∙ ap (λ w. take i waits ++ w ∷ []) one in
    subst (λ ws. AreHintsOf code sems own ws (hints ++ entry wait.address found)) (sym longer)
    (more_hints code sems own (take i waits) hints wait found h is)

-- the hints of all
pub all_hints : (code : List ℕ) (sems own : ℕ) (waits : List Wait) (n : ℕ) (hints : List (ℕ × SemId)) → length waits ≤ n
    → AreHintsOf code sems own (take n waits) hints → AreHintsOf code sems own waits hints
all_hints code sems own waits n hints enough h = subst (λ ws. AreHintsOf code sems own ws hints) (take_all n waits enough) h

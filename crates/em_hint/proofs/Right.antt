-- The hints that are written are right, or one refusal names the first that isn't.
use Rattle.std.proofs.Common.{◌≡◌, ◌⊎◌, ◌+◌, ℕ, List, length, take, Option, Some, None, ◌≢◌, refl, inl, inr, ◌∙◌, sym, ap, subst}
use Rattle.std.specs.List.{slice_get}
use Rattle.std.proofs.lemmas.Bool.{cases_eq}
use Rattle.em_base.specs.declared.ids.SemId.{SemId}
use Rattle.em_base.specs.declared.images.Wait.{Wait}
use Rattle.em_base.specs.declared.refusals.Refusal.{Refusal}
use Rattle.em_base.specs.FirstFault.{AreClear}
use Rattle.em_base.proofs.FirstFaults.{clear_next, clear_or_first, clear_or_refused, one_refusal}
use Rattle.em_hart.specs.Effect.{sum}
use Rattle.em_scan.specs.Hint.{IsHint, IsHintOf}
use Rattle.em_hint.specs.Hints.{AreRight, HasWrongHint, IsMishinted, line_of_wait, wrong_hint}
use Rattle.em_hint.proofs.Maps.{Decided, OneHint}

one_some : (a b : ℕ) → Some a ≡ Some b → a ≡ b
one_some a b e = cc

-- a `waitjob` has one number that is wrong, or none
wrong_or_none : Decided → OneHint → (code : List ℕ) (sems own : ℕ) (before : List Wait) (wait : Wait)
    → ((written : ℕ) × HasWrongHint code sems own before wait written) ⊎ ((written : ℕ) → HasWrongHint code sems own before wait written → ⊥)
wrong_or_none decided one code sems own before wait = by_written wait.hint refl
  where
    by_written : (hint : Option ℕ) → wait.hint ≡ hint
        → ((written : ℕ) × HasWrongHint code sems own before wait written) ⊎ ((written : ℕ) → HasWrongHint code sems own before wait written → ⊥)
    by_written None e = inr (λ written h. absurd (cc (e, h.0)))
    by_written (Some n) e = elim (decided code (sum wait.address 4) sems own) [
      | inl found ↦ by_number n e found.0 found.1 (cases_eq found.0.0 n)
      | inr none ↦ inl (n, (e, none (record { 0 = n })))
    ]
      where
        by_number : (n : ℕ) → wait.hint ≡ Some n → (s : SemId) → IsHint code (sum wait.address 4) sems own s → (s.0 ≡ n) ⊎ (s.0 ≢ n)
            → ((written : ℕ) × HasWrongHint code sems own before wait written) ⊎ ((written : ℕ) → HasWrongHint code sems own before wait written → ⊥)
        by_number n e s is (inl same) = inr (λ written h. h.1 (subst (λ k. IsHint code (sum wait.address 4) sems own (record { 0 = k })) (same ∙ one_some n written (sym e ∙ h.0)) is))
        by_number n e s is (inr differs) = inl (n, (e, λ h. differs (ap (λ t. t.0) (one code (sum wait.address 4) sems own s (record { 0 = n }) is h))))

-- the written hints are right or refused
pub right_or_refused : Decided → OneHint → (code : List ℕ) (sems own : ℕ) (waits : List Wait)
    → AreRight code sems own waits ⊎ ((refusal : Refusal) × IsMishinted code sems own waits refusal)
right_or_refused decided one code sems own waits =
    elim (clear_or_first (HasWrongHint code sems own) waits (length waits) (wrong_or_none decided one code sems own)) [
      | inl clear ↦ inl clear
      | inr found ↦ inr (record { code = wrong_hint; line = line_of_wait waits found.0 }, record { place = found.0; fault = found.1; first = found.2; coded = refl; placed = refl })
    ]

one_number : (code : List ℕ) (sems own : ℕ) (before : List Wait) (wait : Wait) (one other : ℕ) → HasWrongHint code sems own before wait one
    → HasWrongHint code sems own before wait other → one ≡ other
one_number code sems own before wait one other a b = cc (a.0, b.0)

-- one refusal names the first that is wrong
pub one_mishinted : (code : List ℕ) (sems own : ℕ) (waits : List Wait) (one other : Refusal) → IsMishinted code sems own waits one
    → IsMishinted code sems own waits other → one ≡ other
one_mishinted code sems own waits one other a b =
    one_refusal (HasWrongHint code sems own) (λ written. wrong_hint) (line_of_wait waits) waits one other (one_number code sems own) a b

-- and none does where all are right
pub right_and_refused : (code : List ℕ) (sems own : ℕ) (waits : List Wait) (refusal : Refusal) → AreRight code sems own waits
    → IsMishinted code sems own waits refusal → ⊥
right_and_refused code sems own waits refusal right refused =
    clear_or_refused (HasWrongHint code sems own) (λ written. wrong_hint) (line_of_wait waits) waits refusal right refused

-- the refusal of the first that is wrong
pub names_first : (code : List ℕ) (sems own : ℕ) (waits : List Wait) (i : ℕ) (wait : Wait) (refusal : Refusal) (found : Option SemId)
    → AreClear (HasWrongHint code sems own) waits i → slice_get waits i ≡ Some wait → IsHintOf code (sum wait.address 4) sems own found
    → (written : ℕ) → wait.hint ≡ Some written → (found ≡ Some (record { 0 = written }) → ⊥)
    → refusal.code ≡ wrong_hint → refusal.line ≡ line_of_wait waits i → IsMishinted code sems own waits refusal
names_first code sems own waits i wait refusal found clear here is written e differs coded placed = record {
  place = i;
  fault = written;
  first = record { item = wait; here = here; faulty = (e, λ h. differs ((is (record { 0 = written })).1 h)); before = clear };
  coded = coded;
  placed = placed;
}

-- the list is clear past a `waitjob` whose number is right
pub clear_past_right : (code : List ℕ) (sems own : ℕ) (waits : List Wait) (i : ℕ) (wait : Wait) (found : Option SemId)
    → AreClear (HasWrongHint code sems own) waits i → slice_get waits i ≡ Some wait → IsHintOf code (sum wait.address 4) sems own found
    → ((written : ℕ) → wait.hint ≡ Some written → found ≡ Some (record { 0 = written }))
    → AreClear (HasWrongHint code sems own) waits (i + 1)
clear_past_right code sems own waits i wait found clear here is right =
    clear_next (HasWrongHint code sems own) waits i clear (λ item written there wrong. at_item item written (one_wait item there) wrong)
  where
    one_wait : (item : Wait) → slice_get waits i ≡ Some item → wait ≡ item
    one_wait item there = cc

    at_item : (item : Wait) (written : ℕ) → wait ≡ item → HasWrongHint code sems own (take i waits) item written → ⊥
    at_item item written same wrong =
        let mine = subst (λ w. HasWrongHint code sems own (take i waits) w written) (sym same) wrong in
        mine.1 ((is (record { 0 = written })).0 (right written mine.0))

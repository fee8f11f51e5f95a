-- The tests of one group after the other.
use Rattle.std.proofs.Common.{◌≡◌, ◌∙◌, ℕ, ◌+◌, ◌<◌, List, [], ◌∷◌, ◌++◌, map, drop, length, get_or, sym, ap, subst, append_assoc, Option, None}
use Rattle.em_base.specs.declared.refusals.Fail.{Fail}
use Rattle.em_table.specs.declared.faults.Fault.{Fault}
use Rattle.em_table.specs.Faults.{first_of, IsFailBy}
use Rattle.em_table.proofs.FirstOfTests.{first_after_none, first_is_failure}
use Rattle.em_table.proofs.NextItem.{next_item}

-- the group at a place has no fault
pub group_clear : {A M : Type 0} (test : M → Option Fault) (see : A → M) (xs : List A) (i : ℕ) (x : A) → i < length xs → x ≡ get_or xs i x
    → test (see x) ≡ None → first_of (map test (map see (drop i xs))) ≡ first_of (map test (map see (drop (i + 1) xs)))
group_clear test see xs i x h e n =
    ap (λ groups. first_of (map test groups)) (next_item see xs i x h e) ∙ first_after_none (test (see x)) (map test (map see (drop (i + 1) xs))) n

-- it has one
pub group_fails : {A M : Type 0} (test : M → Option Fault) (see : A → M) (xs : List A) (i : ℕ) (x : A) (fail : Fail) → i < length xs → x ≡ get_or xs i x
    → IsFailBy (test (see x)) fail → IsFailBy (first_of (map test (map see (drop i xs)))) fail
group_fails test see xs i x fail h e n =
    subst (λ groups. IsFailBy (first_of (map test groups)) fail) (sym (next_item see xs i x h e))
    (first_is_failure (test (see x)) (map test (map see (drop (i + 1) xs))) fail n)

-- it is read
pub group_read : {A M B : Type 0} (value : M → B) (see : A → M) (xs : List A) (i : ℕ) (x : A) (all done : List B) → i < length xs → x ≡ get_or xs i x
    → all ≡ done ++ map value (map see (drop i xs)) → all ≡ (done ++ value (see x) ∷ []) ++ map value (map see (drop (i + 1) xs))
group_read value see xs i x all done h e same =
    same ∙ (ap (λ groups. done ++ map value groups) (next_item see xs i x h e) ∙ sym (append_assoc done (value (see x) ∷ []) (map value (map see (drop (i + 1) xs)))))

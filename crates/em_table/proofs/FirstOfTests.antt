-- The first fault of tests that are made one list after the other.
use Rattle.std.proofs.Common.{◌≡◌, List, [], ◌∷◌, ◌++◌, Option, Some, None, Result, Ok, Err, refl, sym, ap, subst}
use Rattle.std.specs.Option.{option_map}
use Rattle.std.specs.Result.{IsErr, IsErrAnd}
use Rattle.em_base.specs.declared.refusals.Fail.{Fail}
use Rattle.em_base.specs.declared.refusals.Fail.TheVariants.{Refused, NoMemory}
use Rattle.em_table.specs.declared.faults.Fault.{Fault}
use Rattle.em_table.specs.Faults.{first_of, refusal_of, IsFailBy}
use Rattle.em_table.specs.Reading.{GivesOrFails}

-- the first list finds one
pub first_in_front : (tests rest : List (Option Fault)) (fault : Fault) → first_of tests ≡ Some fault → first_of (tests ++ rest) ≡ Some fault
first_in_front [] rest fault h = absurd (cc)
first_in_front (Some other ∷ tests) rest fault h = h
first_in_front (None ∷ tests) rest fault h = first_in_front tests rest fault h

-- the first list finds none
pub first_in_rest : (tests rest : List (Option Fault)) → first_of tests ≡ None → first_of (tests ++ rest) ≡ first_of rest
first_in_rest [] rest h = refl
first_in_rest (Some other ∷ tests) rest h = absurd (cc)
first_in_rest (None ∷ tests) rest h = first_in_rest tests rest h

-- the first test finds no fault
pub first_after_none : (fault : Option Fault) (rest : List (Option Fault)) → fault ≡ None → first_of (fault ∷ rest) ≡ first_of rest
first_after_none fault rest h = rw h refl

-- the first test finds the fault
pub first_is_failure : (fault : Option Fault) (rest : List (Option Fault)) (fail : Fail) → IsFailBy fault fail → IsFailBy (first_of (fault ∷ rest)) fail
first_is_failure fault rest NoMemory h = tt
first_is_failure (Some fault) rest (Refused refusal) h = h
first_is_failure None rest (Refused refusal) h = absurd (cc)

-- the refusal of a fault is the failure by the fault that the tests find
pub fails_by : (first : Option Fault) (fault : Fault) (fail : Fail) → fail ≡ Refused (refusal_of fault) → first ≡ Some fault → IsFailBy first fail
fails_by first fault fail e f = subst (IsFailBy first) (sym e) (ap (option_map refusal_of) f)

-- what `?` answers where a fault was found
pub fault_handed_on : {A : Type 0} (result : Result A Fail) (fault : Fault) (first : Option Fault) (value : A)
    → IsErr result → IsErrAnd result (λ fail. fail ≡ Refused (refusal_of fault)) → first ≡ Some fault → GivesOrFails result first value
fault_handed_on (Ok x) fault first value h e f = absurd e
fault_handed_on (Err fail) fault first value h e f = fails_by first fault fail e f

-- the failure of a list of tests is that of a longer one
pub fails_in_front : (tests rest : List (Option Fault)) (fail : Fail) → IsFailBy (first_of tests) fail → IsFailBy (first_of (tests ++ rest)) fail
fails_in_front tests rest NoMemory h = tt
fails_in_front [] rest (Refused refusal) h = absurd (cc)
fails_in_front (Some fault ∷ tests) rest (Refused refusal) h = h
fails_in_front (None ∷ tests) rest (Refused refusal) h = fails_in_front tests rest (Refused refusal) h

-- what `?` answers where a call failed that made the same tests
pub fail_handed_on : {A : Type 0} (result : Result A Fail) (fail : Fail) (first : Option Fault) (value : A)
    → IsErr result → IsErrAnd result (λ e. e ≡ fail) → IsFailBy first fail → GivesOrFails result first value
fail_handed_on (Ok x) fail first value h e f = absurd e
fail_handed_on (Err other) fail first value h e f = subst (IsFailBy first) (sym e) f

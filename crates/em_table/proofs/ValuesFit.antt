-- A value that passes its tests is in its range.
use Rattle.std.proofs.Common.{◌≡◌, ℕ, pos, negsuc, ◌<◌, ◌≤◌, ◌%◌, Bool, true, false, not, List, [], ◌∷◌, ◌++◌, Option, Some, None, IfSome, All, refl, sym}
use Rattle.std.proofs.Common.{subst, arith, length}
use Rattle.std.proofs.lemmas.Bool.{leb-true}
use Rattle.std.proofs.lemmas.List.Elements.{All-nil, All-cons}
use Rattle.std.specs.List.{list_all, list_any, filter_map, AllByRecursion, IsDistinct}
use Rattle.std.specs.Bool.{⊤}
use Rattle.std.specs.Option.{unwrap_or}
use Rattle.toml.specs.Data.{Data, string, integer, float, boolean, datetime, array, table, as_table}
use Rattle.em_base.specs.Tables.{IsFrom, IsGiven}
use Rattle.em_base.proofs.Trimming.{both}
use Rattle.em_table.specs.declared.faults.Fault.{Fault}
use Rattle.em_table.specs.declared.keys.Need.{Need}
use Rattle.em_table.specs.declared.keys.Need.TheVariants.{Required, Optional, Foreign}
use Rattle.em_table.specs.Faults.{first_of, unless}
use Rattle.em_table.specs.Values.{key_fault, is_there, passes, given, is_integer, is_number, is_text, text_in, is_array, is_within, number_fault, number_at}
use Rattle.em_table.specs.Values.{number_in, text_fault, text_at, is_below, numbers_fault, numbers_at, is_table, items_in, has_repeat}
use mathlib.Core.Bool.{◌||◌}

-- ---- tests

-- where a test finds no fault, it holds
pub unless_none : (b : Bool) (fault : Fault) → unless b fault ≡ None → b ≡ true
unless_none true fault h = refl
unless_none false fault h = absurd (cc)

-- where the first fault is none, the first test and the others find none
pub first_none : (fault : Option Fault) (rest : List (Option Fault)) → first_of (fault ∷ rest) ≡ None → (fault ≡ None) × (first_of rest ≡ None)
first_none None rest h = (refl, h)
first_none (Some fault) rest h = absurd (cc)

-- each test passes
abbrev pub AreNone : List (Option Fault) → Type 0
AreNone [] = ⊤
AreNone (fault ∷ rest) = (fault ≡ None) × AreNone rest

-- where the first fault is none, each is
pub each_is_none : (tests : List (Option Fault)) → first_of tests ≡ None → AreNone tests
each_is_none [] h = tt
each_is_none (None ∷ tests) h = (refl, each_is_none tests h)
each_is_none (Some fault ∷ tests) h = absurd (cc)

-- the same of two lists of tests
pub append_none : (tests rest : List (Option Fault)) → first_of (tests ++ rest) ≡ None → (first_of tests ≡ None) × (first_of rest ≡ None)
append_none [] rest h = (refl, h)
append_none (None ∷ tests) rest h = append_none tests rest h
append_none (Some fault ∷ tests) rest h = absurd (cc)

-- what isn't true is false
pub not_true : (b : Bool) → not b ≡ true → b ≡ false
not_true true h = absurd (cc)
not_true false h = refl

-- where none of two holds, neither does
pub or_false : (a b : Bool) → (a || b) ≡ false → (a ≡ false) × (b ≡ false)
or_false false b h = (refl, h)
or_false true b h = absurd (cc)

-- where the tests of a key find no fault, each passes
pub key_fits : (need : Need) (kind range : Data → Bool) (value : Option Data) → key_fault need kind range value ≡ None
    → (is_there need value ≡ true) × (passes kind (given need value) ≡ true) × (passes range (given need value) ≡ true)
key_fits need kind range value h =
    let a = first_none _ _ h in
    let b = first_none _ _ a.1 in
    let c = first_none _ _ b.1 in
    (unless_none _ _ a.0, unless_none _ _ b.0, unless_none _ _ c.0)

-- ---- numbers

within : (low high step n : ℕ) → is_within low high step n ≡ true → IsFrom low high n × (n % step ≡ 0)
within low high step n h =
    let a = both _ _ h in
    let b = both _ _ a.0 in
    ((leb-true _ _ b.0, leb-true _ _ b.1), grind (arith, a.1))

-- a number that stands at a key
pub number_there : (low high step : ℕ) (d : Data) → number_fault Optional low high step (Some d) ≡ None
    → (n : ℕ) × (number_in d ≡ Some n) × IsFrom low high n × (n % step ≡ 0)
number_there low high step (integer (pos n)) h =
    let w = within low high step n (key_fits Optional is_integer (is_number low high step) (Some (integer (pos n))) h).2 in (n, refl, w.0, w.1)
number_there low high step (integer (negsuc n)) h = absurd (cc)
number_there low high step (string s) h = absurd (cc)
number_there low high step (float s) h = absurd (cc)
number_there low high step (boolean s) h = absurd (cc)
number_there low high step (datetime s) h = absurd (cc)
number_there low high step (array s) h = absurd (cc)
number_there low high step (table s) h = absurd (cc)

-- a number that is required
pub number_given : (low high step : ℕ) (value : Option Data) → number_fault Required low high step value ≡ None → IsGiven low high (number_at Required value)
number_given low high step None h = absurd (cc)
number_given low high step (Some d) h =
    let there = number_there low high step d h in subst (IsGiven low high) (sym there.1) there.2

-- a number that may be left out
pub number_if_any : (low high step : ℕ) (value : Option Data) → number_fault Optional low high step value ≡ None
    → IfSome (number_at Optional value) (λ n. IsFrom low high n × (n % step ≡ 0))
number_if_any low high step None h = tt
number_if_any low high step (Some d) h =
    let there = number_there low high step d h in
    subst (λ o. IfSome o (λ n. IsFrom low high n × (n % step ≡ 0))) (sym there.1) (there.2, there.3)

-- a number that the group does not have
pub number_foreign : (value : Option Data) → number_at Foreign value ≡ None
number_foreign None = refl
number_foreign (Some d) = refl

-- the number, or its default, is at most so great
pub most_or_default : (low high step default : ℕ) (o : Option ℕ) → default ≤ high → IfSome o (λ n. IsFrom low high n × (n % step ≡ 0)) → unwrap_or o default ≤ high
most_or_default low high step default None d h = d
most_or_default low high step default (Some n) d h = h.0.1

-- the number, or its default, is a multiple
pub multiple_or_default : (low high step default : ℕ) (o : Option ℕ) → default % step ≡ 0 → IfSome o (λ n. IsFrom low high n × (n % step ≡ 0)) → unwrap_or o default % step ≡ 0
multiple_or_default low high step default None d h = d
multiple_or_default low high step default (Some n) d h = h.1

-- a number that there is, is at most so great
pub below_high : (low high step : ℕ) (o : Option ℕ) → IfSome o (λ n. IsFrom low high n × (n % step ≡ 0)) → IfSome o (λ n. n ≤ high)
below_high low high step None h = tt
below_high low high step (Some n) h = h.0.1

-- ---- texts

-- a text passes its test
pub text_fits : (test : List ℕ → Bool) (value : Option Data) → text_fault test value ≡ None → test (text_at value) ≡ true
text_fits test None h = absurd (cc)
text_fits test (Some d) h = (key_fits Required is_text (λ found. test (text_in found)) (Some d) h).2

-- ---- arrays

below_all : (bound : ℕ) (ds : List Data) → list_all (is_below bound) ds ≡ true → All (λ n. n < bound) (filter_map number_in ds)
below_all bound [] h = All-nil (λ n. n < bound)
below_all bound (integer (pos n) ∷ ds) h =
    let a = both _ _ h in All-cons (λ n. n < bound) n (filter_map number_in ds) (leb-true _ _ a.0) (below_all bound ds a.1)
below_all bound (integer (negsuc n) ∷ ds) h = absurd (cc)
below_all bound (string s ∷ ds) h = absurd (cc)
below_all bound (float s ∷ ds) h = absurd (cc)
below_all bound (boolean s ∷ ds) h = absurd (cc)
below_all bound (datetime s ∷ ds) h = absurd (cc)
below_all bound (array s ∷ ds) h = absurd (cc)
below_all bound (table s ∷ ds) h = absurd (cc)

-- the numbers of an array are below their bound
pub numbers_below : (bound : ℕ) (value : Option Data) → numbers_fault bound value ≡ None → All (λ n. n < bound) (numbers_at value)
numbers_below bound None h = All-nil (λ n. n < bound)
numbers_below bound (Some d) h = below_all bound (items_in d) (key_fits Optional (is_array is_integer) (λ found. list_all (is_below bound) (items_in found)) (Some d) h).2

-- an array of tables has a table for each item
pub count_of_tables : (ds : List Data) → list_all is_table ds ≡ true → length (filter_map as_table ds) ≡ length ds
count_of_tables [] h = refl
count_of_tables (table m ∷ ds) h = grind (arith, count_of_tables ds h)
count_of_tables (integer s ∷ ds) h = absurd (cc)
count_of_tables (string s ∷ ds) h = absurd (cc)
count_of_tables (float s ∷ ds) h = absurd (cc)
count_of_tables (boolean s ∷ ds) h = absurd (cc)
count_of_tables (datetime s ∷ ds) h = absurd (cc)
count_of_tables (array s ∷ ds) h = absurd (cc)

-- ---- repeats

all_other : {A : Type 0} (test : A → Bool) (xs : List A) → list_any test xs ≡ false → AllByRecursion (λ x. test x ≡ false) xs
all_other test [] h = tt
all_other test (x ∷ xs) h = let o = or_false _ _ h in (o.0, all_other test xs o.1)

-- a list without a repeat has each item once
pub no_repeat : {A : Type 0} (same : A → A → Bool) (xs : List A) → has_repeat same xs ≡ false → IsDistinct same xs
unfolding IsDistinct
no_repeat same [] h = tt
no_repeat same (x ∷ xs) h = let o = or_false _ _ h in (all_other (same x) xs o.0, no_repeat same xs o.1)

-- What tests and looks at the values of an array find at one value, and after it.
use Rattle.std.proofs.Common.{◌≡◌, ◌∙◌, ℕ, ◌+◌, ◌<◌, List, [], ◌∷◌, Bool, true, false, Option, Some, map, drop, length, get_or, refl, ap, sym}
use Rattle.std.specs.List.{list_all, filter_map, cons_option}
use Rattle.toml.specs.Data.{Data}
use Rattle.toml.specs.View.{view, items_of}
use Rattle.toml.specs.declared.value.Value.{Value}
use Rattle.em_table.specs.Values.{list_of}
use Rattle.em_table.proofs.NextItem.{next_item}
use mathlib.Core.Bool.{◌&&◌}

-- the look finds something in the value
pub found_next : {B : Type 0} (look : Data → Option B) (values : List Value) (i : ℕ) (value : Value) (b : B)
    → i < length values → value ≡ get_or values i value → Some b ≡ look (view value)
    → filter_map look (map view (drop i values)) ≡ b ∷ filter_map look (map view (drop (i + 1) values))
found_next look values i value b h e s =
    ap (filter_map look) (next_item view values i value h e)
    ∙ ap (λ o. cons_option o (filter_map look (map view (drop (i + 1) values)))) (sym s)

-- the value passes the test, or it fails it
pub passes_next : (test : Data → Bool) (values : List Value) (i : ℕ) (value : Value) → i < length values → value ≡ get_or values i value
    → test (view value) ≡ true → list_all test (map view (drop i values)) ≡ list_all test (map view (drop (i + 1) values))
passes_next test values i value h e s =
    ap (list_all test) (next_item view values i value h e) ∙ ap (λ b. b && list_all test (map view (drop (i + 1) values))) s

-- the value fails the test
pub fails_here : (test : Data → Bool) (values : List Value) (i : ℕ) (value : Value) → i < length values → value ≡ get_or values i value
    → test (view value) ≡ false → list_all test (map view (drop i values)) ≡ false
fails_here test values i value h e s =
    ap (list_all test) (next_item view values i value h e) ∙ ap (λ b. b && list_all test (map view (drop (i + 1) values))) s

-- the items of a list of data
pub list_of-items_of : (ds : List Data) → list_of (items_of ds) ≡ ds
list_of-items_of [] = refl
list_of-items_of (d ∷ ds) = ap (λ x. d ∷ x) (list_of-items_of ds)

-- The values that stand at the keys of a group, and what may be wrong with them: this project's own, over the data that TOML
-- texts are read as.
use Rattle.std.specs.Prelude.{ℕ, pos, ◌%◌, Bool, true, false, ◌&&◌, ◌||◌, nat_le, nat_lt, nat_eq, List, [], ◌∷◌, length, Option, Some, None}
use Rattle.std.specs.List.{list_all, list_any, filter_map}
use Rattle.std.specs.Option.{unwrap_or, option_map, is_some}
use Rattle.std.specs.Str.{bytes_eq}
use Rattle.toml.specs.Data.{Data, integer, Items, no_items, item, Members, no_members, member, as_str, as_integer, as_array, as_table}
use Rattle.em_table.specs.declared.faults.Fault.{Fault}
use Rattle.em_table.specs.declared.faults.Fault.TheVariants.{Missing, WrongKind, OutOfRange}
use Rattle.em_table.specs.declared.keys.Need.{Need}
use Rattle.em_table.specs.declared.keys.Need.TheVariants.{Required, Optional, Foreign}
use Rattle.em_table.specs.Faults.{unless, first_of}

-- ---- the tests of a key

-- what stands at a key, where the group has that key
abbrev pub given : {A : Type 0} → Need → Option A → Option A
given Foreign value = None
given Required value = value
given Optional value = value

-- a required key has a value
abbrev pub is_there : Need → Option Data → Bool
is_there Required None = false
is_there _ _ = true

-- a value that there is passes the test
abbrev pub passes : (Data → Bool) → Option Data → Bool
passes test None = true
passes test (Some value) = test value

-- the value of a key is there, if it is required; it is of a kind; and it is in a range: tested in this order
abbrev pub key_fault : Need → (Data → Bool) → (Data → Bool) → Option Data → Option Fault
key_fault need kind range value =
    first_of
    (unless (is_there need value) Missing
    ∷ unless (passes kind (given need value)) WrongKind
    ∷ unless (passes range (given need value)) OutOfRange
    ∷ [])

-- each key is one of these
abbrev pub are_among : List (List ℕ) → Members → Bool
are_among keys no_members = true
are_among keys (member key value rest) = list_any (bytes_eq key) keys && are_among keys rest

-- ---- numbers

abbrev pub is_integer : Data → Bool
is_integer value = is_some (as_integer value)

-- from low to high, a multiple of step
abbrev pub is_within : ℕ → ℕ → ℕ → ℕ → Bool
is_within low high step n = nat_le low n && nat_le n high && nat_eq (n % step) 0

abbrev pub is_number : ℕ → ℕ → ℕ → Data → Bool
is_number low high step (integer (pos n)) = is_within low high step n
is_number low high step _ = false

abbrev pub number_fault : Need → ℕ → ℕ → ℕ → Option Data → Option Fault
number_fault need low high step value = key_fault need is_integer (is_number low high step) value

-- the number that a value is, where it is one from 0 on
abbrev pub number_in : Data → Option ℕ
number_in (integer (pos n)) = Some n
number_in _ = None

-- the number at a key, where there is one
abbrev pub number_at : Need → Option Data → Option ℕ
number_at need None = None
number_at need (Some value) = given need (number_in value)

-- ---- texts

abbrev pub is_text : Data → Bool
is_text value = is_some (as_str value)

abbrev pub text_in : Data → List ℕ
text_in value = unwrap_or (as_str value) []

-- a text that is required and passes a test
abbrev pub text_fault : (List ℕ → Bool) → Option Data → Option Fault
text_fault test value = key_fault Required is_text (λ found. test (text_in found)) value

abbrev pub text_at : Option Data → List ℕ
text_at None = []
text_at (Some value) = text_in value

-- ---- arrays

abbrev pub list_of : Items → List Data
list_of no_items = []
list_of (item value rest) = value ∷ list_of rest

-- the items of a value that is an array
abbrev pub items_in : Data → List Data
items_in value = unwrap_or (option_map list_of (as_array value)) []

-- the items at a key, where there is an array
abbrev pub items_at : Option Data → List Data
items_at None = []
items_at (Some value) = items_in value

-- an array whose items are all of a kind
abbrev pub is_array : (Data → Bool) → Data → Bool
is_array kind value = is_some (as_array value) && list_all kind (items_in value)

-- an array of tables, from low to high in number
abbrev pub is_table : Data → Bool
is_table value = is_some (as_table value)

abbrev pub tables_fault : Need → ℕ → ℕ → Option Data → Option Fault
tables_fault need low high value = key_fault need (is_array is_table) (λ found. is_within low high 1 (length (items_in found))) value

abbrev pub tables_at : Option Data → List Members
tables_at value = filter_map as_table (items_at value)

-- an array of numbers below a bound, which may be left out
abbrev pub is_below : ℕ → Data → Bool
is_below bound (integer (pos n)) = nat_lt n bound
is_below bound _ = false

abbrev pub numbers_fault : ℕ → Option Data → Option Fault
numbers_fault bound value = key_fault Optional (is_array is_integer) (λ found. list_all (is_below bound) (items_in found)) value

abbrev pub numbers_at : Option Data → List ℕ
numbers_at value = filter_map number_in (items_at value)

-- an array of texts, which is required
abbrev pub texts_fault : Option Data → Option Fault
texts_fault value = key_fault Required (is_array is_text) (λ found. true) value

abbrev pub texts_at : Option Data → List (List ℕ)
texts_at value = filter_map as_str (items_at value)

-- ---- repeats

-- an item of a list is the same as one after it
abbrev pub has_repeat : {A : Type 0} → (A → A → Bool) → List A → Bool
has_repeat same [] = false
has_repeat same (x ∷ xs) = list_any (same x) xs || has_repeat same xs

-- The first fault of a list, and the refusal that names it: this project's own. Whether an item has a fault is told by the
-- items before it and by itself.
use Rattle.std.specs.Prelude.{◌≡◌, ℕ, ◌<◌, List, take, slice_get, Option, Some}
use Rattle.em_base.specs.declared.refusals.Refusal.{Refusal}

-- an item has the fault that a test finds
abbrev pub by_test : {A F : Type 0} → (List A → A → Option F) → List A → A → F → Type 0
by_test test before item fault = test before item ≡ Some fault

-- no item before a place has a fault
abbrev pub AreClear : {A F : Type 0} → (List A → A → F → Type 0) → List A → ℕ → Type 0
AreClear {A} {F} has_fault items place =
    (i : ℕ) → i < place → (item : A) (fault : F) → slice_get items i ≡ Some item → has_fault (take i items) item fault → ⊥

-- the item at this place, counted from 0, is the first that has a fault
pub record IsFirstFault {A F : Type 0} (has_fault : List A → A → F → Type 0) (items : List A) (place : ℕ) (fault : F) : Type 0 where
  pub item : A
  pub here : slice_get items place ≡ Some item
  pub faulty : has_fault (take place items) item fault
  pub before : AreClear has_fault items place

-- the refusal names the first item that has a fault, by the code of each fault and by the number of each place
pub record NamesFirst {A F : Type 0} (has_fault : List A → A → F → Type 0) (code : F → ℕ) (number : ℕ → ℕ) (items : List A) (refusal : Refusal) : Type 0 where
  pub place : ℕ
  pub fault : F
  pub first : IsFirstFault has_fault items place fault
  pub coded : refusal.code ≡ code fault
  pub placed : refusal.line ≡ number place

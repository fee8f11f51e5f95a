-- Whether there is a value in each place of a list, whatever the values are seen as.
use Rattle.std.proofs.Common.{◌≡◌, List, [], ◌∷◌, Option, None, Some, is_some, map, refl, IsTrue}
use Rattle.std.specs.List.{list_all}
use Rattle.std.specs.Option.{option_map}

-- how a value is seen doesn't matter where only its being there counts
pub list_all-option_map : {A B : Type 0} (f : A → B) (xs : List (Option A))
    → list_all is_some (map (option_map f) xs) ≡ list_all is_some xs
list_all-option_map f [] = refl
list_all-option_map f (None ∷ xs) = refl
list_all-option_map f (Some x ∷ xs) = list_all-option_map f xs

-- where a value was put into each place, it is there
pub list_all-some : {A B : Type 0} (f : A → B) (xs : List A)
    → IsTrue (list_all is_some (map (λ x. Some (f x)) xs))
list_all-some f [] = refl
list_all-some f (x ∷ xs) = list_all-some f xs

-- The tables of the registers' names, in specs/ and in src/.
use Rattle.std.proofs.Common.{◌≡◌, ℕ, ◌+◌, Bool, true, false, not, cond, nat_lt, List, [], ◌∷◌, length, map, Some, None, refl, sym, ap, ◌∙◌, codes, if◌then◌else◌}
use Rattle.std.specs.List.{prefix_len, position_or_len, position}
use Rattle.std.specs.Option.{option_or}
use Rattle.std.specs.Str.{bytes_eq}
use Rattle.std.proofs.lemmas.List.{length-map}
use Rattle.em_asm_read.specs.Registers.{register_of, place_among, numbered_names, convention_names}

pub prefix_len-map : {A B : Type 0} (p : B → Bool) (f : A → B) (xs : List A) → prefix_len p (map f xs) ≡ prefix_len (λ x. p (f x)) xs
prefix_len-map p f [] = refl
prefix_len-map p f (x ∷ xs) = ap (λ n. cond (p (f x)) (1 + n) 0) (prefix_len-map p f xs)

pub position-map : {A B : Type 0} (p : B → Bool) (f : A → B) (xs : List A) → position p (map f xs) ≡ position (λ x. p (f x)) xs
position-map p f xs =
    ap (λ n. cond (nat_lt n (length (map f xs))) (Some n) None) (prefix_len-map (λ x. not (p x)) f xs)
    ∙ ap (λ m. cond (nat_lt (position_or_len (λ x. p (f x)) xs) m) (Some (position_or_len (λ x. p (f x)) xs)) None) (length-map xs f)

pub register_of-fp : (text : List ℕ) → bytes_eq text (codes "fp") ≡ true → Some 8 ≡ register_of text
unfolding register_of
register_of-fp text e = sym (ap (λ b. if b then Some 8 else option_or (place_among numbered_names text) (place_among convention_names text)) e)

pub register_of-numbered : (text : List ℕ) (r : ℕ) → bytes_eq text (codes "fp") ≡ false → place_among numbered_names text ≡ Some r → Some r ≡ register_of text
unfolding register_of
register_of-numbered text r e h =
    sym (ap (λ o. option_or o (place_among convention_names text)) h)
    ∙ sym (ap (λ b. if b then Some 8 else option_or (place_among numbered_names text) (place_among convention_names text)) e)

pub register_of-by_use : (text : List ℕ) → bytes_eq text (codes "fp") ≡ false → place_among numbered_names text ≡ None → place_among convention_names text ≡ register_of text
unfolding register_of
register_of-by_use text e h =
    sym (ap (λ o. option_or o (place_among convention_names text)) h)
    ∙ sym (ap (λ b. if b then Some 8 else option_or (place_among numbered_names text) (place_among convention_names text)) e)

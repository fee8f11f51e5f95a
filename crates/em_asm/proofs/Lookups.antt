-- Labels by borrowed names, and by names.
use Rattle.std.proofs.Common.{◌≡◌, ℕ, false, List, [], ◌∷◌, ◌++◌, Option, Some, None, is_some, refl, ap, if◌then◌else◌}
use Rattle.std.specs.Map.{lookup}
use Rattle.std.specs.Str.{bytes_eq}
use denote.Ref.{Bor}
use Rattle.em_base.specs.Images.{address_of}
use Rattle.em_asm.specs.Coding.{labels_in}

-- a name has the same address in both
pub lookup-labels : (name : List ℕ) (entries : List (Bor (List ℕ) × ℕ)) → lookup (λ (key : Bor (List ℕ)). bytes_eq name key.now) entries ≡ address_of (labels_in entries) name
lookup-labels name [] = refl
lookup-labels name (entry ∷ entries) = ap (λ o. if bytes_eq name entry.0.now then Some entry.1 else o) (lookup-labels name entries)

pub labels-append : (entries : List (Bor (List ℕ) × ℕ)) (name : Bor (List ℕ)) (address : ℕ) → labels_in (entries ++ (name, address) ∷ []) ≡ labels_in entries ++ (name.now, address) ∷ []
labels-append [] name address = refl
labels-append (entry ∷ entries) name address = ap (λ t. (entry.0.now, entry.1) ∷ t) (labels-append entries name address)

pub not-some : (o : Option ℕ) → is_some o ≡ false → o ≡ None
not-some None e = refl
not-some (Some n) e = absurd (cc)

-- The ways from an address, and the walks among them that end with an acquire: this project's own. What comes after an address, and what
-- an instruction there makes known, are any two functions.
use Rattle.std.specs.Prelude.{◌≡◌, ◌⊎◌, ◌≤◌, ◌+◌, ℕ, suc, List, [], ◌∷◌}
use Rattle.em_base.specs.declared.ids.SemId.{SemId}
use Rattle.em_scan.specs.declared.next.Next.{Next}
use Rattle.em_scan.specs.declared.next.Next.TheVariants.{Takes, Stops, Goes, Forks}
use Rattle.em_scan.specs.Known.{Known}

-- an address that may come next
abbrev pub Leads : Next → ℕ → Type 0
Leads (Goes y) z = z ≡ y
Leads (Forks x y) z = (z ≡ x) ⊎ (z ≡ y)
Leads (Takes s) z = ⊥
Leads Stops z = ⊥

-- no address comes next
abbrev pub IsFinal : Next → Type 0
IsFinal (Goes y) = ⊥
IsFinal (Forks x y) = ⊥
IsFinal (Takes s) = Unit {0}
IsFinal Stops = Unit {0}

-- whether there are two ways to go on, as a number
abbrev pub forks_at : Next → ℕ
forks_at (Forks x y) = 1
forks_at (Goes y) = 0
forks_at (Takes s) = 0
forks_at Stops = 0

-- the addresses that follow x are a way from x: it goes on until no address comes next, or `left` have come
abbrev pub IsWay : (ℕ → Known → Next) → (ℕ → Known → Known) → ℕ → ℕ → Known → List ℕ → Type 0
IsWay next learned left x known [] = (left ≡ 0) ⊎ IsFinal (next x known)
IsWay next learned left x known (y ∷ rest) =
    Leads (next x known) y × ((n : ℕ) × (left ≡ suc n) × IsWay next learned n y (learned x known) rest)

-- how many members of a way before its last are branches
abbrev pub forks : (ℕ → Known → Next) → (ℕ → Known → Known) → ℕ → Known → List ℕ → ℕ
forks next learned x known [] = 0
forks next learned x known (y ∷ rest) = forks_at (next x known) + forks next learned y (learned x known) rest

-- what comes after the last member of a way
abbrev pub end_of_way : (ℕ → Known → Next) → (ℕ → Known → Known) → ℕ → Known → List ℕ → Next
end_of_way next learned x known [] = next x known
end_of_way next learned x known (y ∷ rest) = end_of_way next learned y (learned x known) rest

-- a way is a walk that ends with the acquire of s, and has at most so many branches
pub record IsWalk (next : ℕ → Known → Next) (learned : ℕ → Known → Known) (most x : ℕ) (known : Known) (s : SemId) (rest : List ℕ) : Type 0 where
  pub ends : end_of_way next learned x known rest ≡ Takes s
  pub few : forks next learned x known rest ≤ most

-- each way from x is such a walk
abbrev pub AllTake : (ℕ → Known → Next) → (ℕ → Known → Known) → ℕ → ℕ → ℕ → Known → SemId → Type 0
AllTake next learned left most x known s =
    (rest : List ℕ) → IsWay next learned left x known rest → IsWalk next learned most x known s rest

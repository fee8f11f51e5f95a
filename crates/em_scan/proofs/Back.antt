-- What all ways agree on is what is computed way by way.
use Rattle.std.proofs.Common.{◌≡◌, ◌+◌, ◌⊎◌, ◌↔◌, ℕ, zero, suc, List, [], ◌∷◌, Option, Some, None, refl, sym, ap, subst, ◌∙◌, inl, inr, arith}
use Rattle.em_base.specs.declared.ids.SemId.{SemId}
use Rattle.em_scan.specs.declared.next.Next.{Next}
use Rattle.em_scan.specs.declared.next.Next.TheVariants.{Takes, Stops, Goes, Forks}
use Rattle.em_scan.specs.Known.{Known}
use Rattle.em_scan.specs.Ways.{AllTake, IsFinal, IsWay, Leads, forks_at}
use Rattle.em_scan.specs.Computed.{hint_after, hint_from, taken_at}
use Rattle.em_scan.proofs.Law.{Learns, Nexts, agreed_same, to_ways}

-- ---- there is a way

-- a way that stops at once
pub stops : (next : Nexts) (learned : Learns) (left x : ℕ) (known : Known) (n : Next) → next x known ≡ n → IsFinal n → IsWay next learned left x known []
stops next learned left x known n e f = let P : Next → Type 0 = IsFinal in inr (subst P (sym e) f)

-- a way that goes on
pub way_on : (next : Nexts) (learned : Learns) (left x y : ℕ) (known : Known) (n : Next) (rest : List ℕ) → next x known ≡ n → Leads n y
    → IsWay next learned left y (learned x known) rest → IsWay next learned (suc left) x known (y ∷ rest)
way_on next learned left x y known n rest e leads way = let P : Next → Type 0 = λ n. Leads n y in (subst P (sym e) leads, (left, refl, way))

way_after : (next : Nexts) (learned : Learns) (left x : ℕ) (known : Known)
    → ((y : ℕ) → (rest : List ℕ) × IsWay next learned left y (learned x known) rest) → (n : Next) → next x known ≡ n
    → (rest : List ℕ) × IsWay next learned (suc left) x known rest
way_after next learned left x known ways (Takes s) e = ([], stops next learned (suc left) x known (Takes s) e tt)
way_after next learned left x known ways Stops e = ([], stops next learned (suc left) x known Stops e tt)
way_after next learned left x known ways (Goes y) e = let w = ways y in (y ∷ w.0, way_on next learned left x y known (Goes y) w.0 e refl w.1)
way_after next learned left x known ways (Forks y z) e = let w = ways y in (y ∷ w.0, way_on next learned left x y known (Forks y z) w.0 e (inl refl) w.1)

-- there is a way from each address
pub some_way : (next : Nexts) (learned : Learns) (left x : ℕ) (known : Known) → (rest : List ℕ) × IsWay next learned left x known rest
some_way next learned zero x known = ([], inl refl)
some_way next learned (suc left) x known = way_after next learned left x known (λ y. some_way next learned left y (learned x known)) (next x known) refl

-- ---- from the ways to what is computed

-- what all ways agree on, those through a next address agree on
pub all_on : (next : Nexts) (learned : Learns) (left most k x y : ℕ) (known : Known) (s : SemId) (n : Next) → next x known ≡ n → Leads n y
    → most ≡ forks_at n + k → AllTake next learned (suc left) most x known s → AllTake next learned left k y (learned x known) s
all_on next learned left most k x y known s n e leads count all rest way =
    let walk = all (y ∷ rest) (way_on next learned left x y known n rest e leads way) in
    let same : forks_at (next x known) ≡ forks_at n = ap forks_at e in
    record { ends = walk.ends; few = omega (arith, walk.few, same, count) }

back : (next : Nexts) (learned : Learns) (left x : ℕ) (known : Known) (s : SemId)
    → ((most y : ℕ) → AllTake next learned left most y (learned x known) s → hint_from next learned left most y (learned x known) ≡ Some s)
    → (n : Next) → next x known ≡ n → (most : ℕ) → AllTake next learned (suc left) most x known s
    → hint_after n most (λ most y. hint_from next learned left most y (learned x known)) ≡ Some s
back next learned left x known s computed (Takes t) e most all = ap taken_at (sym e ∙ (all [] (stops next learned (suc left) x known (Takes t) e tt)).ends)
back next learned left x known s computed Stops e most all = ap taken_at (sym e ∙ (all [] (stops next learned (suc left) x known Stops e tt)).ends)
back next learned left x known s computed (Goes y) e most all = computed most y (all_on next learned left most most x y known s (Goes y) e refl (omega arith) all)
back next learned left x known s computed (Forks y z) e zero all =
    let w = some_way next learned left y (learned x known) in
    let walk = all (y ∷ w.0) (way_on next learned left x y known (Forks y z) w.0 e (inl refl) w.1) in
    let same : forks_at (next x known) ≡ 1 = ap forks_at e in
    absurd (omega (arith, walk.few, same))
back next learned left x known s computed (Forks y z) e (suc most) all =
    agreed_same (hint_from next learned left most y (learned x known)) (hint_from next learned left most z (learned x known)) s
    (computed most y (all_on next learned left (suc most) most x y known s (Forks y z) e (inl refl) (omega arith) all))
    (computed most z (all_on next learned left (suc most) most x z known s (Forks y z) e (inr refl) (omega arith) all))

-- what all ways agree on is computed
pub from_ways : (next : Nexts) (learned : Learns) (left most x : ℕ) (known : Known) (s : SemId) → AllTake next learned left most x known s
    → hint_from next learned left most x known ≡ Some s
from_ways next learned zero most x known s all = ap taken_at (all [] (inl refl)).ends
from_ways next learned (suc left) most x known s all =
    back next learned left x known s (λ most y. from_ways next learned left most y (learned x known) s) (next x known) refl most all

-- what is computed says s exactly where all ways do
pub says_what_all_say : (next : Nexts) (learned : Learns) (left most x : ℕ) (known : Known) (s : SemId)
    → (hint_from next learned left most x known ≡ Some s) ↔ AllTake next learned left most x known s
says_what_all_say next learned left most x known s = (to_ways next learned left most x known s, from_ways next learned left most x known s)

-- two semaphores on which all ways agree are one
pub one_agreed : (next : Nexts) (learned : Learns) (left most x : ℕ) (known : Known) (s t : SemId)
    → AllTake next learned left most x known s → AllTake next learned left most x known t → s ≡ t
one_agreed next learned left most x known s t a b =
    let here = from_ways next learned left most x known s a in
    let there = from_ways next learned left most x known t b in
    cc

-- all ways agree on a semaphore, or on none
pub agreed_or_none : (next : Nexts) (learned : Learns) (left most x : ℕ) (known : Known)
    → ((s : SemId) × AllTake next learned left most x known s) ⊎ ((s : SemId) → AllTake next learned left most x known s → ⊥)
agreed_or_none next learned left most x known = by_option (hint_from next learned left most x known) refl
  where
    by_option : (found : Option SemId) → hint_from next learned left most x known ≡ found
        → ((s : SemId) × AllTake next learned left most x known s) ⊎ ((s : SemId) → AllTake next learned left most x known s → ⊥)
    by_option None e = inr (λ s all. let here = from_ways next learned left most x known s all in absurd (cc))
    by_option (Some s) e = inl (s, to_ways next learned left most x known s e)

-- What is computed way by way is what all ways agree on.
use Rattle.std.proofs.Common.{◌≡◌, ◌≤◌, ◌+◌, ℕ, zero, suc, List, [], ◌∷◌, Option, Some, None, refl, sym, ap, subst, ◌∙◌, inl, inr, arith}
use Rattle.std.proofs.lemmas.Bool.Decides.{nat_tests}
use Rattle.em_base.specs.declared.ids.SemId.{SemId}
use Rattle.em_scan.specs.declared.next.Next.{Next}
use Rattle.em_scan.specs.declared.next.Next.TheVariants.{Takes, Stops, Goes, Forks}
use Rattle.em_scan.specs.Known.{Known}
use Rattle.em_scan.specs.Ways.{AllTake, IsFinal, IsWalk, IsWay, Leads, forks_at}
use Rattle.em_scan.specs.Computed.{agreed, hint_after, hint_from, taken_at}

abbrev pub Nexts : Type 0
Nexts = ℕ → Known → Next

abbrev pub Learns : Type 0
Learns = ℕ → Known → Known

-- ---- what two ways say

-- semaphores with one number are one
same_semaphore : (a b : SemId) → a.0 ≡ b.0 → a ≡ b
same_semaphore a b e = ap (λ n. let s : SemId = record { 0 = n } in s) e

agreed_both : (a b : Option SemId) (s : SemId) → agreed a b ≡ Some s → (a ≡ Some s) × (b ≡ Some s)
agreed_both (Some a) (Some b) s h = grind (arith, nat_tests, same_semaphore)
agreed_both (Some a) None s h = absurd (cc)
agreed_both None b s h = absurd (cc)

pub agreed_same : (a b : Option SemId) (s : SemId) → a ≡ Some s → b ≡ Some s → agreed a b ≡ Some s
agreed_same a b s h k = rw (h, k) (grind (arith, nat_tests))

-- ---- from what is computed to the ways

taken_is : (n : Next) (s : SemId) → taken_at n ≡ Some s → n ≡ Takes s
taken_is (Takes t) s h = ap Takes (cc)
taken_is Stops s h = absurd (cc)
taken_is (Goes y) s h = absurd (cc)
taken_is (Forks y z) s h = absurd (cc)

leads_at : (next : Nexts) (x y : ℕ) (known : Known) (n : Next) → next x known ≡ n → Leads (next x known) y → Leads n y
leads_at next x y known n e h = let P : Next → Type 0 = λ n. Leads n y in subst P e h

-- a way can't stop while an address comes next and members are left
not_final : (next : Nexts) (learned : Learns) (left x : ℕ) (known : Known) (n : Next) → next x known ≡ n → (IsFinal n → ⊥)
    → IsWay next learned (suc left) x known [] → ⊥
not_final next learned left x known n e h (inl z) = absurd (cc)
not_final next learned left x known n e h (inr f) = let P : Next → Type 0 = IsFinal in h (subst P e f)

-- the rest of a way is a way
next_way : (next : Nexts) (learned : Learns) (left x y : ℕ) (known : Known) (rest : List ℕ)
    → IsWay next learned (suc left) x known (y ∷ rest) → IsWay next learned left y (learned x known) rest
next_way next learned left x y known rest way =
    let P : ℕ → Type 0 = λ n. IsWay next learned n y (learned x known) rest in
    let same : way.1.0 ≡ left = omega (arith, way.1.1) in
    subst P same way.1.2

-- where each way from the next address is a walk, a way through it is one
walk_from : (next : Nexts) (learned : Learns) (left most k x y : ℕ) (known : Known) (s : SemId) (n : Next) → next x known ≡ n → forks_at n + k ≤ most
    → AllTake next learned left k y (learned x known) s → (z : ℕ) (rest : List ℕ) → z ≡ y
    → IsWay next learned (suc left) x known (z ∷ rest) → IsWalk next learned most x known s (z ∷ rest)
walk_from next learned left most k x y known s n e h all z rest same way =
    let P : ℕ → Type 0 = λ z. IsWalk next learned k z (learned x known) s rest in
    let W : ℕ → Type 0 = λ z. IsWay next learned left z (learned x known) rest in
    let low : forks_at (next x known) + k ≤ most = rw e h in
    let walk = subst P (sym same) (all rest (subst W same (next_way next learned left x z known rest way))) in
    record { ends = walk.ends; few = omega (arith, low, walk.few) }

-- one member more
go : (next : Nexts) (learned : Learns) (left x : ℕ) (known : Known) (s : SemId)
    → ((most y : ℕ) → hint_from next learned left most y (learned x known) ≡ Some s → AllTake next learned left most y (learned x known) s)
    → (n : Next) → next x known ≡ n → (most : ℕ) → hint_after n most (λ most y. hint_from next learned left most y (learned x known)) ≡ Some s
    → (rest : List ℕ) → IsWay next learned (suc left) x known rest → IsWalk next learned most x known s rest
go next learned left x known s all (Takes t) e most h [] way = record { ends = e ∙ ap Takes (cc); few = omega arith }
go next learned left x known s all (Takes t) e most h (y ∷ rest) way = absurd (leads_at next x y known (Takes t) e way.0)
go next learned left x known s all Stops e most h rest way = absurd (cc)
go next learned left x known s all (Goes y) e most h [] way = absurd (not_final next learned left x known (Goes y) e (λ x. x) way)
go next learned left x known s all (Goes y) e most h (z ∷ rest) way =
    walk_from next learned left most most x y known s (Goes y) e (omega arith) (all most y h) z rest (leads_at next x z known (Goes y) e way.0) way
go next learned left x known s all (Forks y w) e zero h rest way = absurd (cc)
go next learned left x known s all (Forks y w) e (suc most) h [] way = absurd (not_final next learned left x known (Forks y w) e (λ x. x) way)
go next learned left x known s all (Forks y w) e (suc most) h (z ∷ rest) way =
    let two = agreed_both (hint_from next learned left most y (learned x known)) (hint_from next learned left most w (learned x known)) s h in
    elim (leads_at next x z known (Forks y w) e way.0) [
      | inl first ↦ walk_from next learned left (suc most) most x y known s (Forks y w) e (omega arith) (all most y two.0) z rest first way
      | inr second ↦ walk_from next learned left (suc most) most x w known s (Forks y w) e (omega arith) (all most w two.1) z rest second way
    ]

-- what is computed is what each way ends with
pub to_ways : (next : Nexts) (learned : Learns) (left most x : ℕ) (known : Known) (s : SemId) → hint_from next learned left most x known ≡ Some s
    → AllTake next learned left most x known s
to_ways next learned zero most x known s h [] way = record { ends = taken_is (next x known) s h; few = omega arith }
to_ways next learned zero most x known s h (y ∷ rest) way = absurd (omega (arith, way.1.1))
to_ways next learned (suc left) most x known s h rest way =
    go next learned left x known s (λ most y. to_ways next learned left most y (learned x known) s) (next x known) refl most h rest way

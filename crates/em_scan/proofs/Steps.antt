-- The computed hint one member further.
use Rattle.std.proofs.Common.{◌≡◌, ◌≢◌, ◌-◌, ◌∙◌, ℕ, zero, suc, Option, refl, sym, ap, arith}
use Rattle.em_base.specs.declared.ids.SemId.{SemId}
use Rattle.em_scan.specs.declared.next.Next.TheVariants.{Goes, Forks}
use Rattle.em_scan.specs.Known.{Known}
use Rattle.em_scan.specs.Computed.{agreed, hint_after, hint_from}
use Rattle.em_scan.proofs.Law.{Learns, Nexts}

-- where one address comes next, it is the hint from there
pub hint_goes : (next : Nexts) (learned : Learns) (left most x y : ℕ) (known : Known) → left ≢ 0 → next x known ≡ Goes y
    → hint_from next learned (left - 1) most y (learned x known) ≡ hint_from next learned left most x known
hint_goes next learned zero most x y known some e = absurd (some refl)
hint_goes next learned (suc left) most x y known some e =
    let hint : ℕ → ℕ → Option SemId = λ most y. hint_from next learned left most y (learned x known) in
    ap (λ n. hint_from next learned n most y (learned x known)) (omega arith) ∙ ap (λ n. hint_after n most hint) (sym e)

-- where two come, it is what the hints from both agree on
pub hint_forks : (next : Nexts) (learned : Learns) (left most x y z : ℕ) (known : Known) → left ≢ 0 → most ≢ 0 → next x known ≡ Forks y z
    → agreed (hint_from next learned (left - 1) (most - 1) y (learned x known)) (hint_from next learned (left - 1) (most - 1) z (learned x known))
    ≡ hint_from next learned left most x known
hint_forks next learned zero most x y z known some more e = absurd (some refl)
hint_forks next learned (suc left) zero x y z known some more e = absurd (more refl)
hint_forks next learned (suc left) (suc most) x y z known some more e =
    let hint : ℕ → ℕ → Option SemId = λ most y. hint_from next learned left most y (learned x known) in
    let less : (suc left - 1) ≡ left = omega arith in
    let fewer : (suc most - 1) ≡ most = omega arith in
    ap (λ n. agreed (hint_from next learned n (suc most - 1) y (learned x known)) (hint_from next learned n (suc most - 1) z (learned x known))) less
    ∙ ap (λ n. agreed (hint n y) (hint n z)) fewer
    ∙ ap (λ n. hint_after n (suc most) hint) (sym e)

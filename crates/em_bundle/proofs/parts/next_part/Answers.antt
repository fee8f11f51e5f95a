use Rattle.std.proofs.Common.{◌≡◌, ◌∙◌, ◌∷◌, Bool, ap, false, not, refl, sym, true}
use Rattle.std.proofs.lemmas.Slice.Eq.{bytes_eq-Decides}
use Rattle.std.specs.Str.{bytes_eq}
use Rattle.std.specs.Str.Lines.{lines}
use Rattle.em_bundle.proofs.parts.next_part.Goals as goal

equal : (b : Bool) → not b ≡ false → b ≡ true
equal true e = refl
equal false e = absurd (cc)

pub returns-clause-part : goal.returns-clause-part
returns-clause-part c =
    let first = c.in-Some.first.now in
    let header = c.args.header.now in
    let same : first ≡ header = (bytes_eq-Decides first header).0 (equal (bytes_eq first header) (sym c.ne.ensures ∙ c.if-ne.false)) in
    record {
      after = lines c.in-Some.after.now;
      joined = c.in-Some.ensures.first.first ∙ ap (λ line. line ∷ lines c.in-Some.after.now) same;
      parted = c.split_at_header.ensures;
    }

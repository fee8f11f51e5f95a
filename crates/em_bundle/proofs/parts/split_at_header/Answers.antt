use Rattle.std.proofs.Common.{◌≡◌, ◌∙◌, ◌-◌, ◌++◌, ap, ap₂, arith, length, length-append, drop, take, subst, sym}
use Rattle.std.proofs.Math.Seq.{drop-append_seam, take-append_seam}
use Rattle.std.proofs.lemmas.Str.{IsCharBoundary-at_seam}
use Rattle.std.specs.Str.{IsCharBoundary}
use Rattle.std.specs.Str.Lines.{lines}
use Rattle.em_bundle.specs.Walk.{ArePlain, IsHeaded}
use Rattle.em_bundle.proofs.parts.split_at_header.Goals as goal

pub split_at-requires : goal.split_at-requires
split_at-requires c =
    let text = c.args.text.now in
    let rest = c.skip_to_header-rest.result.now in
    let p = c.skip_to_header-rest.ensures.passed in
    let place : length text - length rest ≡ length p.front = omega (arith, ap length p.split, length-append p.front rest) in
    subst (IsCharBoundary text) (sym place) (IsCharBoundary-at_seam text p.front rest p.split c.skip_to_header-rest.utf8)

pub returns : goal.returns
returns c =
    let text = c.args.text.now in
    let rest = c.skip_to_header-rest.result.now in
    let p = c.skip_to_header-rest.ensures.passed in
    let place : length text - length rest ≡ length p.front = omega (arith, ap length p.split, length-append p.front rest) in
    let front : c.split_at.result.0.now ≡ p.front = c.split_at.ensures.front ∙ ap₂ (λ n t. take n t) place p.split ∙ take-append_seam p.front rest in
    let back : c.split_at.result.1.now ≡ rest = c.split_at.ensures.back ∙ ap₂ (λ n t. drop n t) place p.split ∙ drop-append_seam p.front rest in
    record {
      joined = p.joined ∙ ap₂ (λ a b. lines a ++ lines b) (sym front) (sym back);
      plain = subst (λ t. ArePlain (lines t)) (sym front) p.plain;
      headed = subst (λ t. IsHeaded (lines t)) (sym back) c.skip_to_header-rest.ensures.headed;
    }

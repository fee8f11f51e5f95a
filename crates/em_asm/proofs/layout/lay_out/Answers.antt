use Rattle.std.proofs.Common.{◌∙◌, ap, arith, refl, sym}
use Rattle.em_asm.specs.Image.{label_at, layout_fault}
use Rattle.em_asm.specs.Coding.{labels_in}
use Rattle.em_asm.proofs.Gathered.{gather-nil, line-here}
use Rattle.em_asm.proofs.Layouts.{clear-next, fault-here, stands-next}
use Rattle.em_asm.proofs.layout.lay_out.Goals as goal

pub loop-place-init : goal.loop-place-init
loop-place-init c = record {
  stands = record { labels = ap labels_in c.new-labels.ensures.empty ∙ sym (gather-nil (λ place at line. label_at at line.label) 0 0); code = refl; shared = refl };
  few = omega arith;
  room = omega arith;
  clear = λ i h. absurd (omega arith);
}

pub loop-place-preserved : goal.loop-place-preserved
loop-place-preserved c =
    let lines = c.args.lines.now in
    let i = c.loop-place.place in
    let here = line-here lines i c.index-lines-place.result c.loop-place-test.true c.index-lines-place.is in
    let none = c.in-None.is in
    let code = c.in_ok-fault.ensures.code none in
    let shared = c.in_ok-fault.ensures.shared none in
    record {
      stands = stands-next lines i _ _ _ _ _ _ c.index-lines-place.result c.loop-place-test.true c.loop-place.invariant.stands here (c.in_ok-fault.ensures.labels none) code.0 shared.0;
      few = code.1;
      room = shared.1;
      clear = clear-next layout_fault lines i c.loop-place-test.true c.loop-place.invariant.clear (fault-here lines i _ _ _ c.index-lines-place.result _ c.loop-place.invariant.stands here c.in_ok-fault.ensures.fault ∙ none);
    }

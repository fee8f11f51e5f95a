use Rattle.std.proofs.Common.{◌∙◌, ◌+◌, None, get_or, take, length, refl, sym, ap, subst, arith}
use Rattle.std.specs.List.{slice_get}
use Rattle.std.proofs.lemmas.Option.{slice_get-get_or}
use Rattle.em_base.specs.declared.images.Wait.{Wait}
use Rattle.em_hart.specs.Effect.{sum}
use Rattle.em_scan.specs.Hint.{IsHintOf}
use Rattle.em_hint.specs.Hints.{AreHintsOf, wrong_hint}
use Rattle.em_hint.proofs.Maps.{all_hints, hints_past}
use Rattle.em_hint.proofs.Right.{clear_past_right, names_first}
use Rattle.em_hint.proofs.finding.hints.Goals as goal

pub returns-then-is_wrong-clause-refused : goal.returns-then-is_wrong-clause-refused
returns-then-is_wrong-clause-refused c =
    let image = c.args.image.now in
    let i = c.loop-wait.wait-index in
    let items = c.as_slice-wait-items.result.now in
    let none : Wait = record { address = 0; line = 0; hint = None } in
    let wait = get_or items i none in
    let here = ap (λ l. slice_get l i) (sym c.as_slice-wait-items.ensures) ∙ slice_get-get_or items i none c.loop-wait-test.true in
    let is = subst (λ code. IsHintOf code (sum wait.address 4) c.args.sems c.args.own c.scan-hint.result) c.as_slice.ensures c.scan-hint.ensures in
    let wrong = c.if-is_wrong.ensures.wrong refl in
    names_first image.words c.args.sems c.args.own image.waits i wait (record { code = wrong_hint; line = wait.line }) c.scan-hint.result c.loop-wait.invariant.1 here is
    wrong.0 wrong.1 wrong.2 refl (ap (λ l. (get_or l i none).line) c.as_slice-wait-items.ensures)

pub loop-wait-preserved : goal.loop-wait-preserved
loop-wait-preserved c =
    let image = c.args.image.now in
    let i = c.loop-wait.wait-index in
    let items = c.as_slice-wait-items.result.now in
    let none : Wait = record { address = 0; line = 0; hint = None } in
    let wait = get_or items i none in
    let here = ap (λ l. slice_get l i) (sym c.as_slice-wait-items.ensures) ∙ slice_get-get_or items i none c.loop-wait-test.true in
    let is = subst (λ code. IsHintOf code (sum wait.address 4) c.args.sems c.args.own c.scan-hint.result) c.as_slice.ensures c.scan-hint.ensures in
    let longer = hints_past image.words c.args.sems c.args.own image.waits i c.loop-wait.found wait c.scan-hint.result c.loop-wait.invariant.0 here is in (
      subst (AreHintsOf image.words c.args.sems c.args.own (take (i + 1) image.waits)) (sym c.in_ok-add_hint.ensures) longer,
      clear_past_right image.words c.args.sems c.args.own image.waits i wait c.scan-hint.result c.loop-wait.invariant.1 here is (c.if-is_wrong.ensures.right refl),
    )

pub returns-clause-each : goal.returns-clause-each
returns-clause-each c =
    let image = c.args.image.now in
    let same = ap length c.as_slice-wait-items.ensures in
    let h = all_hints image.words c.args.sems c.args.own image.waits c.loop-wait.wait-index c.loop-wait.found (omega (arith, c.loop-wait-test.false, same)) c.loop-wait.invariant.0 in
    c.sound_map.ensures.each image c.args.sems c.args.own (record { hints = c.loop-wait.found }) c.requires h

pub returns-clause-valid : goal.returns-clause-valid
returns-clause-valid c =
    let image = c.args.image.now in
    let same = ap length c.as_slice-wait-items.ensures in
    let h = all_hints image.words c.args.sems c.args.own image.waits c.loop-wait.wait-index c.loop-wait.found (omega (arith, c.loop-wait-test.false, same)) c.loop-wait.invariant.0 in
    c.sound_map.ensures.valid image c.args.sems c.args.own (record { hints = c.loop-wait.found }) c.requires h

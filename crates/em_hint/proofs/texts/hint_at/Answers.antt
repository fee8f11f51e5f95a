use Rattle.std.proofs.Common.{◌∙◌, ap, rules, subst, sym}
use Rattle.std.proofs.lemmas.List.Sorted.{answers_always}
use Rattle.em_base.specs.Hints.{AreHintsRising}
use Rattle.em_hint.proofs.HintSearch.{found, found_none, found_where}
use Rattle.em_hint.proofs.texts.hint_at.Goals as goal

pub returns-in-Ok : goal.returns-in-Ok
returns-in-Ok c =
    let hints = c.as_slice-hints.result.now in
    let rising = subst (AreHintsRising 0) (sym c.as_slice-hints.ensures) c.requires in
    let position = c.in-Ok.ensures.position (λ hint. hint.0) (answers_always _ _ _ (λ f a r g called. search rules)) in
    sym (found_where hints c.args.address c.in-Ok.place rising c.in-Ok.ensures.bound position) ∙ ap (λ all. found all c.args.address) c.as_slice-hints.ensures

pub returns-in-Err : goal.returns-in-Err
returns-in-Err c =
    let hints = c.as_slice-hints.result.now in
    let rising = subst (AreHintsRising 0) (sym c.as_slice-hints.ensures) c.requires in
    let position = c.in-Err.ensures.position (λ hint. hint.0) (answers_always _ _ _ (λ f a r g called. search rules)) in
    sym (found_none hints c.args.address c.in-Err.field-0 rising position) ∙ ap (λ all. found all c.args.address) c.as_slice-hints.ensures

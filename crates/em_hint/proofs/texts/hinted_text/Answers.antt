use Rattle.std.proofs.Common.{◌∙◌, length, ap, arith}
use Rattle.std.proofs.lemmas.List.{length_push}
use Rattle.std.proofs.lemmas.Iterator.Consumers.{YieldsList-end, YieldsList-turn}
use Rattle.std.proofs.lemmas.Iterator.Splits.{YieldsList-from_lines}
use Rattle.std.specs.Str.Lines.{lines}
use Rattle.em_hint.specs.Lines as spec
use Rattle.em_hint.specs.Lines.{unwritten_in}
use Rattle.em_hint.proofs.HintedTexts.{has_wait_line, hinted_text-more}
use Rattle.em_hint.proofs.texts.hinted_text.Goals as goal

pub push_line-requires : goal.push_line-requires
push_line-requires c =
    let turn = YieldsList-turn (YieldsList-from_lines c.args.code_text.now cc) c.loop-line.yielded _ c.loop-line.yielded_by _ _ _ c.in-Some.is c.next.ensures.steps in
    let waits = ap (λ waits. unwritten_in c.args.map.now waits c.loop-line.number) c.as_slice.ensures in
    let hint = c.copied.ensures ∙ c.get.ensures.value ∙ c.in_ok-due.ensures c.loop-line.number ∙ waits in
    has_wait_line c.args.map.now c.args.first (lines c.args.code_text.now) c.args.image.now.waits c.loop-line.number (length c.loop-line.yielded) c.in-Some.line.now c.copied.result c.requires.lines.lines hint c.loop-line.invariant.counted turn.0 turn.1

pub overflow_add-number : goal.overflow_add-number
overflow_add-number c =
    let turn = YieldsList-turn (YieldsList-from_lines c.args.code_text.now cc) c.loop-line.yielded _ c.loop-line.yielded_by _ _ _ c.in-Some.is c.next.ensures.steps in
    omega (arith, turn.0, c.loop-line.invariant.counted)

pub loop-line-preserved : goal.loop-line-preserved
loop-line-preserved c =
    let waits = ap (λ waits. unwritten_in c.args.map.now waits c.loop-line.number) c.as_slice.ensures in
    let hint = c.copied.ensures ∙ c.get.ensures.value ∙ c.in_ok-due.ensures c.loop-line.number ∙ waits in
    record {
      counted = omega (arith, length_push c.loop-line.yielded c.in-Some.line, c.loop-line.invariant.counted);
      written = hinted_text-more c.args.map.now c.args.image.now.waits c.args.first c.loop-line.number c.loop-line.yielded c.in-Some.line c.copied.result _ _ c.loop-line.invariant.counted hint c.loop-line.invariant.written c.in_ok-push_line.ensures;
    }

pub returns : goal.returns
returns c =
    let end = YieldsList-end (YieldsList-from_lines c.args.code_text.now cc) c.loop-line.yielded _ c.loop-line.yielded_by _ _ c.in-None.is c.next.ensures.steps in
    c.loop-line.invariant.written ∙ ap (spec.hinted_text c.args.map.now c.args.image.now.waits c.args.first) end.0

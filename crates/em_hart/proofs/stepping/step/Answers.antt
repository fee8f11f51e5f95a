use Rattle.std.proofs.Common.{◌/◌, get_or, ◌∙◌, arith}
use Rattle.em_hart.proofs.CodeEnds.{exec_outside, exec_inside, no_mnemonic_faults}
use Rattle.em_hart.proofs.OtherWordsAreNot.{IsWord, none_listed}
use Rattle.em_hart.proofs.AnswersReport.{along, unchanged}
use Rattle.em_hart.proofs.OutcomeOfWord.{outcome_of_word}
use Rattle.em_hart.proofs.stepping.step.Goals as goal

pub returns-then-pc-ne0-clause-step : goal.returns-then-pc-ne0-clause-step
returns-then-pc-ne0-clause-step c =
    let r = c.args.regs.now in
    let o = c.args.own.now in
    let m = c.args.shared.now in
    (exec_outside r o m c.args.code.now c.pc-pc.result c.pc-pc.ensures c.then-pc-ne0.either, unchanged r o m)

pub returns-in-Some-clause-step : goal.returns-in-Some-clause-step
returns-in-Some-clause-step c =
    let r = c.args.regs.now in
    let o = c.args.own.now in
    let m = c.args.shared.now in
    let sound = c.in-Some.ensures.sound in
    along _ _ _ r _ o m _ _
    (exec_inside r o m c.args.code.now c.pc-pc.result c.pc-pc.ensures c.if-pc-ne0.false c.if-place-code.false
    ∙ outcome_of_word c.in-Some.i sound.0 _ sound.1 r o m)
    c.carry_out.ensures.step

pub returns-in-None-clause-step : goal.returns-in-None-clause-step
returns-in-None-clause-step c =
    let r = c.args.regs.now in
    let o = c.args.own.now in
    let m = c.args.shared.now in
    let w = get_or c.args.code.now (c.pc-pc.result / 4) 0 in
    let fits = c.type_inv.code (c.pc-pc.result / 4) in
    let none = none_listed w (omega (arith, fits)) (λ (h : IsWord w). absurd (cc (c.in-None.ensures.complete h.instr h.fits h.is))) in (
      exec_inside r o m c.args.code.now c.pc-pc.result c.pc-pc.ensures c.if-pc-ne0.false c.if-place-code.false
          ∙ no_mnemonic_faults w r o m _ none,
      unchanged r o m,
    )

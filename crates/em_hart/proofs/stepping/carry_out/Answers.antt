use Rattle.std.proofs.Common.{ℕ, rules, refl, sym, ap, ◌∙◌, arith}
use Rattle.em_isa.specs.declared.instructions.Instr.TheVariants.{Jal, Jalr, Branch, Ecall, Ebreak}
use Rattle.em_hart.specs.Effect.{Effect, sum, even}
use Rattle.em_hart.specs.Hart.{with_register}
use Rattle.em_hart.specs.Instruction.{effect_outcome, transfer_outcome, value_of}
use Rattle.em_hart.specs.Decoded.{effect_of}
use Rattle.em_hart.proofs.Effects.{by_operands, only_passes, only_writes}
use Rattle.em_hart.proofs.OutcomeOfWord.{value_of_word}
use Rattle.em_hart.proofs.Signs.{moved, bit_cleared}
use Rattle.em_hart.proofs.AnswersReport.{along, unchanged, write_reported, next_reported, branch_not_taken, branch_taken}
use Rattle.em_hart.proofs.stepping.carry_out.Goals as goal

pub returns-in-Jal-clause-step : goal.returns-in-Jal-clause-step
unfolding effect_outcome
returns-in-Jal-clause-step c =
    let i = c.args.i.now in
    let r = c.args.regs.now in
    let o = c.args.own.now in
    let m = c.args.shared.now in
    let d = c.operands-rd.result.0 in
    let a = c.operands-rd.result.1 in
    let b = c.operands-rd.result.2 in
    let target = moved c.pc-pc.result r.pc c.cast_unsigned.result c.in-Jal.offset (search rules) c.pc-pc.ensures c.cast_unsigned.ensures in
    along _ _ _ r _ o m o m
    (by_operands i (Jal c.in-Jal.rd c.in-Jal.offset) r o m d a b c.in-Jal.is c.operands-rd.ensures.rd c.operands-rd.ensures.a c.operands-rd.ensures.b
    ∙ ap (λ (t : ℕ). transfer_outcome t (with_register r d (sum r.pc 4)) o m) (sym target))
    (c.jump_and_link.ensures o m)

pub returns-in-Jalr-clause-step : goal.returns-in-Jalr-clause-step
unfolding effect_outcome
returns-in-Jalr-clause-step c =
    let i = c.args.i.now in
    let r = c.args.regs.now in
    let o = c.args.own.now in
    let m = c.args.shared.now in
    let d = c.operands-rd.result.0 in
    let a = c.operands-rd.result.1 in
    let b = c.operands-rd.result.2 in
    let target = moved a a c.cast_unsigned-in-Jalr.result c.in-Jalr.imm (search rules) refl c.cast_unsigned-in-Jalr.ensures in
    let cleared = bit_cleared _ (omega arith) ∙ ap even target in
    along _ _ _ r _ o m o m
    (by_operands i (Jalr c.in-Jalr.rd c.in-Jalr.rs1 c.in-Jalr.imm) r o m d a b c.in-Jalr.is c.operands-rd.ensures.rd c.operands-rd.ensures.a c.operands-rd.ensures.b
    ∙ ap (λ (t : ℕ). transfer_outcome t (with_register r d (sum r.pc 4)) o m) (sym cleared))
    (c.jump_and_link-in-Jalr.ensures o m)

pub returns-then-branch_condition-clause-step : goal.returns-then-branch_condition-clause-step
returns-then-branch_condition-clause-step c =
    let i = c.args.i.now in
    let r = c.args.regs.now in
    let o = c.args.own.now in
    let m = c.args.shared.now in
    let d = c.operands-rd.result.0 in
    let a = c.operands-rd.result.1 in
    let b = c.operands-rd.result.2 in
    let target = moved c.pc-pc.result r.pc c.cast_unsigned-then-branch_condition.result c.in-Branch.offset (search rules) c.pc-pc.ensures c.cast_unsigned-then-branch_condition.ensures in
    along _ _ _ r _ o m o m
    (by_operands i (Branch c.in-Branch.op c.in-Branch.rs1 c.in-Branch.rs2 c.in-Branch.offset) r o m d a b c.in-Branch.is c.operands-rd.ensures.rd c.operands-rd.ensures.a c.operands-rd.ensures.b)
    (branch_taken _ _ _ d r _ o m (sym c.branch_condition.ensures ∙ c.if-branch_condition.true)
    (along _ _ _ r _ o m o m (ap (λ (t : ℕ). transfer_outcome t r o m) (sym target)) (c.transfer.ensures o m)))

pub returns-else-branch_condition-clause-step : goal.returns-else-branch_condition-clause-step
returns-else-branch_condition-clause-step c =
    let i = c.args.i.now in
    let r = c.args.regs.now in
    let o = c.args.own.now in
    let m = c.args.shared.now in
    let d = c.operands-rd.result.0 in
    let a = c.operands-rd.result.1 in
    let b = c.operands-rd.result.2 in
    along _ _ _ r _ o m o m
    (by_operands i (Branch c.in-Branch.op c.in-Branch.rs1 c.in-Branch.rs2 c.in-Branch.offset) r o m d a b c.in-Branch.is c.operands-rd.ensures.rd c.operands-rd.ensures.a c.operands-rd.ensures.b)
    (branch_not_taken _ _ _ d r _ o m (sym c.branch_condition.ensures ∙ c.if-branch_condition.false) c.go_on.ensures.answer c.go_on.ensures.whole)

pub returns-in-Ecall-clause-step : goal.returns-in-Ecall-clause-step
unfolding effect_outcome
returns-in-Ecall-clause-step c =
    let i = c.args.i.now in
    let r = c.args.regs.now in
    let o = c.args.own.now in
    let m = c.args.shared.now in
    let d = c.operands-rd.result.0 in
    let a = c.operands-rd.result.1 in
    let b = c.operands-rd.result.2 in
    (by_operands i Ecall r o m d a b c.in-Ecall.is c.operands-rd.ensures.rd c.operands-rd.ensures.a c.operands-rd.ensures.b, unchanged r o m)

pub returns-in-Ebreak-clause-step : goal.returns-in-Ebreak-clause-step
unfolding effect_outcome
returns-in-Ebreak-clause-step c =
    let i = c.args.i.now in
    let r = c.args.regs.now in
    let o = c.args.own.now in
    let m = c.args.shared.now in
    let d = c.operands-rd.result.0 in
    let a = c.operands-rd.result.1 in
    let b = c.operands-rd.result.2 in
    (by_operands i Ebreak r o m d a b c.in-Ebreak.is c.operands-rd.ensures.rd c.operands-rd.ensures.a c.operands-rd.ensures.b, unchanged r o m)

pub returns-in-Some-clause-step : goal.returns-in-Some-clause-step
returns-in-Some-clause-step c =
    let i = c.args.i.now in
    let r = c.args.regs.now in
    let o = c.args.own.now in
    let m = c.args.shared.now in
    let d = c.operands-rd.result.0 in
    let a = c.operands-rd.result.1 in
    let b = c.operands-rd.result.2 in
    let value =
    ap (λ (pc : ℕ). value_of (effect_of i pc a b)) (sym c.pc-pc.ensures)
    ∙ sym (value_of_word i c.requires c.pc-pc.result a b) ∙ sym c.value.ensures ∙ c.in-Some.is in
    let only = only_writes i r.pc a b c.in-Some.v c.in_default.not-Jal value in
    along _ _ _ r _ o m o m
    (by_operands i i r o m d a b refl c.operands-rd.ensures.rd c.operands-rd.ensures.a c.operands-rd.ensures.b ∙ ap (λ (x : Effect). effect_outcome x d r o m) only)
    (write_reported _ c.in-Some.v c.in-Some.v d r _ o m c.write_and_go_on.ensures.answer c.write_and_go_on.ensures.whole refl)

pub returns-in-None-clause-step : goal.returns-in-None-clause-step
returns-in-None-clause-step c =
    let i = c.args.i.now in
    let r = c.args.regs.now in
    let o = c.args.own.now in
    let m = c.args.shared.now in
    let d = c.operands-rd.result.0 in
    let a = c.operands-rd.result.1 in
    let b = c.operands-rd.result.2 in
    let value =
    ap (λ (pc : ℕ). value_of (effect_of i pc a b)) (sym c.pc-pc.ensures)
    ∙ sym (value_of_word i c.requires c.pc-pc.result a b) ∙ sym c.value.ensures ∙ c.in-None.is in
    let only = only_passes i r.pc a b c.in_default.not-Jalr c.in_default.not-Branch c.in_default.not-Load c.in_default.not-Store c.in_default.not-Ecall c.in_default.not-Ebreak value in
    along _ _ _ r _ o m o m
    (by_operands i i r o m d a b refl c.operands-rd.ensures.rd c.operands-rd.ensures.a c.operands-rd.ensures.b ∙ ap (λ (x : Effect). effect_outcome x d r o m) only)
    (next_reported _ d r _ o m c.go_on-in-None.ensures.answer c.go_on-in-None.ensures.whole)

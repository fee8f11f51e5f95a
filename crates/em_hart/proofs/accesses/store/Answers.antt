use Rattle.std.proofs.Common.{◌≡◌, ℕ, sym, ap, ◌∙◌}
use Rattle.em_hart.specs.declared.answers.Class.TheVariants.{Memory as MemoryClass}
use Rattle.em_hart.specs.declared.widths.Width.{Width}
use Rattle.em_hart.specs.Hart.{Registers, Memory, with_number, after_store}
use Rattle.em_hart.specs.Widths.{bytes_in}
use Rattle.em_hart.specs.Effect.{stores}
use Rattle.em_hart.specs.Instruction.{Ran, effect_outcome}
use Rattle.em_hart.proofs.AnswersReport.{ran, unchanged, store_misaligned, store_own, store_shared, store_outside}
use Rattle.em_hart.proofs.accesses.store.Goals as goal

-- the outcome, by the width that the code has found
by_width : (v w : Width) (a number : ℕ) (r : Registers) (o m : Memory) → w ≡ v → effect_outcome (stores (bytes_in v) a number) 0 r o m ≡ effect_outcome (stores (bytes_in w) a number) 0 r o m
by_width v w a number r o m e = ap (λ (x : Width). effect_outcome (stores (bytes_in x) a number) 0 r o m) (sym e)

pub returns-then-not-is_aligned-clause-step : goal.returns-then-not-is_aligned-clause-step
returns-then-not-is_aligned-clause-step c =
    let r = c.args.regs.now in
    let o = c.args.own.now in
    let m = c.args.shared.now in
    let a = c.args.address in (
      by_width _ _ a c.args.number r o m c.width_of-width.ensures
          ∙ store_misaligned _ a c.args.number 0 r o m (sym c.is_aligned.ensures ∙ c.if-not-is_aligned.true),
      unchanged r o m,
    )

pub returns-in-Some-clause-step : goal.returns-in-Some-clause-step
returns-in-Some-clause-step c =
    let r = c.args.regs.now in
    let o = c.args.own.now in
    let m = c.args.shared.now in
    let a = c.args.address in
    let n = bytes_in c.width_of-width.result in
    let put = c.put.ensures.whole ∙ ap (λ (p : ℕ). record o { bytes = with_number o.bytes n p c.args.number }) c.in-Some.ensures.value in
    ran _ MemoryClass _ r _ o m _ m c.go_on.ensures.answer
    (by_width _ _ a c.args.number r o m c.width_of-width.ensures
    ∙ store_own n a c.args.number 0 r o m (sym c.is_aligned.ensures ∙ c.if-not-is_aligned.false) c.in-Some.ensures.found
    ∙ sym (ap (λ (x : Registers). Ran MemoryClass x (after_store o n a c.args.number) m) c.go_on.ensures.whole)
    ∙ sym (ap (λ (x : Memory). Ran MemoryClass c.go_on.new.regs x m) put))

pub returns-in-Some-place-clause-step : goal.returns-in-Some-place-clause-step
returns-in-Some-place-clause-step c =
    let r = c.args.regs.now in
    let o = c.args.own.now in
    let m = c.args.shared.now in
    let a = c.args.address in
    let n = bytes_in c.width_of-width.result in
    let put = c.put-in-Some-place.ensures.whole ∙ ap (λ (p : ℕ). record m { bytes = with_number m.bytes n p c.args.number }) c.in-Some-place.ensures.value in
    ran _ MemoryClass _ r _ o m o _ c.go_on-in-Some-place.ensures.answer
    (by_width _ _ a c.args.number r o m c.width_of-width.ensures
    ∙ store_shared n a c.args.number 0 r o m (sym c.is_aligned.ensures ∙ c.if-not-is_aligned.false) c.in_default.ensures.outside c.in-Some-place.ensures.found
    ∙ sym (ap (λ (x : Registers). Ran MemoryClass x o (after_store m n a c.args.number)) c.go_on-in-Some-place.ensures.whole)
    ∙ sym (ap (λ (x : Memory). Ran MemoryClass c.go_on-in-Some-place.new.regs o x) put))

pub returns-clause-step : goal.returns-clause-step
returns-clause-step c =
    let r = c.args.regs.now in
    let o = c.args.own.now in
    let m = c.args.shared.now in
    let a = c.args.address in (
      by_width _ _ a c.args.number r o m c.width_of-width.ensures
          ∙ store_outside _ a c.args.number 0 r o m (sym c.is_aligned.ensures ∙ c.if-not-is_aligned.false) c.in_default.ensures.outside c.in_default-place.ensures.outside,
      unchanged r o m,
    )

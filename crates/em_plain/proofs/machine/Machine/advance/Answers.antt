use Rattle.std.proofs.Common.{◌∙◌, ◌+◌, ◌-◌, ◌<◌, ◌≤◌, sym, ap, subst, arith}
use Rattle.em_plain.specs.Reached.{Reached}
use Rattle.em_plain.proofs.Advance.{advances, arrives, halts_full, halts_misfit, halts_part, more_sound, sound_all, starts}
use Rattle.em_plain.proofs.machine.Machine.advance.Goals as goal

pub loop-self-init : goal.loop-self-init
loop-self-init g c = starts c.args.self.now _ c.args.count

pub returns-then-is_full-clause-advance : goal.returns-then-is_full-clause-advance
returns-then-is_full-clause-advance g c = λ p is.
    halts_full c.args.self.now c.loop-self.self _ _ c.args.count p c.loop-self.invariant (subst (λ (m : Reached). m.count < c.args.count) c.self.view_is c.loop-self-test.true) (λ q seen at. c.if-is_full.ensures q seen at) is

pub returns-then-is_full-clause-sound : goal.returns-then-is_full-clause-sound
returns-then-is_full-clause-sound g c = λ n sound. sound_all c.args.self.now c.loop-self.self _ _ c.args.count n c.loop-self.invariant sound

pub returns-in_default-clause-advance : goal.returns-in_default-clause-advance
returns-in_default-clause-advance g c = λ p is.
    halts_misfit c.args.self.now c.loop-self.self _ _ c.args.count p c.loop-self.invariant (subst (λ (m : Reached). m.count < c.args.count) c.self.view_is c.loop-self-test.true) (λ q seen at. c.if-is_full.ensures q seen at)
    (ap (λ (m : Reached). m.selected) (sym c.self.view_is) ∙ c.in_default.is) is

pub returns-in_default-clause-sound : goal.returns-in_default-clause-sound
returns-in_default-clause-sound g c = λ n sound. sound_all c.args.self.now c.loop-self.self _ _ c.args.count n c.loop-self.invariant sound

pub step-requires-clause-sound : goal.step-requires-clause-sound
step-requires-clause-sound g c =
    let n = c.requires.sound.0 in
    let k = c.loop-self.self.count - c.args.self.now.count in
    let h : c.loop-self.self.count < c.args.count = subst (λ (m : Reached). m.count < c.args.count) c.self.view_is c.loop-self-test.true in
    (n + k, omega (arith, c.requires.sound.1, h), c.loop-self.invariant.sound n c.requires.sound.2)

pub loop-self-preserved : goal.loop-self-preserved
loop-self-preserved g c =
    advances c.args.self.now c.loop-self.self c.step.new.self _ _ _ c.args.count c.in-Some.t c.loop-self.invariant (subst (λ (m : Reached). m.count < c.args.count) c.self.view_is c.loop-self-test.true)
    (λ q seen at. c.if-is_full.ensures q seen at) (ap (λ (m : Reached). m.selected) (sym c.self.view_is) ∙ c.in-Some.is)
    (λ q at. (c.in_ok-step.ensures.step q at).0) c.step.ensures.count c.step.ensures.app c.step.ensures.sound

pub returns-in_err-step-clause-advance : goal.returns-in_err-step-clause-advance
returns-in_err-step-clause-advance g c = λ p is.
    halts_part c.args.self.now c.loop-self.self c.step.new.self _ _ _ c.args.count p c.in-Some.t c.from_residual.result c.loop-self.invariant
    (subst (λ (m : Reached). m.count < c.args.count) c.self.view_is c.loop-self-test.true)
    (λ q seen at. c.if-is_full.ensures q seen at) (ap (λ (m : Reached). m.selected) (sym c.self.view_is) ∙ c.in-Some.is)
    (λ q at. (c.step.ensures.step q at).1) c.from_residual.ensures.0 c.from_residual.ensures.1 is

pub returns-in_err-step-clause-sound : goal.returns-in_err-step-clause-sound
returns-in_err-step-clause-sound g c = λ n sound.
    let k = c.loop-self.self.count - c.args.self.now.count in
    let inv = c.loop-self.invariant in
    let h : c.loop-self.self.count < c.args.count = subst (λ (m : Reached). m.count < c.args.count) c.self.view_is c.loop-self-test.true in
    more_sound (n + k + 1) (n + (c.args.count - c.args.self.now.count)) c.step.new.self (omega (arith, inv.from, h)) (c.step.ensures.sound (n + k) (inv.sound n sound))

pub returns-clause-advance : goal.returns-clause-advance
returns-clause-advance g c = λ p is.
    arrives c.args.self.now c.loop-self.self _ _ c.args.count p _ c.loop-self.invariant (subst (λ (m : Reached). c.args.count ≤ m.count) c.self.view_is c.loop-self-test.false) is

pub returns-clause-sound : goal.returns-clause-sound
returns-clause-sound g c = λ n sound. sound_all c.args.self.now c.loop-self.self _ _ c.args.count n c.loop-self.invariant sound

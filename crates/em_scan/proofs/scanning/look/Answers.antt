use Rattle.std.proofs.Common.{◌∙◌, ◌/◌, sym, arith}
use Rattle.em_scan.proofs.Looks.{learned_at, learned_at_none, learned_outside, next_at, next_at_none, next_outside}
use Rattle.em_scan.proofs.scanning.look.Goals as goal

pub returns-then-not-is_inside_code-clause-next : goal.returns-then-not-is_inside_code-clause-next
returns-then-not-is_inside_code-clause-next c =
    sym (next_outside c.args.code.now c.args.bounds.sems c.args.bounds.own c.args.x c.args.known.now.values (sym c.is_inside_code.ensures ∙ c.if-not-is_inside_code.true))

pub returns-in-Some-clause-next : goal.returns-in-Some-clause-next
returns-in-Some-clause-next c =
    let sound = c.in-Some.ensures.sound in
    c.next_of.ensures
    ∙ sym (next_at c.args.code.now c.args.bounds.sems c.args.bounds.own c.args.x c.args.known.now.values c.in-Some.i (sym c.is_inside_code.ensures ∙ c.if-not-is_inside_code.false) sound.0 sound.1)

pub returns-in-Some-clause-known : goal.returns-in-Some-clause-known
returns-in-Some-clause-known c =
    let sound = c.in-Some.ensures.sound in
    c.learned_of.ensures ∙ sym (learned_at c.args.code.now c.args.x c.args.known.now.values c.in-Some.i (sym c.is_inside_code.ensures ∙ c.if-not-is_inside_code.false) sound.0 sound.1)

pub returns-in-None-clause-next : goal.returns-in-None-clause-next
returns-in-None-clause-next c =
    let small = c.type_inv.code (c.args.x / 4) in
    sym (next_at_none c.args.code.now c.args.bounds.sems c.args.bounds.own c.args.x c.args.known.now.values (omega (arith, small)) (λ i fits is. absurd (cc (c.in-None.ensures.complete i fits is))) (sym c.is_inside_code.ensures ∙ c.if-not-is_inside_code.false))

pub returns-in-None-clause-known : goal.returns-in-None-clause-known
returns-in-None-clause-known c =
    let small = c.type_inv.code (c.args.x / 4) in
    sym (learned_at_none c.args.code.now c.args.x c.args.known.now.values (omega (arith, small)) (λ i fits is. absurd (cc (c.in-None.ensures.complete i fits is))) (sym c.is_inside_code.ensures ∙ c.if-not-is_inside_code.false))

pub returns-then-not-is_inside_code-clause-known : goal.returns-then-not-is_inside_code-clause-known
returns-then-not-is_inside_code-clause-known c =
    sym (learned_outside c.args.code.now c.args.x c.args.known.now.values (sym c.is_inside_code.ensures ∙ c.if-not-is_inside_code.true))

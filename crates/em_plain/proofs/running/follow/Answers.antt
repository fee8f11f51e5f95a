use Rattle.std.proofs.Common.{◌≡◌, ◌+◌, ◌-◌, ◌<◌, ◌≤◌, suc, ℕ, length, slice_index_or, sym, subst, arith}
use Rattle.em_base.specs.declared.events.Event.{Event}
use Rattle.em_base.specs.declared.events.Event.TheVariants.{Release}
use Rattle.em_plain.proofs.Follow.{begins, ends, follows, halts_at, halts_before, made, same_following, same_gone, same_place}
use Rattle.em_plain.proofs.running.follow.Goals as goal

-- what stands for an event that isn't there
abbrev none : ℕ × Event
none = (0, Release (record { 0 = 0 }) 0 0)

pub loop-count-init : goal.loop-count-init
loop-count-init g c = begins c.args.machine.now _ c.args.schedule.now c.requires.start c.requires.sound

pub returns-in_err-advance : goal.returns-in_err-advance
returns-in_err-advance g c = record {
  follow = λ p is.
      let items = c.as_slice-events.result.now in
      let last = c.args.schedule.now.last in
      let same = c.as_slice-events.ensures in
      let i = c.loop-count.count-index in
      let app = c.args.machine.now.held.app in
      let so_far = same_following c.args.machine.now c.loop-count.machine _ _ c.args.schedule.now.events items last i (sym same) c.loop-count.invariant in
      same_gone app p c.from_residual.result c.advance.new.self _ items c.args.schedule.now.events last same
      (halts_before c.args.machine.now c.loop-count.machine c.advance.new.self _ _ _ (made items last) i none p
      c.in_err-advance.field-0.0 c.from_residual.result so_far c.loop-count-test.true c.in_err-advance.ensures.advance
      c.from_residual.ensures.0 c.from_residual.ensures.1 is);
}

pub take-requires-clause-sound : goal.take-requires-clause-sound
take-requires-clause-sound g c =
    let items = c.as_slice-events.result.now in
    let same = c.as_slice-events.ensures in
    let i = c.loop-count.count-index in
    let (n, most, all) = c.loop-count.invariant.sound in
    let few : (slice_index_or items i none).0 ≤ 100000000 =
    subst (λ es. (slice_index_or es i none).0 ≤ 100000000) (sym same) (c.requires.counts i none (subst (λ es. i < length es) same c.loop-count-test.true)) in (
      n + ((slice_index_or items i none).0 - c.loop-count.machine.count),
      omega (arith, few, most, c.loop-count.invariant.early, c.loop-count-test.true, c.as_slice-events.type_inv.1),
      c.advance.ensures.sound n all,
    )

pub returns-in_err-take : goal.returns-in_err-take
returns-in_err-take g c = record {
  follow = λ p is.
      let items = c.as_slice-events.result.now in
      let last = c.args.schedule.now.last in
      let same = c.as_slice-events.ensures in
      let i = c.loop-count.count-index in
      let app = c.args.machine.now.held.app in
      let so_far = same_following c.args.machine.now c.loop-count.machine _ _ c.args.schedule.now.events items last i (sym same) c.loop-count.invariant in
      same_gone app p c.from_residual-in_err-take.result c.take.new.self _ items c.args.schedule.now.events last same
      (halts_at c.args.machine.now c.loop-count.machine c.advance.new.self c.take.new.self _ _ _ _ (made items last) i none p _
      c.in_err-take.field-0.0 c.from_residual-in_err-take.result so_far c.loop-count-test.true c.in_ok-advance.ensures.advance
      c.in_err-take.ensures.take c.take.ensures.count c.from_residual-in_err-take.ensures.0 c.from_residual-in_err-take.ensures.1 is);
}

pub loop-count-preserved : goal.loop-count-preserved
loop-count-preserved g c =
    let items = c.as_slice-events.result.now in
    let last = c.args.schedule.now.last in
    let same = c.as_slice-events.ensures in
    let i = c.loop-count.count-index in
    let few : (slice_index_or items i none).0 ≤ 100000000 =
    subst (λ es. (slice_index_or es i none).0 ≤ 100000000) (sym same) (c.requires.counts i none (subst (λ es. i < length es) same c.loop-count-test.true)) in
    let so_far = same_following c.args.machine.now c.loop-count.machine _ _ c.args.schedule.now.events items last i (sym same) c.loop-count.invariant in
    let next : suc i ≡ i + 1 = omega arith in
    same_place c.args.machine.now c.take.new.self _ _ c.args.schedule.now (suc i) (i + 1) next
    (same_following c.args.machine.now c.take.new.self _ _ items c.args.schedule.now.events last (suc i) same
    (follows c.args.machine.now c.loop-count.machine c.advance.new.self c.take.new.self _ _ _ _ (made items last) i none _ _
    so_far c.loop-count-test.true few c.in_ok-advance.ensures.advance c.in_ok-take.ensures.take
    c.in_ok-advance.ensures.count c.take.ensures.count c.advance.ensures.app c.take.ensures.app c.advance.ensures.sound c.take.ensures.sound))

pub returns : goal.returns
returns g c = record {
  follow = λ p is.
      let same = c.as_slice-events.ensures in
      ends c.args.machine.now c.loop-count.machine c.advance-2.new.self _ _ _ c.args.schedule.now c.loop-count.count-index p c.advance-2.result c.loop-count.invariant
      (subst (λ es. length es ≤ c.loop-count.count-index) same c.loop-count-test.false) c.advance-2.ensures.advance is;
}

use Rattle.std.proofs.Common.{◌<◌, ◌≤◌, length, sym, subst, arith, rules}
use Rattle.std.specs.List.{All}
use Rattle.std.specs.List.Sorted.{IsStableByKey}
use Rattle.std.specs.Ordering.{nat_cmp}
use Rattle.std.proofs.lemmas.List.Sorted.{All-permutation, IsNonDecreasingBy-from_sort, answers_always, length_permutation}
use Rattle.em_base.specs.declared.events.Timed.{Timed}
use Rattle.em_system.specs.Possible.{IsPossible}
use Rattle.em_kernel.proofs.EventsByTime.{in_order-sorted}
use Rattle.em_kernel.proofs.TimerReleases.{delivered-early, delivered-few, delivered-is, delivered-possible}
use Rattle.em_kernel.proofs.events.events.Goals as goal

pub returns : goal.returns
returns c =
    let app = c.args.app.now in
    let sorted = c.sort_by_key.new.self.items in
    let early = λ (event : Timed). event.time < app.table.horizon in
    let possible = λ (event : Timed). IsPossible (length app.table.tasks) event.event in
    let moved = c.sort_by_key.ensures.permutation in
    let all = delivered-is app.table app.script c.as_slice.result.now c.new-events.result.items c.push_timers.new.events.items c.push_script.new.events.items
    c.new-events.ensures.items c.in_ok-push_timers.ensures c.as_slice.ensures c.in_ok-push_script.ensures in
    let few = subst (λ l. length l ≤ 300000) (sym all) (delivered-few app.table app.script c.requires.table c.requires.script) in
    let all-early = All-permutation early _ _ moved (subst (All early) (sym all) (delivered-early app.table app.script c.requires.table)) in
    let stable = c.sort_by_key.ensures.stable (λ event. event.time) (answers_always _ _ _ (λ f a r g h. search rules)) in
    let up = c.in_ok-sort_by_key.ensures.sorted (λ event. event.time) (answers_always _ _ _ (λ f a r g h. search rules)) in
    record {
      exact =
          in_order-sorted app.table.horizon _ app.script _ (subst (λ l. IsStableByKey (λ (event : Timed). event.time) nat_cmp l sorted) all stable)
          (IsNonDecreasingBy-from_sort (λ event. event.time) _ up) all-early;
      few = omega (arith, few, length_permutation _ _ moved);
      early = all-early;
      possible = All-permutation possible _ _ moved (subst (All possible) (sym all) (delivered-possible app.table app.script c.requires.table c.requires.script));
    }

use Rattle.std.proofs.Common.{◌<◌, ◌≤◌, length, ap, subst, arith}
use Rattle.em_admit.specs.Depth.{most_values}
use Rattle.em_bundle.proofs.DeepBuffers.{one_more}
use Rattle.em_bundle.proofs.loading.is_too_deep.Goals as goal

pub returns-then-depth-gt-MOST_VALUES-clause-deep : goal.returns-then-depth-gt-MOST_VALUES-clause-deep
returns-then-depth-gt-MOST_VALUES-clause-deep c = λ _. (
    let inside : c.loop-m.m < length c.args.table.now.messages = omega (arith, c.loop-m-test.true, ap length c.as_slice-m-end.ensures) in
    let more : most_values < c.depth.result = omega (arith, c.if-depth-gt-MOST_VALUES.true) in
    record { m = c.loop-m.m; here = inside; deep = subst (λ n. most_values < n) c.depth.ensures.depth more })

pub loop-m-preserved : goal.loop-m-preserved
loop-m-preserved c =
    let few : c.depth.result ≤ most_values = omega (arith, c.if-depth-gt-MOST_VALUES.false) in
    one_more c.args.table.now c.loop-m.m c.loop-m.invariant (subst (λ n. n ≤ most_values) c.depth.ensures.depth few)

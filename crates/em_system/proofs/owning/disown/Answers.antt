use Rattle.std.proofs.Common.{◌∙◌, ◌<◌, None, length, slice_index_or, slice_set, ap, arith}
use Rattle.std.proofs.lemmas.List.{length-set}
use Rattle.em_gate.specs.Effects.{without}
use Rattle.em_system.proofs.InPlace.{changed_one_more}
use Rattle.em_system.proofs.owning.disown.Goals as goal

pub loop-s-preserved : goal.loop-s-preserved
loop-s-preserved c =
    let f = without c.args.t.0 in
    let owners = c.args.owners.now in
    let s = c.loop-s.s in
    let within : s < length owners = omega (arith, c.loop-s-test.true, c.loop-s.invariant.count) in
    record {
      owners = ap (λ o. slice_set c.loop-s.owners s o) c.owner_without.ensures
          ∙ ap (λ os. slice_set os s (f (slice_index_or os s None))) c.loop-s.invariant.owners
          ∙ changed_one_more f owners s None within;
      count = length-set c.loop-s.owners s c.owner_without.result ∙ c.loop-s.invariant.count;
    }

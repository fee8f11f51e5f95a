use Rattle.std.proofs.Common.{◌∙◌, rules, arith, sym}
use Rattle.std.proofs.lemmas.List.{map-append}
use Rattle.std.proofs.lemmas.Grind.{common_steps}
use Rattle.em_table.specs.Values.{is_below, number_in}
use Rattle.em_table.proofs.NextValue.{fails_here, found_next, passes_next}
use Rattle.em_table.proofs.lists.semaphores_among.Goals as goal

pub loop-value-preserved : goal.loop-value-preserved
loop-value-preserved c =
    record {
      all = c.loop-value.invariant.all ∙ passes_next (is_below c.args.semaphores) _ c.loop-value.value-index c.value-item.result (search rules) c.value-item.is c.in-Some.ensures.0;
      same = grind (arith, common_steps, found_next number_in _ c.loop-value.value-index c.value-item.result c.in-Some.semaphore.0 (search rules) c.value-item.is (sym c.in-Some.ensures.1), map-append, c.loop-value.invariant.same, c.in_ok-push-in-Some.ensures.ok);
    }

pub returns-in-None : goal.returns-in-None
returns-in-None c =
    let all = c.loop-value.invariant.all ∙ fails_here (is_below c.args.semaphores) _ c.loop-value.value-index c.value-item.result (search rules) c.value-item.is c.in-None.ensures in
    rw (all, c.into.ensures) (search rules)

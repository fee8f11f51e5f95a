use Rattle.std.proofs.Common.{◌∙◌, rules, arith, sym, ap}
use Rattle.std.proofs.lemmas.List.{map-append}
use Rattle.std.proofs.lemmas.Grind.{common_steps}
use Rattle.std.specs.Option.{is_some}
use Rattle.toml.specs.Data.{as_str}
use Rattle.em_table.specs.Values.{is_text}
use Rattle.em_table.proofs.NextValue.{fails_here, found_next, passes_next}
use Rattle.em_table.proofs.lists.texts_among.Goals as goal

pub returns-in-None : goal.returns-in-None
returns-in-None c =
    c.loop-value.invariant.all ∙ fails_here is_text _ c.loop-value.value-index c.value-item.result (search rules) c.value-item.is (ap is_some (sym c.in-None.ensures))

pub loop-value-preserved : goal.loop-value-preserved
loop-value-preserved c =
    let next = found_next as_str _ c.loop-value.value-index c.value-item.result _ (search rules) c.value-item.is c.in-Some.ensures in
    record {
      all = c.loop-value.invariant.all ∙ passes_next is_text _ c.loop-value.value-index c.value-item.result (search rules) c.value-item.is (ap is_some (sym c.in-Some.ensures));
      same = grind (arith, common_steps, next, map-append, c.loop-value.invariant.same, c.in_ok-push-in-Some.ensures.items);
    }

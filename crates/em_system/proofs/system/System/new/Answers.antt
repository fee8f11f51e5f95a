use Rattle.std.proofs.Common.{rules, ◌≡◌, ◌∙◌, List, length, map, slice_index_or, All, sym, ap, subst, refl}
use Rattle.std.proofs.lemmas.List.{length-map}
use Rattle.std.proofs.lemmas.List.Elements.{All-map}
use Rattle.em_base.specs.declared.apps.App.{App}
use Rattle.em_base.specs.declared.tables.TaskRow.{TaskRow}
use Rattle.em_threads.specs.Threads.{first_thread}
use Rattle.em_system.specs.Standings.{ranks_of}
use Rattle.em_system.proofs.Holding.{HasOwn, IsBare, first_own}
use Rattle.em_system.proofs.system.System.new.Goals as goal

pub invariant_of-result : goal.invariant_of-result
invariant_of-result c =
    let app : App = c.args.app.now in
    let rows : List TaskRow = app.table.tasks in
    let given : c.as_slice-rows.result.now ≡ rows = search rules in
    let ranked : c.in_ok-ranks.field-0.items ≡ ranks_of rows = c.in_ok-ranks.ensures ∙ ap ranks_of given in
    let seen : length c.in_ok-vec.field-0.items ≡ length rows = search rules in
    let threads : c.in_ok-new.field-0 ≡ map (first_thread app.table.own app.image.labels) rows = c.in_ok-new.ensures in
    let semaphores : length c.in_ok-vec-2.field-0.items ≡ app.table.semaphores = search rules in
    record {
      whole = c.requires.app;
      hints = c.requires.hints;
      ranked = ranked;
      seen = seen;
      all = ap (λ ts. length ts) threads ∙ length-map rows (first_thread app.table.own app.image.labels);
      semaphores = semaphores;
      based = ap (λ window. window.base) c.in_ok-new-2.ensures;
      bare = subst (λ ts. All IsBare ts) (sym threads) (All-map IsBare (first_thread app.table.own app.image.labels) rows (λ i d less. (refl, refl)));
      windows = subst (λ ts. All (HasOwn app.table.own) ts) (sym threads)
          (All-map (HasOwn app.table.own) (first_thread app.table.own app.image.labels) rows (λ i d less. first_own app.table.own app.image.labels (slice_index_or rows i d)));
    }

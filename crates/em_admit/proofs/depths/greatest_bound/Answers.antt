use Rattle.std.proofs.Common.{All, subst, sym}
use Rattle.std.proofs.lemmas.List.Elements.{All-get_or}
use Rattle.em_base.specs.Tables.{IsUrgent}
use Rattle.em_admit.proofs.depths.greatest_bound.Goals as goal

pub row_of-requires-clause-urgent : goal.row_of-requires-clause-urgent
row_of-requires-clause-urgent c =
    let urgent = subst (All (IsUrgent c.args.table.now.tasks)) (sym c.as_slice-reader-items.ensures) c.requires.message.readers in
    All-get_or (IsUrgent c.args.table.now.tasks) c.as_slice-reader-items.result.now _ _ c.loop-reader-test.true urgent

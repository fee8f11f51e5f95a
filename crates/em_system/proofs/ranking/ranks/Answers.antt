use Rattle.std.proofs.Common.{◌∙◌, ◌++◌, ◌∷◌, [], ap}
use Rattle.em_system.specs.declared.selection.Rank.{Rank}
use Rattle.em_system.proofs.Ranks.{next_rank, last_rank}
use Rattle.em_system.proofs.ranking.ranks.Goals as goal

pub loop-t-preserved : goal.loop-t-preserved
loop-t-preserved c =
    let rows = c.args.rows.now in
    let row = c.index-rows-t.result in
    let pushed = c.in_ok-push.ensures.items
    ∙ ap (λ level. c.loop-t.ranks.items ++ (let rank : Rank = record { level = level; deadline = row.deadline } in rank) ∷ []) c.level.ensures in
    next_rank rows c.loop-t.t row c.loop-t.ranks.items c.push.new.self.items c.loop-t-test.true c.index-rows-t.is pushed c.loop-t.invariant

pub returns : goal.returns
returns c = last_rank c.args.rows.now c.loop-t.t c.loop-t.ranks.items c.loop-t-test.false c.loop-t.invariant

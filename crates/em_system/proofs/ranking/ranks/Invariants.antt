use Rattle.std.proofs.Common.{◌≡◌, ◌++◌, map, drop}
use Rattle.em_base.specs.Keys.{numbered}
use Rattle.em_system.specs.Standings.{rank_of, ranks_of}
use Rattle.em_system.proofs.ranking.ranks.Given as goal

-- those so far, and the ranks of the tasks that are left, are the ranks of all tasks
abbrev pub invariant-loop-t : goal.invariant-loop-t
invariant-loop-t l = l.ranks.items ++ map (rank_of l.rows) (drop l.t (numbered l.rows)) ≡ ranks_of l.rows

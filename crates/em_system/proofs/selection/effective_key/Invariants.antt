use Rattle.std.proofs.Common.{◌≡◌, ◌≤◌, length}
use Rattle.em_base.specs.Selection.{counts_for}
use Rattle.em_system.specs.Standings.{scene_from}
use Rattle.em_system.proofs.Scans.{least_from, with_key}
use Rattle.em_system.proofs.selection.effective_key.Given as goal

-- the best of the tasks from u on
abbrev pub invariant-loop-u : goal.invariant-loop-u
invariant-loop-u l = record {
  within : l.u ≤ length l.standings;
  best : l.best ≡ with_key (scene_from l.depth l.standings).key
      (least_from (counts_for (scene_from l.depth l.standings) l.t) (scene_from l.depth l.standings).key l.u (length l.standings));
}

abbrev pub decreases-loop-u : goal.decreases-loop-u
decreases-loop-u l = l.u

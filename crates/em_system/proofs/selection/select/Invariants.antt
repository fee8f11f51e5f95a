use Rattle.std.proofs.Common.{◌≡◌, ◌≤◌, length}
use Rattle.em_base.specs.Selection.{effective_key}
use Rattle.em_system.specs.Standings.{scene_from}
use Rattle.em_system.proofs.Scans.{least_from, with_key}
use Rattle.em_system.proofs.selection.select.Given as goal

-- the best of the tasks from t on
abbrev pub invariant-loop-t : goal.invariant-loop-t
invariant-loop-t l = record {
  within : l.t ≤ length l.standings;
  best : l.best ≡ with_key (effective_key (scene_from l.depth l.standings))
      (least_from (scene_from l.depth l.standings).ready (effective_key (scene_from l.depth l.standings)) l.t (length l.standings));
}

abbrev pub decreases-loop-t : goal.decreases-loop-t
decreases-loop-t l = l.t

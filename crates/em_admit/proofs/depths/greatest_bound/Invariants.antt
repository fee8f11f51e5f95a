use Rattle.std.proofs.Common.{◌≡◌, ◌≤◌, map, take}
use Rattle.em_demand.specs.Charges.{greatest}
use Rattle.em_admit.specs.Depth as spec
use Rattle.em_admit.proofs.depths.greatest_bound.Given as goal

-- the greatest bound of the readers so far
pub record SoFar (l : goal.Live-loop-reader) : Type 0 where
  pub bound : l.greatest ≡ greatest (map (spec.bound l.table.tasks l.message.writer) (take l.reader-index l.message.readers))
  pub most : l.greatest ≤ 1280000128

abbrev pub invariant-loop-reader : goal.invariant-loop-reader
invariant-loop-reader l = SoFar l

use Rattle.std.proofs.Common.{arith}
use Rattle.em_base.proofs.LineCounts.{length-lines}
use Rattle.em_parts.proofs.workloads.sizes_of.Goals as goal

pub load-requires : goal.load-requires
load-requires c = omega (arith, length-lines c.deref.result.now, c.deref.ensures.len, c.len.ensures)

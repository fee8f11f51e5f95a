use Rattle.std.proofs.Common.{arith, ap, length}
use Rattle.em_base.proofs.LineCounts.{length-lines}
use Rattle.load_speed.proofs.main.Goals as goal

pub load-found-requires : goal.load-found-requires
load-found-requires c = omega (arith, length-lines c.as_bytes.result.now, c.if-len.false, c.len.ensures, c.as_bytes.ensures.len, ap length c.as_bytes.ensures.value)

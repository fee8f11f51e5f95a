use Rattle.std.proofs.Common.{arith}
use Rattle.em_base.proofs.LineCounts.{length-lines}
use Rattle.em_script.proofs.tests.read.Goals as goal

pub read_events-requires-clause-counted : goal.read_events-requires-clause-counted
read_events-requires-clause-counted g c = omega (arith, length-lines c.args.text.now)

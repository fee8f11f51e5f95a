use Rattle.std.proofs.Common.{arith}
use Rattle.em_bundle.proofs.TextLines.{feeds-few}
use Rattle.em_bundle.proofs.texts.line_of.Goals as goal

pub overflow_cast-result : goal.overflow_cast-result
overflow_cast-result c = omega (arith, c.newlines.ensures.count, feeds-few c.args.bytes.now c.args.place)

pub overflow_add-result : goal.overflow_add-result
overflow_add-result c = omega (arith, c.newlines.ensures.count, feeds-few c.args.bytes.now c.args.place)

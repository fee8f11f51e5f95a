use Rattle.std.proofs.Common.{◌∙◌, sym, arith}
use Rattle.em_script.proofs.DecimalNumbers.{decimal-none, decimal-some}
use Rattle.em_script.proofs.lines.decimal.Goals as goal

pub returns-in_err-n-clause-value : goal.returns-in_err-n-clause-value
returns-in_err-n-clause-value c = c.from_residual.ensures ∙ decimal-none c.args.high c.args.text.now (omega (arith, c.ranges.high.fits)) c.in_err-n.ensures

pub returns-then-n-high-clause-value : goal.returns-then-n-high-clause-value
returns-then-n-high-clause-value c = decimal-some c.args.high c.in_ok-n.n c.args.text.now c.in_ok-n.ensures.0.0 (sym c.in_ok-n.ensures.1) c.if-n-high.true

use Rattle.std.proofs.Common.{◌≡◌, ◌≤◌, length, subst, sym, ◌∙◌}
use Rattle.std.proofs.lemmas.Iterator.Consumers.{YieldsList-end}
use Rattle.std.proofs.lemmas.Iterator.Splits.{YieldsList-from_lines}
use Rattle.std.specs.Str.Lines.{lines}
use Rattle.em_base.proofs.LineCounts.{length-lines}
use Rattle.em_base.proofs.lines.lines_of.Goals as goal

pub returns : goal.returns
returns c =
    let end = YieldsList-end (YieldsList-from_lines c.args.text.now cc) c.loop-line.yielded _ c.loop-line.yielded_by _ _ c.in-None.is c.next.ensures.steps in
    let same : c.loop-line.found ≡ lines c.args.text.now = c.loop-line.invariant ∙ end.0 in
    record { lines = same; few = subst (λ found. length found ≤ length c.args.text.now) (sym same) (length-lines c.args.text.now) }

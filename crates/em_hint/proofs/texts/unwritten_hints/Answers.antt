use Rattle.std.proofs.Common.{None}
use Rattle.em_base.specs.declared.images.Wait.{Wait}
use Rattle.em_hint.proofs.DueHints.{unwritten_in-more}
use Rattle.em_hint.proofs.texts.unwritten_hints.Goals as goal

pub loop-wait-preserved : goal.loop-wait-preserved
loop-wait-preserved c = λ number.
    let none : Wait = record { address = 0; line = 0; hint = None } in
    let more = unwritten_in-more c.args.map.now c.args.waits.now c.loop-wait.wait-index none number c.loop-wait-test.true c.requires.distinct in
    let put = c.in_ok-put_hint.ensures number in
    cc (put, c.loop-wait.invariant number, c.unwritten.ensures, more)

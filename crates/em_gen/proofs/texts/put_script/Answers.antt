use Rattle.std.proofs.Common.{codes, ◌∙◌, arith}
use Rattle.em_gen.proofs.Appended.{all-after, next-after}
use Rattle.em_gen.specs.Workload.{release_text, script_text}
use Rattle.em_gen.proofs.texts.put_script.Goals as goal

pub loop-count-preserved : goal.loop-count-preserved
loop-count-preserved c =
    c.in_ok-writeln.ensures.bytes
    ∙ next-after release_text c.args.text.now.bytes.items (codes "%script\n") c.loop-count.text.bytes.items c.loop-count.count-counter
    c.loop-count.invariant

pub returns : goal.returns
unfolding script_text
returns c =
    all-after release_text c.args.text.now.bytes.items (codes "%script\n") c.loop-count.text.bytes.items c.loop-count.count-counter 100
    (omega arith) c.loop-count.invariant

use Rattle.std.proofs.Common.{◌-◌, ℕ, length, take, drop, ap, ◌∙◌, arith, length-take, length-drop}
use Rattle.em_io.specs.Bytes.{and_then}
use Rattle.em_io.proofs.ByteLemmas.{and_then-take}
use Rattle.em_io.proofs.sinks.write_all.Goals as goal

pub loop-done-preserved : goal.loop-done-preserved
loop-done-preserved g c =
    let bytes = c.args.bytes.now in
    let done = c.loop-done.done in
    let count = c.in_ok-done.field-0 in
    record {
      within = omega (arith, c.in_ok-done.ensures.count, length-take {A = ℕ}, length-drop {A = ℕ});
      appended =
          c.in_ok-done.ensures.takes
          ∙ ap (λ before. and_then before (take count (take (length bytes - done) (drop done bytes)))) c.loop-done.invariant.appended
          ∙ and_then-take (g.K.Sink.written c.args.out.now) bytes done count;
      grows = omega (arith, c.loop-done.invariant.grows, c.in_ok-done.ensures.grows);
    }

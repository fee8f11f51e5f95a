use Rattle.std.proofs.Common.{◌∙◌, ◌<◌, length, ap, arith}
use Rattle.std.proofs.lemmas.List.{length-set}
use Rattle.em_gate.specs.Effects.{woken}
use Rattle.em_threads.specs.Threads.{no_thread, thread_at, changed, with_task}
use Rattle.em_system.specs.Held.{has_flag}
use Rattle.em_system.proofs.InPlace.{changed_one_more}
use Rattle.em_system.proofs.owning.wake.Goals as goal

pub loop-u-preserved : goal.loop-u-preserved
loop-u-preserved c =
    let f = with_task (woken (has_flag c.args.freed.now)) in
    let threads = c.args.threads.now in
    let within : c.loop-u.u < length threads = omega (arith, c.loop-u-test.true, c.loop-u.invariant.count, c.count-u-end.ensures, c.requires) in
    record {
      threads = c.wake_one.ensures ∙ ap (λ ts. changed f c.loop-u.u ts) c.loop-u.invariant.threads
          ∙ changed_one_more f threads c.loop-u.u no_thread within;
      count = ap (λ ts. length ts) c.wake_one.ensures ∙ length-set c.loop-u.threads c.loop-u.u (f (thread_at c.loop-u.threads c.loop-u.u)) ∙ c.loop-u.invariant.count;
    }

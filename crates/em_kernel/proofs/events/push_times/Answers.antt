use Rattle.em_kernel.proofs.TimerReleases.{releases-next}
use Rattle.em_kernel.proofs.events.push_times.Goals as goal

pub loop-k-preserved : goal.loop-k-preserved
loop-k-preserved c =
    releases-next c.args.task.0 c.args.phase c.args.period c.loop-k.k _ c.args.events.now.items c.loop-k.events.items _ c.release_at.result
    c.loop-k.invariant c.release_at.ensures (cc) c.in_ok-push.ensures.items

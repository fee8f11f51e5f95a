use Rattle.std.proofs.Common.{◌<◌, length, ap, arith}
use Rattle.em_threads.specs.Threads.{no_thread, taken, thread_at}
use Rattle.em_system.proofs.Holding.{taken_own, with_changed}
use Rattle.em_system.proofs.Outcomes.{taken_none}
use Rattle.em_system.proofs.system.System.release.Goals as goal

pub invariant_of-self : goal.invariant_of-self
invariant_of-self c =
    let within : c.args.t.0 < length c.self.inside.threads = omega (arith, c.requires.exists, ap (λ held. length held.threads) c.self.view_is) in
    let thread = thread_at c.self.inside.threads c.args.t.0 in
    let bare = c.self.invariant.bare c.args.t.0 no_thread within in
    with_changed (taken c.args.arrival c.args.word) c.args.t.0 c.take.new.self c.self.invariant within c.take.ensures.whole
    (taken_none thread bare, bare.1)
    (taken_own c.self.inside.app.now.table.own c.args.arrival c.args.word thread (c.self.invariant.windows c.args.t.0 no_thread within))

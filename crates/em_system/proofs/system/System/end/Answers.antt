use Rattle.std.proofs.Common.{◌<◌, None, length, ap, arith}
use Rattle.std.proofs.lemmas.List.{length-set}
use Rattle.em_threads.specs.Threads.{finished, no_thread, thread_at, with_task}
use Rattle.em_system.specs.Held.{passed}
use Rattle.em_system.proofs.Holding.{with_changed, finished_bare, finished_own}
use Rattle.em_system.proofs.system.System.end.Goals as goal

pub invariant_of-self : goal.invariant_of-self
invariant_of-self c =
    let within : c.args.t.0 < length c.self.inside.threads =
    omega (arith, c.requires.exists, ap (λ held. length held.threads) c.pass.ensures, ap (λ held. length held.threads) c.self.view_is, length-set c.args.self.now.threads c.args.t.0 (with_task passed (thread_at c.args.self.now.threads c.args.t.0))) in
    with_changed (finished None) c.args.t.0 c.finish.new.self c.self.invariant within c.finish.ensures.whole
    (finished_bare (thread_at c.self.inside.threads c.args.t.0) (c.self.invariant.bare c.args.t.0 no_thread within))
    (finished_own c.self.inside.app.now.table.own (thread_at c.self.inside.threads c.args.t.0) (c.self.invariant.windows c.args.t.0 no_thread within))

use Rattle.em_system.specs.Held.{has_flag}
use Rattle.em_system.proofs.Holding.{with_woken}
use Rattle.em_system.proofs.system.System.wake.Goals as goal

pub invariant_of-self : goal.invariant_of-self
invariant_of-self c = with_woken (has_flag c.args.freed.now) c.wake.new.threads c.self.invariant c.wake.ensures

use Rattle.std.proofs.Common.{◌<◌, length, sym, ap, subst, arith}
use Rattle.em_hart.specs.Instruction.{exec}
use Rattle.em_hart.specs.Steps.{Reports}
use Rattle.em_threads.specs.Threads.{thread_at}
use Rattle.em_system.specs.Carried.{IsCarried}
use Rattle.em_system.specs.Held.{Held, Holds}
use Rattle.em_system.proofs.Carrying.{carried}
use Rattle.em_system.proofs.system.System.carry_out.Goals as goal

pub returns-clause-carried : goal.returns-clause-carried
returns-clause-carried c = λ p promises s.
    let inside : Held = record { app = c.self.inside.app.now; threads = c.self.inside.threads; owners = c.self.inside.owners.items; shared = c.self.inside.shared } in
    let within : c.args.t.0 < length inside.threads = omega (arith, c.requires.exists, ap (λ held. length held.threads) c.self.view_is) in
    let core = (thread_at inside.threads c.args.t.0).task.core in
    let core_after = (thread_at c.run.new.self c.args.t.0).task.core in
    let reports = subst (λ words. Reports c.run.result (exec core.registers core.own inside.shared words) core.registers core.own inside.shared
    core_after.registers core_after.own c.run.new.shared) c.as_slice-code.ensures c.run.ensures.step in
    let stands = subst (λ held. Holds held p promises) (sym c.self.view_is) s in
    subst (λ held. IsCarried c.run.result held (record inside { threads = c.run.new.self; shared = c.run.new.shared }) c.args.t p) c.self.view_is
    (carried c.run.result inside p promises c.args.t c.run.new.self c.run.new.shared stands within reports c.run.ensures.whole)

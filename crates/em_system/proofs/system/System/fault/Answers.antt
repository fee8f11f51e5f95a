use Rattle.std.proofs.Common.{◌∙◌, sym, ap, subst}
use Rattle.em_gate.specs.State.{task_at}
use Rattle.em_gate.specs.Effects.{after_outcome, least_owned}
use Rattle.em_gate.specs.Outcome as outcome
use Rattle.em_threads.specs.Threads.{thread_at}
use Rattle.em_system.specs.Held.{Holds}
use Rattle.em_system.specs.Promises.{promises_after}
use Rattle.em_system.proofs.Lines.{fallen_line, task_here}
use Rattle.em_system.proofs.Outcomes.{holds_fallen}
use Rattle.em_system.proofs.system.System.fault.Goals as goal

pub returns-clause-step : goal.returns-clause-step
returns-clause-step c = λ p promises s.
    let app = c.args.self.now.app in
    let t = c.args.t in
    let o = outcome.Falls c.args.cause in
    let pc = c.pc-pc.ensures ∙ ap (λ r. r.pc) c.regs.ensures
    ∙ ap (λ held. (thread_at held.threads t.0).task.core.registers.pc) c.self.view_is
    ∙ ap (λ task. task.core.registers.pc) (task_here c.args.self.now p promises t.0 s c.requires.exists) in
    let sem = c.least_owned-sem.ensures ∙ ap (λ owners. least_owned owners t.0) c.deref.ensures.value
    ∙ ap (λ held. least_owned held.owners t.0) c.self.view_is ∙ ap (λ owners. least_owned owners t.0) s.owners in (
      subst (λ held. Holds held (after_outcome o t p) (promises_after app o t.0 p promises)) (sym c.fall.ensures)
          (holds_fallen app c.args.self.now p promises t c.args.cause c.requires.exists s),
      fallen_line c.args.cause c.pc-pc.result c.least_owned-sem.result t (task_at p.tasks t.0) p pc sem,
    )

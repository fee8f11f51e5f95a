use Rattle.std.proofs.Common.{◌∙◌, All, sym, ap, subst}
use Rattle.em_gate.specs.State.{task_at}
use Rattle.em_gate.specs.Effects.{after_outcome}
use Rattle.em_gate.specs.Outcome as outcome
use Rattle.em_threads.specs.Threads.{thread_at}
use Rattle.em_system.specs.Held.{Holds}
use Rattle.em_system.specs.Promises.{promises_after}
use Rattle.em_gate.specs.Effects.{job_number}
use Rattle.em_system.proofs.Lines.{ended_line, task_here}
use Rattle.em_system.proofs.Holding.{IsBare}
use Rattle.em_system.proofs.Outcomes.{holds_ended}
use Rattle.em_system.proofs.system.System.finish.Goals as goal

pub returns-clause-step : goal.returns-clause-step
returns-clause-step c = λ p promises s.
    let app = c.args.self.now.app in
    let t = c.args.t in
    let o = outcome.Ends in
    let number = c.number_of-job.ensures ∙ ap job_number c.job.ensures
    ∙ ap (λ held. job_number (thread_at held.threads t.0).task.job) c.self.view_is
    ∙ ap (λ task. job_number task.job) (task_here c.args.self.now p promises t.0 s c.requires.exists) in (
      subst (λ held. Holds held (after_outcome o t p) (promises_after app o t.0 p promises)) (sym c.end.ensures)
          (holds_ended app c.args.self.now p promises t (ap (λ held. held.app.hints.hints) (sym c.self.view_is) ∙ c.self.invariant.hints)
          (subst (λ held. All IsBare held.threads) c.self.view_is c.self.invariant.bare) c.requires.exists s),
      ended_line c.number_of-job.result t (task_at p.tasks t.0) p number,
    )

use Rattle.std.proofs.Common.{◌∙◌, ◌+◌, All, sym, ap, subst}
use Rattle.em_gate.specs.State.{task_at}
use Rattle.em_gate.specs.Effects.{after_outcome}
use Rattle.em_gate.specs.Outcome as outcome
use Rattle.em_threads.specs.Threads.{thread_at}
use Rattle.em_system.specs.Held.{Holds}
use Rattle.em_system.specs.Promises.{promises_after}
use Rattle.em_system.proofs.Holding.{IsBare}
use Rattle.em_system.proofs.Lines.{signal_line, task_here}
use Rattle.em_system.proofs.Outcomes.{holds_signalled}
use Rattle.em_system.proofs.system.System.give.Goals as goal

pub returns-clause-step : goal.returns-clause-step
returns-clause-step c = λ p promises s.
    let app = c.args.self.now.app in
    let t = c.args.t in
    let o = outcome.Signals c.args.to.0 c.args.word in
    let number = ap (λ n. n + 1) (c.taken-job.ensures
    ∙ ap (λ held. (thread_at held.threads c.args.to.0).task.taken) c.self.view_is
    ∙ ap (λ task. task.taken) (task_here c.args.self.now p promises c.args.to.0 s c.requires.other)) in (
      subst (λ held. Holds held (after_outcome o t p) (promises_after app o t.0 p promises)) (sym c.signal.ensures)
          (holds_signalled app c.args.self.now p promises t c.args.to.0 c.args.word (ap (λ held. held.app.hints.hints) (sym c.self.view_is) ∙ c.self.invariant.hints)
          (subst (λ held. All IsBare held.threads) c.self.view_is c.self.invariant.bare) c.requires.exists c.requires.other s),
      signal_line c.args.to c.args.word (c.taken-job.result + 1) t (task_at p.tasks t.0) p number,
    )

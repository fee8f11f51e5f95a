use Rattle.std.proofs.Common.{sym, subst}
use Rattle.em_gate.specs.State.{task_at}
use Rattle.em_gate.specs.Effects.{after_outcome}
use Rattle.em_gate.specs.Outcome as outcome
use Rattle.em_system.specs.Held.{Holds}
use Rattle.em_system.specs.Promises.{promises_after}
use Rattle.em_system.proofs.Lines.{freed_line}
use Rattle.em_system.proofs.Outcomes.{holds_freed}
use Rattle.em_system.proofs.system.System.release_semaphore.Goals as goal

pub returns-clause-step : goal.returns-clause-step
returns-clause-step c = λ p promises s.
    let app = c.args.self.now.app in
    let t = c.args.t in
    let o = outcome.Frees c.args.s.0 in (
      subst (λ held. Holds held (after_outcome o t p) (promises_after app o t.0 p promises)) (sym c.free.ensures)
          (holds_freed app c.args.self.now p promises t c.args.s.0 c.requires.exists s),
      freed_line c.args.s t (task_at p.tasks t.0) p,
    )

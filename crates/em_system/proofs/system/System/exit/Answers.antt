use Rattle.std.proofs.Common.{sym, subst}
use Rattle.em_gate.specs.State.{task_at}
use Rattle.em_gate.specs.Effects.{after_outcome}
use Rattle.em_gate.specs.Outcome as outcome
use Rattle.em_system.specs.Held.{Holds}
use Rattle.em_system.specs.Promises.{promises_after}
use Rattle.em_system.proofs.Lines.{left_line}
use Rattle.em_system.proofs.Outcomes.{holds_left}
use Rattle.em_system.proofs.system.System.exit.Goals as goal

pub returns-clause-step : goal.returns-clause-step
returns-clause-step c = λ p promises s.
    let app = c.args.self.now.app in
    let t = c.args.t in (
      subst (λ held. Holds held (after_outcome outcome.Leaves t p) (promises_after app outcome.Leaves t.0 p promises)) (sym c.leave.ensures)
          (holds_left app c.args.self.now p promises t c.requires.exists s),
      left_line t (task_at p.tasks t.0) p,
    )

use Rattle.std.proofs.Common.{◌∙◌, sym, ap, subst}
use Rattle.em_gate.specs.State.{task_at}
use Rattle.em_gate.specs.Effects.{after_outcome}
use Rattle.em_gate.specs.Outcome as outcome
use Rattle.em_system.specs.Held.{Holds}
use Rattle.em_system.specs.Promises.{promises_after}
use Rattle.std.specs.Option.{unwrap_or}
use Rattle.em_ports.specs.Ports.{after_put, port_at, value_of}
use Rattle.em_system.proofs.Lines.{put_line, ports_put}
use Rattle.em_system.proofs.Outcomes.{holds_put}
use Rattle.em_system.proofs.system.System.put.Goals as goal

pub returns-clause-step : goal.returns-clause-step
returns-clause-step g c = λ p promises s seen.
    let app = c.args.self.now.app in
    let t = c.args.t in
    let o = outcome.Puts c.args.port.0 c.args.word in
    let port = c.args.port.0 in
    let places = c.put.ensures.places ∙ ap (λ ports. after_put ports port c.args.word) seen in
    let value = c.unwrap_or-value.ensures ∙ ap (λ v. unwrap_or v 0) c.put.ensures.value
    ∙ ap (λ ports. unwrap_or (value_of (port_at ports port)) 0) places in (
      subst (λ held. Holds held (after_outcome o t p) (promises_after app o t.0 p promises)) (sym c.answer.ensures)
          (holds_put app c.args.self.now p promises t port c.args.word c.requires.exists s),
      places ∙ ports_put port c.args.word t p,
      put_line c.args.port c.args.word c.unwrap_or-value.result t (task_at p.tasks t.0) p value,
    )

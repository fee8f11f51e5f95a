use Rattle.std.proofs.Common.{rules, to_z, of_z, ◌≡◌, ◌∙◌, Some, sym, ap, subst}
use Rattle.em_gate.specs.State.{task_at}
use Rattle.em_gate.specs.Effects.{after_outcome}
use Rattle.em_gate.specs.Outcome as outcome
use Rattle.em_threads.specs.Threads.{thread_at}
use Rattle.em_system.specs.Held.{Holds}
use Rattle.em_system.specs.Promises.{promises_after}
use Rattle.std.specs.Int.{cast_unsigned, w8, w32}
use Rattle.em_trace.specs.declared.lines.Line.TheVariants.{Refused}
use Rattle.em_gate.specs.Calls.{call_number}
use Rattle.em_system.specs.Held.{held_answered}
use Rattle.em_system.proofs.Lines.{refused_line, task_here}
use Rattle.em_system.proofs.Outcomes.{holds_refused}
use Rattle.em_system.proofs.system.System.refused.Goals as goal

pub returns-clause-step : goal.returns-clause-step
returns-clause-step c = λ p promises s.
    let app = c.args.self.now.app in
    let t = c.args.t in
    let o = outcome.Refuses c.args.code in
    let number = c.get-call.ensures ∙ ap call_number c.regs.ensures
    ∙ ap (λ held. call_number (thread_at held.threads t.0).task.core.registers) c.self.view_is
    ∙ ap (λ task. call_number task.core.registers) (task_here c.args.self.now p promises t.0 s c.requires.exists) in
    let same : to_z w8 (of_z w8 c.args.code) ≡ c.args.code = search rules in (
      subst (λ held. Holds held (after_outcome o t p) (promises_after app o t.0 p promises)) (sym c.refuse.ensures)
          (subst (λ code. Holds (held_answered t.0 (cast_unsigned w32 code) c.args.self.now) (after_outcome o t p) (promises_after app o t.0 p promises)) (sym same)
          (holds_refused app c.args.self.now p promises t c.args.code c.requires.exists s)),
      ap Some c.refused_line.ensures ∙ ap (λ code. Some (Refused t c.get-call.result code)) same
          ∙ refused_line c.args.code c.get-call.result t (task_at p.tasks t.0) p number,
    )

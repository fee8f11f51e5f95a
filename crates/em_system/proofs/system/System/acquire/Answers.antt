use Rattle.std.proofs.Common.{◌≡◌, ◌∙◌, ◌<◌, length, None, Some, sym, ap, subst, arith}
use Rattle.em_gate.specs.State.{task_at}
use Rattle.em_gate.specs.Effects.{after_outcome, line_by}
use Rattle.em_gate.specs.Outcome as outcome
use Rattle.em_system.specs.Held.{Holds}
use Rattle.em_system.specs.Promises.{promises_after}
use Rattle.em_base.specs.Selection.{owner_at}
use Rattle.em_system.proofs.Lines.{got_line, blocked_line, any_default}
use Rattle.em_system.proofs.Outcomes.{holds_got, holds_blocked}
use Rattle.em_system.proofs.system.System.acquire.Goals as goal

pub returns-in-None-clause-step : goal.returns-in-None-clause-step
returns-in-None-clause-step c = λ p promises s.
    let app = c.args.self.now.app in
    let t = c.args.t in
    let sem = c.args.s.0 in
    let inside : c.from.result < length c.self.inside.owners.items =
    omega (arith, c.from.ensures, c.requires.semaphore, ap (λ held. length held.owners) c.self.view_is) in
    let free : owner_at p.owners sem ≡ None =
    ap (λ owners. owner_at owners sem) (sym s.owners) ∙ ap (λ held. owner_at held.owners sem) (sym c.self.view_is)
    ∙ ap (λ k. owner_at c.self.inside.owners.items k) (sym c.from.ensures)
    ∙ any_default c.self.inside.owners.items c.from.result None c.index-owner.result.now inside
    ∙ sym c.index-owner.ensures ∙ c.in-None.is in (
      subst (λ owner. Holds c.get.new.self (after_outcome (outcome.acquire_outcome sem owner) t p) (promises_after app (outcome.acquire_outcome sem owner) t.0 p promises)) (sym free)
          (subst (λ held. Holds held (after_outcome (outcome.Gets sem) t p) (promises_after app (outcome.Gets sem) t.0 p promises)) (sym c.get.ensures)
          (holds_got app c.args.self.now p promises t sem c.requires.exists s)),
      got_line c.args.s t (task_at p.tasks t.0) p ∙ ap (λ owner. line_by (outcome.acquire_outcome sem owner) t (task_at p.tasks t.0) p) (sym free),
    )

pub returns-in-Some-clause-step : goal.returns-in-Some-clause-step
returns-in-Some-clause-step c = λ p promises s.
    let app = c.args.self.now.app in
    let t = c.args.t in
    let sem = c.args.s.0 in
    let inside : c.from.result < length c.self.inside.owners.items =
    omega (arith, c.from.ensures, c.requires.semaphore, ap (λ held. length held.owners) c.self.view_is) in
    let owned : owner_at p.owners sem ≡ Some c.in-Some.field-0 =
    ap (λ owners. owner_at owners sem) (sym s.owners) ∙ ap (λ held. owner_at held.owners sem) (sym c.self.view_is)
    ∙ ap (λ k. owner_at c.self.inside.owners.items k) (sym c.from.ensures)
    ∙ any_default c.self.inside.owners.items c.from.result None c.index-owner.result.now inside
    ∙ sym c.index-owner.ensures ∙ c.in-Some.is in (
      subst (λ owner. Holds c.block.new.self (after_outcome (outcome.acquire_outcome sem owner) t p) (promises_after app (outcome.acquire_outcome sem owner) t.0 p promises)) (sym owned)
          (subst (λ held. Holds held (after_outcome (outcome.Blocks sem) t p) (promises_after app (outcome.Blocks sem) t.0 p promises)) (sym c.block.ensures)
          (holds_blocked app c.args.self.now p promises t c.args.s c.requires.exists s)),
      blocked_line sem t (task_at p.tasks t.0) p ∙ ap (λ owner. line_by (outcome.acquire_outcome sem owner) t (task_at p.tasks t.0) p) (sym owned),
    )

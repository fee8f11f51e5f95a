use Rattle.std.proofs.Common.{◌∙◌, ◌+◌, ◌<◌, length, All, sym, ap, subst}
use Rattle.em_gate.specs.State.{task_at}
use Rattle.em_gate.specs.Effects.{given}
use Rattle.em_threads.specs.Threads.{thread_at, took}
use Rattle.em_system.specs.Held.{Held, Holds}
use Rattle.em_system.specs.Promises.{promises_given}
use Rattle.em_system.proofs.Holding.{IsBare}
use Rattle.em_system.proofs.Lines.{task_here}
use Rattle.em_system.proofs.Outcomes.{holds_given}
use Rattle.em_system.proofs.system.System.release_job.Goals as goal

pub returns-clause-step : goal.returns-clause-step
returns-clause-step c = λ p promises s.
    let app = c.args.self.now.app in
    let t = c.args.t.0 in
    let hints = ap (λ held. held.app.hints.hints) (sym c.self.view_is) ∙ c.self.invariant.hints in
    let bare = subst (λ held. All IsBare held.threads) c.self.view_is c.self.invariant.bare in
    let exists : t < length c.args.self.now.threads =
    subst (λ (held : Held). t < length held.threads) c.self.view_is
    (subst (λ n. t < n) (sym c.self.invariant.all) (subst (λ (held : Held). t < length held.app.table.tasks) (sym c.self.view_is) c.requires.exists)) in
    let here = task_here c.args.self.now p promises t s exists in
    let answer = c.release-took.ensures.answer ∙ ap took here in
    let job = ap (λ n. n + 1) (c.taken-job.ensures ∙ ap (λ held. (thread_at held.threads t).task.taken) c.self.view_is ∙ ap (λ task. task.taken) here) in (
      subst (λ held. Holds held (given t c.args.time c.args.word p) (promises_given app t p promises)) (sym c.release-took.ensures.whole)
          (holds_given app c.args.self.now p promises t c.args.time c.args.word hints bare exists s),
      c.line_of_release.ensures (task_at p.tasks t) answer job,
    )

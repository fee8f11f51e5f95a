use Rattle.std.proofs.Common.{◌≡◌, ◌∙◌, is_some, sym, ap}
use Rattle.em_base.specs.Selection.{stopper, stopper_at}
use Rattle.em_gate.specs.Selecting.{statuses_of}
use Rattle.em_threads.specs.Threads.{thread_at}
use Rattle.em_system.specs.Held.{promises_of}
use Rattle.em_system.specs.Standings.{stop_of}
use Rattle.em_system.proofs.Scenes.{stop_here}
use Rattle.em_system.proofs.system.System.is_stopped.Goals as goal

pub returns : goal.returns
returns c = λ p promises s.
    let t = c.args.t.0 in
    let held = c.args.self.now in
    let threads : c.self.inside.threads ≡ held.threads = ap (λ k. k.threads) c.self.view_is in
    let owners : c.self.inside.owners.items ≡ held.owners = ap (λ k. k.owners) c.self.view_is in
    let promise : c.promise-promise.result ≡ (thread_at held.threads t).promise = c.promise-promise.ensures ∙ ap (λ ts. (thread_at ts t).promise) threads in
    let status : c.status.result ≡ (thread_at held.threads t).task.status = c.status.ensures ∙ ap (λ ts. (thread_at ts t).task.status) threads in
    let stop : c.stopper.result ≡ stop_of held.owners t (thread_at held.threads t) =
    c.stopper.ensures
    ∙ ap (λ os. stopper os t c.promise-promise.result c.status.result) (c.deref.ensures.value ∙ owners)
    ∙ ap (λ o. stopper held.owners t o c.status.result) promise
    ∙ ap (λ o. stopper held.owners t (thread_at held.threads t).promise o) status in
    c.is_some.ensures
    ∙ ap (λ o. is_some o) (stop ∙ sym (stop_here held.threads held.owners t))
    ∙ ap (λ tasks. is_some (stopper_at (statuses_of tasks) (promises_of held.threads) held.owners t)) s.tasks
    ∙ ap (λ promised. is_some (stopper_at (statuses_of p.tasks) promised held.owners t)) s.promised
    ∙ ap (λ os. is_some (stopper_at (statuses_of p.tasks) promises os t)) s.owners

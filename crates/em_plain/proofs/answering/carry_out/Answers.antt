use Rattle.std.proofs.Common.{◌≡◌, ◌∙◌, None, Some, sym, ap, subst}
use Rattle.em_gate.specs.Effects.{after_outcome, line_by}
use Rattle.em_gate.specs.Outcome.{outcome}
use Rattle.em_gate.specs.State.{task_at}
use Rattle.em_plain.specs.Boards.{AreBoards}
use Rattle.em_system.specs.Asked.{after_asking}
use Rattle.em_system.specs.declared.stepping.Taken.TheVariants.{Ran, Called, Faulted, Asks}
use Rattle.em_system.specs.declared.stepping.Transfer.TheVariants.{Write, Read}
use Rattle.em_system.specs.Held.{Holds}
use Rattle.em_plain.proofs.Transfers.{asked_is, stays, told_so}
use Rattle.em_plain.proofs.answering.carry_out.Goals as goal

pub write-requires-clause-inside : goal.write-requires-clause-inside
write-requires-clause-inside c = (c.requires.granted (Write c.in-Asks-Write.msg c.in-Asks-Write.at) (c.in-Asks-Write.is ∙ ap Asks (rw c.in-Asks-Write.is at c.in-Asks-Write.field-0-is))).0

pub write-requires-clause-exists : goal.write-requires-clause-exists
write-requires-clause-exists c = c.requires.exists (Write c.in-Asks-Write.msg c.in-Asks-Write.at) (c.in-Asks-Write.is ∙ ap Asks (rw c.in-Asks-Write.is at c.in-Asks-Write.field-0-is))

pub read-requires-clause-inside : goal.read-requires-clause-inside
read-requires-clause-inside c = (c.requires.granted (Read c.in-Asks-Read.msg c.in-Asks-Read.at) (c.in-Asks-Read.is ∙ ap Asks (rw c.in-Asks-Read.is at c.in-Asks-Read.field-0-is))).0

pub read-requires-clause-exists : goal.read-requires-clause-exists
read-requires-clause-exists c = c.requires.exists (Read c.in-Asks-Read.msg c.in-Asks-Read.at) (c.in-Asks-Read.is ∙ ap Asks (rw c.in-Asks-Read.is at c.in-Asks-Read.field-0-is))

-- ---- a step that asks for nothing

pub returns-in-Ran-clause-step : goal.returns-in-Ran-clause-step
returns-in-Ran-clause-step c = λ p promises s are e.
    let app = c.args.system.now.app in
    let o = outcome app.table app.image.words c.args.t.0 p in
    stays o c.args.t p c.args.system.now promises c.args.boards.now None (told_so o c.args.t p (Ran c.in-Ran.field-0) (sym c.in-Ran.is ∙ e)) s are

pub returns-in-Called-clause-step : goal.returns-in-Called-clause-step
returns-in-Called-clause-step c = λ p promises s are e.
    let app = c.args.system.now.app in
    let o = outcome app.table app.image.words c.args.t.0 p in
    stays o c.args.t p c.args.system.now promises c.args.boards.now c.in-Called.line (told_so o c.args.t p (Called c.in-Called.line) (sym c.in-Called.is ∙ e)) s are

pub returns-in-Faulted-clause-step : goal.returns-in-Faulted-clause-step
returns-in-Faulted-clause-step c = λ p promises s are e.
    let app = c.args.system.now.app in
    let o = outcome app.table app.image.words c.args.t.0 p in
    stays o c.args.t p c.args.system.now promises c.args.boards.now (Some c.in-Faulted.line) (told_so o c.args.t p (Faulted c.in-Faulted.line) (sym c.in-Faulted.is ∙ e)) s are

-- ---- a step that asks

pub returns-in-Asks-Write-clause-step : goal.returns-in-Asks-Write-clause-step
returns-in-Asks-Write-clause-step c = λ p promises s are e.
    let app = c.args.system.now.app in
    let t = c.args.t in
    let is = asked_is app.table app.image.words t p (Write c.in-Asks-Write.msg c.in-Asks-Write.at)
    (sym (c.in-Asks-Write.is ∙ ap Asks (rw c.in-Asks-Write.is at c.in-Asks-Write.field-0-is)) ∙ e) in
    subst (λ o. Holds c.write.new.system (after_outcome o t p) promises × AreBoards c.write.new.boards (after_outcome o t p).values
    × (Some c.write.result ≡ line_by o t (task_at p.tasks t.0) p)) (sym is)
    (c.write.ensures.step p promises (subst (λ o. Holds c.args.system.now (after_asking o t p) promises) is s) are)

pub returns-in-Asks-Read-clause-step : goal.returns-in-Asks-Read-clause-step
returns-in-Asks-Read-clause-step c = λ p promises s are e.
    let app = c.args.system.now.app in
    let t = c.args.t in
    let is = asked_is app.table app.image.words t p (Read c.in-Asks-Read.msg c.in-Asks-Read.at)
    (sym (c.in-Asks-Read.is ∙ ap Asks (rw c.in-Asks-Read.is at c.in-Asks-Read.field-0-is)) ∙ e) in
    subst (λ o. Holds c.read.new.system (after_outcome o t p) promises × AreBoards c.args.boards.now (after_outcome o t p).values
    × (Some c.read.result ≡ line_by o t (task_at p.tasks t.0) p)) (sym is)
    (c.read.ensures.step p promises (subst (λ o. Holds c.args.system.now (after_asking o t p) promises) is s) are)

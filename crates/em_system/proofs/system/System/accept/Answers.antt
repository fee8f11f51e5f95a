use Rattle.std.proofs.Common.{◌∙◌, length, ap, subst, refl, arith}
use Rattle.em_base.specs.Selection.{owner_at}
use Rattle.em_system.specs.Asked.{IsGranted}
use Rattle.em_system.specs.declared.stepping.Taken.TheVariants.{Called}
use Rattle.em_gate.specs.Calls.{words_of}
use Rattle.em_system.proofs.Accepted.{one_passes, acquire_within, release_within, out_within, signal_within, no_unknown, write_within, read_within, write_granted, read_granted}
use Rattle.em_system.proofs.CallSteps.{acquire_does, asked_is, for_call, read_asks, write_asks}
use Rattle.em_system.proofs.Lines.{ports_of_end, ports_of_acquire, ports_of_release, ports_of_signal, ports_of_exit}
use Rattle.em_system.proofs.system.System.accept.Goals as goal

-- ---- operands

pub overflow_cast-s : goal.overflow_cast-s
overflow_cast-s g c =
    let table = c.self.inside.app.now.table in
    let known = c.requires.accepted.0 in
    let passes = one_passes c.args.t.0 known c.in-Acquire.is (ap (λ held. held.app.table) c.self.view_is) c.requires.accepted.1 in
    let within = acquire_within c.in-Acquire.s table c.args.t.0 known passes in
    omega (arith, within, c.self.invariant.whole.table.semaphores)

pub acquire-requires-clause-semaphore : goal.acquire-requires-clause-semaphore
acquire-requires-clause-semaphore g c =
    let table = c.self.inside.app.now.table in
    let known = c.requires.accepted.0 in
    let passes = one_passes c.args.t.0 known c.in-Acquire.is (ap (λ held. held.app.table) c.self.view_is) c.requires.accepted.1 in
    let within = acquire_within c.in-Acquire.s table c.args.t.0 known passes in
    omega (arith, within, c.self.invariant.semaphores, ap (λ held. length held.owners) c.self.view_is)

pub overflow_cast-s-in-Release : goal.overflow_cast-s-in-Release
overflow_cast-s-in-Release g c =
    let table = c.self.inside.app.now.table in
    let known = c.requires.accepted.0 in
    let passes = one_passes c.args.t.0 known c.in-Release.is (ap (λ held. held.app.table) c.self.view_is) c.requires.accepted.1 in
    let within = release_within c.in-Release.s table c.args.t.0 known passes in
    omega (arith, within, c.self.invariant.whole.table.semaphores)

pub release_semaphore-requires-clause-semaphore : goal.release_semaphore-requires-clause-semaphore
release_semaphore-requires-clause-semaphore g c =
    let table = c.self.inside.app.now.table in
    let known = c.requires.accepted.0 in
    let passes = one_passes c.args.t.0 known c.in-Release.is (ap (λ held. held.app.table) c.self.view_is) c.requires.accepted.1 in
    let within = release_within c.in-Release.s table c.args.t.0 known passes in
    omega (arith, within, c.self.invariant.semaphores, ap (λ held. length held.owners) c.self.view_is)

pub overflow_cast-port : goal.overflow_cast-port
overflow_cast-port g c =
    let table = c.self.inside.app.now.table in
    let known = c.requires.accepted.0 in
    let passes = one_passes c.args.t.0 known c.in-Out.is (ap (λ held. held.app.table) c.self.view_is) c.requires.accepted.1 in
    let within = out_within c.in-Out.port c.in-Out.word table c.args.t.0 known passes in
    omega (arith, within)

pub put-requires-clause-port : goal.put-requires-clause-port
put-requires-clause-port g c =
    let table = c.self.inside.app.now.table in
    let known = c.requires.accepted.0 in
    let passes = one_passes c.args.t.0 known c.in-Out.is (ap (λ held. held.app.table) c.self.view_is) c.requires.accepted.1 in
    let within = out_within c.in-Out.port c.in-Out.word table c.args.t.0 known passes in
    within

pub overflow_cast-result : goal.overflow_cast-result
overflow_cast-result g c =
    let table = c.self.inside.app.now.table in
    let known = c.requires.accepted.0 in
    let passes = one_passes c.args.t.0 known c.in-Write.is (ap (λ held. held.app.table) c.self.view_is) c.requires.accepted.1 in
    let within = write_within c.in-Write.msg c.in-Write.at table c.args.t.0 known passes in
    omega (arith, within, c.self.invariant.whole.table.message_count)

pub overflow_cast-result-in-Read : goal.overflow_cast-result-in-Read
overflow_cast-result-in-Read g c =
    let table = c.self.inside.app.now.table in
    let known = c.requires.accepted.0 in
    let passes = one_passes c.args.t.0 known c.in-Read.is (ap (λ held. held.app.table) c.self.view_is) c.requires.accepted.1 in
    let within = read_within c.in-Read.msg c.in-Read.at table c.args.t.0 known passes in
    omega (arith, within, c.self.invariant.whole.table.message_count)

pub overflow_cast-task : goal.overflow_cast-task
overflow_cast-task g c =
    let table = c.self.inside.app.now.table in
    let known = c.requires.accepted.0 in
    let passes = one_passes c.args.t.0 known c.in-Signal.is (ap (λ held. held.app.table) c.self.view_is) c.requires.accepted.1 in
    let within = signal_within c.in-Signal.task c.in-Signal.word table c.args.t.0 known passes in
    omega (arith, within, c.self.invariant.whole.table.count.1)

pub give-requires-clause-other : goal.give-requires-clause-other
give-requires-clause-other g c =
    let table = c.self.inside.app.now.table in
    let known = c.requires.accepted.0 in
    let passes = one_passes c.args.t.0 known c.in-Signal.is (ap (λ held. held.app.table) c.self.view_is) c.requires.accepted.1 in
    let within = signal_within c.in-Signal.task c.in-Signal.word table c.args.t.0 known passes in
    omega (arith, within, c.self.invariant.all, ap (λ held. length held.threads) c.self.view_is)

-- ---- the step

pub returns-in-WaitJob-clause-step : goal.returns-in-WaitJob-clause-step
returns-in-WaitJob-clause-step g c = λ p promises s seen.
    let held = c.args.self.now in
    let t = c.args.t in
    let did = c.finish.ensures.step p promises s in
    for_call held p promises t c.in-WaitJob.is (did.0, seen ∙ ports_of_end t p, ap Called did.1)

pub returns-in-Acquire-clause-step : goal.returns-in-Acquire-clause-step
returns-in-Acquire-clause-step g c = λ p promises s seen.
    let held = c.args.self.now in
    let t = c.args.t in
    let did = c.acquire.ensures.step p promises s in
    for_call held p promises t c.in-Acquire.is (acquire_does c.in-Acquire.s (owner_at p.owners c.in-Acquire.s) _ _ c.acquire.result held.app t p promises
    (did.0, seen ∙ ports_of_acquire c.in-Acquire.s (owner_at p.owners c.in-Acquire.s) t p, did.1))

pub returns-in-Release-clause-step : goal.returns-in-Release-clause-step
returns-in-Release-clause-step g c = λ p promises s seen.
    let held = c.args.self.now in
    let t = c.args.t in
    let did = c.release_semaphore.ensures.step p promises s in
    for_call held p promises t c.in-Release.is (did.0, seen ∙ ports_of_release c.in-Release.s t p, ap Called did.1)

pub returns-in-Out-clause-step : goal.returns-in-Out-clause-step
returns-in-Out-clause-step g c = λ p promises s seen.
    let held = c.args.self.now in
    let t = c.args.t in
    let did = c.put.ensures.step p promises s seen in
    for_call held p promises t c.in-Out.is (did.0, did.1, ap Called did.2)

pub returns-in-Signal-clause-step : goal.returns-in-Signal-clause-step
returns-in-Signal-clause-step g c = λ p promises s seen.
    let held = c.args.self.now in
    let t = c.args.t in
    let did = c.give.ensures.step p promises s in
    for_call held p promises t c.in-Signal.is (did.0, seen ∙ ports_of_signal c.in-Signal.task c.in-Signal.word t p, ap Called did.1)

pub returns-in-Exit-clause-step : goal.returns-in-Exit-clause-step
returns-in-Exit-clause-step g c = λ p promises s seen.
    let held = c.args.self.now in
    let t = c.args.t in
    let did = c.exit.ensures.step p promises s in
    for_call held p promises t c.in-Exit.is (did.0, seen ∙ ports_of_exit t p, ap Called did.1)

pub returns-in-Write-clause-step : goal.returns-in-Write-clause-step
returns-in-Write-clause-step g c = λ p promises s seen.
    let held = c.args.self.now in
    let t = c.args.t in
    for_call held p promises t c.in-Write.is (write_asks held.app held p promises t (record { 0 = c.in-Write.msg }) c.in-Write.at (words_of held.app.table c.in-Write.msg) _ s seen)

pub returns-in-Read-clause-step : goal.returns-in-Read-clause-step
returns-in-Read-clause-step g c = λ p promises s seen.
    let held = c.args.self.now in
    let t = c.args.t in
    for_call held p promises t c.in-Read.is (read_asks held.app held p promises t (record { 0 = c.in-Read.msg }) c.in-Read.at _ s seen)

-- ---- what is asked for

pub returns-in-Write-clause-granted : goal.returns-in-Write-clause-granted
returns-in-Write-clause-granted g c = λ transfer is.
    let table = c.args.self.now.app.table in
    let known = c.requires.accepted.0 in
    let passes = one_passes c.args.t.0 known c.in-Write.is refl c.requires.accepted.1 in
    subst (IsGranted table c.args.t.0) (asked_is is) (write_granted (record { 0 = c.in-Write.msg }) c.in-Write.at table c.args.t.0 known passes)

pub returns-in-Read-clause-granted : goal.returns-in-Read-clause-granted
returns-in-Read-clause-granted g c = λ transfer is.
    let table = c.args.self.now.app.table in
    let known = c.requires.accepted.0 in
    let passes = one_passes c.args.t.0 known c.in-Read.is refl c.requires.accepted.1 in
    subst (IsGranted table c.args.t.0) (asked_is is) (read_granted (record { 0 = c.in-Read.msg }) c.in-Read.at table c.args.t.0 known passes)

-- ---- no call

pub returns-in-Unknown-clause-step : goal.returns-in-Unknown-clause-step
returns-in-Unknown-clause-step g c =
    let held = c.args.self.now in
    let known = c.requires.accepted.0 in
    let passes = one_passes c.args.t.0 known c.in-Unknown.is refl c.requires.accepted.1 in
    absurd (no_unknown c.in-Unknown.field-0 held.app.table c.args.t.0 known passes)

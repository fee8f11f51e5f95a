-- A call is what it is accepted as, or its refusal.
use Rattle.std.proofs.Common.{◌≡◌, ◌∙◌, ℕ, ◌<◌, List, length, Option, None, Some, sym, ap, subst, refl, ℤ}
use Rattle.em_base.specs.declared.apps.App.{App}
use Rattle.em_base.specs.declared.ids.MsgId.{MsgId}
use Rattle.em_base.specs.declared.ids.SemId.{SemId}
use Rattle.em_base.specs.declared.ids.TaskId.{TaskId}
use Rattle.em_ports.specs.Ports.{Places}
use Rattle.em_trace.specs.declared.lines.Line.{Line}
use Rattle.em_gate.specs.declared.calls.Call.{Call}
use Rattle.em_gate.specs.declared.calls.Facts.{Facts}
use Rattle.em_gate.specs.State.{Plain, task_at}
use Rattle.em_gate.specs.Calls.{call_of, known_by, refusal}
use Rattle.em_gate.specs.Effects.{after_outcome, line_by}
use Rattle.em_gate.specs.Outcome.{Outcome, Refuses, Publishes, Fetches, accepted, acquire_outcome, call_outcome, call_outcome_by, known_at}
use Rattle.em_threads.specs.Threads.{thread_at}
use Rattle.em_system.specs.Asked.{after_asking, taken_of}
use Rattle.em_system.specs.declared.stepping.Taken.{Taken}
use Rattle.em_system.specs.declared.stepping.Taken.TheVariants.{Called, Asks}
use Rattle.em_system.specs.declared.stepping.Transfer.{Transfer}
use Rattle.em_system.specs.declared.stepping.Transfer.TheVariants.{Write as WriteTransfer, Read as ReadTransfer}
use Rattle.em_system.specs.Held.{Held, Holds}
use Rattle.em_system.specs.Promises.{promises_after}
use Rattle.em_system.proofs.Lines.{task_here}

-- what is held, the ports and what the step is told to be are those after an outcome, but for a transfer
abbrev pub Does : Held → Places → Taken → App → TaskId → Plain → List (Option SemId) → Outcome → Type 0
Does held places taken app t p promises o =
    Holds held (after_asking o t p) (promises_after app o t.0 p promises)
    × (places ≡ (after_asking o t p).ports)
    × (taken ≡ taken_of o t p)

-- the same by the line, for an outcome that is neither an instruction nor a fault nor a transfer
abbrev pub Calls : Held → Places → Option Line → App → TaskId → Plain → List (Option SemId) → Outcome → Type 0
Calls held places line app t p promises o =
    Holds held (after_outcome o t p) (promises_after app o t.0 p promises)
    × (places ≡ (after_outcome o t p).ports)
    × (line ≡ line_by o t (task_at p.tasks t.0) p)

-- whichever an acquire comes to
pub acquire_does : (s : ℕ) (owner : Option TaskId) (held : Held) (places : Places) (line : Option Line) (app : App) (t : TaskId) (p : Plain) (promises : List (Option SemId))
    → Calls held places line app t p promises (acquire_outcome s owner) → Does held places (Called line) app t p promises (acquire_outcome s owner)
acquire_does s None held places line app t p promises c = (c.0, c.1, ap Called c.2)
acquire_does s (Some u) held places line app t p promises c = (c.0, c.1, ap Called c.2)

-- the outcome of a call, by its refusal
outcome_by_refusal : (held : Held) (p : Plain) (promises : List (Option SemId)) (t : TaskId) (call : Call) (facts : Facts) (answer : Option ℤ)
    → Holds held p promises → t.0 < length held.threads
    → call ≡ call_of (thread_at held.threads t.0).task.core.registers → known_by facts ≡ known_at p t.0
    → refusal call held.app.table t.0 (known_by facts) ≡ answer
    → call_outcome held.app.table t.0 (known_at p t.0) p.owners (task_at p.tasks t.0).core ≡ call_outcome_by held.app.table p.owners call answer
outcome_by_refusal held p promises t call facts answer s h is known e =
    let table = held.app.table in
    let same : call_of (task_at p.tasks t.0).core.registers ≡ call =
    sym (is ∙ ap (λ task. call_of task.core.registers) (task_here held p promises t.0 s h)) in
    ap (λ k. call_outcome_by table p.owners k (refusal k table t.0 (known_at p t.0))) same
    ∙ ap (λ k. call_outcome_by table p.owners call (refusal call table t.0 k)) (sym known)
    ∙ ap (λ r. call_outcome_by table p.owners call r) e

pub accepted_step : (held : Held) (p : Plain) (promises : List (Option SemId)) (t : TaskId) (call : Call) (facts : Facts)
    {held' : Held} {places : Places} {taken : Taken}
    → Holds held p promises → t.0 < length held.threads
    → call ≡ call_of (thread_at held.threads t.0).task.core.registers → known_by facts ≡ known_at p t.0
    → refusal call held.app.table t.0 (known_by facts) ≡ None
    → Does held' places taken held.app t p promises (accepted held.app.table p.owners call)
    → Does held' places taken held.app t p promises (call_outcome held.app.table t.0 (known_at p t.0) p.owners (task_at p.tasks t.0).core)
accepted_step held p promises t call facts {held'} {places} {taken} s h is known e does =
    subst (Does held' places taken held.app t p promises) (sym (outcome_by_refusal held p promises t call facts None s h is known e)) does

pub refused_step : (held : Held) (p : Plain) (promises : List (Option SemId)) (t : TaskId) (call : Call) (facts : Facts) (code : ℤ)
    {held' : Held} {places : Places} {taken : Taken}
    → Holds held p promises → t.0 < length held.threads
    → call ≡ call_of (thread_at held.threads t.0).task.core.registers → known_by facts ≡ known_at p t.0
    → refusal call held.app.table t.0 (known_by facts) ≡ Some code
    → Does held' places taken held.app t p promises (Refuses code)
    → Does held' places taken held.app t p promises (call_outcome held.app.table t.0 (known_at p t.0) p.owners (task_at p.tasks t.0).core)
refused_step held p promises t call facts code {held'} {places} {taken} s h is known e does =
    subst (Does held' places taken held.app t p promises) (sym (outcome_by_refusal held p promises t call facts (Some code) s h is known e)) does

-- the same for a call that is this one
pub for_call : (held : Held) (p : Plain) (promises : List (Option SemId)) (t : TaskId) {held' : Held} {places : Places} {taken : Taken} {call one : Call}
    → call ≡ one → Does held' places taken held.app t p promises (accepted held.app.table p.owners one)
    → Does held' places taken held.app t p promises (accepted held.app.table p.owners call)
for_call held p promises t {held'} {places} {taken} e does =
    subst (λ k. Does held' places taken held.app t p promises (accepted held.app.table p.owners k)) (sym e) does

-- the same for a code that is this one
pub for_code : (held : Held) (p : Plain) (promises : List (Option SemId)) (t : TaskId) {held' : Held} {places : Places} {taken : Taken} {code one : ℤ}
    → one ≡ code → Does held' places taken held.app t p promises (Refuses one) → Does held' places taken held.app t p promises (Refuses code)
for_code held p promises t {held'} {places} {taken} e does = subst (λ k. Does held' places taken held.app t p promises (Refuses k)) e does

-- a write, which is left to the caller: nothing has changed
pub write_asks : (app : App) (held : Held) (p : Plain) (promises : List (Option SemId)) (t : TaskId) (m : MsgId) (at count : ℕ) (places : Places)
    → Holds held p promises → places ≡ p.ports → Does held places (Asks (WriteTransfer m at)) app t p promises (Publishes m.0 at count)
unfolding promises_after
write_asks app held p promises t m at count places s seen = (s, seen, refl)

-- and so is a read
pub read_asks : (app : App) (held : Held) (p : Plain) (promises : List (Option SemId)) (t : TaskId) (m : MsgId) (at : ℕ) (places : Places)
    → Holds held p promises → places ≡ p.ports → Does held places (Asks (ReadTransfer m at)) app t p promises (Fetches m.0 at)
unfolding promises_after
read_asks app held p promises t m at places s seen = (s, seen, refl)

-- what is asked for is one thing
pub asked_is : {one other : Transfer} → Asks one ≡ Asks other → one ≡ other
asked_is e = cc

-- An instruction of a task is its outcome.
use Rattle.std.proofs.Common.{◌≡◌, ◌∙◌, ℕ, ◌<◌, List, length, Option, sym, ap}
use Rattle.std.proofs.lemmas.List.{set-get_or}
use Rattle.em_base.specs.declared.ids.SemId.{SemId}
use Rattle.em_base.specs.declared.ids.TaskId.{TaskId}
use Rattle.em_hart.specs.declared.answers.Stepped.{Stepped}
use Rattle.em_hart.specs.declared.answers.Stepped.TheVariants.{Ran as RanStep, Call as CallStep, Fault as FaultStep}
use Rattle.em_hart.specs.Hart.{Memory}
use Rattle.em_hart.specs.Instruction.{Outcome, Ran, Call, Fault, exec}
use Rattle.em_hart.specs.Steps.{IsUnchanged, Reports}
use Rattle.em_gate.specs.State.{Core, Plain, task_at}
use Rattle.em_gate.specs.Outcome.{known_at, outcome, outcome_by}
use Rattle.em_threads.specs.Threads.{Thread, no_thread, thread_at, changed, with_core}
use Rattle.em_system.specs.Held.{Held, Holds}
use Rattle.em_system.specs.Carried.{IsCarried}
use Rattle.em_system.proofs.Lines.{task_here}

-- the core of a task
abbrev core_at : List Thread → ℕ → Core
core_at threads t = (thread_at threads t).task.core

-- the outcome is told by what the instruction of the held task comes to
outcome_is : (held : Held) (p : Plain) (promises : List (Option SemId)) (t : TaskId) (carried : Outcome) → Holds held p promises → t.0 < length held.threads
    → exec (core_at held.threads t.0).registers (core_at held.threads t.0).own held.shared held.app.image.words ≡ carried
    → outcome held.app.table held.app.image.words t.0 p ≡ outcome_by held.app.table t.0 (known_at p t.0) p.owners (task_at p.tasks t.0).core carried
outcome_is held p promises t carried s h e =
    let here : (task_at p.tasks t.0).core ≡ core_at held.threads t.0 = ap (λ task. task.core) (sym (task_here held p promises t.0 s h)) in
    let come : (Core → Memory → Outcome) = λ core shared. exec core.registers core.own shared held.app.image.words in
    ap (λ carry. outcome_by held.app.table t.0 (known_at p t.0) p.owners (task_at p.tasks t.0).core carry)
    (ap (λ core. come core p.shared) here ∙ ap (λ shared. come (core_at held.threads t.0) shared) (sym s.shared) ∙ e)

-- threads whose one core is as it was are as they were
same_threads : (threads threads' : List Thread) (t : ℕ) → threads' ≡ changed (with_core (core_at threads' t)) t threads
    → core_at threads' t ≡ core_at threads t → threads' ≡ threads
same_threads threads threads' t e f =
    e ∙ ap (λ core. changed (with_core core) t threads) f ∙ set-get_or threads t no_thread

core_is : (threads threads' : List Thread) (t : ℕ) → (core_at threads' t).registers ≡ (core_at threads t).registers → (core_at threads' t).own ≡ (core_at threads t).own
    → core_at threads' t ≡ core_at threads t
core_is threads threads' t e f =
    ap (λ registers. let core : Core = record { registers = registers; own = (core_at threads' t).own } in core) e
    ∙ ap (λ own. let core : Core = record { registers = (core_at threads t).registers; own = own } in core) f

unchanged : (held : Held) (threads' : List Thread) (shared' : Memory) (t : ℕ) → threads' ≡ changed (with_core (core_at threads' t)) t held.threads
    → IsUnchanged (core_at held.threads t).registers (core_at held.threads t).own held.shared (core_at threads' t).registers (core_at threads' t).own shared'
    → record held { threads = threads'; shared = shared' } ≡ held
unchanged held threads' shared' t e u =
    ap (λ threads. record held { threads = threads; shared = shared' })
    (same_threads held.threads threads' t e (core_is held.threads threads' t u.same_registers u.same_own))
    ∙ ap (λ shared. record held { shared = shared }) u.same_shared

-- what is held after the instruction of a task
pub carried : (result : Stepped) (held : Held) (p : Plain) (promises : List (Option SemId)) (t : TaskId) (threads' : List Thread) (shared' : Memory)
    → Holds held p promises → t.0 < length held.threads
    → Reports result (exec (core_at held.threads t.0).registers (core_at held.threads t.0).own held.shared held.app.image.words)
    (core_at held.threads t.0).registers (core_at held.threads t.0).own held.shared (core_at threads' t.0).registers (core_at threads' t.0).own shared'
    → threads' ≡ changed (with_core (core_at threads' t.0)) t.0 held.threads
    → IsCarried result held (record held { threads = threads'; shared = shared' }) t p
carried (RanStep class) held p promises t threads' shared' s h r e = (
  core_at threads' t.0,
  shared',
  outcome_is held p promises t (Ran class (core_at threads' t.0).registers (core_at threads' t.0).own shared') s h r,
  ap (λ threads. record held { threads = threads; shared = shared' }) e,
)
carried CallStep held p promises t threads' shared' s h r e =
    (outcome_is held p promises t Call s h r.0, unchanged held threads' shared' t.0 e r.1)
carried (FaultStep cause) held p promises t threads' shared' s h r e =
    (outcome_is held p promises t (Fault cause) s h r.0, unchanged held threads' shared' t.0 e r.1)

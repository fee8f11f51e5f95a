-- The lines of steps, and the ports after them.
use Rattle.std.proofs.Common.{◌≡◌, ◌∙◌, ℕ, zero, suc, ◌+◌, ◌<◌, List, [], ◌∷◌, length, slice_index_or, Option, None, Some, sym, ap, refl, arith, ℤ}
use Rattle.em_base.specs.declared.ids.PortId.{PortId}
use Rattle.em_base.specs.declared.ids.SemId.{SemId}
use Rattle.em_base.specs.declared.ids.TaskId.{TaskId}
use Rattle.em_hart.specs.declared.answers.Class.{Class}
use Rattle.em_hart.specs.Hart.{Memory}
use Rattle.em_ports.specs.Ports.{after_put}
use Rattle.em_trace.specs.declared.lines.Line.TheVariants.{JobEnd, Acq, Free, Out, Sig, Refused, Faulted, Exited}
use Rattle.em_gate.specs.State.{Core, Plain, Task, task_at}
use Rattle.em_gate.specs.Calls.{call_number}
use Rattle.em_gate.specs.Effects.{after_outcome, gives, ports_after, line_by, job_number, least_owned, shown_by}
use Rattle.em_gate.specs.Outcome.{Works, Falls, Refuses, Ends, Gets, Blocks, Frees, Puts, Signals, Leaves, acquire_outcome}
use Rattle.em_threads.specs.Threads.{thread_at}
use Rattle.em_system.specs.Held.{Held, Holds}
use Rattle.em_system.proofs.Stands.{task_of_thread}

-- a task of a state that is stood for
pub task_here : (held : Held) (p : Plain) (promises : List (Option SemId)) (t : ℕ) → Holds held p promises → t < length held.threads
    → (thread_at held.threads t).task ≡ task_at p.tasks t
task_here held p promises t s h = sym (task_of_thread held.threads t h) ∙ ap (λ tasks. task_at tasks t) s.tasks

-- ---- lines

pub worked_line : (class : Class) (core : Core) (shared : Memory) (t : TaskId) (task : Task) (p : Plain) → None ≡ line_by (Works class core shared) t task p
unfolding line_by
worked_line class core shared t task p = refl

pub fallen_line : (cause pc : ℕ) (sem : Option SemId) (t : TaskId) (task : Task) (p : Plain) → pc ≡ task.core.registers.pc → sem ≡ least_owned p.owners t.0
    → Some (Faulted t cause pc sem) ≡ line_by (Falls cause) t task p
unfolding line_by
fallen_line cause pc sem t task p e f = ap (λ at. Some (Faulted t cause at sem)) e ∙ ap (λ s. Some (Faulted t cause task.core.registers.pc s)) f

pub refused_line : (code : ℤ) (call : ℕ) (t : TaskId) (task : Task) (p : Plain) → call ≡ call_number task.core.registers
    → Some (Refused t call code) ≡ line_by (Refuses code) t task p
unfolding line_by
refused_line code call t task p e = ap (λ n. Some (Refused t n code)) e

pub ended_line : (number : ℕ) (t : TaskId) (task : Task) (p : Plain) → number ≡ job_number task.job → Some (JobEnd t number) ≡ line_by Ends t task p
unfolding line_by
ended_line number t task p e = ap (λ n. Some (JobEnd t n)) e

pub got_line : (s : SemId) (t : TaskId) (task : Task) (p : Plain) → Some (Acq t s) ≡ line_by (Gets s.0) t task p
unfolding line_by
got_line s t task p = refl

pub blocked_line : (s : ℕ) (t : TaskId) (task : Task) (p : Plain) → None ≡ line_by (Blocks s) t task p
unfolding line_by
blocked_line s t task p = refl

pub freed_line : (s : SemId) (t : TaskId) (task : Task) (p : Plain) → Some (Free t s) ≡ line_by (Frees s.0) t task p
unfolding line_by
freed_line s t task p = refl

pub put_line : (port : PortId) (word value : ℕ) (t : TaskId) (task : Task) (p : Plain) → value ≡ shown_by (after_put p.ports port.0 word) port.0
    → Some (Out t port word value) ≡ line_by (Puts port.0 word) t task p
unfolding line_by
put_line port word value t task p e = ap (λ v. Some (Out t port word v)) e

pub signal_line : (u : TaskId) (word job : ℕ) (t : TaskId) (task : Task) (p : Plain) → job ≡ (task_at p.tasks u.0).taken + 1
    → Some (Sig t u job) ≡ line_by (Signals u.0 word) t task p
unfolding line_by
signal_line u word job t task p e = ap (λ n. Some (Sig t u n)) e

pub left_line : (t : TaskId) (task : Task) (p : Plain) → Some (Exited t) ≡ line_by Leaves t task p
unfolding line_by
left_line t task p = refl

-- ---- ports

pub ports_put : (port word : ℕ) (t : TaskId) (p : Plain) → after_put p.ports port word ≡ (after_outcome (Puts port word) t p).ports
unfolding ports_after gives
ports_put port word t p = refl

pub ports_of_work : (class : Class) (core : Core) (shared : Memory) (t : TaskId) (p : Plain) → p.ports ≡ (after_outcome (Works class core shared) t p).ports
unfolding ports_after gives
ports_of_work class core shared t p = refl

pub ports_of_fault : (cause : ℕ) (t : TaskId) (p : Plain) → p.ports ≡ (after_outcome (Falls cause) t p).ports
unfolding ports_after gives
ports_of_fault cause t p = refl

pub ports_of_refusal : (code : ℤ) (t : TaskId) (p : Plain) → p.ports ≡ (after_outcome (Refuses code) t p).ports
unfolding ports_after gives
ports_of_refusal code t p = refl

pub ports_of_end : (t : TaskId) (p : Plain) → p.ports ≡ (after_outcome Ends t p).ports
unfolding ports_after gives
ports_of_end t p = refl

pub ports_of_acquire : (s : ℕ) (owner : Option TaskId) (t : TaskId) (p : Plain) → p.ports ≡ (after_outcome (acquire_outcome s owner) t p).ports
unfolding ports_after gives
ports_of_acquire s None t p = refl
ports_of_acquire s (Some u) t p = refl

pub ports_of_release : (s : ℕ) (t : TaskId) (p : Plain) → p.ports ≡ (after_outcome (Frees s) t p).ports
unfolding ports_after gives
ports_of_release s t p = refl

pub ports_of_signal : (u word : ℕ) (t : TaskId) (p : Plain) → p.ports ≡ (after_outcome (Signals u word) t p).ports
unfolding ports_after gives
ports_of_signal u word t p = refl

pub ports_of_exit : (t : TaskId) (p : Plain) → p.ports ≡ (after_outcome Leaves t p).ports
unfolding ports_after gives
ports_of_exit t p = refl

-- a member that is there is the same whatever stands for one that isn't
pub any_default : {A : Type 0} (xs : List A) (i : ℕ) (d e : A) → i < length xs → slice_index_or xs i d ≡ slice_index_or xs i e
any_default [] i d e h = absurd (omega (arith, h))
any_default (x ∷ xs) zero d e h = refl
any_default (x ∷ xs) (suc i) d e h = any_default xs i d e (omega (arith, h))

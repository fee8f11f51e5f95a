-- Threads one of which is changed.
use Rattle.std.proofs.Common.{◌≡◌, ◌∙◌, ℕ, ◌<◌, List, length, slice_set, sym, ap, subst}
use Rattle.std.proofs.lemmas.List.{get_or-set_same, set-set}
use Rattle.em_hart.specs.Hart.{Registers, with_register, with_pc}
use Rattle.em_hart.specs.Effect.{sum}
use Rattle.em_threads.specs.Threads.{Thread, no_thread, thread_at, changed, with_task, with_registers}
use Rattle.em_system.specs.Held.{answered}

-- the thread that was changed
pub thread_at_changed : (f : Thread → Thread) (t : ℕ) (threads : List Thread) → t < length threads
    → thread_at (changed f t threads) t ≡ f (thread_at threads t)
thread_at_changed f t threads h = get_or-set_same threads t (f (thread_at threads t)) no_thread h

-- a thread that is changed twice is changed once
pub changed_again : (f g h : Thread → Thread) (t : ℕ) (threads : List Thread) → t < length threads
    → g (f (thread_at threads t)) ≡ h (thread_at threads t)
    → changed g t (changed f t threads) ≡ changed h t threads
changed_again f g h t threads within e =
    ap (λ thread. slice_set (changed f t threads) t (g thread)) (thread_at_changed f t threads within)
    ∙ set-set threads t (f (thread_at threads t)) (g (f (thread_at threads t)))
    ∙ ap (λ thread. slice_set threads t thread) e

abbrev registers_at : List Thread → ℕ → Registers
registers_at threads t = (thread_at threads t).task.core.registers

abbrev moved_on : Registers → Registers
moved_on registers = with_pc registers (sum registers.pc 4)

-- an answer in a0, and on to the next instruction
pub answered_is : (threads : List Thread) (t answer : ℕ) → t < length threads
    → (first : List Thread) → first ≡ changed (with_registers (with_register (thread_at threads t).task.core.registers 10 answer)) t threads
    → changed (with_registers (with_pc (thread_at first t).task.core.registers (sum (thread_at first t).task.core.registers.pc 4))) t first
    ≡ changed (with_task (answered answer)) t threads
answered_is threads t answer h first e =
    let own : Registers = registers_at threads t in
    let put : (Thread → Thread) = with_registers (with_register own 10 answer) in
    let now : registers_at (changed put t threads) t ≡ with_register own 10 answer =
    ap (λ thread. thread.task.core.registers) (thread_at_changed put t threads h) in
    subst (λ f. changed (with_registers (moved_on (registers_at f t))) t f ≡ changed (with_task (answered answer)) t threads) (sym e)
    (changed_again put (with_registers (moved_on (registers_at (changed put t threads) t))) (with_task (answered answer)) t threads h
    (ap (λ r. with_registers (moved_on r) (put (thread_at threads t))) now))

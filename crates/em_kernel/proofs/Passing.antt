-- What is always so of a kernel is so after a step that changes no selection.
use Rattle.std.proofs.Common.{◌≡◌, ◌∙◌, ℕ, ◌+◌, ◌<◌, ◌≤◌, nat_le, nat_lt, Bool, true, false, if◌then◌else◌, List, All, length, Option, Some, sym, ap, subst, refl, arith}
use Rattle.em_base.specs.declared.apps.App.{App}
use Rattle.em_base.specs.declared.events.Timed.{Timed}
use Rattle.em_base.specs.declared.ids.MsgId.{MsgId}
use Rattle.em_base.specs.declared.ids.TaskId.{TaskId}
use Rattle.em_base.specs.declared.jobs.Charges.{Charges}
use Rattle.em_trace.specs.declared.lines.Line.{Line}
use Rattle.em_admit.specs.Depth.{depth}
use Rattle.em_gate.specs.Calls.{words_of}
use Rattle.em_gate.specs.Outcome.{outcome}
use Rattle.em_gate.specs.State.{Copy, Counted, Reads, Writes}
use Rattle.em_ports.specs.Ports.{Places}
use Rattle.em_kernel.specs.declared.did.Did.{Did}
use Rattle.em_kernel.specs.Kept.{Kept, Stands}
use Rattle.em_kernel.specs.Moves.{EndsRead, EndsWrite, Lapses, PutsWord, TakesWord, begun_at, copy_at, move_by, next_word, put_move}
use Rattle.em_kernel.specs.Step.{Step, ended, lapsed, ran, stepped, stepped_by}
use Rattle.em_state.specs.Buffers.{Kept as Buffer}
use Rattle.em_system.specs.Held.{Held, promises_of, selected_of, tasks_of}
use Rattle.em_system.specs.Sound.{IsSound}
use Rattle.em_system.proofs.Scenes.{selected_inside}
use Rattle.em_kernel.specs.declared.meter.Meter.{Meter}
use Rattle.em_kernel.specs.Kernels.{IsKernel}
use Rattle.em_kernel.specs.Metered.{passed}
use Rattle.em_kernel.proofs.Kernels.{next_kernel, sound_more}
use Rattle.em_kernel.proofs.Settling.{metered_same}
use Rattle.em_kernel.proofs.Transfers.{mail_of}

-- the task that is selected is one of the tasks
pub runner_inside : (held : Held) (t : ℕ) → selected_of held ≡ Some t → t < length held.threads
runner_inside held t e = selected_inside held.app.table.tasks held.threads (promises_of held.threads) held.owners t e

pub same_mail : (buffers buffers' : List Buffer) (copies copies' : List (Option Copy)) → buffers ≡ buffers' → copies ≡ copies'
    → mail_of buffers copies ≡ mail_of buffers' copies'
same_mail buffers buffers' copies copies' eb ec = ap (λ b. mail_of b copies) eb ∙ ap (λ c. mail_of buffers' c) ec

pub passed_kernel : (held held' : Held) (charges : Charges) (events : List Timed) (at : ℕ) (meter meter' : Meter) (line : Option Line) (cost : ℕ)
    → IsKernel held charges events at meter → held'.app ≡ held.app → 1 ≤ cost → cost ≤ 62 → selected_of held' ≡ selected_of held
    → All (IsSound (at + meter.clock)) (tasks_of held'.threads) → meter.clock < held.app.table.horizon → meter.count < 1000000
    → meter' ≡ passed meter line cost → IsKernel held' charges events at meter'
passed_kernel held held' charges events at meter meter' line cost k app some cheap same sound early short em =
    subst (IsKernel held' charges events at) (sym (em ∙ metered_same meter line cost charges.switch k.runs))
    (next_kernel held held' charges events at at meter meter.selected line cost k app k.within (omega (arith, some)) cheap (k.selects ∙ sym same)
    (sound_more (at + meter.clock) (at + meter.clock + 1) (tasks_of held'.threads) (omega arith) sound) early short)

-- ---- steps by a test

-- what a kernel keeps and did is a step's
abbrev pub Shows : Kept → Places → Step → Did → Type 0
Shows kept places step did = Stands kept places step.state × (did ≡ step.did)

-- the step of a write whose last word isn't done
pub by_more : (kept : Kept) (places : Places) (app app' : App) (c : Counted) (t : TaskId) (m : MsgId) (at done : ℕ) (b : Bool) (did : Did)
    → app ≡ app' → nat_lt (done + 1) (words_of app.table m.0) ≡ b
    → Shows kept places (stepped_by app c t (if b then TakesWord m at done else EndsWrite m at done)) did
    → Shows kept places (stepped_by app' c t (next_word app'.table c.begun (Writes m at done))) did
by_more kept places app app' c t m at done b did ea e s =
    subst (λ (a : App). Shows kept places (stepped_by a c t (next_word a.table c.begun (Writes m at done))) did) ea
    (subst (λ more. Shows kept places (stepped_by app c t (if more then TakesWord m at done else EndsWrite m at done)) did) (sym e) s)

-- and that of a read
pub by_rest : (kept : Kept) (places : Places) (app app' : App) (c : Counted) (t : TaskId) (m : MsgId) (at noted done : ℕ) (b : Bool) (did : Did)
    → app ≡ app' → nat_lt (done + 1) (words_of app.table m.0) ≡ b
    → Shows kept places (stepped app c t (if b then PutsWord m at noted done else EndsRead m at noted done)) did
    → Shows kept places (stepped app' c t (put_move app'.table m at noted done)) did
by_rest kept places app app' c t m at noted done b did ea e s =
    subst (λ (a : App). Shows kept places (stepped a c t (put_move a.table m at noted done)) did) ea
    (subst (λ more. Shows kept places (stepped app c t (if more then PutsWord m at noted done else EndsRead m at noted done)) did) (sym e) s)

-- a word of a read that hasn't lapsed
put_step : (app : App) (c : Counted) (t : TaskId) (m : MsgId) (at noted done : ℕ) → stepped app c t (put_move app.table m at noted done) ≡ stepped_by app c t (put_move app.table m at noted done)
put_step app c t m at noted done = by_test (nat_lt (done + 1) (words_of app.table m.0))
  where
    by_test : (b : Bool) → stepped app c t (if b then PutsWord m at noted done else EndsRead m at noted done)
        ≡ stepped_by app c t (if b then PutsWord m at noted done else EndsRead m at noted done)
    by_test true = refl
    by_test false = refl

pub by_kept : (kept : Kept) (places : Places) (app : App) (c : Counted) (t : TaskId) (m : MsgId) (at noted done : ℕ) (did : Did)
    → nat_le (noted + depth app.table m.0) (begun_at c.begun m.0) ≡ false
    → Shows kept places (stepped app c t (put_move app.table m at noted done)) did
    → Shows kept places (stepped_by app c t (next_word app.table c.begun (Reads m at noted done))) did
by_kept kept places app c t m at noted done did e s =
    subst (λ lapsed. Shows kept places (stepped_by app c t (if lapsed then Lapses m noted else put_move app.table m at noted done)) did) (sym e)
    (subst (λ step. Shows kept places step did) (put_step app c t m at noted done) s)

-- and one that has
pub by_lapse : (kept : Kept) (places : Places) (app : App) (c : Counted) (t : TaskId) (m : MsgId) (at noted done : ℕ) (did : Did)
    → nat_le (noted + depth app.table m.0) (begun_at c.begun m.0) ≡ true
    → Shows kept places (ended c (lapsed c m noted)) did
    → Shows kept places (stepped_by app c t (next_word app.table c.begun (Reads m at noted done))) did
by_lapse kept places app c t m at noted done did e s =
    subst (λ lapsed. Shows kept places (stepped_by app c t (if lapsed then Lapses m noted else put_move app.table m at noted done)) did) (sym e) s

-- the step of a task with a copy
pub ran_copy : (app : App) (c : Counted) (t : TaskId) (copy : Copy) → copy_at c.copies t.0 ≡ Some copy
    → stepped_by app c t (next_word app.table c.begun copy) ≡ ran app c t
ran_copy app c t copy e = ap (λ under_way. stepped_by app c t (move_by app.table c.begun (outcome app.table app.image.words t.0 c.plain) under_way)) (sym e)

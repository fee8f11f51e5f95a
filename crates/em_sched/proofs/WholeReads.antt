-- Each read of a run that ends is whole: from its beginning on its settled core is the core with the whole value.
use Rattle.std.proofs.Common.{◌≡◌, ◌∙◌, inl, inr, ℕ, zero, suc, ◌<◌, length, None, Some, sym, ap, arith}
use Rattle.std.proofs.lemmas.Bool.{cases_eq}
use Rattle.em_base.specs.declared.apps.App.{App}
use Rattle.em_base.specs.declared.ids.MsgId.{MsgId}
use Rattle.em_base.specs.declared.ids.TaskId.{TaskId}
use Rattle.em_ports.specs.Ports.{Places}
use Rattle.em_trace.specs.declared.lines.Line.TheVariants.{Get}
use Rattle.em_gate.specs.Boot.{boot}
use Rattle.em_gate.specs.Effects.{after_answer, newest, with_value}
use Rattle.em_gate.specs.Events.{events_of}
use Rattle.em_gate.specs.State.{Copy, Counted, Reads, Task, task_at, value_at}
use Rattle.em_kernel.specs.declared.did.StepKind.{StepKind}
use Rattle.em_kernel.specs.declared.did.StepKind.TheVariants.{BeginRead}
use Rattle.em_kernel.specs.declared.did.StepKind.TheVariants.{Copy as CopyKind}
use Rattle.em_kernel.specs.declared.did.What.TheVariants.{Stepped}
use Rattle.em_kernel.specs.Moves.{copy_at}
use Rattle.em_kernel.specs.Run.{counted_boot, state_from}
use Rattle.em_kernel.specs.Step.{step}
use Rattle.em_sched.specs.Image.{image_boot}
use Rattle.em_sched.specs.Reads.{EndsRead, IsWholeRead, core_before, did_at, state_before}
use Rattle.em_sched.specs.Traces.{events_in}
use Rattle.em_sched.specs.Turns.{acted}
use Rattle.em_sched.proofs.Beside.{beside_from}
use Rattle.em_sched.proofs.Boot.{beside_boot, no_copies}
use Rattle.em_sched.proofs.CountedSteps.{step_turn}
use Rattle.em_sched.proofs.Flat.{flat_here}
use Rattle.em_sched.proofs.Levels.{flat_same}
use Rattle.em_sched.proofs.Orderly.{IsOrderly, IsSimple}
use Rattle.em_sched.proofs.ReadStarts.{BeginsRead, Was, was}
use Rattle.em_sched.proofs.ReadSteps.{LeavesRead, core_in, read_stays}
use Rattle.em_sched.proofs.StatesBefore.{state_next}

-- what every step keeps is so before each step of a run
orderly_before : (app : App) (ports : Places) (n : ℕ) → IsSimple app → IsOrderly app (state_before app ports n)
orderly_before app ports n simple =
    (beside_from app (boot app ports) (events_in (events_of app)) n (counted_boot app ports) (image_boot app ports) simple (beside_boot app ports)).level.orderly

-- a read that is under way before the step n: it began at an earlier step with the newest value, its task took steps of a copy alone since, and
-- its settled core has that value
record IsUnderWay (app : App) (ports : Places) (n : ℕ) (t : TaskId) (m : MsgId) (at noted : ℕ) : Type 0 where
  pub first : ℕ
  pub earlier : first < n
  pub begins : (did_at app ports first).what ≡ Stepped t BeginRead
  pub line : (did_at app ports first).line ≡ Some (Get t m noted)
  pub number : noted ≡ newest (state_before app ports first).plain.values m.0
  pub only : (k : ℕ) (kind : StepKind) → first < k → k < n → (did_at app ports k).what ≡ Stepped t kind → kind ≡ CopyKind
  pub core : core_in (state_before app ports n) t
      ≡ after_answer 0 (with_value at (value_at (state_before app ports first).plain.values m.0 noted) (core_before app ports first t))

-- the settled core after a step is that of what the step makes
core_next : (app : App) (ports : Places) (n : ℕ) (t : TaskId)
    → core_in (state_before app ports (suc n)) t ≡ core_in (acted app (state_before app ports n) (did_at app ports n).what) t
core_next app ports n t =
    let c = state_before app ports n in
    let after = (step_turn app c).after in
    ap (λ s. core_in s t) (state_next app n (counted_boot app ports))
    ∙ ap (λ p. (task_at p.tasks t.0).core) (flat_same (acted app c (did_at app ports n).what) (step app c).state after.plain after.copies)

-- one step more
only_more : (app : App) (ports : Places) (n first : ℕ) (t : TaskId)
    → ((k : ℕ) (kind : StepKind) → first < k → k < n → (did_at app ports k).what ≡ Stepped t kind → kind ≡ CopyKind)
    → ((kind : StepKind) → (did_at app ports n).what ≡ Stepped t kind → kind ≡ CopyKind)
    → (k : ℕ) (kind : StepKind) → first < k → k < suc n → (did_at app ports k).what ≡ Stepped t kind → kind ≡ CopyKind
only_more app ports n first t before here k kind later within e = elim (cases_eq k n) as (λ _. kind ≡ CopyKind) [
  | inl same ↦ here kind (ap (λ i. (did_at app ports i).what) (sym same) ∙ e)
  | inr other ↦ before k kind later (omega (arith, within, other)) e
]

-- what the step n leaves of a read under way
stays_on : (app : App) (ports : Places) (n : ℕ) (t : TaskId) (m : MsgId) (at noted i : ℕ) → IsSimple app
    → copy_at (state_before app ports n).copies t.0 ≡ Some (Reads m at noted i)
    → LeavesRead app (state_before app ports n) (did_at app ports n).what t
stays_on app ports n t m at noted i simple e =
    let c = state_before app ports n in
    read_stays app c (did_at app ports n).what t m at noted i simple (step_turn app c).fits (orderly_before app ports n simple) e

under_way_more : (app : App) (ports : Places) (n : ℕ) (t : TaskId) (m : MsgId) (at noted i : ℕ) → IsSimple app
    → copy_at (state_before app ports n).copies t.0 ≡ Some (Reads m at noted i) → IsUnderWay app ports n t m at noted
    → IsUnderWay app ports (suc n) t m at noted
under_way_more app ports n t m at noted i simple e u =
    let stays = stays_on app ports n t m at noted i simple e in
    record {
      first = u.first;
      earlier = omega (arith, u.earlier);
      begins = u.begins;
      line = u.line;
      number = u.number;
      only = only_more app ports n u.first t u.only stays.1;
      core = core_next app ports n t ∙ stays.0 ∙ u.core;
    }

under_way_first : (app : App) (ports : Places) (n : ℕ) (t : TaskId) (m : MsgId) (at noted : ℕ)
    → BeginsRead app (state_before app ports n) (did_at app ports n).what t m at noted → IsUnderWay app ports (suc n) t m at noted
under_way_first app ports n t m at noted b = record {
  first = n;
  earlier = omega arith;
  begins = b.begins;
  line = b.line (did_at app ports n).line (step_turn app (state_before app ports n)).says;
  number = b.number;
  only = λ k kind later within e. absurd (omega (arith, later, within));
  core = core_next app ports n t ∙ b.core;
}

none_some : (copy : Copy) → None ≡ Some copy → ⊥
none_some copy e = cc

-- each read under way before a step of a run is one
under_way : (app : App) (ports : Places) (n : ℕ) (t : TaskId) (m : MsgId) (at noted i : ℕ) → IsSimple app
    → copy_at (state_before app ports n).copies t.0 ≡ Some (Reads m at noted i) → IsUnderWay app ports n t m at noted
unfolding state_from
under_way app ports zero t m at noted i simple e =
    absurd (none_some (Reads m at noted i) (sym (no_copies (length app.table.tasks) t.0) ∙ e))
under_way app ports (suc n) t m at noted i simple e =
    let c = state_before app ports n in
    let turn = step_turn app c in
    let after : copy_at (acted app c (did_at app ports n).what).copies t.0 ≡ Some (Reads m at noted i) =
    ap (λ cs. copy_at cs t.0) (sym turn.after.copies) ∙ ap (λ (s : Counted). copy_at s.copies t.0) (sym (state_next app n (counted_boot app ports))) ∙ e in
    by_was (was app c (did_at app ports n).what t m at noted i (orderly_before app ports n simple) turn.fits after)
    (λ j q. under_way app ports n t m at noted j simple q)
  where
    by_was : Was app (state_before app ports n) (did_at app ports n).what t m at noted
        → ((j : ℕ) → copy_at (state_before app ports n).copies t.0 ≡ Some (Reads m at noted j) → IsUnderWay app ports n t m at noted)
        → IsUnderWay app ports (suc n) t m at noted
    by_was (inl (j, q)) before = under_way_more app ports n t m at noted j simple q (before j q)
    by_was (inr b) before = under_way_first app ports n t m at noted b

-- one that ends with the step n is whole
whole : (app : App) (ports : Places) (n : ℕ) (t : TaskId) (m : MsgId) (at noted : ℕ) → IsSimple app → EndsRead app ports n t m at noted
    → IsUnderWay app ports n t m at noted → IsWholeRead app ports n t m at noted
whole app ports n t m at noted simple ends u =
    let stays = stays_on app ports n t m at noted ends.words simple ends.under_way in
    let c' = state_before app ports (suc n) in
    record {
      first = u.first;
      earlier = u.earlier;
      begins = u.begins;
      line = u.line;
      number = u.number;
      only = λ k kind later within e. only_more app ports n u.first t u.only stays.1 k kind later (omega (arith, within)) e;
      put =
          ap (λ (k : Task). k.core)
          (sym (flat_here c'.plain.values c'.plain.tasks c'.copies t.0 None (orderly_before app ports (suc n) simple).copies.count ends.over))
          ∙ core_next app ports n t ∙ stays.0 ∙ u.core;
    }

-- so that each that ends is whole
pub reads_whole : (app : App) (ports : Places) (n : ℕ) (t : TaskId) (m : MsgId) (at noted : ℕ) → IsSimple app → EndsRead app ports n t m at noted
    → IsWholeRead app ports n t m at noted
reads_whole app ports n t m at noted simple ends =
    whole app ports n t m at noted simple ends (under_way app ports n t m at noted ends.words simple ends.under_way)

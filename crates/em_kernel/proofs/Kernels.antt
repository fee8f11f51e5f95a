-- What is always so of a kernel, after a step.
use Rattle.std.proofs.Common.{◌≡◌, ◌∙◌, ℕ, zero, suc, ◌+◌, ◌<◌, ◌≤◌, Bool, true, false, List, [], ◌∷◌, length, drop, slice_index_or, All, Option, None, Some, sym, ap, subst, cond, arith}
use Rattle.em_base.specs.declared.events.Timed.{Timed}
use Rattle.em_base.specs.declared.ids.TaskId.{TaskId}
use Rattle.em_trace.specs.declared.lines.Line.{Line}
use Rattle.em_gate.specs.State.{Task}
use Rattle.em_system.specs.Held.{Held, selected_of, tasks_of}
use Rattle.em_kernel.specs.declared.meter.Meter.{Meter}
use Rattle.em_kernel.specs.Metered.{metered, with_one, with_switch}
use Rattle.em_system.specs.Possible.{IsPossible}
use Rattle.em_system.specs.Sound.{IsSound}
use Rattle.em_system.specs.Standings.{number_of}
use Rattle.em_kernel.specs.Step.{is_switch, current_after}
use Rattle.std.proofs.lemmas.List.Elements.{All-weaker}
use Rattle.em_base.specs.declared.jobs.Charges.{Charges}
use Rattle.em_demand.specs.Charges.{charges_of}
use Rattle.em_kernel.specs.Kernels.{IsKernel}

-- tasks that are sound for so many jobs are sound for more
pub sound_more : (n m : ℕ) (tasks : List Task) → n ≤ m → All (IsSound n) tasks → All (IsSound m) tasks
sound_more n m tasks le s =
    All-weaker (IsSound n) (IsSound m) (λ task t. record { few = omega (arith, le, t.few); early = t.early; later = t.later; working = t.working }) tasks s

nothing_there : {A : Type 0} (x : A) (rest : List A) → [] ≡ x ∷ rest → ⊥
nothing_there x rest e = cc

head_same : {A : Type 0} (y x : A) (ys xs : List A) → y ∷ ys ≡ x ∷ xs → y ≡ x
head_same y x ys xs e = ap (λ list. slice_index_or list 0 y) e

tail_same : {A : Type 0} (y x : A) (ys xs : List A) → y ∷ ys ≡ x ∷ xs → ys ≡ xs
tail_same y x ys xs e = ap (λ list. drop 1 list) e

-- the next of the events that are left
pub record Next {A : Type 0} (xs : List A) (at : ℕ) (x : A) (rest : List A) : Type 0 where
  pub inside : at < length xs
  pub here : slice_index_or xs at x ≡ x
  pub later : drop (suc at) xs ≡ rest

pub next_of : {A : Type 0} (xs : List A) (at : ℕ) (x : A) (rest : List A) → drop at xs ≡ x ∷ rest → Next xs at x rest
next_of [] zero x rest e = absurd (nothing_there x rest e)
next_of [] (suc at) x rest e = absurd (nothing_there x rest e)
next_of (y ∷ xs) zero x rest e = record { inside = omega arith; here = head_same y x xs rest e; later = tail_same y x xs rest e }
next_of (y ∷ xs) (suc at) x rest e =
    let n = next_of xs at x rest e in
    record { inside = omega (arith, n.inside); here = n.here; later = n.later }

-- ---- the kernel after a step at a cost

switches_within : (b : Bool) (switches clock cost switch : ℕ) → switches ≤ clock → 10 ≤ switch
    → cond b (switches + 1) switches ≤ clock + with_switch b cost switch
switches_within true switches clock cost switch h s = omega (arith, h, s)
switches_within false switches clock cost switch h s = omega (arith, h)

cost_within : (b : Bool) (cost switch : ℕ) → cost ≤ 62 → switch ≤ 46 → with_switch b cost switch ≤ 108
cost_within true cost switch h s = omega (arith, h, s)
cost_within false cost switch h s = omega (arith, h)

cost_at_least : (b : Bool) (cost switch : ℕ) → cost ≤ with_switch b cost switch
cost_at_least true cost switch = omega arith
cost_at_least false cost switch = omega arith

count_within : (count : ℕ) (line : Option Line) → count < 1000000 → with_one count line ≤ 1000001
count_within count None h = omega (arith, h)
count_within count (Some line) h = omega (arith, h)

-- what is always so of a kernel is so after a step at a cost, once the selection is made again
pub next_kernel : (held held' : Held) (charges : Charges) (events : List Timed) (at at' : ℕ) (meter : Meter) (task : Option TaskId) (line : Option Line) (cost : ℕ)
    → IsKernel held charges events at meter → held'.app ≡ held.app
    → at' ≤ length events → at + 1 ≤ at' + cost → cost ≤ 62
    → number_of task ≡ selected_of held'
    → All (IsSound (at + meter.clock + 1)) (tasks_of held'.threads)
    → meter.clock < held.app.table.horizon → meter.count < 1000000
    → IsKernel held' charges events at' (metered meter task line cost charges.switch)
next_kernel held held' charges events at at' meter task line cost k app within enough cheap found sound early short =
    let switched : Bool = is_switch meter.current (number_of task) in
    let least = cost_at_least switched cost charges.switch in
    record {
      charged = k.charged ∙ ap (λ a. charges_of a.table) (sym app);
      cheap = k.cheap;
      horizon = subst (λ a. a.table.horizon ≤ 20000000) (sym app) k.horizon;
      within = within;
      few = k.few;
      timely = subst (λ a. All (λ event. event.time < a.table.horizon) events) (sym app) k.timely;
      possible = subst (λ a. All (λ event. IsPossible (length a.table.tasks) event.event) events) (sym app) k.possible;
      selects = found;
      runs = λ t e. ap (λ o. current_after meter.current o) e;
      sound = sound_more (at + meter.clock + 1) (at' + (meter.clock + with_switch switched cost charges.switch)) (tasks_of held'.threads)
          (omega (arith, enough, least)) sound;
      early = omega (arith, early, k.horizon, cost_within switched cost charges.switch cheap k.cheap.switch);
      short = count_within meter.count line short;
      switched = switches_within switched meter.switches meter.clock cost charges.switch k.switched k.cheap.costly;
    }

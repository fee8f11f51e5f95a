-- The machine on its way to a count.
use Rattle.std.specs.Bool.{⊤}
use Rattle.std.proofs.Common.{◌≡◌, ◌∙◌, ℕ, suc, ◌+◌, ◌-◌, ◌<◌, ◌≤◌, min, true, false, All, None, Some, Result, Ok, Err, IsErr, IsErrAnd, sym, ap, subst, refl, arith}
use Rattle.std.proofs.lemmas.Bool.{false≢true}
use Rattle.std.proofs.lemmas.List.Elements.{All-weaker}
use Rattle.em_base.specs.declared.apps.App.{App}
use Rattle.em_base.specs.declared.ids.TaskId.{TaskId}
use Rattle.em_ports.specs.Ports.{Places}
use Rattle.em_gate.specs.Effects.{after_step}
use Rattle.em_gate.specs.Selecting.{plain_selected}
use Rattle.em_gate.specs.State.{Plain}
use Rattle.em_system.specs.Held.{tasks_of}
use Rattle.em_system.specs.Sound.{IsSound}
use Rattle.em_system.specs.Standings.{number_of}
use Rattle.em_plain.specs.declared.machine.Halt.{Halt}
use Rattle.em_plain.specs.declared.machine.Halt.TheVariants.{Full as FullHalt, Misfit as MisfitHalt, NoMemory}
use Rattle.em_plain.specs.Reached.{HasGone, IsAt, Reached}
use Rattle.em_plain.specs.Runs.{On, and_then, is_full, state_of, steps, steps_before}
use Rattle.em_plain.proofs.Went.{no_step, steps_add, stops_full, stops_misfit, takes_step}

-- from where it was first it has come to where it is, by steps alone, and not past the count
pub record Advancing (first : Reached) (places : Places) (target : ℕ) (at : Reached) (places' : Places) : Type 0 where
  pub app : at.held.app ≡ first.held.app
  pub from : first.count ≤ at.count
  pub upto : at.count ≤ first.count + (target - first.count)
  pub sound : (n : ℕ) → All (IsSound n) (tasks_of first.held.threads) → All (IsSound (n + (at.count - first.count))) (tasks_of at.held.threads)
  pub gone : (p : Plain) → IsAt first places p
      → (p' : Plain) × (steps first.held.app (at.count - first.count) p first.count ≡ On p' at.count) × IsAt at places' p'

same_sound : (n m : ℕ) (at : Reached) → n ≡ m → All (IsSound n) (tasks_of at.held.threads) → All (IsSound m) (tasks_of at.held.threads)
same_sound n m at e s = subst (λ k. All (IsSound k) (tasks_of at.held.threads)) e s

-- tasks that are sound for so many jobs are sound for more
pub more_sound : (n m : ℕ) (at : Reached) → n ≤ m → All (IsSound n) (tasks_of at.held.threads) → All (IsSound m) (tasks_of at.held.threads)
more_sound n m at le s =
    All-weaker (IsSound n) (IsSound m) (λ task t. record { few = omega (arith, le, t.few); early = t.early; later = t.later; working = t.working }) (tasks_of at.held.threads) s

-- the tasks are sound for as many jobs more as there are steps on the way
pub sound_all : (first at : Reached) (places places' : Places) (target n : ℕ) → Advancing first places target at places' → All (IsSound n) (tasks_of first.held.threads)
    → All (IsSound (n + (target - first.count))) (tasks_of at.held.threads)
sound_all first at places places' target n adv s =
    more_sound (n + (at.count - first.count)) (n + (target - first.count)) at (omega (arith, adv.from, adv.upto)) (adv.sound n s)

-- at first
pub starts : (first : Reached) (places : Places) (target : ℕ) → Advancing first places target first places
starts first places target =
    let none : 0 ≡ first.count - first.count = omega arith in
    record {
      app = refl;
      from = omega arith;
      upto = omega arith;
      sound = λ n s. same_sound n (n + (first.count - first.count)) first (omega arith) s;
      gone = λ p at. (p, ap (λ k. steps first.held.app k p first.count) (sym none) ∙ no_step first.held.app p first.count, at);
    }

-- what is left of the way is so many steps from where it is
rest_is : (app : App) (target from count : ℕ) (p p' : Plain) → from ≤ count → count < target → steps app (count - from) p from ≡ On p' count
    → steps app (target - from) p from ≡ steps app (suc (target - count - 1)) p' count
rest_is app target from count p p' f h e =
    let parts : target - from ≡ (count - from) + suc (target - count - 1) = omega (arith, f, h) in
    ap (λ k. steps app k p from) parts
    ∙ steps_add app (count - from) (suc (target - count - 1)) p from
    ∙ ap (λ went. and_then went (λ q n. steps app (suc (target - count - 1)) q n)) e

-- the trace is full
pub halts_full : (first at : Reached) (places places' : Places) (target : ℕ) (p : Plain) → Advancing first places target at places' → at.count < target
    → ((q : Plain) (seen : Places) → IsAt at seen q → true ≡ is_full q) → IsAt first places p
    → HasGone (λ k. steps_before first.held.app target k p first.count) (steps first.held.app (target - first.count) p first.count) (Err FullHalt) at places'
halts_full first at places places' target p adv h full is =
    let (p', gone, here) = adv.gone p is in (
      p',
      rest_is first.held.app target first.count at.count p p' adv.from h gone
          ∙ stops_full first.held.app (target - at.count - 1) p' at.count (sym (full p' places' here)),
      here,
    )

-- no task is selected
pub halts_misfit : (first at : Reached) (places places' : Places) (target : ℕ) (p : Plain) → Advancing first places target at places' → at.count < target
    → ((q : Plain) (seen : Places) → IsAt at seen q → false ≡ is_full q) → at.selected ≡ None → IsAt first places p
    → HasGone (λ k. steps_before first.held.app target k p first.count) (steps first.held.app (target - first.count) p first.count) (Err MisfitHalt) at places'
halts_misfit first at places places' target p adv h full none is =
    let (p', gone, here) = adv.gone p is in
    let selects : plain_selected first.held.app.table.tasks p' ≡ None =
    ap (λ (a : App). plain_selected a.table.tasks p') (sym adv.app) ∙ sym here.selects ∙ ap number_of none in (
      p',
      rest_is first.held.app target first.count at.count p p' adv.from h gone
          ∙ stops_misfit first.held.app (target - at.count - 1) p' at.count (sym (full p' places' here)) selects,
      here,
    )

-- it has come to the count
pub arrives : (first at : Reached) (places places' : Places) (target : ℕ) (p : Plain) (done : ⊤) → Advancing first places target at places' → target ≤ at.count → IsAt first places p
    → HasGone (λ k. steps_before first.held.app target k p first.count) (steps first.held.app (target - first.count) p first.count) (Ok done) at places'
arrives first at places places' target p done adv h is =
    let (p', gone, here) = adv.gone p is in
    let same : target - first.count ≡ at.count - first.count = omega (arith, h, adv.upto, adv.from) in
    (p', ap (λ k. steps first.held.app k p first.count) same ∙ gone, here)

-- one step more
moved : (first at : Reached) (places places' : Places) (target : ℕ) (p p' : Plain) (t : TaskId) → Advancing first places target at places'
    → ((q : Plain) (seen : Places) → IsAt at seen q → false ≡ is_full q) → at.selected ≡ Some t
    → steps first.held.app (at.count - first.count) p first.count ≡ On p' at.count → IsAt at places' p'
    → steps first.held.app (at.count - first.count + 1) p first.count
    ≡ On (after_step first.held.app.table first.held.app.image.words t p') (suc at.count)
moved first at places places' target p p' t adv full one gone here =
    let app : App = first.held.app in
    let selects : plain_selected app.table.tasks p' ≡ Some t.0 =
    ap (λ (a : App). plain_selected a.table.tasks p') (sym adv.app) ∙ sym here.selects ∙ ap number_of one in
    let next : Plain = after_step app.table app.image.words t p' in
    steps_add app (at.count - first.count) 1 p first.count
    ∙ ap (λ went. and_then went (λ q n. steps app 1 q n)) gone
    ∙ takes_step app 0 p' at.count t.0 (sym (full p' places' here)) selects
    ∙ no_step app next (suc at.count)

-- memory ran out for the line of a step
pub halts_part : (first at at' : Reached) (places places' places'' : Places) (target : ℕ) (p : Plain) (t : TaskId) (result : Result ⊤ Halt)
    → Advancing first places target at places' → at.count < target
    → ((q : Plain) (seen : Places) → IsAt at seen q → false ≡ is_full q) → at.selected ≡ Some t
    → ((q : Plain) → IsAt at places' q → places'' ≡ (after_step at.held.app.table at.held.app.image.words t q).ports)
    → IsErr result → IsErrAnd result (λ h. h ≡ NoMemory) → IsAt first places p
    → HasGone (λ k. steps_before first.held.app target k p first.count) (steps first.held.app (target - first.count) p first.count) result at' places''
halts_part first at at' places places' places'' target p t (Ok done) adv h full one seen err and is = absurd (false≢true err)
halts_part first at at' places places' places'' target p t (Err other) adv h full one seen err and is =
    let (p', gone, here) = adv.gone p is in
    let app : App = first.held.app in
    let k = at.count - first.count + 1 in
    let went = moved first at places places' target p p' t adv full one gone here in
    let few : min (at.count - first.count + 1) (target - first.count) ≡ at.count - first.count + 1 = omega (arith, h, adv.from) in
    let ports : places'' ≡ (after_step app.table app.image.words t p').ports =
    seen p' here ∙ ap (λ (a : App). (after_step a.table a.image.words t p').ports) adv.app in
    subst (λ h. HasGone (λ k. steps_before app target k p first.count) (steps app (target - first.count) p first.count) (Err h) at' places'') (sym and)
    (k, ports ∙ ap (λ w. (state_of w).ports) (sym went) ∙ ap (λ n. (state_of (steps app n p first.count)).ports) (sym few))

-- and goes on after a step
pub advances : (first at at' : Reached) (places places' places'' : Places) (target : ℕ) (t : TaskId) → Advancing first places target at places' → at.count < target
    → ((q : Plain) (seen : Places) → IsAt at seen q → false ≡ is_full q) → at.selected ≡ Some t
    → ((q : Plain) → IsAt at places' q → IsAt at' places'' (after_step at.held.app.table at.held.app.image.words t q))
    → at'.count ≡ at.count + 1 → at'.held.app ≡ at.held.app
    → ((n : ℕ) → All (IsSound n) (tasks_of at.held.threads) → All (IsSound (n + 1)) (tasks_of at'.held.threads))
    → Advancing first places target at' places''
advances first at at' places places' places'' target t adv h full one steps_on count app sound = record {
  app = app ∙ adv.app;
  from = omega (arith, count, adv.from);
  upto = omega (arith, count, h, adv.from);
  sound = λ n s. same_sound (n + (at.count - first.count) + 1) (n + (at'.count - first.count)) at' (omega (arith, count, adv.from)) (sound (n + (at.count - first.count)) (adv.sound n s));
  gone = λ p is.
      let (p', gone, here) = adv.gone p is in
      let a : App = first.held.app in
      let same : at'.count - first.count ≡ at.count - first.count + 1 = omega (arith, count, adv.from) in
      let next : suc at.count ≡ at'.count = omega (arith, count) in (
        after_step a.table a.image.words t p',
        ap (λ k. steps a k p first.count) same ∙ moved first at places places' target p p' t adv full one gone here
            ∙ ap (λ n. On (after_step a.table a.image.words t p') n) next,
        subst (λ (b : App). IsAt at' places'' (after_step b.table b.image.words t p')) adv.app (steps_on p' here),
      );
}

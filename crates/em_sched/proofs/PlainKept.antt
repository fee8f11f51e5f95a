-- The plain machine keeps the facts on owners, under every schedule.
use Rattle.std.proofs.Common.{◌≡◌, ◌∙◌, ℕ, zero, suc, ◌-◌, if◌then◌else◌, Bool, true, false, List, [], ◌∷◌, length, Option, None, Some, ap, refl, arith}
use Rattle.em_base.specs.declared.apps.App.{App}
use Rattle.em_base.specs.declared.events.Event.{Event}
use Rattle.em_base.specs.declared.events.Schedule.{Schedule}
use Rattle.em_base.specs.declared.ids.TaskId.{TaskId}
use Rattle.em_ports.specs.Ports.{Places}
use Rattle.em_gate.specs.Boot.{boot}
use Rattle.em_gate.specs.Effects.{after_step}
use Rattle.em_gate.specs.Events.{after_event}
use Rattle.em_gate.specs.Outcome.{outcome}
use Rattle.em_gate.specs.Selecting.{plain_selected}
use Rattle.em_gate.specs.State.{Plain}
use Rattle.em_plain.specs.Runs.{Went, On, Full, Misfit, and_then, events, is_full, plain_run, state_of, steps}
use Rattle.em_sched.specs.Agreement.{AreKept}
use Rattle.em_sched.proofs.Agreeing.{bare_none, kept}
use Rattle.em_sched.proofs.Boot.{orderly_boot}
use Rattle.em_kernel.proofs.TaskCounts.{event_count, step_count}
use Rattle.em_sched.proofs.Counts.{event_owners, step_owners}
use Rattle.em_sched.proofs.Levels.{awake_inside, selected_awake}
use Rattle.em_sched.proofs.Orderly.{IsSimple}
use Rattle.em_sched.proofs.Owned.{Owned}
use Rattle.em_sched.proofs.OwnedSteps.{owned_event, owned_step}
use Rattle.em_sched.proofs.Tells.{tells}

-- what a plain state keeps
pub record Keeps (app : App) (p : Plain) : Type 0 where
  pub owned : Owned p
  pub tasks : length p.tasks ≡ length app.table.tasks
  pub semaphores : length p.owners ≡ app.table.semaphores

keeps_step : (app : App) (t : ℕ) (p : Plain) → IsSimple app → plain_selected app.table.tasks p ≡ Some t → Keeps app p
    → Keeps app (after_step app.table app.image.words (record { 0 = t }) p)
keeps_step app t p simple chosen h =
    let task : TaskId = record { 0 = t } in
    let o = outcome app.table app.image.words t p in
    let awake = selected_awake app.table.tasks p.tasks [] p.owners t chosen in
    record {
      owned =
          owned_step app.table o task p (tells app.table app.image.words t p (omega (arith, h.semaphores, simple.few))) h.semaphores h.tasks awake
          (awake_inside p.tasks t awake) h.owned;
      tasks = step_count o task p ∙ h.tasks;
      semaphores = step_owners o task p ∙ h.semaphores;
    }

keeps_event : (app : App) (event : Event) (p : Plain) → Keeps app p → Keeps app (after_event event p)
keeps_event app event p h = record {
  owned = owned_event event p h.owned;
  tasks = event_count event p ∙ h.tasks;
  semaphores = ap length (event_owners event p) ∙ h.semaphores;
}

keeps_steps : (app : App) (n : ℕ) (p : Plain) (count : ℕ) → IsSimple app → Keeps app p → Keeps app (state_of (steps app n p count))
unfolding steps
keeps_steps app zero p count simple h = h
keeps_steps app (suc n) p count simple h =
    by_full (λ t kept. keeps_steps app n (after_step app.table app.image.words (record { 0 = t }) p) (suc count) simple kept) (is_full p)
  where
    More : Type 0
    More = (t : ℕ) → Keeps app (after_step app.table app.image.words (record { 0 = t }) p)
        → Keeps app (state_of (steps app n (after_step app.table app.image.words (record { 0 = t }) p) (suc count)))

    by_task : More → (selected : Option ℕ) → plain_selected app.table.tasks p ≡ selected
        → Keeps app (state_of (elim selected as (λ _. Went) [ None ↦ Misfit p count | Some t ↦ steps app n (after_step app.table app.image.words (record { 0 = t }) p) (suc count) ]))
    by_task more None e = h
    by_task more (Some t) e = more t (keeps_step app t p simple e h)

    by_full : More → (b : Bool)
        → Keeps app (state_of (if b then Full p count
        else elim (plain_selected app.table.tasks p) as (λ _. Went) [ None ↦ Misfit p count | Some t ↦ steps app n (after_step app.table app.image.words (record { 0 = t }) p) (suc count) ]))
    by_full more true = h
    by_full more false = by_task more (plain_selected app.table.tasks p) refl

keeps_then : (app : App) (went : Went) (next : Plain → ℕ → Went) → Keeps app (state_of went)
    → ((p : Plain) (count : ℕ) → Keeps app p → Keeps app (state_of (next p count))) → Keeps app (state_of (and_then went next))
keeps_then app (On p count) next h more = more p count h
keeps_then app (Full p count) next h more = h
keeps_then app (Misfit p count) next h more = h

keeps_events : (app : App) (p : Plain) (count : ℕ) (es : List (ℕ × Event)) → IsSimple app → Keeps app p → Keeps app (state_of (events app p count es))
unfolding events
keeps_events app p count [] simple h = h
keeps_events app p count (e ∷ es) simple h =
    keeps_then app (steps app (e.0 - count) p count) (λ p' count'. if is_full p' then Full p' count' else events app (after_event e.1 p') count' es)
    (keeps_steps app (e.0 - count) p count simple h)
    (λ p' count' kept. by_full p' count' kept (keeps_events app (after_event e.1 p') count' es simple (keeps_event app e.1 p' kept)) (is_full p'))
  where
    by_full : (p' : Plain) (count' : ℕ) → Keeps app p' → Keeps app (state_of (events app (after_event e.1 p') count' es)) → (b : Bool)
        → Keeps app (state_of (if b then Full p' count' else events app (after_event e.1 p') count' es))
    by_full p' count' kept more true = kept
    by_full p' count' kept more false = more

-- the state where a plain run stops
pub plain_kept : (app : App) (ports : Places) (schedule : Schedule) → IsSimple app → AreKept app (state_of (plain_run app ports schedule)) []
plain_kept app ports schedule simple =
    let orderly = orderly_boot app ports in
    let first : Keeps app (boot app ports) = record { owned = orderly.owned; tasks = orderly.tasks; semaphores = orderly.semaphores } in
    let h = keeps_then app (events app (boot app ports) 0 schedule.events) (λ p count. steps app (schedule.last - count) p count)
    (keeps_events app (boot app ports) 0 schedule.events simple first) (λ p count kept. keeps_steps app (schedule.last - count) p count simple kept) in
    kept app (state_of (plain_run app ports schedule)) [] h.owned h.tasks h.semaphores bare_none

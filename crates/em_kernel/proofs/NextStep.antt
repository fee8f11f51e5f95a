-- Which case the next step is, by what a kernel keeps.
use Rattle.std.proofs.Common.{◌≡◌, ◌∙◌, ℕ, ◌<◌, if◌then◌else◌, List, [], ◌∷◌, length, drop, Bool, true, false, nat_le, None, Some, sym, ap, refl, arith}
use Rattle.std.proofs.lemmas.Bool.Decides.{nat_tests}
use Rattle.em_base.specs.declared.apps.App.{App}
use Rattle.em_base.specs.declared.events.Event.{Event}
use Rattle.em_base.specs.declared.events.Timed.{Timed}
use Rattle.em_base.specs.declared.ids.TaskId.{TaskId}
use Rattle.em_base.specs.Selection.{selected}
use Rattle.em_ports.specs.Ports.{Places}
use Rattle.em_gate.specs.Selecting.{counted_selected, scene_in}
use Rattle.em_gate.specs.State.{Counted, most_lines}
use Rattle.em_kernel.specs.declared.did.End.TheVariants.{Horizon, Lines}
use Rattle.em_kernel.specs.Kept.{Kept, Stands}
use Rattle.em_system.specs.Held.{promises_of, tasks_of}
use Rattle.em_kernel.specs.Step.{chosen, delivered, due, ended, next, ran, step, waited}

not_some : (event : Event) → None ≡ Some event → ⊥
not_some event e = cc

not_none : (event : Event) → Some event ≡ None → ⊥
not_none event e = cc

same_event : (event other : Event) → Some event ≡ Some other → event ≡ other
same_event event other e = cc

not_below : (a b : ℕ) → b < a → nat_le a b ≡ false
not_below a b h = grind (arith, nat_tests, h)

-- an event that is due is the next step
next_due : (app : App) (c : Counted) (left : List Timed) (event : Event) → due c.clock left ≡ Some event → next app c left ≡ delivered app c event (drop 1 left)
next_due app c [] event e = absurd (not_some event e)
next_due app c (timed ∷ rest) event e = by_test (nat_le timed.time c.clock) e
  where
    by_test : (b : Bool) → (if b then Some timed.event else None) ≡ Some event
        → (if b then delivered app c timed.event rest else chosen app c (counted_selected app.table.tasks c)) ≡ delivered app c event rest
    by_test true e = ap (λ given. delivered app c given rest) (same_event timed.event event e)
    by_test false e = absurd (not_some event e)

-- where none is due it is by the selected task
next_chosen : (app : App) (c : Counted) (left : List Timed) → due c.clock left ≡ None → next app c left ≡ chosen app c (counted_selected app.table.tasks c)
next_chosen app c [] e = refl
next_chosen app c (timed ∷ rest) e = by_test (nat_le timed.time c.clock) e
  where
    by_test : (b : Bool) → (if b then Some timed.event else None) ≡ None
        → (if b then delivered app c timed.event rest else chosen app c (counted_selected app.table.tasks c)) ≡ chosen app c (counted_selected app.table.tasks c)
    by_test true e = absurd (not_none timed.event e)
    by_test false e = refl

goes_on : (app : App) (c : Counted) → c.clock < app.table.horizon → length c.plain.lines < most_lines → step app c ≡ next app c c.left
goes_on app c early short =
    ap (λ b. if b then ended c Horizon else if nat_le most_lines (length c.plain.lines) then ended c Lines else next app c c.left) (not_below app.table.horizon c.clock early)
    ∙ ap (λ b. if b then ended c Lines else next app c c.left) (not_below most_lines (length c.plain.lines) short)

-- what a kernel keeps tells that the run goes on
kept_goes_on : (kept : Kept) (places : Places) (c : Counted) → Stands kept places c → kept.clock < kept.app.table.horizon → kept.count < 1000000
    → step kept.app c ≡ next kept.app c c.left
kept_goes_on kept places c s early short = goes_on kept.app c (omega (arith, early, s.clock)) (omega (arith, short, s.lines))

same_due : (kept : Kept) (places : Places) (c : Counted) → Stands kept places c → due c.clock c.left ≡ due kept.clock kept.left
same_due kept places c s = sym (ap (λ clock. due clock kept.left) s.clock ∙ ap (λ left. due c.clock left) s.left)

-- what a kernel selects is what its state does
same_selected : (kept : Kept) (places : Places) (c : Counted) → Stands kept places c
    → counted_selected kept.app.table.tasks c ≡ selected (scene_in kept.app.table.tasks (tasks_of kept.threads) (promises_of kept.threads) kept.owners)
same_selected kept places c s =
    let rows = kept.app.table.tasks in
    sym (ap (λ tasks. selected (scene_in rows tasks (promises_of kept.threads) kept.owners)) s.tasks
    ∙ ap (λ promises. selected (scene_in rows c.plain.tasks promises kept.owners)) s.promises
    ∙ ap (λ owners. selected (scene_in rows c.plain.tasks c.promises owners)) s.owners)

-- an event that is due is delivered
pub step_delivers : (kept : Kept) (places : Places) (c : Counted) (event : Event) → Stands kept places c
    → kept.clock < kept.app.table.horizon → kept.count < 1000000 → due kept.clock kept.left ≡ Some event
    → step kept.app c ≡ delivered kept.app c event (drop 1 kept.left)
step_delivers kept places c event s early short e =
    kept_goes_on kept places c s early short
    ∙ next_due kept.app c c.left event (same_due kept places c s ∙ e)
    ∙ ap (λ left. delivered kept.app c event (drop 1 left)) (sym s.left)

-- where none is due the selected task takes a step
pub step_runs : (kept : Kept) (places : Places) (c : Counted) (t : TaskId) → Stands kept places c
    → kept.clock < kept.app.table.horizon → kept.count < 1000000 → due kept.clock kept.left ≡ None
    → selected (scene_in kept.app.table.tasks (tasks_of kept.threads) (promises_of kept.threads) kept.owners) ≡ Some t.0
    → step kept.app c ≡ ran kept.app c t
step_runs kept places c t s early short none e =
    kept_goes_on kept places c s early short
    ∙ next_chosen kept.app c c.left (same_due kept places c s ∙ none)
    ∙ ap (λ task. chosen kept.app c task) (same_selected kept places c s ∙ e)

-- and where no task is selected the clock goes on
pub step_waits : (kept : Kept) (places : Places) (c : Counted) → Stands kept places c
    → kept.clock < kept.app.table.horizon → kept.count < 1000000 → due kept.clock kept.left ≡ None
    → selected (scene_in kept.app.table.tasks (tasks_of kept.threads) (promises_of kept.threads) kept.owners) ≡ None
    → step kept.app c ≡ waited c c.left
step_waits kept places c s early short none e =
    kept_goes_on kept places c s early short
    ∙ next_chosen kept.app c c.left (same_due kept places c s ∙ none)
    ∙ ap (λ task. chosen kept.app c task) (same_selected kept places c s ∙ e)

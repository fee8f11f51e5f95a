-- What a step of the selected task settles.
use Rattle.std.proofs.lemmas.Bool.{true≢false}
use Rattle.std.proofs.Common.{◌≡◌, ◌∙◌, ℕ, ◌+◌, ◌==◌, ◌++◌, if◌then◌else◌, List, length, Bool, false, not, Option, None, Some, sym, ap, subst, refl, arith}
use Rattle.em_base.specs.declared.apps.App.{App}
use Rattle.em_base.specs.declared.events.Timed.{Timed}
use Rattle.em_base.specs.declared.ids.TaskId.{TaskId}
use Rattle.em_base.specs.Selection.{selected}
use Rattle.em_ports.specs.Ports.{Places}
use Rattle.em_trace.specs.declared.lines.Line.{Line}
use Rattle.em_gate.specs.Effects.{after_outcome, gives, line_by, option_list, values_after}
use Rattle.em_gate.specs.Outcome.{Outcome, Works, Falls, Refuses, Ends, Gets, Blocks, Frees, Puts, Publishes, Fetches, Signals, Leaves}
use Rattle.em_gate.specs.Selecting.{scene_in}
use Rattle.em_gate.specs.State.{Counted, Plain, task_at}
use Rattle.em_demand.specs.Charges.{charges_of}
use Rattle.em_kernel.specs.declared.did.StepKind.{StepKind}
use Rattle.em_kernel.specs.declared.did.What.TheVariants.{Stepped}
use Rattle.em_kernel.specs.declared.meter.Meter.{Meter}
use Rattle.em_kernel.specs.Kept.{IsCurrent, Stands}
use Rattle.em_kernel.specs.Metered.{did_of, metered, passed, with_one, with_switch}
use Rattle.em_system.specs.Asked.{is_transfer}
use Rattle.em_system.specs.Standings.{number_of}
use Rattle.em_system.specs.Held.{Held, Holds, promises_of, selected_of, tasks_of}
use Rattle.em_kernel.specs.Moves.{Move, after_move, move_line}
use Rattle.em_kernel.specs.Step.{current_after, is_switch, kind_of, step_charge, stepped}
use Rattle.em_kernel.proofs.Steps.{Carries, Mail, keeps, settles_by}

-- ---- values and lines after a step

-- a step that is no transfer publishes no value
pub values_of_step : (o : Outcome) (t : TaskId) (p : Plain) → is_transfer o ≡ false → (after_outcome o t p).values ≡ p.values
unfolding gives values_after
values_of_step (Works class core shared) t p e = refl
values_of_step (Falls cause) t p e = refl
values_of_step (Refuses code) t p e = refl
values_of_step Ends t p e = refl
values_of_step (Gets s) t p e = refl
values_of_step (Blocks s) t p e = refl
values_of_step (Frees s) t p e = refl
values_of_step (Puts port word) t p e = refl
values_of_step (Publishes m at count) t p e = absurd (true≢false e)
values_of_step (Fetches m at) t p e = refl
values_of_step (Signals u word) t p e = refl
values_of_step Leaves t p e = refl

-- the line of a step stands behind the others
pub lines_of_step : (o : Outcome) (t : TaskId) (p : Plain) → p.lines ++ option_list (line_by o t (task_at p.tasks t.0) p) ≡ (after_outcome o t p).lines
unfolding gives
lines_of_step (Works class core shared) t p = refl
lines_of_step (Falls cause) t p = refl
lines_of_step (Refuses code) t p = refl
lines_of_step Ends t p = refl
lines_of_step (Gets s) t p = refl
lines_of_step (Blocks s) t p = refl
lines_of_step (Frees s) t p = refl
lines_of_step (Puts port word) t p = refl
lines_of_step (Publishes m at count) t p = refl
lines_of_step (Fetches m at) t p = refl
lines_of_step (Signals u word) t p = refl
lines_of_step Leaves t p = refl

-- ---- the step of a task as the kernel tells it

-- a kernel that holds what is after a step of a task, and has settled its cost, stands for the state after that step
pub settled_step : (app app' : App) (held : Held) (mail : Mail) (places : Places) (c : Counted) (t : TaskId) (kind : StepKind) (move : Move) (line : Option Line) (cost sw : ℕ)
    (meter meter' : Meter) (left : List Timed) (task : Option TaskId) (total : ℕ) (switched : Bool)
    → app' ≡ app → kind_of move ≡ kind → step_charge (charges_of app.table) move ≡ cost
    → line ≡ move_line app move t c.plain → sw ≡ (charges_of app.table).switch
    → meter' ≡ metered meter task line cost sw → switched ≡ is_switch meter.current (number_of task) → total ≡ with_switch switched cost sw
    → let after = after_move app move t c in
    Holds held after.plain after.promises → places ≡ after.plain.ports → Carries mail after
    → left ≡ after.left → meter.clock ≡ after.clock → meter.current ≡ after.current → with_one meter.count line ≡ length after.plain.lines
    → number_of task ≡ selected (scene_in app.table.tasks (tasks_of held.threads) (promises_of held.threads) held.owners)
    → Stands (keeps app' held mail left meter') places (stepped app c t move).state
    × (did_of (Stepped t kind) line total meter'.clock switched ≡ (stepped app c t move).did)
settled_step app app' held mail places c t kind move line cost sw meter meter' left task total switched ea ek ec el es em eb et s p carried l clock current count found =
    let after : Counted = after_move app move t c in
    let told = settles_by app app' held mail places after (Stepped t (kind_of move)) line (move_line app move t c.plain) cost (step_charge (charges_of app.table) move) sw
    meter meter' left task total switched ea el (sym ec) es em eb et s p l clock current count carried found in
    subst (λ k. Stands (keeps app' held mail left meter') places (stepped app c t move).state × (did_of (Stepped t k) line total meter'.clock switched ≡ (stepped app c t move).did)) ek told

-- where the task goes on that ran last, there is no switch
pub same_switch : (selected current : Option TaskId) → IsCurrent (number_of selected) current → is_switch current (number_of selected) ≡ false
same_switch None current h = refl
same_switch (Some t) current h = ap (λ now. is_switch now (Some t.0)) (h t.0 refl) ∙ same_number t.0
  where
    same_number : (n : ℕ) → not (n == n) ≡ false
    same_number n = grind arith

same_current : (selected current : Option TaskId) → IsCurrent (number_of selected) current → current_after current (number_of selected) ≡ current
same_current None current h = refl
same_current (Some t) current h = sym (h t.0 refl)

abbrev meter_of : ℕ → Option TaskId → Option TaskId → ℕ → ℕ → Meter
meter_of clock current selected count switches = record { clock = clock; current = current; selected = selected; count = count; switches = switches }

-- where the task goes on that ran last, there is no switch in the meter
pub metered_same : (meter : Meter) (line : Option Line) (cost sw : ℕ) → IsCurrent (number_of meter.selected) meter.current
    → passed meter line cost ≡ metered meter meter.selected line cost sw
metered_same meter line cost sw h =
    let still = same_switch meter.selected meter.current h in
    sym (ap (λ b. meter_of (meter.clock + with_switch b cost sw) (current_after meter.current (number_of meter.selected)) meter.selected (with_one meter.count line)
    (if b then meter.switches + 1 else meter.switches)) still
    ∙ ap (λ now. meter_of (meter.clock + cost) now meter.selected (with_one meter.count line) meter.switches) (same_current meter.selected meter.current h))

-- what is held selects the same by an equal application
pub by_app : (held : Held) (app : App) → held.app ≡ app
    → selected_of held ≡ selected (scene_in app.table.tasks (tasks_of held.threads) (promises_of held.threads) held.owners)
by_app held app e = ap (λ (a : App). selected (scene_in a.table.tasks (tasks_of held.threads) (promises_of held.threads) held.owners)) e

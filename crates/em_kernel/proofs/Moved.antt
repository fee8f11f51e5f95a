-- What a kernel stands for after a step of the selected task, by what the step is.
use Rattle.std.proofs.Common.{◌≡◌, ◌∙◌, ℕ, List, length, Bool, true, false, if◌then◌else◌, Option, None, Some, sym, ap, subst, refl}
use Rattle.em_base.specs.declared.apps.App.{App}
use Rattle.em_base.specs.declared.events.Timed.{Timed}
use Rattle.em_base.specs.declared.ids.TaskId.{TaskId}
use Rattle.em_base.specs.declared.jobs.Charges.{Charges}
use Rattle.em_base.specs.Selection.{selected}
use Rattle.em_ports.specs.Ports.{Places}
use Rattle.em_trace.specs.declared.lines.Line.{Line}
use Rattle.em_trace.specs.declared.lines.Line.TheVariants.{Faulted as FaultedLine}
use Rattle.em_gate.specs.Effects.{after_outcome, least_owned, line_by}
use Rattle.em_gate.specs.Outcome.{Outcome, Works, Falls, Refuses, Ends, Gets, Blocks, Frees, Puts, Publishes, Fetches, Signals, Leaves, outcome}
use Rattle.em_gate.specs.Selecting.{scene_in}
use Rattle.em_gate.specs.State.{Counted, Plain, task_at}
use Rattle.em_demand.specs.Charges.{charges_of}
use Rattle.em_kernel.specs.declared.did.StepKind.{StepKind}
use Rattle.em_kernel.specs.declared.did.StepKind.TheVariants.{Instr, Call, Fault}
use Rattle.em_kernel.specs.declared.did.What.TheVariants.{Stepped}
use Rattle.em_kernel.specs.declared.meter.Meter.{Meter}
use Rattle.em_kernel.specs.Kept.{IsCurrent, Keep, Stands}
use Rattle.em_kernel.specs.Metered.{did_of, metered, passed, with_one, with_switch}
use Rattle.em_kernel.specs.Moves.{Acts, Move, StartsRead, StartsWrite, after_move, copy_at, first_move, move_by, move_line}
use Rattle.em_kernel.specs.Step.{class_charge, is_switch, kind_of, ran, step_charge, stepped, stepped_by}
use Rattle.em_system.specs.Asked.{after_asking, is_transfer, taken_of}
use Rattle.em_system.specs.declared.stepping.Taken.{Taken}
use Rattle.em_system.specs.declared.stepping.Taken.TheVariants.{Ran, Called, Faulted, Asks}
use Rattle.em_system.specs.declared.stepping.Transfer.TheVariants.{Write, Read}
use Rattle.em_system.specs.Held.{Held, Holds, promises_of, tasks_of}
use Rattle.em_system.specs.Promises.{promises_after}
use Rattle.em_system.specs.Standings.{number_of}
use Rattle.em_kernel.proofs.Settling.{lines_of_step, metered_same, same_switch, settled_step, values_of_step}
use Rattle.em_kernel.proofs.Steps.{Carries, Mail, keeps, lines_counted}

-- ---- what the answer of the tasks tells of the step

-- the step begins no copy
abbrev pub IsActing : Outcome → Type 0
IsActing o = (first_move o ≡ Acts o) × (is_transfer o ≡ false)

-- with its kind, its charge and its line
pub record Told (charges : Charges) (o : Outcome) (t : TaskId) (p : Plain) (kind : StepKind) (charge : ℕ) (line : Option Line) : Type 0 where
  pub acts : first_move o ≡ Acts o
  pub stays : is_transfer o ≡ false
  pub kind_is : kind_of (Acts o) ≡ kind
  pub charge_is : step_charge charges (Acts o) ≡ charge
  pub line_is : line_by o t (task_at p.tasks t.0) p ≡ line

abbrev pub Tells : Charges → Outcome → TaskId → Plain → Taken → Type 0
Tells charges o t p (Ran class) = Told charges o t p Instr (class_charge class) None
Tells charges o t p (Called line) = Told charges o t p Call charges.call line
Tells charges o t p (Faulted line) = Told charges o t p Fault charges.call (Some line)
Tells charges o t p (Asks (Write m at)) = (first_move o ≡ StartsWrite m at) × (is_transfer o ≡ true)
Tells charges o t p (Asks (Read m at)) = (first_move o ≡ StartsRead m at) × (is_transfer o ≡ true)

told : (charges : Charges) (o : Outcome) (t : TaskId) (p : Plain) (kind : StepKind) (charge : ℕ) (line : Option Line) → first_move o ≡ Acts o
    → is_transfer o ≡ false → kind_of (Acts o) ≡ kind → step_charge charges (Acts o) ≡ charge → line_by o t (task_at p.tasks t.0) p ≡ line
    → Told charges o t p kind charge line
told charges o t p kind charge line acts stays k c l = record { acts = acts; stays = stays; kind_is = k; charge_is = c; line_is = l }

pub tells : (charges : Charges) (o : Outcome) (t : TaskId) (p : Plain) → Tells charges o t p (taken_of o t p)
unfolding line_by
tells charges (Works class core shared) t p = told charges (Works class core shared) t p Instr (class_charge class) None refl refl refl refl refl
tells charges (Falls cause) t p =
    told charges (Falls cause) t p Fault charges.call (Some (FaultedLine t cause (task_at p.tasks t.0).core.registers.pc (least_owned p.owners t.0))) refl refl refl refl refl
tells charges (Refuses code) t p = told charges (Refuses code) t p Call charges.call (line_by (Refuses code) t (task_at p.tasks t.0) p) refl refl refl refl refl
tells charges Ends t p = told charges Ends t p Call charges.call (line_by Ends t (task_at p.tasks t.0) p) refl refl refl refl refl
tells charges (Gets s) t p = told charges (Gets s) t p Call charges.call (line_by (Gets s) t (task_at p.tasks t.0) p) refl refl refl refl refl
tells charges (Blocks s) t p = told charges (Blocks s) t p Call charges.call (line_by (Blocks s) t (task_at p.tasks t.0) p) refl refl refl refl refl
tells charges (Frees s) t p = told charges (Frees s) t p Call charges.call (line_by (Frees s) t (task_at p.tasks t.0) p) refl refl refl refl refl
tells charges (Puts port word) t p = told charges (Puts port word) t p Call charges.call (line_by (Puts port word) t (task_at p.tasks t.0) p) refl refl refl refl refl
tells charges (Publishes m at count) t p = (refl, refl)
tells charges (Fetches m at) t p = (refl, refl)
tells charges (Signals u word) t p = told charges (Signals u word) t p Call charges.call (line_by (Signals u word) t (task_at p.tasks t.0) p) refl refl refl refl refl
tells charges Leaves t p = told charges Leaves t p Call charges.call (line_by Leaves t (task_at p.tasks t.0) p) refl refl refl refl refl

-- what the answer tells, where it is this one
pub tells_of : (charges : Charges) (o : Outcome) (t : TaskId) (p : Plain) (taken : Taken) → taken ≡ taken_of o t p → Tells charges o t p taken
tells_of charges o t p taken e = subst (Tells charges o t p) (sym e) (tells charges o t p)

-- the state after a step that is no transfer
pub asking_is : (o : Outcome) (t : TaskId) (p : Plain) → is_transfer o ≡ false → after_asking o t p ≡ after_outcome o t p
asking_is o t p e = ap (λ b. if b then p else after_outcome o t p) e

-- the step of a task without a copy
pub ran_first : (app : App) (c : Counted) (t : TaskId) (o : Outcome) (move : Move) → copy_at c.copies t.0 ≡ None
    → outcome app.table app.image.words t.0 c.plain ≡ o → first_move o ≡ move → ran app c t ≡ stepped_by app c t move
ran_first app c t o move none is first =
    ap (λ out. stepped_by app c t (move_by app.table c.begun out (copy_at c.copies t.0))) is
    ∙ ap (λ copy. stepped_by app c t (move_by app.table c.begun o copy)) none
    ∙ ap (stepped_by app c t) first

-- ---- steps that begin no copy

-- after an instruction, a call or a fault: the selection was made again
pub acted_step : (app app' : App) (held : Held) (mail : Mail) (places : Places) (c : Counted) (t : TaskId) (kind : StepKind) (o : Outcome) (line : Option Line) (cost sw : ℕ)
    (meter meter' : Meter) (left : List Timed) (task : Option TaskId) (total : ℕ) (switched : Bool)
    → app' ≡ app → kind_of (Acts o) ≡ kind → step_charge (charges_of app.table) (Acts o) ≡ cost
    → line ≡ line_by o t (task_at c.plain.tasks t.0) c.plain → sw ≡ (charges_of app.table).switch
    → meter' ≡ metered meter task line cost sw → switched ≡ is_switch meter.current (number_of task) → total ≡ with_switch switched cost sw
    → is_transfer o ≡ false
    → Holds held (after_outcome o t c.plain) (promises_after app o t.0 c.plain c.promises) → places ≡ (after_outcome o t c.plain).ports → Carries mail c
    → left ≡ c.left → meter.clock ≡ c.clock → meter.current ≡ c.current → meter.count ≡ length c.plain.lines
    → number_of task ≡ selected (scene_in app.table.tasks (tasks_of held.threads) (promises_of held.threads) held.owners)
    → Stands (keeps app' held mail left meter') places (stepped app c t (Acts o)).state
    × (did_of (Stepped t kind) line total meter'.clock switched ≡ (stepped app c t (Acts o)).did)
unfolding after_move move_line
acted_step app app' held mail places c t kind o line cost sw meter meter' left task total switched ea ek ec el es em eb et stays s p carried l clock current lines found =
    settled_step app app' held mail places c t kind (Acts o) line cost sw meter meter' left task total switched ea ek ec el es em eb et s p
    (record { values = subst (Keep mail.buffers) (sym (values_of_step o t c.plain stays)) carried.values; begun = carried.begun; copies = carried.copies })
    l clock current
    (ap (λ n. with_one n line) lines
    ∙ ap (λ one. with_one (length c.plain.lines) one) el
    ∙ lines_counted c.plain.lines (line_by o t (task_at c.plain.tasks t.0) c.plain)
    ∙ ap (λ xs. length xs) (lines_of_step o t c.plain))
    found

-- ---- steps that change no selection

-- after one of them the clock and the lines are counted
pub passed_step : (app app' : App) (held : Held) (mail : Mail) (places : Places) (c : Counted) (t : TaskId) (kind : StepKind) (move : Move) (line : Option Line) (cost : ℕ)
    (meter meter' : Meter) (left : List Timed)
    → app' ≡ app → kind_of move ≡ kind → step_charge (charges_of app.table) move ≡ cost → line ≡ move_line app move t c.plain
    → meter' ≡ passed meter line cost → IsCurrent (number_of meter.selected) meter.current
    → let after = after_move app move t c in
    Holds held after.plain after.promises → places ≡ after.plain.ports → Carries mail after
    → left ≡ after.left → meter.clock ≡ after.clock → meter.current ≡ after.current → with_one meter.count line ≡ length after.plain.lines
    → number_of meter.selected ≡ selected (scene_in app.table.tasks (tasks_of held.threads) (promises_of held.threads) held.owners)
    → Stands (keeps app' held mail left meter') places (stepped app c t move).state
    × (did_of (Stepped t kind) line cost meter'.clock false ≡ (stepped app c t move).did)
passed_step app app' held mail places c t kind move line cost meter meter' left ea ek ec el em runs s p carried l clock current count found =
    let sw = (charges_of app.table).switch in
    settled_step app app' held mail places c t kind move line cost sw meter meter' left meter.selected cost false ea ek ec el refl
    (em ∙ metered_same meter line cost sw runs) (sym (same_switch meter.selected meter.current runs)) refl s p carried l clock current count found

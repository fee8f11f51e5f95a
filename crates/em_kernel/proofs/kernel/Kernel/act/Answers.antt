-- What the kernel owes after an instruction, a call or a fault of a task without a copy.
use Rattle.std.proofs.Common.{◌≡◌, ◌∙◌, ◌<◌, ◌≤◌, ◌+◌, drop, All, None, Some, false, if◌then◌else◌, map, sym, ap, subst, refl, arith}
use Rattle.std.specs.Option.{option_map}
use Rattle.em_base.specs.declared.apps.App.{App}
use Rattle.em_ports.specs.Ports.{Places}
use Rattle.em_gate.specs.Calls.{writes}
use Rattle.em_gate.specs.Effects.{after_outcome}
use Rattle.em_gate.specs.Outcome.{Outcome, outcome}
use Rattle.em_demand.specs.Charges.{charges_of}
use Rattle.em_system.specs.Asked.{IsInside}
use Rattle.em_system.specs.declared.stepping.Transfer.TheVariants.{Read, Write}
use Rattle.em_system.specs.Held.{Held, Holds, promises_of, selected_of, tasks_of}
use Rattle.em_system.specs.Promises.{promises_after}
use Rattle.em_system.specs.Sound.{IsSound}
use Rattle.em_system.specs.Standings.{number_of}
use Rattle.em_system.specs.declared.stepping.Taken.TheVariants.{Asks}
use Rattle.em_kernel.specs.declared.did.StepKind.TheVariants.{Call, Fault, Instr}
use Rattle.em_kernel.specs.declared.did.What.TheVariants.{Stepped}
use Rattle.em_kernel.specs.declared.meter.Meter.{Meter}
use Rattle.em_kernel.specs.Buffers.{AreBuffers}
use Rattle.em_kernel.specs.Copyings.{copies_of}
use Rattle.em_kernel.specs.Kept.{Kept, Stands, held_by}
use Rattle.em_kernel.specs.Kernels.{IsKernel}
use Rattle.em_kernel.specs.Metered.{did_of, metered, with_switch}
use Rattle.em_kernel.specs.Moves.{Acts, StartsRead, StartsWrite, copy_at}
use Rattle.em_kernel.specs.Step.{Step, is_switch, ran, stepped}
use Rattle.em_kernel.proofs.Copying.{Leaves, counted, stayed}
use Rattle.em_kernel.proofs.Kernels.{next_kernel}
use Rattle.em_kernel.proofs.Moved.{acted_step, asking_is, ran_first, tells_of}
use Rattle.em_kernel.proofs.Passing.{Shows}
use Rattle.em_kernel.proofs.Settling.{by_app, metered_same, same_switch}
use Rattle.em_kernel.proofs.Steps.{keeps}
use Rattle.em_kernel.proofs.TaskCounts.{holds_state, state_of, threads_count}
use Rattle.em_kernel.proofs.Transfers.{mail_of, stood_by}
use Rattle.em_kernel.proofs.kernel.Kernel.act.Goals as goal

pub step-requires-clause-selected : goal.step-requires-clause-selected
step-requires-clause-selected g c = subst (λ (k : Kept). selected_of (held_by k) ≡ Some c.args.t.0) (sym c.self.view_is) c.requires.selected

pub step-requires-clause-sound : goal.step-requires-clause-sound
step-requires-clause-sound g c = (
  c.self.inside.at + c.self.inside.meter.clock,
  omega (arith, c.self.invariant.0.within, c.self.invariant.0.few, c.self.invariant.0.early),
  c.self.invariant.0.sound,
)

pub settle-requires-clause-sound : goal.settle-requires-clause-sound
settle-requires-clause-sound g c =
    let n = c.self.inside.at + c.self.inside.meter.clock in
    (n + 1, c.step.ensures.sound n c.self.invariant.0.sound)

pub settle-requires-in-Faulted-clause-sound : goal.settle-requires-in-Faulted-clause-sound
settle-requires-in-Faulted-clause-sound g c =
    let n = c.self.inside.at + c.self.inside.meter.clock in
    (n + 1, c.step.ensures.sound n c.self.invariant.0.sound)

-- ---- what is always so

pub invariant_of-self : goal.invariant_of-self
invariant_of-self g c =
    let seen : Places = map (option_map (λ b. record {
      kind = (goal.Port-dyn g (b.vtable, b.value)).kind_of b.value;
      value = (goal.Port-dyn g (b.vtable, b.value)).shown_value b.value;
    })) c.args.ports.now.slots.items in
    let sys = c.self.inside.system in
    let k = c.self.invariant.0 in
    let b = c.self.invariant.1 in
    let buffers = c.self.inside.buffers.items in
    let copies = copies_of c.self.inside.copies.items in
    let meter = c.self.inside.meter in
    let none : copy_at copies c.args.t.0 ≡ None = subst (λ (kept : Kept). copy_at kept.copies c.args.t.0 ≡ None) (sym c.self.view_is) c.requires.none in
    let early = subst (λ (kept : Kept). kept.clock < kept.app.table.horizon) (sym c.self.view_is) c.requires.early in
    let short = subst (λ (kept : Kept). kept.count < 1000000) (sym c.self.view_is) c.requires.short in
    let sound = c.step.ensures.sound (c.self.inside.at + meter.clock) k.sound in
    let leaves : Leaves sys c.step.new.self c.args.t.0 = record {
      app = c.step.ensures.app;
      count = threads_count sys c.step.new.self seen _ c.args.t _ (c.step.ensures.step (state_of sys seen) (promises_of sys.threads) (holds_state sys seen) refl).0;
      others = c.step.ensures.others;
    } in
    let cost = c.class_charge-cost.result in
    let some : 1 ≤ cost = c.class_charge-cost.ensures.some in
    let within : cost ≤ 62 = omega (arith, c.class_charge-cost.ensures.within) in
    let same = c.step.ensures.same c.in-Ran.class c.in-Ran.is in
    let kernel = next_kernel sys c.step.new.self c.self.inside.charges c.self.inside.events.items c.self.inside.at c.self.inside.at
    meter meter.selected None cost k c.step.ensures.app k.within (omega (arith, some)) within (k.selects ∙ sym same) sound early short in
    let count : c.pass.new.self.count ≡ meter.count = ap (λ (m : Meter). m.count) c.pass.ensures in (
      subst (IsKernel c.step.new.self c.self.inside.charges c.self.inside.events.items c.self.inside.at)
          (sym (c.pass.ensures ∙ metered_same meter None cost c.self.inside.charges.switch k.runs)) kernel,
      subst (AreBuffers c.step.new.self buffers copies) (sym count) (stayed sys c.step.new.self buffers copies meter.count meter.count c.args.t.0 leaves none (omega arith) b),
    )

pub invariant_of-self-in-Called : goal.invariant_of-self-in-Called
invariant_of-self-in-Called g c =
    let seen : Places = map (option_map (λ b. record {
      kind = (goal.Port-dyn g (b.vtable, b.value)).kind_of b.value;
      value = (goal.Port-dyn g (b.vtable, b.value)).shown_value b.value;
    })) c.args.ports.now.slots.items in
    let sys = c.self.inside.system in
    let k = c.self.invariant.0 in
    let b = c.self.invariant.1 in
    let buffers = c.self.inside.buffers.items in
    let copies = copies_of c.self.inside.copies.items in
    let meter = c.self.inside.meter in
    let none : copy_at copies c.args.t.0 ≡ None = subst (λ (kept : Kept). copy_at kept.copies c.args.t.0 ≡ None) (sym c.self.view_is) c.requires.none in
    let early = subst (λ (kept : Kept). kept.clock < kept.app.table.horizon) (sym c.self.view_is) c.requires.early in
    let short = subst (λ (kept : Kept). kept.count < 1000000) (sym c.self.view_is) c.requires.short in
    let sound = c.step.ensures.sound (c.self.inside.at + meter.clock) k.sound in
    let leaves : Leaves sys c.step.new.self c.args.t.0 = record {
      app = c.step.ensures.app;
      count = threads_count sys c.step.new.self seen _ c.args.t _ (c.step.ensures.step (state_of sys seen) (promises_of sys.threads) (holds_state sys seen) refl).0;
      others = c.step.ensures.others;
    } in
    let done = c.settle.ensures.settles in
    let held = c.settle.ensures.held in
    let kernel = next_kernel sys c.settle.new.system c.self.inside.charges c.self.inside.events.items c.self.inside.at c.self.inside.at
    meter done.0 c.in-Called.line c.self.inside.charges.call k (ap (λ (h : Held). h.app) held ∙ c.step.ensures.app) k.within (omega (arith, k.cheap.charged)) (omega (arith, k.cheap.call))
    (done.1 ∙ ap (λ (h : Held). selected_of h) (sym held))
    (subst (λ (h : Held). All (IsSound (c.self.inside.at + meter.clock + 1)) (tasks_of h.threads)) (sym held) sound) early short in
    let after = metered meter done.0 c.in-Called.line c.self.inside.charges.call c.self.inside.charges.switch in (
      subst (IsKernel c.settle.new.system c.self.inside.charges c.self.inside.events.items c.self.inside.at) (sym done.2) kernel,
      subst (λ (h : Held). AreBuffers h buffers copies c.settle.new.meter.count) (sym held)
          (subst (λ (m : Meter). AreBuffers c.step.new.self buffers copies m.count) (sym done.2)
          (stayed sys c.step.new.self buffers copies meter.count after.count c.args.t.0 leaves none (counted meter.count c.in-Called.line) b)),
    )

pub invariant_of-self-in-Faulted : goal.invariant_of-self-in-Faulted
invariant_of-self-in-Faulted g c =
    let seen : Places = map (option_map (λ b. record {
      kind = (goal.Port-dyn g (b.vtable, b.value)).kind_of b.value;
      value = (goal.Port-dyn g (b.vtable, b.value)).shown_value b.value;
    })) c.args.ports.now.slots.items in
    let sys = c.self.inside.system in
    let k = c.self.invariant.0 in
    let b = c.self.invariant.1 in
    let buffers = c.self.inside.buffers.items in
    let copies = copies_of c.self.inside.copies.items in
    let meter = c.self.inside.meter in
    let none : copy_at copies c.args.t.0 ≡ None = subst (λ (kept : Kept). copy_at kept.copies c.args.t.0 ≡ None) (sym c.self.view_is) c.requires.none in
    let early = subst (λ (kept : Kept). kept.clock < kept.app.table.horizon) (sym c.self.view_is) c.requires.early in
    let short = subst (λ (kept : Kept). kept.count < 1000000) (sym c.self.view_is) c.requires.short in
    let sound = c.step.ensures.sound (c.self.inside.at + meter.clock) k.sound in
    let leaves : Leaves sys c.step.new.self c.args.t.0 = record {
      app = c.step.ensures.app;
      count = threads_count sys c.step.new.self seen _ c.args.t _ (c.step.ensures.step (state_of sys seen) (promises_of sys.threads) (holds_state sys seen) refl).0;
      others = c.step.ensures.others;
    } in
    let done = c.settle-in-Faulted.ensures.settles in
    let held = c.settle-in-Faulted.ensures.held in
    let kernel = next_kernel sys c.settle-in-Faulted.new.system c.self.inside.charges c.self.inside.events.items c.self.inside.at c.self.inside.at
    meter done.0 (Some c.in-Faulted.line) c.self.inside.charges.call k (ap (λ (h : Held). h.app) held ∙ c.step.ensures.app) k.within (omega (arith, k.cheap.charged)) (omega (arith, k.cheap.call))
    (done.1 ∙ ap (λ (h : Held). selected_of h) (sym held))
    (subst (λ (h : Held). All (IsSound (c.self.inside.at + meter.clock + 1)) (tasks_of h.threads)) (sym held) sound) early short in
    let after = metered meter done.0 (Some c.in-Faulted.line) c.self.inside.charges.call c.self.inside.charges.switch in (
      subst (IsKernel c.settle-in-Faulted.new.system c.self.inside.charges c.self.inside.events.items c.self.inside.at) (sym done.2) kernel,
      subst (λ (h : Held). AreBuffers h buffers copies c.settle-in-Faulted.new.meter.count) (sym held)
          (subst (λ (m : Meter). AreBuffers c.step.new.self buffers copies m.count) (sym done.2)
          (stayed sys c.step.new.self buffers copies meter.count after.count c.args.t.0 leaves none (counted meter.count (Some c.in-Faulted.line)) b)),
    )

-- ---- copies that begin

pub begin_write-requires-clause-selected : goal.begin_write-requires-clause-selected
begin_write-requires-clause-selected g c =
    subst (λ (h : Held). selected_of h ≡ Some c.args.t.0) (sym (c.step.ensures.asks (Write c.in-Asks-Write.msg c.in-Asks-Write.at) (c.in-Asks-Write.is ∙ ap Asks c.in-Asks-Write.field-0-is)))
    (subst (λ (k : Kept). selected_of (held_by k) ≡ Some c.args.t.0) (sym c.self.view_is) c.requires.selected)

pub begin_write-requires-clause-inside : goal.begin_write-requires-clause-inside
begin_write-requires-clause-inside g c =
    subst (λ (a : App). IsInside a.table c.in-Asks-Write.msg.0 c.in-Asks-Write.at) (sym c.step.ensures.app) (c.step.ensures.granted (Write c.in-Asks-Write.msg c.in-Asks-Write.at) (c.in-Asks-Write.is ∙ ap Asks c.in-Asks-Write.field-0-is)).0

pub begin_write-requires-clause-writes : goal.begin_write-requires-clause-writes
begin_write-requires-clause-writes g c =
    ap (λ (a : App). writes a.table c.args.t.0 c.in-Asks-Write.msg.0) c.step.ensures.app ∙ (c.step.ensures.granted (Write c.in-Asks-Write.msg c.in-Asks-Write.at) (c.in-Asks-Write.is ∙ ap Asks c.in-Asks-Write.field-0-is)).1

pub begin_read-requires-clause-selected : goal.begin_read-requires-clause-selected
begin_read-requires-clause-selected g c =
    subst (λ (h : Held). selected_of h ≡ Some c.args.t.0) (sym (c.step.ensures.asks (Read c.in-Asks-Read.msg c.in-Asks-Read.at) (c.in-Asks-Read.is ∙ ap Asks c.in-Asks-Read.field-0-is)))
    (subst (λ (k : Kept). selected_of (held_by k) ≡ Some c.args.t.0) (sym c.self.view_is) c.requires.selected)

pub begin_read-requires-clause-inside : goal.begin_read-requires-clause-inside
begin_read-requires-clause-inside g c =
    subst (λ (a : App). IsInside a.table c.in-Asks-Read.msg.0 c.in-Asks-Read.at) (sym c.step.ensures.app) (c.step.ensures.granted (Read c.in-Asks-Read.msg c.in-Asks-Read.at) (c.in-Asks-Read.is ∙ ap Asks c.in-Asks-Read.field-0-is)).0

-- ---- the step

pub returns-in-Ran-clause-step : goal.returns-in-Ran-clause-step
returns-in-Ran-clause-step g c = λ s st.
    let seen : Places = map (option_map (λ b. record {
      kind = (goal.Port-dyn g (b.vtable, b.value)).kind_of b.value;
      value = (goal.Port-dyn g (b.vtable, b.value)).shown_value b.value;
    })) c.args.ports.now.slots.items in
    let seen_after : Places = map (option_map (λ b. record {
      kind = (goal.Port-dyn g (b.vtable, b.value)).kind_of b.value;
      value = (goal.Port-dyn g (b.vtable, b.value)).shown_value b.value;
    })) c.step.new.ports.slots.items in
    let sys = c.self.inside.system in
    let k = c.self.invariant.0 in
    let b = c.self.invariant.1 in
    let buffers = c.self.inside.buffers.items in
    let copies = copies_of c.self.inside.copies.items in
    let meter = c.self.inside.meter in
    let none : copy_at copies c.args.t.0 ≡ None = subst (λ (kept : Kept). copy_at kept.copies c.args.t.0 ≡ None) (sym c.self.view_is) c.requires.none in
    let app = sys.app in
    let left = drop c.self.inside.at c.self.inside.events.items in
    let stood = stood_by app sys (mail_of buffers copies) seen s meter left (subst (λ (kept : Kept). Stands kept seen s) (sym c.self.view_is) st) in
    let done = c.step.ensures.step s.plain s.promises stood.holds stood.ports in
    let o : Outcome = outcome app.table app.image.words c.args.t.0 s.plain in
    let no_copy : copy_at s.copies c.args.t.0 ≡ None = ap (λ cs. copy_at cs c.args.t.0) (sym stood.carries.copies) ∙ none in
    let app_is = ap (λ (kept : Kept). kept.app) c.self.view_is in
    let told = tells_of (charges_of app.table) o c.args.t s.plain _ (sym c.in-Ran.is ∙ done.2) in
    let step_is : ran app s c.args.t ≡ stepped app s c.args.t (Acts o) = ran_first app s c.args.t o (Acts o) no_copy refl told.acts in
    let same = asking_is o c.args.t s.plain told.stays in
    let holds = subst (λ p. Holds c.step.new.self p (promises_after app o c.args.t.0 s.plain s.promises)) same done.0 in
    let ports = done.1 ∙ ap (λ p. p.ports) same in
    let cost = c.class_charge-cost.result in
    let told_step = acted_step app c.step.new.self.app c.step.new.self (mail_of buffers copies) seen_after s c.args.t Instr o None cost c.self.inside.charges.switch
    meter c.pass.new.self left meter.selected cost false
    c.step.ensures.app told.kind_is (told.charge_is ∙ sym c.class_charge-cost.ensures.charge) (sym told.line_is) (ap (λ charges. charges.switch) k.charged)
    (c.pass.ensures ∙ metered_same meter None cost c.self.inside.charges.switch k.runs) (sym (same_switch meter.selected meter.current k.runs)) refl
    told.stays holds ports stood.carries stood.later stood.clock stood.current stood.lines
    (k.selects ∙ sym (c.step.ensures.same c.in-Ran.class c.in-Ran.is) ∙ by_app c.step.new.self app c.step.ensures.app) in
    let here = subst (λ (step : Step). Shows (keeps c.step.new.self.app c.step.new.self (mail_of buffers copies) left c.pass.new.self) seen_after step
    (did_of (Stepped c.args.t Instr) None cost c.pass.new.self.clock false)) (sym step_is) told_step in
    let there = subst (λ (a : App). Shows (keeps c.step.new.self.app c.step.new.self (mail_of buffers copies) left c.pass.new.self) seen_after (ran a s c.args.t)
    (did_of (Stepped c.args.t Instr) None cost c.pass.new.self.clock false)) app_is here in
    (there.0, c.did.ensures ∙ there.1)

pub returns-in-Called-clause-step : goal.returns-in-Called-clause-step
returns-in-Called-clause-step g c = λ s st.
    let seen : Places = map (option_map (λ b. record {
      kind = (goal.Port-dyn g (b.vtable, b.value)).kind_of b.value;
      value = (goal.Port-dyn g (b.vtable, b.value)).shown_value b.value;
    })) c.args.ports.now.slots.items in
    let seen_after : Places = map (option_map (λ b. record {
      kind = (goal.Port-dyn g (b.vtable, b.value)).kind_of b.value;
      value = (goal.Port-dyn g (b.vtable, b.value)).shown_value b.value;
    })) c.step.new.ports.slots.items in
    let sys = c.self.inside.system in
    let k = c.self.invariant.0 in
    let b = c.self.invariant.1 in
    let buffers = c.self.inside.buffers.items in
    let copies = copies_of c.self.inside.copies.items in
    let meter = c.self.inside.meter in
    let none : copy_at copies c.args.t.0 ≡ None = subst (λ (kept : Kept). copy_at kept.copies c.args.t.0 ≡ None) (sym c.self.view_is) c.requires.none in
    let app = sys.app in
    let left = drop c.self.inside.at c.self.inside.events.items in
    let stood = stood_by app sys (mail_of buffers copies) seen s meter left (subst (λ (kept : Kept). Stands kept seen s) (sym c.self.view_is) st) in
    let done = c.step.ensures.step s.plain s.promises stood.holds stood.ports in
    let o : Outcome = outcome app.table app.image.words c.args.t.0 s.plain in
    let no_copy : copy_at s.copies c.args.t.0 ≡ None = ap (λ cs. copy_at cs c.args.t.0) (sym stood.carries.copies) ∙ none in
    let app_is = ap (λ (kept : Kept). kept.app) c.self.view_is in
    let told = tells_of (charges_of app.table) o c.args.t s.plain _ (sym c.in-Called.is ∙ done.2) in
    let step_is : ran app s c.args.t ≡ stepped app s c.args.t (Acts o) = ran_first app s c.args.t o (Acts o) no_copy refl told.acts in
    let same = asking_is o c.args.t s.plain told.stays in
    let holds = subst (λ p. Holds c.step.new.self p (promises_after app o c.args.t.0 s.plain s.promises)) same done.0 in
    let ports = done.1 ∙ ap (λ p. p.ports) same in
    let chosen = c.settle.ensures.settles in
    let held = c.settle.ensures.held in
    let system = c.settle.new.system in
    let app_same = ap (λ (h : Held). h.app) held ∙ c.step.ensures.app in
    let switched = is_switch meter.current (number_of chosen.0) in
    let total = with_switch switched c.self.inside.charges.call c.self.inside.charges.switch in
    let told_step = acted_step app system.app system (mail_of buffers copies) seen_after s c.args.t Call o c.in-Called.line c.self.inside.charges.call c.self.inside.charges.switch
    meter c.settle.new.meter left chosen.0 total switched
    app_same told.kind_is (told.charge_is ∙ ap (λ charges. charges.call) (sym k.charged)) (sym told.line_is) (ap (λ charges. charges.switch) k.charged)
    chosen.2 refl refl
    told.stays (subst (λ (h : Held). Holds h (after_outcome o c.args.t s.plain) (promises_after app o c.args.t.0 s.plain s.promises)) (sym held) holds) ports
    stood.carries stood.later stood.clock stood.current stood.lines
    (chosen.1 ∙ ap (λ (h : Held). selected_of h) (sym held) ∙ by_app system app app_same) in
    let here = subst (λ (step : Step). Shows (keeps system.app system (mail_of buffers copies) left c.settle.new.meter) seen_after step
    (did_of (Stepped c.args.t Call) c.in-Called.line total c.settle.new.meter.clock switched)) (sym step_is) told_step in
    let there = subst (λ (a : App). Shows (keeps system.app system (mail_of buffers copies) left c.settle.new.meter) seen_after (ran a s c.args.t)
    (did_of (Stepped c.args.t Call) c.in-Called.line total c.settle.new.meter.clock switched)) app_is here in
    (there.0, chosen.3 ∙ ap (λ (m : Meter). did_of (Stepped c.args.t Call) c.in-Called.line total m.clock switched) (sym chosen.2) ∙ there.1)

pub returns-in-Faulted-clause-step : goal.returns-in-Faulted-clause-step
returns-in-Faulted-clause-step g c = λ s st.
    let seen : Places = map (option_map (λ b. record {
      kind = (goal.Port-dyn g (b.vtable, b.value)).kind_of b.value;
      value = (goal.Port-dyn g (b.vtable, b.value)).shown_value b.value;
    })) c.args.ports.now.slots.items in
    let seen_after : Places = map (option_map (λ b. record {
      kind = (goal.Port-dyn g (b.vtable, b.value)).kind_of b.value;
      value = (goal.Port-dyn g (b.vtable, b.value)).shown_value b.value;
    })) c.step.new.ports.slots.items in
    let sys = c.self.inside.system in
    let k = c.self.invariant.0 in
    let b = c.self.invariant.1 in
    let buffers = c.self.inside.buffers.items in
    let copies = copies_of c.self.inside.copies.items in
    let meter = c.self.inside.meter in
    let none : copy_at copies c.args.t.0 ≡ None = subst (λ (kept : Kept). copy_at kept.copies c.args.t.0 ≡ None) (sym c.self.view_is) c.requires.none in
    let app = sys.app in
    let left = drop c.self.inside.at c.self.inside.events.items in
    let stood = stood_by app sys (mail_of buffers copies) seen s meter left (subst (λ (kept : Kept). Stands kept seen s) (sym c.self.view_is) st) in
    let done = c.step.ensures.step s.plain s.promises stood.holds stood.ports in
    let o : Outcome = outcome app.table app.image.words c.args.t.0 s.plain in
    let no_copy : copy_at s.copies c.args.t.0 ≡ None = ap (λ cs. copy_at cs c.args.t.0) (sym stood.carries.copies) ∙ none in
    let app_is = ap (λ (kept : Kept). kept.app) c.self.view_is in
    let told = tells_of (charges_of app.table) o c.args.t s.plain _ (sym c.in-Faulted.is ∙ done.2) in
    let step_is : ran app s c.args.t ≡ stepped app s c.args.t (Acts o) = ran_first app s c.args.t o (Acts o) no_copy refl told.acts in
    let same = asking_is o c.args.t s.plain told.stays in
    let holds = subst (λ p. Holds c.step.new.self p (promises_after app o c.args.t.0 s.plain s.promises)) same done.0 in
    let ports = done.1 ∙ ap (λ p. p.ports) same in
    let chosen = c.settle-in-Faulted.ensures.settles in
    let held = c.settle-in-Faulted.ensures.held in
    let system = c.settle-in-Faulted.new.system in
    let app_same = ap (λ (h : Held). h.app) held ∙ c.step.ensures.app in
    let switched = is_switch meter.current (number_of chosen.0) in
    let total = with_switch switched c.self.inside.charges.call c.self.inside.charges.switch in
    let told_step = acted_step app system.app system (mail_of buffers copies) seen_after s c.args.t Fault o (Some c.in-Faulted.line) c.self.inside.charges.call c.self.inside.charges.switch
    meter c.settle-in-Faulted.new.meter left chosen.0 total switched
    app_same told.kind_is (told.charge_is ∙ ap (λ charges. charges.call) (sym k.charged)) (sym told.line_is) (ap (λ charges. charges.switch) k.charged)
    chosen.2 refl refl
    told.stays (subst (λ (h : Held). Holds h (after_outcome o c.args.t s.plain) (promises_after app o c.args.t.0 s.plain s.promises)) (sym held) holds) ports
    stood.carries stood.later stood.clock stood.current stood.lines
    (chosen.1 ∙ ap (λ (h : Held). selected_of h) (sym held) ∙ by_app system app app_same) in
    let here = subst (λ (step : Step). Shows (keeps system.app system (mail_of buffers copies) left c.settle-in-Faulted.new.meter) seen_after step
    (did_of (Stepped c.args.t Fault) (Some c.in-Faulted.line) total c.settle-in-Faulted.new.meter.clock switched)) (sym step_is) told_step in
    let there = subst (λ (a : App). Shows (keeps system.app system (mail_of buffers copies) left c.settle-in-Faulted.new.meter) seen_after (ran a s c.args.t)
    (did_of (Stepped c.args.t Fault) (Some c.in-Faulted.line) total c.settle-in-Faulted.new.meter.clock switched)) app_is here in
    (there.0, chosen.3 ∙ ap (λ (m : Meter). did_of (Stepped c.args.t Fault) (Some c.in-Faulted.line) total m.clock switched) (sym chosen.2) ∙ there.1)

pub returns-in-Asks-Write-clause-step : goal.returns-in-Asks-Write-clause-step
returns-in-Asks-Write-clause-step g c = λ s st.
    let seen : Places = map (option_map (λ b. record {
      kind = (goal.Port-dyn g (b.vtable, b.value)).kind_of b.value;
      value = (goal.Port-dyn g (b.vtable, b.value)).shown_value b.value;
    })) c.args.ports.now.slots.items in
    let seen_after : Places = map (option_map (λ b. record {
      kind = (goal.Port-dyn g (b.vtable, b.value)).kind_of b.value;
      value = (goal.Port-dyn g (b.vtable, b.value)).shown_value b.value;
    })) c.step.new.ports.slots.items in
    let sys = c.self.inside.system in
    let k = c.self.invariant.0 in
    let b = c.self.invariant.1 in
    let buffers = c.self.inside.buffers.items in
    let copies = copies_of c.self.inside.copies.items in
    let meter = c.self.inside.meter in
    let none : copy_at copies c.args.t.0 ≡ None = subst (λ (kept : Kept). copy_at kept.copies c.args.t.0 ≡ None) (sym c.self.view_is) c.requires.none in
    let app = sys.app in
    let left = drop c.self.inside.at c.self.inside.events.items in
    let stood = stood_by app sys (mail_of buffers copies) seen s meter left (subst (λ (kept : Kept). Stands kept seen s) (sym c.self.view_is) st) in
    let done = c.step.ensures.step s.plain s.promises stood.holds stood.ports in
    let o : Outcome = outcome app.table app.image.words c.args.t.0 s.plain in
    let no_copy : copy_at s.copies c.args.t.0 ≡ None = ap (λ cs. copy_at cs c.args.t.0) (sym stood.carries.copies) ∙ none in
    let app_is = ap (λ (kept : Kept). kept.app) c.self.view_is in
    let asked = c.in-Asks-Write.is ∙ ap Asks c.in-Asks-Write.field-0-is in
    let told = tells_of (charges_of app.table) o c.args.t s.plain (Asks (Write c.in-Asks-Write.msg c.in-Asks-Write.at)) (sym asked ∙ done.2) in
    let move = StartsWrite c.in-Asks-Write.msg c.in-Asks-Write.at in
    let step_is : ran app s c.args.t ≡ stepped app s c.args.t move = ran_first app s c.args.t o move no_copy refl told.0 in
    let mail = mail_of buffers copies in
    let first : Stands (keeps app sys mail left meter) seen s = subst (λ (kept : Kept). Stands kept seen s) (sym c.self.view_is) st in
    let system = subst (λ (h : Held). Stands (keeps h.app h mail left meter) seen s) (sym (c.step.ensures.asks (Write c.in-Asks-Write.msg c.in-Asks-Write.at) asked)) first in
    let same_ports : seen ≡ seen_after =
    stood.ports ∙ ap (λ b. (if b then s.plain else after_outcome o c.args.t s.plain).ports) (sym told.1) ∙ sym done.1 in
    let stands = subst (λ places. Stands (keeps c.step.new.self.app c.step.new.self mail left meter) places s) same_ports system in
    let done_step = c.begin_write.ensures.step seen_after s stands in
    let at_app = subst (λ (a : App). Shows c.begin_write.new.self seen_after (stepped a s c.args.t move) c.begin_write.result) c.step.ensures.app done_step in
    let here = subst (λ (step : Step). Shows c.begin_write.new.self seen_after step c.begin_write.result) (sym step_is) at_app in
    subst (λ (a : App). Shows c.begin_write.new.self seen_after (ran a s c.args.t) c.begin_write.result) app_is here

pub returns-in-Asks-Read-clause-step : goal.returns-in-Asks-Read-clause-step
returns-in-Asks-Read-clause-step g c = λ s st.
    let seen : Places = map (option_map (λ b. record {
      kind = (goal.Port-dyn g (b.vtable, b.value)).kind_of b.value;
      value = (goal.Port-dyn g (b.vtable, b.value)).shown_value b.value;
    })) c.args.ports.now.slots.items in
    let seen_after : Places = map (option_map (λ b. record {
      kind = (goal.Port-dyn g (b.vtable, b.value)).kind_of b.value;
      value = (goal.Port-dyn g (b.vtable, b.value)).shown_value b.value;
    })) c.step.new.ports.slots.items in
    let sys = c.self.inside.system in
    let k = c.self.invariant.0 in
    let b = c.self.invariant.1 in
    let buffers = c.self.inside.buffers.items in
    let copies = copies_of c.self.inside.copies.items in
    let meter = c.self.inside.meter in
    let none : copy_at copies c.args.t.0 ≡ None = subst (λ (kept : Kept). copy_at kept.copies c.args.t.0 ≡ None) (sym c.self.view_is) c.requires.none in
    let app = sys.app in
    let left = drop c.self.inside.at c.self.inside.events.items in
    let stood = stood_by app sys (mail_of buffers copies) seen s meter left (subst (λ (kept : Kept). Stands kept seen s) (sym c.self.view_is) st) in
    let done = c.step.ensures.step s.plain s.promises stood.holds stood.ports in
    let o : Outcome = outcome app.table app.image.words c.args.t.0 s.plain in
    let no_copy : copy_at s.copies c.args.t.0 ≡ None = ap (λ cs. copy_at cs c.args.t.0) (sym stood.carries.copies) ∙ none in
    let app_is = ap (λ (kept : Kept). kept.app) c.self.view_is in
    let asked = c.in-Asks-Read.is ∙ ap Asks c.in-Asks-Read.field-0-is in
    let told = tells_of (charges_of app.table) o c.args.t s.plain (Asks (Read c.in-Asks-Read.msg c.in-Asks-Read.at)) (sym asked ∙ done.2) in
    let move = StartsRead c.in-Asks-Read.msg c.in-Asks-Read.at in
    let step_is : ran app s c.args.t ≡ stepped app s c.args.t move = ran_first app s c.args.t o move no_copy refl told.0 in
    let mail = mail_of buffers copies in
    let first : Stands (keeps app sys mail left meter) seen s = subst (λ (kept : Kept). Stands kept seen s) (sym c.self.view_is) st in
    let system = subst (λ (h : Held). Stands (keeps h.app h mail left meter) seen s) (sym (c.step.ensures.asks (Read c.in-Asks-Read.msg c.in-Asks-Read.at) asked)) first in
    let same_ports : seen ≡ seen_after =
    stood.ports ∙ ap (λ b. (if b then s.plain else after_outcome o c.args.t s.plain).ports) (sym told.1) ∙ sym done.1 in
    let stands = subst (λ places. Stands (keeps c.step.new.self.app c.step.new.self mail left meter) places s) same_ports system in
    let done_step = c.begin_read.ensures.step seen_after s stands in
    let at_app = subst (λ (a : App). Shows c.begin_read.new.self seen_after (stepped a s c.args.t move) c.begin_read.result) c.step.ensures.app done_step in
    let here = subst (λ (step : Step). Shows c.begin_read.new.self seen_after step c.begin_read.result) (sym step_is) at_app in
    subst (λ (a : App). Shows c.begin_read.new.self seen_after (ran a s c.args.t) c.begin_read.result) app_is here

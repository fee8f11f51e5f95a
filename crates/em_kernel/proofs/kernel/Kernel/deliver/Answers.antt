use Rattle.std.proofs.Common.{◌≡◌, ◌∙◌, ◌<◌, ◌+◌, suc, drop, length, All, map, sym, ap, subst, refl, arith}
use Rattle.std.specs.Option.{option_map}
use Rattle.em_base.specs.declared.apps.App.{App}
use Rattle.em_base.specs.declared.events.Timed.{Timed}
use Rattle.em_ports.specs.Ports.{Places}
use Rattle.em_gate.specs.Events.{after_event, event_line}
use Rattle.em_gate.specs.State.{Counted}
use Rattle.em_demand.specs.Charges.{charges_of}
use Rattle.em_system.specs.Held.{Held, Holds, promises_of, selected_of, tasks_of}
use Rattle.em_system.specs.Possible.{IsPossible}
use Rattle.em_system.specs.Promises.{promises_after_event}
use Rattle.em_system.specs.Sound.{IsSound}
use Rattle.em_kernel.specs.declared.did.What.TheVariants.{Delivered}
use Rattle.em_kernel.specs.Copyings.{copies_of}
use Rattle.em_kernel.specs.Kept.{Keep, Kept, Stands}
use Rattle.em_kernel.specs.declared.meter.Meter.{Meter}
use Rattle.em_kernel.specs.Buffers.{AreBuffers}
use Rattle.em_kernel.specs.Kernels.{IsKernel}
use Rattle.em_kernel.proofs.TaskCounts.{holds_state, state_of, threads_event}
use Rattle.em_kernel.proofs.Copying.{Events, counted, happened}
use Rattle.em_system.specs.Windows.{core_in}
use Rattle.em_kernel.specs.Metered.{did_of, metered, with_one}
use Rattle.em_kernel.specs.Step.{delivered, event_charge}
use Rattle.em_kernel.proofs.Kernels.{Next, next_of, next_kernel}
use Rattle.em_kernel.proofs.Settling.{by_app}
use Rattle.em_kernel.proofs.Steps.{Mail, keeps, lines_counted, settles_by, values_of_event}
use Rattle.em_kernel.proofs.kernel.Kernel.deliver.Goals as goal

pub happen-line-requires-clause-possible : goal.happen-line-requires-clause-possible
happen-line-requires-clause-possible g c =
    let timed : Timed = c.requires.next.0 in
    let next : Next c.self.inside.events.items c.self.inside.at timed c.requires.next.1 =
    next_of c.self.inside.events.items c.self.inside.at timed c.requires.next.1 (ap (λ k. k.left) c.self.view_is ∙ c.requires.next.2) in
    subst (IsPossible (length c.self.inside.system.app.table.tasks)) (ap (λ (t : Timed). t.event) next.here ∙ c.requires.next.3)
    (c.self.invariant.0.possible c.self.inside.at timed next.inside)

pub happen-line-requires-clause-sound : goal.happen-line-requires-clause-sound
happen-line-requires-clause-sound g c = (
  c.self.inside.at + c.self.inside.meter.clock,
  omega (arith, c.self.invariant.0.within, c.self.invariant.0.few, c.self.invariant.0.early),
  c.self.invariant.0.sound,
)

pub select-selected-requires : goal.select-selected-requires
select-selected-requires g c =
    let n = c.self.inside.at + c.self.inside.meter.clock in
    record { sound = (n + 1, c.happen-line.ensures.sound n c.self.invariant.0.sound) }

pub settle-cost-requires-clause-cost : goal.settle-cost-requires-clause-cost
settle-cost-requires-clause-cost g c = omega (arith, c.event_charge-cost.ensures.within, c.self.invariant.0.cheap.release)

pub settle-cost-requires-clause-switch : goal.settle-cost-requires-clause-switch
settle-cost-requires-clause-switch g c = omega (arith, c.self.invariant.0.cheap.switch)

pub invariant_of-self : goal.invariant_of-self
invariant_of-self g c =
    let seen : Places = map (option_map (λ b. record {
      kind = (goal.Port-dyn g (b.vtable, b.value)).kind_of b.value;
      value = (goal.Port-dyn g (b.vtable, b.value)).shown_value b.value;
    })) c.args.ports.now.slots.items in
    let timed : Timed = c.requires.next.0 in
    let next : Next c.self.inside.events.items c.self.inside.at timed c.requires.next.1 =
    next_of c.self.inside.events.items c.self.inside.at timed c.requires.next.1 (ap (λ k. k.left) c.self.view_is ∙ c.requires.next.2) in
    let n = c.self.inside.at + c.self.inside.meter.clock in
    let same = c.select-selected.ensures.same in
    let kernel = next_kernel c.self.inside.system c.select-selected.new.self c.self.inside.charges c.self.inside.events.items c.self.inside.at (c.self.inside.at + 1)
    c.self.inside.meter c.select-selected.result c.happen-line.result c.event_charge-cost.result c.self.invariant.0
    (ap (λ (h : Held). h.app) same ∙ c.happen-line.ensures.app) (omega (arith, next.inside)) (omega arith)
    (omega (arith, c.event_charge-cost.ensures.within, c.self.invariant.0.cheap.release))
    (c.select-selected.ensures.selected ∙ ap (λ (h : Held). selected_of h) (sym same))
    (subst (λ (h : Held). All (IsSound (n + 1)) (tasks_of h.threads)) (sym same) (c.happen-line.ensures.sound n c.self.invariant.0.sound))
    (subst (λ (k : Kept). k.clock < k.app.table.horizon) (sym c.self.view_is) c.requires.early)
    (subst (λ (k : Kept). k.count < 1000000) (sym c.self.view_is) c.requires.short) in
    let leaves : Events c.self.inside.system c.select-selected.new.self = record {
      app = ap (λ (h : Held). h.app) same ∙ c.happen-line.ensures.app;
      count = ap (λ (h : Held). length h.threads) same
          ∙ threads_event c.self.inside.system c.happen-line.new.self seen c.args.event _
          (c.happen-line.ensures.step (state_of c.self.inside.system seen) (promises_of c.self.inside.system.threads) (holds_state c.self.inside.system seen) refl).0;
      own = λ u. ap (λ (h : Held). (core_in h.threads u).own) same ∙ c.happen-line.ensures.windows u;
    } in
    let buffers = happened c.self.inside.system c.select-selected.new.self c.self.inside.buffers.items (copies_of c.self.inside.copies.items) c.self.inside.meter.count
    (metered c.self.inside.meter c.select-selected.result c.happen-line.result c.event_charge-cost.result c.self.inside.charges.switch).count leaves
    (counted c.self.inside.meter.count c.happen-line.result) c.self.invariant.1 in (
      subst (IsKernel c.select-selected.new.self c.self.inside.charges c.self.inside.events.items (c.self.inside.at + 1)) (sym c.settle-cost.ensures.meter) kernel,
      subst (λ (m : Meter). AreBuffers c.select-selected.new.self c.self.inside.buffers.items (copies_of c.self.inside.copies.items) m.count) (sym c.settle-cost.ensures.meter) buffers,
    )

pub returns-clause-step : goal.returns-clause-step
returns-clause-step g c = λ s rest st rest_is.
    let seen : Places = map (option_map (λ b. record {
      kind = (goal.Port-dyn g (b.vtable, b.value)).kind_of b.value;
      value = (goal.Port-dyn g (b.vtable, b.value)).shown_value b.value;
    })) c.args.ports.now.slots.items in
    let seen_after : Places = map (option_map (λ b. record {
      kind = (goal.Port-dyn g (b.vtable, b.value)).kind_of b.value;
      value = (goal.Port-dyn g (b.vtable, b.value)).shown_value b.value;
    })) c.happen-line.new.ports.slots.items in
    let timed : Timed = c.requires.next.0 in
    let next : Next c.self.inside.events.items c.self.inside.at timed c.requires.next.1 =
    next_of c.self.inside.events.items c.self.inside.at timed c.requires.next.1 (ap (λ k. k.left) c.self.view_is ∙ c.requires.next.2) in
    let app = c.self.inside.system.app in
    let held = c.select-selected.new.self in
    let event = c.args.event in
    let mail : Mail = record { buffers = c.self.inside.buffers.items; copies = copies_of c.self.inside.copies.items } in
    let kept : Kept = keeps app c.self.inside.system mail (drop c.self.inside.at c.self.inside.events.items) c.self.inside.meter in
    let stood : Stands kept seen s = subst (λ (k : Kept). Stands k seen s) (sym c.self.view_is) st in
    let holds : Holds c.self.inside.system s.plain s.promises = record { tasks = stood.tasks; promised = stood.promises; owners = stood.owners; shared = stood.shared } in
    let happened = c.happen-line.ensures.step s.plain s.promises holds stood.ports in
    let same = c.select-selected.ensures.same in
    let after_held = subst (λ (h : Held). Holds h (after_event event s.plain) (promises_after_event app event s.plain s.promises)) (sym same) happened.0 in
    let app_same = ap (λ (h : Held). h.app) same ∙ c.happen-line.ensures.app in
    let next_at : suc c.self.inside.at ≡ c.self.inside.at + 1 = omega arith in
    let left : drop (c.self.inside.at + 1) c.self.inside.events.items ≡ rest =
    ap (λ n. drop n c.self.inside.events.items) (sym next_at) ∙ next.later ∙ sym (rest_is ∙ ap (λ xs. drop 1 xs) c.requires.next.2) in
    let after : Counted = record s {
      plain = after_event event s.plain;
      promises = promises_after_event app event s.plain s.promises;
      left = rest;
    } in
    let lines = ap (λ n. with_one n c.happen-line.result) stood.lines ∙ ap (λ o. with_one (length s.plain.lines) o) happened.2 ∙ lines_counted s.plain.lines (event_line event s.plain) in
    let told = settles_by app held.app held mail seen_after after (Delivered event) c.happen-line.result (event_line event s.plain)
    c.event_charge-cost.result (event_charge (charges_of app.table) event) c.self.inside.charges.switch c.self.inside.meter c.settle-cost.new.self
    (drop (c.self.inside.at + 1) c.self.inside.events.items) c.select-selected.result c.settle-cost.result.0 c.settle-cost.result.1
    app_same happened.2 (c.event_charge-cost.ensures.charge ∙ ap (λ charges. event_charge charges event) c.self.invariant.0.charged)
    (ap (λ charges. charges.switch) c.self.invariant.0.charged) c.settle-cost.ensures.meter c.settle-cost.ensures.switched c.settle-cost.ensures.total
    after_held happened.1 left stood.clock stood.current lines
    (record { values = subst (Keep mail.buffers) (values_of_event event s.plain) stood.values; begun = stood.begun; copies = stood.copies })
    (c.select-selected.ensures.selected ∙ ap (λ (h : Held). selected_of h) (sym same) ∙ by_app held app app_same) in
    subst (λ (a : App). Stands (keeps held.app held mail (drop (c.self.inside.at + 1) c.self.inside.events.items) c.settle-cost.new.self) seen_after (delivered a s event rest).state
    × (did_of (Delivered event) c.happen-line.result c.settle-cost.result.0 c.settle-cost.new.self.clock c.settle-cost.result.1 ≡ (delivered a s event rest).did)) (ap (λ (k : Kept). k.app) c.self.view_is) told

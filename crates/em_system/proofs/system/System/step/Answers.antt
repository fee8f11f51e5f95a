use Rattle.std.proofs.Common.{◌≡◌, ◌∙◌, ◌<◌, [], length, All, IsSome, map, sym, ap, subst, refl}
use Rattle.std.specs.Option.{option_map}
use Rattle.em_base.specs.declared.apps.App.{App}
use Rattle.em_base.specs.declared.jobs.Status.TheVariants.{Awake}
use Rattle.em_ports.specs.Ports.{Places}
use Rattle.em_gate.specs.Effects.{after_outcome}
use Rattle.em_gate.specs.Outcome.{Outcome, Works, Falls, call_outcome, known_at}
use Rattle.em_gate.specs.Selecting.{plain_selected}
use Rattle.em_gate.specs.State.{Plain, task_at}
use Rattle.em_threads.specs.Threads.{thread_at}
use Rattle.em_system.specs.declared.stepping.Taken.TheVariants.{Ran, Faulted}
use Rattle.em_system.specs.Asked.{IsGranted}
use Rattle.em_system.specs.Windows.{core_in}
use Rattle.em_system.specs.Held.{Held, Holds, promises_of, tasks_of}
use Rattle.em_system.specs.Promises.{promises_after}
use Rattle.em_system.specs.Sound.{IsSound}
use Rattle.em_system.proofs.CallSteps.{Does}
use Rattle.em_system.proofs.Lines.{ports_of_fault, ports_of_work}
use Rattle.em_system.proofs.Outcomes.{holds_worked}
use Rattle.em_system.proofs.Owns.{others_own}
use Rattle.em_system.proofs.Parts.{awake_of, awake_works, fault_is, few_jobs, inside_of, never_ran, plain_holds, plain_of, sound_step, worked_plainly, worked_selects}
use Rattle.em_system.proofs.system.System.step.Goals as goal

pub carry_out-requires : goal.carry_out-requires
carry_out-requires g c = record { exists = inside_of c.args.self.now c.args.t.0 c.requires.selected }

pub call-requires-clause-exists : goal.call-requires-clause-exists
call-requires-clause-exists g c =
    let held = c.args.self.now in
    let same = (c.in-Call.ensures.carried (plain_of held []) (promises_of held.threads) (plain_holds held [])).1 in
    subst (λ (h : Held). c.args.t.0 < length h.threads) (sym same) (inside_of held c.args.t.0 c.requires.selected)

pub call-requires-clause-awake : goal.call-requires-clause-awake
call-requires-clause-awake g c =
    let held = c.args.self.now in
    let same = (c.in-Call.ensures.carried (plain_of held []) (promises_of held.threads) (plain_holds held [])).1 in
    subst (λ (h : Held). (thread_at h.threads c.args.t.0).task.status ≡ Awake) (sym same) (awake_of held c.args.t.0 c.requires.selected)

pub call-requires-clause-working : goal.call-requires-clause-working
call-requires-clause-working g c =
    let held = c.args.self.now in
    let t = c.args.t.0 in
    let same = (c.in-Call.ensures.carried (plain_of held []) (promises_of held.threads) (plain_holds held [])).1 in
    subst (λ (h : Held). IsSome (thread_at h.threads t).task.job) (sym same)
    (awake_works c.requires.sound.0 held.threads t c.requires.sound.2 (inside_of held t c.requires.selected) (awake_of held t c.requires.selected))

pub call-requires-clause-few : goal.call-requires-clause-few
call-requires-clause-few g c =
    let held = c.args.self.now in
    let same = (c.in-Call.ensures.carried (plain_of held []) (promises_of held.threads) (plain_holds held [])).1 in
    subst (λ (h : Held). All (λ thread. thread.task.taken < 9223372036854775808) h.threads) (sym same)
    (few_jobs c.requires.sound.0 held.threads c.requires.sound.1 c.requires.sound.2)

pub fault-requires : goal.fault-requires
fault-requires g c =
    let held = c.args.self.now in
    let same = (c.in-Fault.ensures.carried (plain_of held []) (promises_of held.threads) (plain_holds held [])).1 in
    record { exists = subst (λ (h : Held). c.args.t.0 < length h.threads) (sym same) (inside_of held c.args.t.0 c.requires.selected) }

-- ---- the step

pub returns-in-Ran-clause-step : goal.returns-in-Ran-clause-step
returns-in-Ran-clause-step g c = λ p promises s seen.
    let held = c.args.self.now in
    let work = c.in-Ran.ensures.carried p promises s in
    let holds = holds_worked held.app held p promises c.args.t c.in-Ran.class work.0 work.1 c.carry_out.new.self work.3 (inside_of held c.args.t.0 c.requires.selected) s in
    subst (Does c.carry_out.new.self _ (Ran c.in-Ran.class) held.app c.args.t p promises) (sym work.2)
    (holds, seen ∙ ports_of_work c.in-Ran.class work.0 work.1 c.args.t p, refl)

pub returns-in-Call-clause-step : goal.returns-in-Call-clause-step
returns-in-Call-clause-step g c = λ p promises s seen.
    let seen_after : Places = map (option_map (λ b. record {
      kind = (goal.Port-dyn g (b.vtable, b.value)).kind_of b.value;
      value = (goal.Port-dyn g (b.vtable, b.value)).shown_value b.value;
    })) c.call.new.ports.slots.items in
    let held = c.args.self.now in
    let carried = c.in-Call.ensures.carried p promises s in
    let same : c.carry_out.new.self ≡ held = carried.1 in
    let now : Holds c.carry_out.new.self p promises = subst (λ (h : Held). Holds h p promises) (sym same) s in
    let done = subst (λ (a : App). Does c.call.new.self seen_after c.call.result a c.args.t p promises
    (call_outcome a.table c.args.t.0 (known_at p c.args.t.0) p.owners (task_at p.tasks c.args.t.0).core))
    (ap (λ (h : Held). h.app) same) (c.call.ensures.step p promises now seen) in
    subst (Does c.call.new.self seen_after c.call.result held.app c.args.t p promises) (sym carried.0) done

pub returns-in-Fault-clause-step : goal.returns-in-Fault-clause-step
returns-in-Fault-clause-step g c = λ p promises s seen.
    let held = c.args.self.now in
    let out : Outcome = Falls c.in-Fault.cause in
    let carried = c.in-Fault.ensures.carried p promises s in
    let same : c.carry_out.new.self ≡ held = carried.1 in
    let now : Holds c.carry_out.new.self p promises = subst (λ (h : Held). Holds h p promises) (sym same) s in
    let done = c.fault.ensures.step p promises now in
    let holds = subst (λ (a : App). Holds c.fault.new.self (after_outcome out c.args.t p) (promises_after a out c.args.t.0 p promises)) (ap (λ (h : Held). h.app) same) done.0 in
    subst (Does c.fault.new.self _ (Faulted c.fault.result) held.app c.args.t p promises) (sym carried.0)
    (holds, seen ∙ ports_of_fault c.in-Fault.cause c.args.t p, fault_is c.in-Fault.cause c.args.t p c.fault.result done.1)

-- ---- the tasks stay sound

pub returns-in-Ran-clause-sound : goal.returns-in-Ran-clause-sound
returns-in-Ran-clause-sound g c = λ n sound.
    let held = c.args.self.now in
    let t = c.args.t.0 in
    let before : Plain = plain_of held [] in
    let work = c.in-Ran.ensures.carried before (promises_of held.threads) (plain_holds held []) in
    let inside = inside_of held t c.requires.selected in
    let out : Outcome = Works c.in-Ran.class work.0 work.1 in
    let holds = holds_worked held.app held before (promises_of held.threads) c.args.t c.in-Ran.class work.0 work.1 c.carry_out.new.self work.3 inside (plain_holds held []) in
    sound_step held c.carry_out.new.self [] c.args.t out n _ sound inside (awake_of held t c.requires.selected) holds

pub returns-in-Ran-clause-same : goal.returns-in-Ran-clause-same
returns-in-Ran-clause-same g c = λ class is.
    let held = c.args.self.now in
    let work = c.in-Ran.ensures.carried (plain_of held []) (promises_of held.threads) (plain_holds held []) in
    worked_selects held c.carry_out.new.self work.0 work.1 c.args.t.0 work.3 (inside_of held c.args.t.0 c.requires.selected)

pub returns-in-Call-clause-sound : goal.returns-in-Call-clause-sound
returns-in-Call-clause-sound g c = λ n sound.
    let seen : Places = map (option_map (λ b. record {
      kind = (goal.Port-dyn g (b.vtable, b.value)).kind_of b.value;
      value = (goal.Port-dyn g (b.vtable, b.value)).shown_value b.value;
    })) c.args.ports.now.slots.items in
    let held = c.args.self.now in
    let t = c.args.t.0 in
    let now : Held = c.carry_out.new.self in
    let same : now ≡ held = (c.in-Call.ensures.carried (plain_of held seen) (promises_of held.threads) (plain_holds held seen)).1 in
    let before : Plain = plain_of now seen in
    let done = c.call.ensures.step before (promises_of now.threads) (plain_holds now seen) refl in
    sound_step now c.call.new.self seen c.args.t (call_outcome now.app.table t (known_at before t) before.owners (task_at before.tasks t).core) n _
    (subst (λ (h : Held). All (IsSound n) (tasks_of h.threads)) (sym same) sound)
    (subst (λ (h : Held). t < length h.threads) (sym same) (inside_of held t c.requires.selected))
    (subst (λ (h : Held). (thread_at h.threads t).task.status ≡ Awake) (sym same) (awake_of held t c.requires.selected)) done.0

pub returns-in-Fault-clause-sound : goal.returns-in-Fault-clause-sound
returns-in-Fault-clause-sound g c = λ n sound.
    let held = c.args.self.now in
    let t = c.args.t.0 in
    let now : Held = c.carry_out.new.self in
    let same : now ≡ held = (c.in-Fault.ensures.carried (plain_of held []) (promises_of held.threads) (plain_holds held [])).1 in
    let done = c.fault.ensures.step (plain_of now []) (promises_of now.threads) (plain_holds now []) in
    sound_step now c.fault.new.self [] c.args.t (Falls c.in-Fault.cause) n _
    (subst (λ (h : Held). All (IsSound n) (tasks_of h.threads)) (sym same) sound)
    (subst (λ (h : Held). t < length h.threads) (sym same) (inside_of held t c.requires.selected))
    (subst (λ (h : Held). (thread_at h.threads t).task.status ≡ Awake) (sym same) (awake_of held t c.requires.selected)) done.0

pub returns-in-Ran-clause-plain : goal.returns-in-Ran-clause-plain
returns-in-Ran-clause-plain g c = λ p promises class s is.
    let held = c.args.self.now in
    let work = c.in-Ran.ensures.carried p promises s in
    let inside = inside_of held c.args.t.0 c.requires.selected in
    let out : Outcome = Works c.in-Ran.class work.0 work.1 in
    let holds = holds_worked held.app held p promises c.args.t c.in-Ran.class work.0 work.1 c.carry_out.new.self work.3 inside s in
    subst (λ (o : Outcome). plain_selected held.app.table.tasks (after_outcome o c.args.t p) ≡ plain_selected held.app.table.tasks p) (sym work.2)
    (worked_plainly held c.carry_out.new.self p (after_outcome out c.args.t p) promises _ work.0 work.1 c.args.t.0 work.3 inside s holds)

-- ---- a call is no instruction

pub returns-in-Call-clause-same : goal.returns-in-Call-clause-same
returns-in-Call-clause-same g c = λ class is.
    let seen : Places = map (option_map (λ b. record {
      kind = (goal.Port-dyn g (b.vtable, b.value)).kind_of b.value;
      value = (goal.Port-dyn g (b.vtable, b.value)).shown_value b.value;
    })) c.args.ports.now.slots.items in
    let now : Held = c.carry_out.new.self in
    let before : Plain = plain_of now seen in
    let done = c.call.ensures.step before (promises_of now.threads) (plain_holds now seen) refl in
    absurd (never_ran now.app.table c.args.t (known_at before c.args.t.0) before.owners (task_at before.tasks c.args.t.0).core before class (sym done.2 ∙ is))

pub returns-in-Call-clause-plain : goal.returns-in-Call-clause-plain
returns-in-Call-clause-plain g c = λ p promises class s is.
    let seen : Places = map (option_map (λ b. record {
      kind = (goal.Port-dyn g (b.vtable, b.value)).kind_of b.value;
      value = (goal.Port-dyn g (b.vtable, b.value)).shown_value b.value;
    })) c.args.ports.now.slots.items in
    let now : Held = c.carry_out.new.self in
    let before : Plain = plain_of now seen in
    let done = c.call.ensures.step before (promises_of now.threads) (plain_holds now seen) refl in
    absurd (never_ran now.app.table c.args.t (known_at before c.args.t.0) before.owners (task_at before.tasks c.args.t.0).core before class (sym done.2 ∙ is))

-- ---- what is asked for

pub returns-in-Call-clause-granted : goal.returns-in-Call-clause-granted
returns-in-Call-clause-granted g c = λ transfer is.
    let held = c.args.self.now in
    let same = (c.in-Call.ensures.carried (plain_of held []) (promises_of held.threads) (plain_holds held [])).1 in
    subst (λ (h : Held). IsGranted h.app.table c.args.t.0 transfer) same (c.call.ensures.granted transfer is)

pub returns-in-Call-clause-asks : goal.returns-in-Call-clause-asks
returns-in-Call-clause-asks g c = λ transfer is.
    let held = c.args.self.now in
    let same = (c.in-Call.ensures.carried (plain_of held []) (promises_of held.threads) (plain_holds held [])).1 in
    c.call.ensures.asks transfer is ∙ same

-- ---- own windows of other tasks

pub returns-in-Ran-clause-others : goal.returns-in-Ran-clause-others
returns-in-Ran-clause-others g c = λ u other.
    let held = c.args.self.now in
    let before : Plain = plain_of held [] in
    let work = c.in-Ran.ensures.carried before (promises_of held.threads) (plain_holds held []) in
    let out : Outcome = Works c.in-Ran.class work.0 work.1 in
    let holds = holds_worked held.app held before (promises_of held.threads) c.args.t c.in-Ran.class work.0 work.1 c.carry_out.new.self work.3 (inside_of held c.args.t.0 c.requires.selected) (plain_holds held []) in
    others_own held c.carry_out.new.self out c.args.t before (promises_of held.threads) _ u (plain_holds held []) holds other

pub returns-in-Call-clause-others : goal.returns-in-Call-clause-others
returns-in-Call-clause-others g c = λ u other.
    let seen : Places = map (option_map (λ b. record {
      kind = (goal.Port-dyn g (b.vtable, b.value)).kind_of b.value;
      value = (goal.Port-dyn g (b.vtable, b.value)).shown_value b.value;
    })) c.args.ports.now.slots.items in
    let held = c.args.self.now in
    let now : Held = c.carry_out.new.self in
    let same : now ≡ held = (c.in-Call.ensures.carried (plain_of held seen) (promises_of held.threads) (plain_holds held seen)).1 in
    let before : Plain = plain_of now seen in
    let done = c.call.ensures.step before (promises_of now.threads) (plain_holds now seen) refl in
    others_own now c.call.new.self (call_outcome now.app.table c.args.t.0 (known_at before c.args.t.0) before.owners (task_at before.tasks c.args.t.0).core) c.args.t before
    (promises_of now.threads) _ u (plain_holds now seen) done.0 other
    ∙ ap (λ (h : Held). (core_in h.threads u).own) same

pub returns-in-Fault-clause-others : goal.returns-in-Fault-clause-others
returns-in-Fault-clause-others g c = λ u other.
    let held = c.args.self.now in
    let now : Held = c.carry_out.new.self in
    let same : now ≡ held = (c.in-Fault.ensures.carried (plain_of held []) (promises_of held.threads) (plain_holds held [])).1 in
    let done = c.fault.ensures.step (plain_of now []) (promises_of now.threads) (plain_holds now []) in
    others_own now c.fault.new.self (Falls c.in-Fault.cause) c.args.t (plain_of now []) (promises_of now.threads) _ u (plain_holds now []) done.0 other
    ∙ ap (λ (h : Held). (core_in h.threads u).own) same

use Rattle.std.proofs.Common.{rules, ◌≡◌, ◌∙◌, ◌<◌, drop, None, Some, map, sym, subst, refl}
use Rattle.std.specs.Option.{option_map}
use Rattle.em_base.specs.Selection.{selected}
use Rattle.em_ports.specs.Ports.{Places}
use Rattle.em_gate.specs.Selecting.{scene_in}
use Rattle.em_kernel.specs.Kept.{Kept, Stands}
use Rattle.em_system.specs.Held.{promises_of, tasks_of}
use Rattle.em_kernel.specs.Step.{Step, due}
use Rattle.em_kernel.proofs.NextStep.{step_delivers, step_runs, step_waits}
use Rattle.em_kernel.proofs.kernel.Kernel.step.Goals as goal

pub run-requires-clause-selected : goal.run-requires-clause-selected
run-requires-clause-selected g c =
    subst (λ (k : Kept). selected (scene_in k.app.table.tasks (tasks_of k.threads) (promises_of k.threads) k.owners) ≡ Some c.in-Some-selected.t.0) c.self.view_is
    (sym c.self.invariant.0.selects ∙ search rules)

pub returns-in-Some-clause-step : goal.returns-in-Some-clause-step
returns-in-Some-clause-step g c = λ s st.
    let seen : Places = map (option_map (λ b. record {
      kind = (goal.Port-dyn g (b.vtable, b.value)).kind_of b.value;
      value = (goal.Port-dyn g (b.vtable, b.value)).shown_value b.value;
    })) c.args.ports.now.slots.items in
    let seen_after : Places = map (option_map (λ b. record {
      kind = (goal.Port-dyn g (b.vtable, b.value)).kind_of b.value;
      value = (goal.Port-dyn g (b.vtable, b.value)).shown_value b.value;
    })) c.deliver.new.ports.slots.items in
    let kept : Kept = c.args.self.now in
    let early : kept.clock < kept.app.table.horizon = search rules in
    let short : kept.count < 1000000 = search rules in
    let told = c.deliver.ensures.step s (drop 1 kept.left) st refl in
    subst (λ (step : Step). Stands c.deliver.new.self seen_after step.state × (c.deliver.result ≡ step.did))
    (sym (step_delivers kept seen s c.in-Some.event st early short (sym c.due.ensures ∙ c.in-Some.is))) told

pub returns-in-Some-selected-clause-step : goal.returns-in-Some-selected-clause-step
returns-in-Some-selected-clause-step g c = λ s st.
    let seen : Places = map (option_map (λ b. record {
      kind = (goal.Port-dyn g (b.vtable, b.value)).kind_of b.value;
      value = (goal.Port-dyn g (b.vtable, b.value)).shown_value b.value;
    })) c.args.ports.now.slots.items in
    let seen_after : Places = map (option_map (λ b. record {
      kind = (goal.Port-dyn g (b.vtable, b.value)).kind_of b.value;
      value = (goal.Port-dyn g (b.vtable, b.value)).shown_value b.value;
    })) c.run.new.ports.slots.items in
    let kept : Kept = c.args.self.now in
    let early : kept.clock < kept.app.table.horizon = search rules in
    let short : kept.count < 1000000 = search rules in
    let none : due kept.clock kept.left ≡ None = sym c.due.ensures ∙ search rules in
    let found : selected (scene_in kept.app.table.tasks (tasks_of kept.threads) (promises_of kept.threads) kept.owners) ≡ Some c.in-Some-selected.t.0 =
    subst (λ (k : Kept). selected (scene_in k.app.table.tasks (tasks_of k.threads) (promises_of k.threads) k.owners) ≡ Some c.in-Some-selected.t.0) c.self.view_is
    (sym c.self.invariant.0.selects ∙ search rules) in
    subst (λ (step : Step). Stands c.run.new.self seen_after step.state × (c.run.result ≡ step.did))
    (sym (step_runs kept seen s c.in-Some-selected.t st early short none found)) (c.run.ensures.step s st)

pub returns-in-None-clause-step : goal.returns-in-None-clause-step
returns-in-None-clause-step g c = λ s st.
    let seen : Places = map (option_map (λ b. record {
      kind = (goal.Port-dyn g (b.vtable, b.value)).kind_of b.value;
      value = (goal.Port-dyn g (b.vtable, b.value)).shown_value b.value;
    })) c.args.ports.now.slots.items in
    let kept : Kept = c.args.self.now in
    let early : kept.clock < kept.app.table.horizon = search rules in
    let short : kept.count < 1000000 = search rules in
    let none : due kept.clock kept.left ≡ None = sym c.due.ensures ∙ search rules in
    let found : selected (scene_in kept.app.table.tasks (tasks_of kept.threads) (promises_of kept.threads) kept.owners) ≡ None =
    subst (λ (k : Kept). selected (scene_in k.app.table.tasks (tasks_of k.threads) (promises_of k.threads) k.owners) ≡ None) c.self.view_is
    (sym c.self.invariant.0.selects ∙ search rules) in
    subst (λ (step : Step). Stands c.wait.new.self seen step.state × (c.wait.result ≡ step.did))
    (sym (step_waits kept seen s st early short none found)) (c.wait.ensures.step s seen st)

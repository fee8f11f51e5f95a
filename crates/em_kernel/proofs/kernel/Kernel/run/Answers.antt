-- What the kernel owes after a step of the selected task.
use Rattle.std.proofs.Common.{◌≡◌, ◌∙◌, ◌<◌, length, map, Some, sym, ap, subst, arith}
use Rattle.std.specs.Option.{option_map}
use Rattle.em_ports.specs.Ports.{Places}
use Rattle.em_gate.specs.State.{Reads, Writes}
use Rattle.em_system.specs.Held.{selected_of}
use Rattle.em_kernel.specs.Copyings.{copies_of, copy_of}
use Rattle.em_kernel.specs.Kept.{Kept, Stands, held_by}
use Rattle.em_kernel.specs.Moves.{copy_at}
use Rattle.em_kernel.specs.Step.{Step}
use Rattle.em_kernel.proofs.Passing.{ran_copy, runner_inside}
use Rattle.em_kernel.proofs.kernel.Kernel.run.Goals as goal

pub copy_under_way-requires : goal.copy_under_way-requires
copy_under_way-requires g c =
    let runs : selected_of c.self.inside.system ≡ Some c.args.t.0 =
    subst (λ (kept : Kept). selected_of (held_by kept) ≡ Some c.args.t.0) (sym c.self.view_is) c.requires.selected in
    let within = runner_inside c.self.inside.system c.args.t.0 runs in
    let place : c.args.t.0 < length (copies_of c.self.inside.copies.items) = omega (arith, within, c.self.invariant.1.tasks) in
    record { inside = subst (λ cs. c.args.t.0 < length (copies_of cs)) (sym c.deref.ensures.value) place }

pub returns-in-Some-Write-clause-step : goal.returns-in-Some-Write-clause-step
returns-in-Some-Write-clause-step g c = λ s st.
    let seen : Places = map (option_map (λ b. record {
      kind = (goal.Port-dyn g (b.vtable, b.value)).kind_of b.value;
      value = (goal.Port-dyn g (b.vtable, b.value)).shown_value b.value;
    })) c.args.ports.now.slots.items in
    let under_way : copy_at (copies_of c.self.inside.copies.items) c.args.t.0 ≡ Some (Writes c.in-Some-Write.msg c.in-Some-Write.at c.in-Some-Write.done) =
    ap (λ cs. copy_at (copies_of cs) c.args.t.0) (sym c.deref.ensures.value) ∙ sym c.copy_under_way.ensures
    ∙ ap (option_map copy_of) (c.in-Some-Write.is ∙ ap Some c.in-Some-Write.field-0-is) in
    let copy : copy_at s.copies c.args.t.0 ≡ Some (Writes c.in-Some-Write.msg c.in-Some-Write.at c.in-Some-Write.done) =
    ap (λ cs. copy_at cs c.args.t.0) (sym (ap (λ (kept : Kept). kept.copies) c.self.view_is ∙ st.copies)) ∙ under_way in
    subst (λ (step : Step). Stands c.take_word.new.self seen step.state × (c.take_word.result ≡ step.did))
    (ran_copy c.args.self.now.app s c.args.t (Writes c.in-Some-Write.msg c.in-Some-Write.at c.in-Some-Write.done) copy) (c.take_word.ensures.step seen s st)

pub returns-in-Some-Read-clause-step : goal.returns-in-Some-Read-clause-step
returns-in-Some-Read-clause-step g c = λ s st.
    let seen : Places = map (option_map (λ b. record {
      kind = (goal.Port-dyn g (b.vtable, b.value)).kind_of b.value;
      value = (goal.Port-dyn g (b.vtable, b.value)).shown_value b.value;
    })) c.args.ports.now.slots.items in
    let under_way : copy_at (copies_of c.self.inside.copies.items) c.args.t.0 ≡ Some (Reads c.in-Some-Read.msg c.in-Some-Read.at c.in-Some-Read.noted c.in-Some-Read.done) =
    ap (λ cs. copy_at (copies_of cs) c.args.t.0) (sym c.deref.ensures.value) ∙ sym c.copy_under_way.ensures
    ∙ ap (option_map copy_of) (c.in-Some-Read.is ∙ ap Some c.in-Some-Read.field-0-is) in
    let copy : copy_at s.copies c.args.t.0 ≡ Some (Reads c.in-Some-Read.msg c.in-Some-Read.at c.in-Some-Read.noted c.in-Some-Read.done) =
    ap (λ cs. copy_at cs c.args.t.0) (sym (ap (λ (kept : Kept). kept.copies) c.self.view_is ∙ st.copies)) ∙ under_way in
    subst (λ (step : Step). Stands c.give_word.new.self seen step.state × (c.give_word.result ≡ step.did))
    (ran_copy c.args.self.now.app s c.args.t (Reads c.in-Some-Read.msg c.in-Some-Read.at c.in-Some-Read.noted c.in-Some-Read.done) copy) (c.give_word.ensures.step seen s st)

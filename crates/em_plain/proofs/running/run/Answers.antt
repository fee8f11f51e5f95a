use Rattle.std.proofs.Common.{◌≡◌, ◌∙◌, inr, Err, ℕ, All, length, map, sym, ap, subst}
use Rattle.std.specs.Option.{option_map}
use Rattle.em_base.specs.declared.apps.App.{App}
use Rattle.em_base.specs.declared.events.Schedule.{Schedule}
use Rattle.em_ports.specs.Ports.{Places}
use Rattle.em_gate.specs.Boot.{boot}
use Rattle.em_gate.specs.State.{Plain}
use Rattle.em_plain.specs.declared.machine.Halt.{Halt}
use Rattle.em_plain.specs.declared.machine.Halt.TheVariants.{Full as FullHalt, Misfit as MisfitHalt, NoMemory as NoMemoryHalt}
use Rattle.em_plain.specs.Reached.{HasGone, Reached}
use Rattle.em_plain.specs.declared.running.PlainFail.TheVariants.{Misfit as MisfitFail}
use Rattle.em_plain.specs.Answers.{ArePartWay, IsFailOf, IsRunOf}
use Rattle.em_plain.specs.Runs.{Went, part_from, plain_run, run_from, state_of}
use Rattle.em_system.specs.Possible.{IsPossible}
use Rattle.em_plain.proofs.Follow.{no_part, whole_part}
use Rattle.em_plain.proofs.Within.{counts_within, events_possible, last_within}
use Rattle.em_plain.proofs.running.run.Goals as goal

-- the run by an equal application
same_run : (app app' : App) (p : Plain) (schedule : Schedule) (went : Went) → app' ≡ app → run_from app' p schedule ≡ went → run_from app p schedule ≡ went
same_run app app' p schedule went e f = ap (λ a. run_from a p schedule) (sym e) ∙ f

-- what is known of a stop, by which it is
by_halt : (part : ℕ × ℕ → Went) (went : Went) (halt halt' : Halt) (at : Reached) (places : Places) → halt ≡ halt'
    → HasGone part went (Err halt) at places → HasGone part went (Err halt') at places
by_halt part went halt halt' at places e gone = subst (λ h. HasGone part went (Err h) at places) e gone

-- where the run ends is a part of the way
end_part : (app : App) (schedule : Schedule) (before after : Places) → after ≡ (state_of (plain_run app before schedule)).ports → ArePartWay app schedule before after
end_part app schedule before after e =
    let (part, same) = whole_part app (boot app before) schedule in
    (part, e ∙ ap (λ went. (state_of went).ports) same)

pub follow-requires-clause-counts : goal.follow-requires-clause-counts
follow-requires-clause-counts g c = counts_within (length c.args.app.now.table.tasks) 0 c.args.schedule.now.events c.args.schedule.now.last c.requires.schedule

pub follow-requires-clause-last : goal.follow-requires-clause-last
follow-requires-clause-last g c = last_within (length c.args.app.now.table.tasks) 0 c.args.schedule.now.events c.args.schedule.now.last c.requires.schedule

pub follow-requires-clause-possible : goal.follow-requires-clause-possible
follow-requires-clause-possible g c =
    subst (λ (a : App). All (λ e. IsPossible (length a.table.tasks) e.1) c.args.schedule.now.events) (sym c.in_ok-machine.ensures.app)
    (events_possible (length c.args.app.now.table.tasks) 0 c.args.schedule.now.events c.args.schedule.now.last c.requires.schedule)

pub returns-in_err-machine-clause-part : goal.returns-in_err-machine-clause-part
returns-in_err-machine-clause-part g c =
    ((0, 0), sym (ap (λ went. (state_of went).ports) (no_part c.args.app.now (boot c.args.app.now _) c.args.schedule.now)))

pub returns-in-Ok-clause-run : goal.returns-in-Ok-clause-run
returns-in-Ok-clause-run g c =
    let app = c.args.app.now in
    let (q, went, at) = c.in-Ok.ensures.follow _ (c.in_ok-machine.ensures.at _) in
    subst (λ w. IsRunOf w c.ended.result) (sym (same_run app _ _ c.args.schedule.now _ c.in_ok-machine.ensures.app went))
    (c.ended.ensures.lines ∙ at.lines, c.ended.ensures.count, c.ended.ensures.full)

pub returns-in-Ok-clause-ports : goal.returns-in-Ok-clause-ports
returns-in-Ok-clause-ports g c =
    let app = c.args.app.now in
    let (q, went, at) = c.in-Ok.ensures.follow _ (c.in_ok-machine.ensures.at _) in
    inr (at.ports ∙ ap (λ w. (state_of w).ports) (sym (same_run app _ _ c.args.schedule.now _ c.in_ok-machine.ensures.app went)))

pub returns-in-Ok-clause-part : goal.returns-in-Ok-clause-part
returns-in-Ok-clause-part g c =
    let app = c.args.app.now in
    let (q, went, at) = c.in-Ok.ensures.follow _ (c.in_ok-machine.ensures.at _) in
    end_part app c.args.schedule.now _ _ (at.ports ∙ ap (λ w. (state_of w).ports) (sym (same_run app _ _ c.args.schedule.now _ c.in_ok-machine.ensures.app went)))

pub returns-in-Err-Full-clause-run : goal.returns-in-Err-Full-clause-run
returns-in-Err-Full-clause-run g c =
    let app = c.args.app.now in
    let before : Places = map (option_map (λ b. record {
      kind = (goal.Port-dyn g (b.vtable, b.value)).kind_of b.value;
      value = (goal.Port-dyn g (b.vtable, b.value)).shown_value b.value;
    })) c.args.ports.now.slots.items in
    let after : Places = map (option_map (λ b. record {
      kind = (goal.Port-dyn g (b.vtable, b.value)).kind_of b.value;
      value = (goal.Port-dyn g (b.vtable, b.value)).shown_value b.value;
    })) c.follow.new.ports.slots.items in
    let p = boot app before in
    let schedule = c.args.schedule.now in
    let other = c.in_ok-machine.machine.held.app in
    let (q, went, at) = by_halt (part_from other p schedule) (run_from other p schedule) c.in-Err-Full.field-0 FullHalt c.follow.new.machine after c.in-Err-Full.field-0-is
    (c.in-Err-Full.ensures.follow p (c.in_ok-machine.ensures.at before)) in
    subst (λ w. IsRunOf w c.ended-in-Err-Full.result) (sym (same_run app _ _ c.args.schedule.now _ c.in_ok-machine.ensures.app went))
    (c.ended-in-Err-Full.ensures.lines ∙ at.lines, c.ended-in-Err-Full.ensures.count, c.ended-in-Err-Full.ensures.full)

pub returns-in-Err-Full-clause-ports : goal.returns-in-Err-Full-clause-ports
returns-in-Err-Full-clause-ports g c =
    let app = c.args.app.now in
    let before : Places = map (option_map (λ b. record {
      kind = (goal.Port-dyn g (b.vtable, b.value)).kind_of b.value;
      value = (goal.Port-dyn g (b.vtable, b.value)).shown_value b.value;
    })) c.args.ports.now.slots.items in
    let after : Places = map (option_map (λ b. record {
      kind = (goal.Port-dyn g (b.vtable, b.value)).kind_of b.value;
      value = (goal.Port-dyn g (b.vtable, b.value)).shown_value b.value;
    })) c.follow.new.ports.slots.items in
    let p = boot app before in
    let schedule = c.args.schedule.now in
    let other = c.in_ok-machine.machine.held.app in
    let (q, went, at) = by_halt (part_from other p schedule) (run_from other p schedule) c.in-Err-Full.field-0 FullHalt c.follow.new.machine after c.in-Err-Full.field-0-is
    (c.in-Err-Full.ensures.follow p (c.in_ok-machine.ensures.at before)) in
    inr (at.ports ∙ ap (λ w. (state_of w).ports) (sym (same_run app _ _ c.args.schedule.now _ c.in_ok-machine.ensures.app went)))

pub returns-in-Err-Full-clause-part : goal.returns-in-Err-Full-clause-part
returns-in-Err-Full-clause-part g c =
    let app = c.args.app.now in
    let before : Places = map (option_map (λ b. record {
      kind = (goal.Port-dyn g (b.vtable, b.value)).kind_of b.value;
      value = (goal.Port-dyn g (b.vtable, b.value)).shown_value b.value;
    })) c.args.ports.now.slots.items in
    let after : Places = map (option_map (λ b. record {
      kind = (goal.Port-dyn g (b.vtable, b.value)).kind_of b.value;
      value = (goal.Port-dyn g (b.vtable, b.value)).shown_value b.value;
    })) c.follow.new.ports.slots.items in
    let p = boot app before in
    let schedule = c.args.schedule.now in
    let other = c.in_ok-machine.machine.held.app in
    let (q, went, at) = by_halt (part_from other p schedule) (run_from other p schedule) c.in-Err-Full.field-0 FullHalt c.follow.new.machine after c.in-Err-Full.field-0-is
    (c.in-Err-Full.ensures.follow p (c.in_ok-machine.ensures.at before)) in
    end_part app c.args.schedule.now _ _ (at.ports ∙ ap (λ w. (state_of w).ports) (sym (same_run app _ _ c.args.schedule.now _ c.in_ok-machine.ensures.app went)))

pub returns-in-Err-Misfit-clause-misfit : goal.returns-in-Err-Misfit-clause-misfit
returns-in-Err-Misfit-clause-misfit g c =
    let app = c.args.app.now in
    let before : Places = map (option_map (λ b. record {
      kind = (goal.Port-dyn g (b.vtable, b.value)).kind_of b.value;
      value = (goal.Port-dyn g (b.vtable, b.value)).shown_value b.value;
    })) c.args.ports.now.slots.items in
    let after : Places = map (option_map (λ b. record {
      kind = (goal.Port-dyn g (b.vtable, b.value)).kind_of b.value;
      value = (goal.Port-dyn g (b.vtable, b.value)).shown_value b.value;
    })) c.follow.new.ports.slots.items in
    let p = boot app before in
    let schedule = c.args.schedule.now in
    let other = c.in_ok-machine.machine.held.app in
    let (q, went, at) = by_halt (part_from other p schedule) (run_from other p schedule) c.in-Err-Misfit.field-0 MisfitHalt c.follow.new.machine after c.in-Err-Misfit.field-0-is
    (c.in-Err-Misfit.ensures.follow p (c.in_ok-machine.ensures.at before)) in
    subst (λ w. IsFailOf w (MisfitFail c.count.result)) (sym (same_run app _ _ c.args.schedule.now _ c.in_ok-machine.ensures.app went)) c.count.ensures

pub returns-in-Err-Misfit-clause-ports : goal.returns-in-Err-Misfit-clause-ports
returns-in-Err-Misfit-clause-ports g c =
    let app = c.args.app.now in
    let before : Places = map (option_map (λ b. record {
      kind = (goal.Port-dyn g (b.vtable, b.value)).kind_of b.value;
      value = (goal.Port-dyn g (b.vtable, b.value)).shown_value b.value;
    })) c.args.ports.now.slots.items in
    let after : Places = map (option_map (λ b. record {
      kind = (goal.Port-dyn g (b.vtable, b.value)).kind_of b.value;
      value = (goal.Port-dyn g (b.vtable, b.value)).shown_value b.value;
    })) c.follow.new.ports.slots.items in
    let p = boot app before in
    let schedule = c.args.schedule.now in
    let other = c.in_ok-machine.machine.held.app in
    let (q, went, at) = by_halt (part_from other p schedule) (run_from other p schedule) c.in-Err-Misfit.field-0 MisfitHalt c.follow.new.machine after c.in-Err-Misfit.field-0-is
    (c.in-Err-Misfit.ensures.follow p (c.in_ok-machine.ensures.at before)) in
    inr (at.ports ∙ ap (λ w. (state_of w).ports) (sym (same_run app _ _ c.args.schedule.now _ c.in_ok-machine.ensures.app went)))

pub returns-in-Err-Misfit-clause-part : goal.returns-in-Err-Misfit-clause-part
returns-in-Err-Misfit-clause-part g c =
    let app = c.args.app.now in
    let before : Places = map (option_map (λ b. record {
      kind = (goal.Port-dyn g (b.vtable, b.value)).kind_of b.value;
      value = (goal.Port-dyn g (b.vtable, b.value)).shown_value b.value;
    })) c.args.ports.now.slots.items in
    let after : Places = map (option_map (λ b. record {
      kind = (goal.Port-dyn g (b.vtable, b.value)).kind_of b.value;
      value = (goal.Port-dyn g (b.vtable, b.value)).shown_value b.value;
    })) c.follow.new.ports.slots.items in
    let p = boot app before in
    let schedule = c.args.schedule.now in
    let other = c.in_ok-machine.machine.held.app in
    let (q, went, at) = by_halt (part_from other p schedule) (run_from other p schedule) c.in-Err-Misfit.field-0 MisfitHalt c.follow.new.machine after c.in-Err-Misfit.field-0-is
    (c.in-Err-Misfit.ensures.follow p (c.in_ok-machine.ensures.at before)) in
    end_part app c.args.schedule.now _ _ (at.ports ∙ ap (λ w. (state_of w).ports) (sym (same_run app _ _ c.args.schedule.now _ c.in_ok-machine.ensures.app went)))

pub returns-in-Err-NoMemory-clause-part : goal.returns-in-Err-NoMemory-clause-part
returns-in-Err-NoMemory-clause-part g c =
    let app = c.args.app.now in
    let before : Places = map (option_map (λ b. record {
      kind = (goal.Port-dyn g (b.vtable, b.value)).kind_of b.value;
      value = (goal.Port-dyn g (b.vtable, b.value)).shown_value b.value;
    })) c.args.ports.now.slots.items in
    let after : Places = map (option_map (λ b. record {
      kind = (goal.Port-dyn g (b.vtable, b.value)).kind_of b.value;
      value = (goal.Port-dyn g (b.vtable, b.value)).shown_value b.value;
    })) c.follow.new.ports.slots.items in
    let p = boot app before in
    let schedule = c.args.schedule.now in
    let other = c.in_ok-machine.machine.held.app in
    let (part, same) = by_halt (part_from other p schedule) (run_from other p schedule) c.in-Err-NoMemory.field-0 NoMemoryHalt c.follow.new.machine after c.in-Err-NoMemory.field-0-is
    (c.in-Err-NoMemory.ensures.follow p (c.in_ok-machine.ensures.at before)) in
    (part, same ∙ ap (λ (a : App). (state_of (part_from a p schedule part)).ports) c.in_ok-machine.ensures.app)

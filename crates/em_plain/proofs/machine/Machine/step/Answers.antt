use Rattle.std.proofs.Common.{OnOk, ◌≡◌, ◌∙◌, ◌+◌, ◌++◌, ◌<◌, ◌^◌, All, None, length, map, sym, ap, subst}
use Rattle.std.proofs.lemmas.Result.{on_ok_weaker}
use Rattle.std.specs.Option.{option_map}
use Rattle.em_base.specs.declared.apps.App.{App}
use Rattle.em_ports.specs.Ports.{Places}
use Rattle.em_gate.specs.Effects.{after_outcome, after_step, line_by, option_list}
use Rattle.em_gate.specs.Outcome.{Outcome, outcome}
use Rattle.em_gate.specs.Selecting.{plain_selected}
use Rattle.em_gate.specs.State.{Plain, task_at}
use Rattle.em_system.specs.Asked.{IsGranted, after_asking, taken_of}
use Rattle.em_system.specs.declared.stepping.Taken.TheVariants.{Ran}
use Rattle.em_system.specs.Standings.{number_of}
use Rattle.em_system.proofs.Parts.{inside_of}
use Rattle.em_system.specs.Held.{Held, Holds, selected_of, tasks_of}
use Rattle.em_system.specs.Promises.{promises_after}
use Rattle.em_system.specs.Sound.{IsSound}
use Rattle.em_plain.specs.Boards.{AreBoards, AreReady}
use Rattle.em_plain.specs.Reached.{IsAt, Reached}
use Rattle.em_plain.proofs.Reached.{line_more, line_none, lines_of_step}
use Rattle.em_plain.proofs.Boarding.{ready_more}
use Rattle.em_plain.proofs.Transfers.{asking_ports, stays, told_so}
use Rattle.em_plain.proofs.machine.Machine.step.Goals as goal

-- ---- what the step asks for

pub carry_out-line-requires : goal.carry_out-line-requires
carry_out-line-requires g c =
    let held : Held = c.self.inside.system in
    let count = c.self.inside.count in
    let selected = sym c.self.invariant.0 ∙ ap (λ (m : Reached). number_of m.selected) c.self.view_is ∙ ap number_of c.requires.selected in
    let few : count < 2 ^ 63 = subst (λ (m : Reached). m.count < 2 ^ 63) (sym c.self.view_is) c.requires.early in
    record {
      exists = λ transfer is. subst (λ (h : Held). c.args.t.0 < length h.threads) (sym (c.step.ensures.asks transfer is)) (inside_of held c.args.t.0 selected);
      granted = λ transfer is. subst (λ (a : App). IsGranted a.table c.args.t.0 transfer) (sym c.step.ensures.app) (c.step.ensures.granted transfer is);
      ready = (count, few, subst (λ (a : App). AreReady a.table count c.self.inside.boards) (sym c.step.ensures.app) c.self.invariant.1);
    }

pub select-self-inside-requires : goal.select-self-inside-requires
select-self-inside-requires g c =
    let n = c.requires.sound.0 in
    let sound = subst (λ (m : Reached). All (IsSound n) (tasks_of m.held.threads)) (sym c.self.view_is) c.requires.sound.2 in
    record { sound = (n + 1, c.carry_out-line.ensures.sound (n + 1) (c.step.ensures.sound n sound)) }

-- ---- an instruction

pub invariant_of-self : goal.invariant_of-self
invariant_of-self g c = (
  c.self.invariant.0 ∙ sym (c.step.ensures.same c.in-Ran.field-0 c.in-Ran.is),
  subst (λ (a : App). AreReady a.table (c.self.inside.count + 1) c.self.inside.boards) (sym c.step.ensures.app)
      (ready_more c.self.inside.system.app.table c.self.inside.count c.self.inside.boards c.self.invariant.1),
)

pub returns-in-Ran-clause-sound : goal.returns-in-Ran-clause-sound
returns-in-Ran-clause-sound g c = λ n sound.
    c.step.ensures.sound n (subst (λ (m : Reached). All (IsSound n) (tasks_of m.held.threads)) (sym c.self.view_is) sound)

pub returns-in-Ran-clause-step : goal.returns-in-Ran-clause-step
returns-in-Ran-clause-step g c = λ p at.
    let seen : Places = map (option_map (λ b. record {
      kind = (goal.Port-dyn g (b.vtable, b.value)).kind_of b.value;
      value = (goal.Port-dyn g (b.vtable, b.value)).shown_value b.value;
    })) c.args.ports.now.slots.items in
    let seen_after : Places = map (option_map (λ b. record {
      kind = (goal.Port-dyn g (b.vtable, b.value)).kind_of b.value;
      value = (goal.Port-dyn g (b.vtable, b.value)).shown_value b.value;
    })) c.step.new.ports.slots.items in
    let inside : Reached = record { held = c.self.inside.system; selected = c.self.inside.selected; boards = c.self.inside.boards; lines = c.self.inside.lines; count = c.self.inside.count } in
    let here : IsAt inside seen p = subst (λ (m : Reached). IsAt m seen p) (sym c.self.view_is) at in
    let app : App = c.self.inside.system.app in
    let t = c.args.t in
    let o : Outcome = outcome app.table app.image.words t.0 p in
    let after : Plain = after_outcome o t p in
    let done = c.step.ensures.step p here.promises here.holds here.ports in
    let ports = asking_ports o t p seen_after done.1 in
    let class = c.in-Ran.field-0 in
    let local = told_so o t p (Ran class) (sym c.in-Ran.is ∙ done.2) in
    let stay = stays o t p c.step.new.self (promises_after app o t.0 p here.promises) c.self.inside.boards None local done.0 here.boards in
    let reached : Reached = record { held = c.step.new.self; selected = c.self.inside.selected; boards = c.self.inside.boards; lines = c.self.inside.lines; count = c.self.inside.count + 1 } in
    let reaches : IsAt reached seen_after after = record {
      promises = promises_after app o t.0 p here.promises;
      holds = stay.0;
      ports = ports;
      boards = stay.1;
      lines = line_none p c.self.inside.lines (line_by o t (task_at p.tasks t.0) p) here.lines stay.2 ∙ lines_of_step o t p;
      selects = here.selects ∙ sym (c.step.ensures.plain p here.promises class here.holds c.in-Ran.is)
          ∙ ap (λ (a : App). plain_selected a.table.tasks after) (sym c.step.ensures.app);
    } in
    subst (λ (a : App). IsAt reached seen_after (after_step a.table a.image.words t p) × (seen_after ≡ (after_step a.table a.image.words t p).ports))
    (ap (λ (m : Reached). m.held.app) c.self.view_is) (reaches, ports)

-- ---- a call or a fault

pub invariant_of-self-in_default : goal.invariant_of-self-in_default
invariant_of-self-in_default g c =
    let same = c.select-self-inside.ensures.same in
    let app = ap (λ (h : Held). h.app) same ∙ c.carry_out-line.ensures.app in
    let ready = c.carry_out-line.ensures.ready c.self.inside.count
    (subst (λ (a : App). AreReady a.table c.self.inside.count c.self.inside.boards) (sym c.step.ensures.app) c.self.invariant.1) in (
      c.select-self-inside.ensures.selected ∙ ap (λ (h : Held). selected_of h) (sym same),
      subst (λ (a : App). AreReady a.table (c.self.inside.count + 1) c.carry_out-line.new.boards) (sym app) ready,
    )

pub returns-in_default-clause-app : goal.returns-in_default-clause-app
returns-in_default-clause-app g c =
    ap (λ (h : Held). h.app) c.select-self-inside.ensures.same ∙ c.carry_out-line.ensures.app ∙ c.step.ensures.app ∙ ap (λ (m : Reached). m.held.app) c.self.view_is

pub returns-in_default-clause-sound : goal.returns-in_default-clause-sound
returns-in_default-clause-sound g c = λ n sound.
    let now = subst (λ (m : Reached). All (IsSound n) (tasks_of m.held.threads)) (sym c.self.view_is) sound in
    subst (λ (h : Held). All (IsSound (n + 1)) (tasks_of h.threads)) (sym c.select-self-inside.ensures.same)
    (c.carry_out-line.ensures.sound (n + 1) (c.step.ensures.sound n now))

pub returns-in_default-clause-step : goal.returns-in_default-clause-step
returns-in_default-clause-step g c = λ p at.
    let seen : Places = map (option_map (λ b. record {
      kind = (goal.Port-dyn g (b.vtable, b.value)).kind_of b.value;
      value = (goal.Port-dyn g (b.vtable, b.value)).shown_value b.value;
    })) c.args.ports.now.slots.items in
    let seen_after : Places = map (option_map (λ b. record {
      kind = (goal.Port-dyn g (b.vtable, b.value)).kind_of b.value;
      value = (goal.Port-dyn g (b.vtable, b.value)).shown_value b.value;
    })) c.step.new.ports.slots.items in
    let inside : Reached = record { held = c.self.inside.system; selected = c.self.inside.selected; boards = c.self.inside.boards; lines = c.self.inside.lines; count = c.self.inside.count } in
    let here : IsAt inside seen p = subst (λ (m : Reached). IsAt m seen p) (sym c.self.view_is) at in
    let app : App = c.self.inside.system.app in
    let t = c.args.t in
    let o : Outcome = outcome app.table app.image.words t.0 p in
    let after : Plain = after_outcome o t p in
    let done = c.step.ensures.step p here.promises here.holds here.ports in
    let ports = asking_ports o t p seen_after done.1 in
    let line = c.carry_out-line.result in
    let same = c.select-self-inside.ensures.same in
    let promises = promises_after app o t.0 p here.promises in
    let code : outcome c.step.new.self.app.table c.step.new.self.app.image.words t.0 p ≡ o = ap (λ (a : App). outcome a.table a.image.words t.0 p) c.step.ensures.app in
    let carried = subst (λ (k : Outcome). Holds c.step.new.self (after_asking k t p) promises → AreBoards c.self.inside.boards p.values → c.step.result ≡ taken_of k t p
    → Holds c.carry_out-line.new.system (after_outcome k t p) promises × AreBoards c.carry_out-line.new.boards (after_outcome k t p).values
    × (line ≡ line_by k t (task_at p.tasks t.0) p)) code (c.carry_out-line.ensures.step p promises) done.0 here.boards done.2 in
    let reached : Reached = record { held = c.select-self-inside.new.self; selected = c.select-self-inside.result; boards = c.carry_out-line.new.boards; lines = c.put_line.new.lines; count = c.self.inside.count + 1 } in
    let reaches : OnOk c.put_line.result (IsAt reached seen_after after) =
    on_ok_weaker c.put_line.result (λ (e : c.put_line.new.lines ≡ c.self.inside.lines ++ option_list line). record {
      promises = promises;
      holds = subst (λ (h : Held). Holds h after promises) (sym same) carried.0;
      ports = ports;
      boards = carried.1;
      lines = line_more p c.self.inside.lines c.put_line.new.lines line (line_by o t (task_at p.tasks t.0) p) here.lines carried.2 e ∙ lines_of_step o t p;
      selects = c.select-self-inside.ensures.plain after promises carried.0 ∙ ap (λ (h : Held). plain_selected h.app.table.tasks after) (sym same);
    }) c.put_line.ensures in
    subst (λ (a : App). OnOk c.put_line.result (IsAt reached seen_after (after_step a.table a.image.words t p)) × (seen_after ≡ (after_step a.table a.image.words t p).ports))
    (ap (λ (m : Reached). m.held.app) c.self.view_is) (reaches, ports)

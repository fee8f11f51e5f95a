use Rattle.std.proofs.Common.{◌∙◌, ◌+◌, All, map, sym, ap, subst}
use Rattle.std.specs.Option.{option_map}
use Rattle.em_base.specs.declared.apps.App.{App}
use Rattle.em_ports.specs.Ports.{Places}
use Rattle.em_gate.specs.Events.{after_event, event_line}
use Rattle.em_gate.specs.Selecting.{plain_selected}
use Rattle.em_gate.specs.State.{Plain}
use Rattle.em_system.specs.Held.{Held, Holds, selected_of, tasks_of}
use Rattle.em_system.specs.Promises.{promises_after_event}
use Rattle.em_system.specs.Sound.{IsSound}
use Rattle.em_plain.specs.Boards.{AreBoards, AreReady}
use Rattle.em_plain.specs.Reached.{IsAt, Reached}
use Rattle.em_plain.proofs.Reached.{event_values, line_more, lines_of_event, taken_part}
use Rattle.em_plain.proofs.machine.Machine.take.Goals as goal

pub returns-then-is_full-clause-take : goal.returns-then-is_full-clause-take
returns-then-is_full-clause-take g c = λ p at. (sym (c.if-is_full.ensures p _ at), at)

pub select-self-inside-requires : goal.select-self-inside-requires
select-self-inside-requires g c =
    let n = c.requires.sound.0 in
    let sound = subst (λ (m : Reached). All (IsSound n) (tasks_of m.held.threads)) (sym c.self.view_is) c.requires.sound.2 in
    record { sound = (n + 1, c.happen-line.ensures.sound n sound) }

pub invariant_of-self : goal.invariant_of-self
invariant_of-self g c =
    let app = ap (λ (h : Held). h.app) c.select-self-inside.ensures.same ∙ c.happen-line.ensures.app in (
      c.select-self-inside.ensures.selected ∙ ap (λ (h : Held). selected_of h) (sym c.select-self-inside.ensures.same),
      subst (λ (a : App). AreReady a.table c.self.inside.count c.self.inside.boards) (sym app) c.self.invariant.1,
    )

pub invariant_of-self-2 : goal.invariant_of-self-2
invariant_of-self-2 g c =
    let app = ap (λ (h : Held). h.app) c.select-self-inside.ensures.same ∙ c.happen-line.ensures.app in (
      c.select-self-inside.ensures.selected ∙ ap (λ (h : Held). selected_of h) (sym c.select-self-inside.ensures.same),
      subst (λ (a : App). AreReady a.table c.self.inside.count c.self.inside.boards) (sym app) c.self.invariant.1,
    )

pub returns-in_err-put_line-clause-sound : goal.returns-in_err-put_line-clause-sound
returns-in_err-put_line-clause-sound g c = λ n sound.
    let now = subst (λ (m : Reached). All (IsSound n) (tasks_of m.held.threads)) (sym c.self.view_is) sound in
    subst (λ (h : Held). All (IsSound (n + 1)) (tasks_of h.threads)) (sym c.select-self-inside.ensures.same) (c.happen-line.ensures.sound n now)

pub returns-in_err-put_line-clause-take : goal.returns-in_err-put_line-clause-take
returns-in_err-put_line-clause-take g c = λ p at.
    let seen : Places = map (option_map (λ b. record {
      kind = (goal.Port-dyn g (b.vtable, b.value)).kind_of b.value;
      value = (goal.Port-dyn g (b.vtable, b.value)).shown_value b.value;
    })) c.args.ports.now.slots.items in
    let inside : Reached = record { held = c.self.inside.system; selected = c.self.inside.selected; boards = c.self.inside.boards; lines = c.self.inside.lines; count = c.self.inside.count } in
    let here : IsAt inside seen p = subst (λ (m : Reached). IsAt m seen p) (sym c.self.view_is) at in
    let done = c.happen-line.ensures.step p here.promises here.holds here.ports in
    taken_part c.args.event p c.from_residual.result _ _ (sym (c.if-is_full.ensures p seen at)) c.from_residual.ensures.0 c.from_residual.ensures.1 done.1

pub returns-clause-sound : goal.returns-clause-sound
returns-clause-sound g c = λ n sound.
    let now = subst (λ (m : Reached). All (IsSound n) (tasks_of m.held.threads)) (sym c.self.view_is) sound in
    subst (λ (h : Held). All (IsSound (n + 1)) (tasks_of h.threads)) (sym c.select-self-inside.ensures.same) (c.happen-line.ensures.sound n now)

pub returns-clause-take : goal.returns-clause-take
returns-clause-take g c = λ p at.
    let seen : Places = map (option_map (λ b. record {
      kind = (goal.Port-dyn g (b.vtable, b.value)).kind_of b.value;
      value = (goal.Port-dyn g (b.vtable, b.value)).shown_value b.value;
    })) c.args.ports.now.slots.items in
    let inside : Reached = record { held = c.self.inside.system; selected = c.self.inside.selected; boards = c.self.inside.boards; lines = c.self.inside.lines; count = c.self.inside.count } in
    let here : IsAt inside seen p = subst (λ (m : Reached). IsAt m seen p) (sym c.self.view_is) at in
    let event = c.args.event in
    let after : Plain = after_event event p in
    let promises = promises_after_event c.self.inside.system.app event p here.promises in
    let done = c.happen-line.ensures.step p here.promises here.holds here.ports in
    let line = c.happen-line.result in
    let same = c.select-self-inside.ensures.same in (
      sym (c.if-is_full.ensures p seen at),
      record {
        promises = promises;
        holds = subst (λ (h : Held). Holds h after promises) (sym same) done.0;
        ports = done.1;
        boards = subst (λ values. AreBoards c.self.inside.boards values) (sym (event_values event p)) here.boards;
        lines = line_more p c.self.inside.lines c.put_line.new.lines line (event_line event p) here.lines done.2 c.in_ok-put_line.ensures ∙ lines_of_event event p;
        selects = c.select-self-inside.ensures.plain after promises done.0 ∙ ap (λ (h : Held). plain_selected h.app.table.tasks after) (sym same);
      },
    )

use Rattle.std.proofs.Common.{◌∙◌, ◌≤◌, length, replicate, None, sym, ap, subst, refl}
use Rattle.std.proofs.lemmas.List.Elements.{All-weaker}
use Rattle.em_base.specs.declared.apps.App.{App}
use Rattle.em_base.specs.Tables.{IsMessage}
use Rattle.em_gate.specs.Boot.{boot}
use Rattle.em_gate.specs.Selecting.{plain_selected}
use Rattle.em_system.specs.Held.{Held, Holds, selected_of}
use Rattle.em_plain.specs.Boards.{AreBoards, AreReady}
use Rattle.em_plain.proofs.Boarding.{first_boards, first_ready}
use Rattle.em_plain.proofs.machine.Machine.boot.Goals as goal

pub invariant_of-result : goal.invariant_of-result
invariant_of-result c =
    let table = c.args.app.now.table in
    let app = ap (λ (h : Held). h.app) c.select-selected.ensures.same ∙ c.in_ok-system.ensures.app in
    let short = All-weaker (IsMessage table.tasks) (λ row. row.words ≤ 16) (λ row is. is.words.1) table.messages c.requires.app.table.messages in (
      c.select-selected.ensures.selected ∙ ap (λ (h : Held). selected_of h) (sym c.select-selected.ensures.same),
      subst (λ (a : App). AreReady a.table 0 c.in_ok-boards.boards) (sym app)
          (subst (AreReady table 0) (sym c.in_ok-boards.ensures) (first_ready table short)),
    )

pub returns-clause-at : goal.returns-clause-at
returns-clause-at c = λ places.
    let app = c.args.app.now in
    let none = replicate (length app.table.tasks) None in
    let same = c.select-selected.ensures.same in
    let holds = c.in_ok-system.ensures.holds places in
    record {
      promises = none;
      holds = subst (λ (h : Held). Holds h (boot app places) none) (sym same) holds;
      ports = refl;
      boards = subst (λ boards. AreBoards boards (boot app places).values) (sym c.in_ok-boards.ensures) (first_boards app.table.messages);
      lines = c.new-2.ensures;
      selects = c.select-selected.ensures.plain (boot app places) none holds
          ∙ ap (λ (h : Held). plain_selected h.app.table.tasks (boot app places)) (sym same);
    }

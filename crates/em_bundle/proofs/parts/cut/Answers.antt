use Rattle.std.proofs.Common.{◌∙◌, arith, sym}
use Rattle.std.specs.Str.Lines.{lines}
use Rattle.em_bundle.specs.Parts.{IsUncut}
use Rattle.em_bundle.proofs.CutSteps.{HasAll, HasCode, HasTable, all-cut, no-code, no-schedule, no-script, no-table, none-left, one-more, same-parts, script-found}
use Rattle.em_bundle.proofs.PartsCut.{handed-on}
use Rattle.em_bundle.proofs.parts.cut.Goals as goal

pub returns-in_err-table-clause-refused : goal.returns-in_err-table-clause-refused
returns-in_err-table-clause-refused c =
    let texts = lines c.args.text.now in
    handed-on (IsUncut c.args.replay texts) c.from_residual.result c.in_err-table.field-0.0 c.from_residual.ensures.0 c.from_residual.ensures.1
    (no-table c.args.replay texts c.in_err-table.field-0.0 (sym c.is_headed.ensures ∙ c.if-not-is_headed.false) c.in_err-table.ensures.refused)

pub returns-in_err-code-clause-refused : goal.returns-in_err-code-clause-refused
returns-in_err-code-clause-refused c =
    let texts = lines c.args.text.now in
    let table = c.in_ok-table.table in
    let first : HasTable texts (lines table.rest.now) (lines table.text.now)
    = record { headed = sym c.is_headed.ensures ∙ c.if-not-is_headed.false; parted = c.in_ok-table.ensures.part } in
    handed-on (IsUncut c.args.replay texts) c.from_residual-in_err-code.result c.in_err-code.field-0.0 c.from_residual-in_err-code.ensures.0 c.from_residual-in_err-code.ensures.1
    (no-code c.args.replay texts (lines table.rest.now) (lines table.text.now) table.next c.in_err-code.field-0.0 first (omega (arith, c.in_ok-table.ensures.next)) c.in_err-code.ensures.refused)

pub returns-in_err-script-clause-refused : goal.returns-in_err-script-clause-refused
returns-in_err-script-clause-refused c =
    let texts = lines c.args.text.now in
    let table = c.in_ok-table.table in
    let code = c.in_ok-code.code in
    let second : HasCode texts (lines code.rest.now) (lines table.text.now) (lines code.text.now)
    = record {
      middle = lines table.rest.now;
      before = record { headed = sym c.is_headed.ensures ∙ c.if-not-is_headed.false; parted = c.in_ok-table.ensures.part };
      parted = c.in_ok-code.ensures.part;
    } in
    handed-on (IsUncut c.args.replay texts) c.from_residual-in_err-script.result c.in_err-script.field-0.0 c.from_residual-in_err-script.ensures.0 c.from_residual-in_err-script.ensures.1
    (no-script c.args.replay texts (lines code.rest.now) (lines table.text.now) (lines code.text.now) code.next c.in_err-script.field-0.0 second
    (omega (arith, c.in_ok-table.ensures.next, c.in_ok-code.ensures.next)) c.in_err-script.ensures.refused)

pub returns-in_err-schedule-clause-refused : goal.returns-in_err-schedule-clause-refused
returns-in_err-schedule-clause-refused c =
    let texts = lines c.args.text.now in
    let table = c.in_ok-table.table in
    let code = c.in_ok-code.code in
    let script = c.in_ok-script.script in
    let third
    = script-found texts (lines table.rest.now) (lines code.rest.now) (lines script.rest.now) (lines table.text.now) (lines code.text.now) (lines script.text.now)
    (sym c.is_headed.ensures ∙ c.if-not-is_headed.false) c.in_ok-table.ensures.part c.in_ok-code.ensures.part c.in_ok-script.ensures.part in
    handed-on (IsUncut c.args.replay texts) c.from_residual-in_err-schedule.result c.in_err-schedule.field-0.0 c.from_residual-in_err-schedule.ensures.0 c.from_residual-in_err-schedule.ensures.1
    (no-schedule c.args.replay texts (lines script.rest.now) (lines table.text.now) (lines code.text.now) (lines script.text.now) script.next c.in_err-schedule.field-0.0 third
    (omega (arith, c.in_ok-table.ensures.next, c.in_ok-code.ensures.next, c.in_ok-script.ensures.next)) c.in_err-schedule.ensures.refused)

pub returns-then-is_some-clause-refused : goal.returns-then-is_some-clause-refused
returns-then-is_some-clause-refused c =
    let texts = lines c.args.text.now in
    let table = c.in_ok-table.table in
    let code = c.in_ok-code.code in
    let script = c.in_ok-script.script in
    let schedule = c.in_ok-schedule.schedule in
    let third
    = script-found texts (lines table.rest.now) (lines code.rest.now) (lines script.rest.now) (lines table.text.now) (lines code.text.now) (lines script.text.now)
    (sym c.is_headed.ensures ∙ c.if-not-is_headed.false) c.in_ok-table.ensures.part c.in_ok-code.ensures.part c.in_ok-script.ensures.part in
    let all : HasAll c.args.replay texts (lines script.rest.now) (lines schedule.rest.now) (lines table.text.now) (lines code.text.now) (lines script.text.now) (lines schedule.text.now)
    = record { before = third; parted = c.in_ok-schedule.ensures.part } in
    one-more c.args.replay texts (lines script.rest.now) (lines table.text.now) (lines code.text.now) (lines script.text.now) (lines schedule.text.now) schedule.rest.now schedule.next
    c.next_line.result c.at-then-is_some.result all
    (omega (arith, c.in_ok-table.ensures.next, c.in_ok-code.ensures.next, c.in_ok-script.ensures.next, c.in_ok-schedule.ensures.next))
    (sym c.is_some.ensures ∙ c.if-is_some.true) c.next_line.ensures.first c.at-then-is_some.ensures

pub returns-clause-cut : goal.returns-clause-cut
returns-clause-cut c =
    let texts = lines c.args.text.now in
    let table = c.in_ok-table.table in
    let code = c.in_ok-code.code in
    let script = c.in_ok-script.script in
    let schedule = c.in_ok-schedule.schedule in
    let third
    = script-found texts (lines table.rest.now) (lines code.rest.now) (lines script.rest.now) (lines table.text.now) (lines code.text.now) (lines script.text.now)
    (sym c.is_headed.ensures ∙ c.if-not-is_headed.false) c.in_ok-table.ensures.part c.in_ok-code.ensures.part c.in_ok-script.ensures.part in
    let all : HasAll c.args.replay texts (lines script.rest.now) (lines schedule.rest.now) (lines table.text.now) (lines code.text.now) (lines script.text.now) (lines schedule.text.now)
    = record { before = third; parted = c.in_ok-schedule.ensures.part } in
    let left = none-left c.next_line.result schedule.rest.now (sym c.is_some.ensures ∙ c.if-is_some.false) c.next_line.ensures.first in
    (all-cut c.args.replay texts (lines script.rest.now) (lines schedule.rest.now) (lines table.text.now) (lines code.text.now) (lines script.text.now) (lines schedule.text.now) all left).cut

pub returns-clause-parts : goal.returns-clause-parts
returns-clause-parts c =
    let texts = lines c.args.text.now in
    let table = c.in_ok-table.table in
    let code = c.in_ok-code.code in
    let script = c.in_ok-script.script in
    let schedule = c.in_ok-schedule.schedule in
    let third
    = script-found texts (lines table.rest.now) (lines code.rest.now) (lines script.rest.now) (lines table.text.now) (lines code.text.now) (lines script.text.now)
    (sym c.is_headed.ensures ∙ c.if-not-is_headed.false) c.in_ok-table.ensures.part c.in_ok-code.ensures.part c.in_ok-script.ensures.part in
    let all : HasAll c.args.replay texts (lines script.rest.now) (lines schedule.rest.now) (lines table.text.now) (lines code.text.now) (lines script.text.now) (lines schedule.text.now)
    = record { before = third; parted = c.in_ok-schedule.ensures.part } in
    let left = none-left c.next_line.result schedule.rest.now (sym c.is_some.ensures ∙ c.if-is_some.false) c.next_line.ensures.first in
    let parted = all-cut c.args.replay texts (lines script.rest.now) (lines schedule.rest.now) (lines table.text.now) (lines code.text.now) (lines script.text.now) (lines schedule.text.now) all left in
    same-parts c.args.replay texts (lines table.text.now) (lines code.text.now) (lines script.text.now) (lines schedule.text.now) table.next code.next script.next parted
    (omega (arith, c.in_ok-table.ensures.next)) (omega (arith, c.in_ok-table.ensures.next, c.in_ok-code.ensures.next))
    (omega (arith, c.in_ok-table.ensures.next, c.in_ok-code.ensures.next, c.in_ok-script.ensures.next))

pub returns-clause-counted : goal.returns-clause-counted
returns-clause-counted c =
    let texts = lines c.args.text.now in
    let table = c.in_ok-table.table in
    let code = c.in_ok-code.code in
    let script = c.in_ok-script.script in
    let schedule = c.in_ok-schedule.schedule in
    let third
    = script-found texts (lines table.rest.now) (lines code.rest.now) (lines script.rest.now) (lines table.text.now) (lines code.text.now) (lines script.text.now)
    (sym c.is_headed.ensures ∙ c.if-not-is_headed.false) c.in_ok-table.ensures.part c.in_ok-code.ensures.part c.in_ok-script.ensures.part in
    let all : HasAll c.args.replay texts (lines script.rest.now) (lines schedule.rest.now) (lines table.text.now) (lines code.text.now) (lines script.text.now) (lines schedule.text.now)
    = record { before = third; parted = c.in_ok-schedule.ensures.part } in
    let left = none-left c.next_line.result schedule.rest.now (sym c.is_some.ensures ∙ c.if-is_some.false) c.next_line.ensures.first in
    let parted = all-cut c.args.replay texts (lines script.rest.now) (lines schedule.rest.now) (lines table.text.now) (lines code.text.now) (lines script.text.now) (lines schedule.text.now) all left in (
      omega (arith, parted.enough, c.in_ok-table.ensures.next),
      omega (arith, parted.enough, c.in_ok-table.ensures.next, c.in_ok-code.ensures.next),
      omega (arith, parted.enough, c.in_ok-table.ensures.next, c.in_ok-code.ensures.next, c.in_ok-script.ensures.next),
    )

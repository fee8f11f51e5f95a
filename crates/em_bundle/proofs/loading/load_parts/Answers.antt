use Rattle.std.proofs.Common.{◌∙◌, ap, arith, length}
use Rattle.std.specs.Str.Lines.{lines}
use Rattle.em_bundle.proofs.CodeLines.{length-text}
use Rattle.em_bundle.specs.Application.{IsPartsFail}
use Rattle.em_bundle.specs.Walk.{part_lines}
use Rattle.em_bundle.proofs.Loaded.{hints-fail, image-fails, schedule-fails, script-fails}
use Rattle.em_bundle.proofs.PartsCut.{handed-on}
use Rattle.em_bundle.proofs.loading.load_parts.Goals as goal

pub returns-in_err-script-clause-refused : goal.returns-in_err-script-clause-refused
returns-in_err-script-clause-refused c =
    let parts = part_lines c.args.parts.now in
    handed-on (IsPartsFail c.args.replay parts) c.from_residual-in_err-script.result c.in_err-script.field-0.0 c.from_residual-in_err-script.ensures.0 c.from_residual-in_err-script.ensures.1
    (script-fails c.args.replay parts c.in_ok-table.table c.in_ok-image.image c.in_err-script.field-0.0
    (record {
      readable = record { tabled = c.in_ok-table.ensures.table; shallow = c.in_ok-table.ensures.shallow };
      coded = c.in_ok-image.ensures.image;
      entries = c.in_ok-image.ensures.entries;
    })
    c.in_ok-hints.ensures.right c.in_err-script.ensures.refused)

pub returns-in_err-image-clause-refused : goal.returns-in_err-image-clause-refused
returns-in_err-image-clause-refused c =
    let parts = part_lines c.args.parts.now in
    handed-on (IsPartsFail c.args.replay parts) c.from_residual-in_err-image.result c.in_err-image.field-0.0 c.from_residual-in_err-image.ensures.0 c.from_residual-in_err-image.ensures.1
    (image-fails c.args.replay parts c.in_ok-table.table c.in_err-image.field-0.0
    (record { tabled = c.in_ok-table.ensures.table; shallow = c.in_ok-table.ensures.shallow }) c.in_err-image.ensures.refused)

pub returns-in_err-schedule-clause-refused : goal.returns-in_err-schedule-clause-refused
returns-in_err-schedule-clause-refused c =
    let parts = part_lines c.args.parts.now in
    handed-on (IsPartsFail c.args.replay parts) c.from_residual-in_err-schedule.result c.in_err-schedule.field-0.0 c.from_residual-in_err-schedule.ensures.0
    c.from_residual-in_err-schedule.ensures.1
    (schedule-fails c.args.replay parts c.in_ok-table.table c.in_ok-image.image c.in_ok-script.script c.in_err-schedule.field-0.0
    (record {
      readable = record { tabled = c.in_ok-table.ensures.table; shallow = c.in_ok-table.ensures.shallow };
      coded = c.in_ok-image.ensures.image;
      entries = c.in_ok-image.ensures.entries;
    })
    c.in_ok-hints.ensures.right c.in_ok-script.ensures.script c.in_err-schedule.ensures.refused)

pub returns-in_err-hints-clause-refused : goal.returns-in_err-hints-clause-refused
returns-in_err-hints-clause-refused c =
    let parts = part_lines c.args.parts.now in
    handed-on (IsPartsFail c.args.replay parts) c.from_residual-in_err-hints.result c.in_err-hints.field-0.0 c.from_residual-in_err-hints.ensures.0
    c.from_residual-in_err-hints.ensures.1
    (hints-fail c.args.replay parts c.in_ok-table.table c.in_ok-image.image c.in_err-hints.field-0.0
    (record {
      readable = record { tabled = c.in_ok-table.ensures.table; shallow = c.in_ok-table.ensures.shallow };
      coded = c.in_ok-image.ensures.image;
      entries = c.in_ok-image.ensures.entries;
    })
    c.in_err-hints.ensures.refused)

pub returns-clause-few : goal.returns-clause-few
returns-clause-few c =
    let same = ap (λ text. length (lines text)) (c.from-code_text.ensures ∙ c.in_ok-with_line_feeds.ensures) in
    omega (arith, same, length-text c.args.parts.now.code.now, c.requires.code)

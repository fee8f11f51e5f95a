use Rattle.std.proofs.Common.{rules, ◌∙◌, ap, sym}
use Rattle.em_hart.specs.Decoded.{is_signed, width_of}
use Rattle.em_hart.specs.Effect.{loads}
use Rattle.em_hart.specs.Widths.{bytes_in}
use Rattle.em_hart.proofs.Signs.{moved}
use Rattle.em_scan.specs.Computed.{next_of}
use Rattle.em_scan.specs.Known.{known_of}
use Rattle.em_scan.specs.Private.{next_by, value_known}
use Rattle.em_scan.proofs.instructions.next_of.Goals as goal

pub returns-in-Load : goal.returns-in-Load
returns-in-Load c =
    let code = c.args.code.now in
    let sems = c.args.bounds.sems in
    let own = c.args.bounds.own in
    let known = c.args.known.now.values in
    let first = known_of known c.in-Load.rs1 in
    let address = moved c.value.result (value_known known c.in-Load.rs1) c.cast_unsigned-in-Load.result c.in-Load.imm (search rules) c.value.ensures c.cast_unsigned-in-Load.ensures in
    c.after_load.ensures code known first (sym c.has.ensures)
    ∙ ap (λ a. next_by code sems own known c.args.x first (loads (is_signed c.in-Load.op) (bytes_in (width_of c.in-Load.op)) a)) address
    ∙ ap (next_of code sems own known c.args.x) (sym c.in-Load.is)

use Rattle.std.proofs.Common.{ℕ, sym, ap, ◌∙◌}
use Rattle.em_hart.specs.declared.answers.Class.TheVariants.{Memory as MemoryClass}
use Rattle.em_hart.specs.declared.widths.Width.{Width}
use Rattle.em_hart.specs.Hart.{Registers, with_register}
use Rattle.em_hart.specs.Widths.{bytes_in}
use Rattle.em_hart.specs.Instruction.{Ran, next_registers, load_value}
use Rattle.em_hart.specs.Decoded.{is_signed, width_of, read_of}
use Rattle.em_hart.proofs.AnswersReport.{ran, unchanged, load_ran, load_refused}
use Rattle.em_hart.proofs.accesses.load.Goals as goal

pub returns-in-Ok : goal.returns-in-Ok
returns-in-Ok c =
    let op = c.args.op in
    let r = c.args.regs.now in
    let o = c.args.own.now in
    let m = c.args.shared.now in
    let w = c.width_of-width.ensures in
    let d = c.args.rd in
    let read = ap (λ (x : Width). read_of o m (bytes_in x) c.args.address) (sym w) ∙ sym c.read.ensures.number ∙ c.in-Ok.is in
    let value = c.read_value-value.ensures ∙ ap (λ (x : Width). load_value (is_signed op) (bytes_in x) c.in-Ok.number) w in
    let after = c.write_and_go_on.ensures.whole ∙ ap (λ (x : ℕ). next_registers (with_register r d x)) value in
    ran _ MemoryClass _ r _ o m o m c.write_and_go_on.ensures.answer
    (load_ran (is_signed op) (bytes_in (width_of op)) c.args.address d c.in-Ok.number r o m read
    ∙ sym (ap (λ (x : Registers). Ran MemoryClass x o m) after))

pub returns-in-Err : goal.returns-in-Err
returns-in-Err c =
    let op = c.args.op in
    let r = c.args.regs.now in
    let o = c.args.own.now in
    let m = c.args.shared.now in
    let w = c.width_of-width.ensures in
    let read = ap (λ (x : Width). read_of o m (bytes_in x) c.args.address) (sym w) ∙ sym c.read.ensures.number ∙ c.in-Err.is in
    (load_refused (is_signed op) (bytes_in (width_of op)) c.args.address c.args.rd c.in-Err.cause r o m read, unchanged r o m)

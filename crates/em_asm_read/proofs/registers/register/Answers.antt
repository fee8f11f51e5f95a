use Rattle.std.proofs.Common.{sym, ap, ◌∙◌}
use Rattle.std.specs.Str.{bytes_eq}
use Rattle.em_asm_read.proofs.Naming.{register_of-fp, register_of-numbered, register_of-by_use}
use Rattle.em_asm_read.proofs.registers.register.Goals as goal

pub returns-then-eq-clause-value : goal.returns-then-eq-clause-value
returns-then-eq-clause-value c = register_of-fp c.args.text.now (ap (bytes_eq c.args.text.now) (sym c.as_slice.ensures) ∙ sym c.eq.ensures ∙ c.if-eq.true)

pub returns-in-Some-clause-value : goal.returns-in-Some-clause-value
returns-in-Some-clause-value c = register_of-numbered c.args.text.now c.in-Some.register
    (ap (bytes_eq c.args.text.now) (sym c.as_slice.ensures) ∙ sym c.eq.ensures ∙ c.if-eq.false)
    (sym c.register_among.ensures.place ∙ c.in-Some.is)

pub returns-in-None-clause-value : goal.returns-in-None-clause-value
returns-in-None-clause-value c =
    c.register_among-in-None.ensures.place
    ∙ register_of-by_use c.args.text.now
    (ap (bytes_eq c.args.text.now) (sym c.as_slice.ensures) ∙ sym c.eq.ensures ∙ c.if-eq.false)
    (sym c.register_among.ensures.place ∙ c.in-None.is)

use Rattle.std.proofs.Common.{ℕ, Bool, rules, sym, ap, ◌∙◌}
use Rattle.std.specs.Prelude.{FitsSigned}
use Rattle.std.specs.Int.{w32}
use Rattle.em_hart.specs.Decoded.{operation_value}
use Rattle.em_hart.proofs.Signs.{signed_shift}
use Rattle.em_hart.proofs.operations.operation_value.Goals as goal

pub returns-in-5 : goal.returns-in-5
unfolding operation_value
returns-in-5 c =
    let fits : FitsSigned w32 c.cast_signed-in-5.result = search rules in
    signed_shift c.args.a c.args.b c.cast_unsigned.result c.cast_signed-in-5.result fits c.cast_signed-in-5.ensures c.cast_unsigned.ensures
    ∙ sym (ap (λ (op : ℕ). operation_value op c.args.alt c.args.a c.args.b) c.in-5.is ∙ ap (λ (alt : Bool). operation_value 5 alt c.args.a c.args.b) c.if-alt-2.true)

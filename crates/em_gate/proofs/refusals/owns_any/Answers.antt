use Rattle.std.proofs.Common.{◌<◌, ◌^◌, rules}
use Rattle.em_gate.proofs.Bits.{some_bit}
use Rattle.em_gate.proofs.refusals.owns_any.Goals as goal

pub returns : goal.returns
returns c =
    let small : c.args.owned < 2 ^ 32 = search rules in
    some_bit c.args.owned small

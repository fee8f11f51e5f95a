use Rattle.std.proofs.Common.{◌≡◌, rules}
use Rattle.em_asm_read.specs.Operands.{in_range}
use Rattle.em_asm_read.proofs.NumbersInRange.{read_some, read_none}
use Rattle.em_asm_read.proofs.operands.ranged_number.Goals as goal

pub returns-in-Some-clause-value : goal.returns-in-Some-clause-value
returns-in-Some-clause-value c =
    let same : c.in_range.result ≡ in_range c.args.low c.args.high c.in-Some.found = search rules in
    read_some c.args.text.now c.args.low c.args.high c.in-Some.found c.in_range.result c.in-Some.ensures.spelled same

pub returns-in-None-clause-value : goal.returns-in-None-clause-value
returns-in-None-clause-value c = read_none c.args.text.now c.args.low c.args.high c.ranges.low c.ranges.high c.in-None.ensures.exact

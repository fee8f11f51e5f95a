use Rattle.std.proofs.Common.{length, arith}
use Rattle.em_system.proofs.Words.{are_inside}
use Rattle.em_system.proofs.transfers.word_number.Goals as goal

pub overflow_sub-result : goal.overflow_sub-result
overflow_sub-result c =
    let i = are_inside (length c.args.own.now.bytes) c.requires.inside.0 c.args.at c.requires.inside.2 in
    omega (arith, i.from)

pub returns-clause-place : goal.returns-clause-place
returns-clause-place c =
    let i = are_inside (length c.args.own.now.bytes) c.requires.inside.0 c.args.at c.requires.inside.2 in
    omega (arith, i.aligned, i.from, c.requires.base)

pub returns-clause-within : goal.returns-clause-within
returns-clause-within c =
    let i = are_inside (length c.args.own.now.bytes) c.requires.inside.0 c.args.at c.requires.inside.2 in
    omega (arith, i.aligned, i.from, i.to, c.requires.inside.1)

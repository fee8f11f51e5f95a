use Rattle.std.proofs.Common.{length, arith}
use Rattle.std.proofs.lemmas.List.FromFn.{fill_by_all}
use Rattle.em_system.specs.Windows.{core_in, own_word}
use Rattle.em_plain.proofs.board.copy_words.Goals as goal

pub own_word-requires-clause-inside : goal.own_word-requires-clause-inside
own_word-requires-clause-inside c = (length c.args.words.now, omega (arith, c.loop-i-test.true), c.requires.inside)

pub returns-clause-words : goal.returns-clause-words
returns-clause-words c =
    fill_by_all (λ k. own_word (core_in c.args.system.now.threads c.args.t.0) c.args.at k) c.loop-i.words (length c.args.words.now) 0
    c.loop-i.invariant.0 (λ k h. c.loop-i.invariant.1 k (omega (arith, h, c.loop-i-test.false)))

use Rattle.std.proofs.Common.{◌≡◌, ◌∙◌, length, slice_index_or, true, sym, ap, subst, arith}
use Rattle.em_gate.specs.Calls.{is_in_own}
use Rattle.em_system.specs.Held.{Held}
use Rattle.em_system.specs.Windows.{held_word_put}
use Rattle.em_plain.proofs.Splices.{word_more}
use Rattle.em_plain.proofs.board.put_words.Goals as goal

pub put_own_word-requires-clause-inside : goal.put_own_word-requires-clause-inside
put_own_word-requires-clause-inside c = (
  length c.args.words.now,
  omega (arith, c.loop-i-test.true),
  subst (λ own. is_in_own own (length c.args.words.now) c.args.at ≡ true) (sym (ap (λ (h : Held). h.app.table.own) c.loop-i.invariant.0)) c.requires.inside,
)

pub loop-i-preserved : goal.loop-i-preserved
loop-i-preserved c = (
  c.put_own_word.ensures.whole
      ∙ ap (λ k. held_word_put c.args.t.0 c.args.at c.loop-i.i (slice_index_or c.args.words.now k 0) c.loop-i.system) c.from.ensures
      ∙ word_more c.args.t.0 c.args.at c.loop-i.i c.args.words.now c.args.system.now c.loop-i.system (omega (arith, c.loop-i-test.true)) c.requires.exists c.loop-i.invariant.0,
  λ n sound. c.put_own_word.ensures.sound n (c.loop-i.invariant.1 n sound),
)

use Rattle.std.proofs.Common.{◌≡◌, ◌<◌, ◌∙◌, length, drop, nat_eq, true, false, sym, ap, arith}
use Rattle.std.proofs.lemmas.Bool.Decides.{nat_tests}
use Rattle.std.specs.List.{before_first, position_or_len}
use Rattle.em_base.specs.Text.{is_space}
use Rattle.em_script.proofs.FirstWord.{no-word, some-word}
use Rattle.em_script.proofs.lines.first_word.Goals as goal

pub returns-then-is_empty : goal.returns-then-is_empty
returns-then-is_empty c =
    let empty : nat_eq (length c.split_word.result.0.now) 0 ≡ true = sym c.is_empty.ensures ∙ c.if-is_empty.true in
    let none : length c.split_word.result.0.now ≡ 0 = grind (arith, nat_tests) in
    no-word c.args.text.now (sym (ap length (c.split_word.ensures.word ∙ ap (before_first is_space) c.skip_blanks.ensures)) ∙ none)

pub returns-else-is_empty : goal.returns-else-is_empty
returns-else-is_empty c =
    let full : nat_eq (length c.split_word.result.0.now) 0 ≡ false = sym c.is_empty.ensures ∙ c.if-is_empty.false in
    let some : 0 < length c.split_word.result.0.now = grind (arith, nat_tests) in
    some-word c.args.text.now c.split_word.result.0.now c.split_word.result.1.now
    (c.split_word.ensures.word ∙ ap (before_first is_space) c.skip_blanks.ensures)
    (c.split_word.ensures.rest ∙ ap (λ t. drop (position_or_len is_space t) t) c.skip_blanks.ensures) some

use Rattle.std.proofs.Common.{◌≡◌, ◌∙◌, sym, get_or, length, lit<, arith}
use Rattle.std.proofs.lemmas.Str.Pattern.{starts_char}
use Rattle.em_trace.proofs.SpelledNumbers.{count-digits, count-none, no_numeral, no_zero}
use Rattle.em_trace.proofs.words.count_of.Goals as goal
use Rattle.em_trace.proofs.words.count_of.Goals.{else-text-gt1-via-then-text-gt1+else-starts_with, else-text-gt1-via-else-text-gt1}

pub returns-then-starts_with : goal.returns-then-starts_with
returns-then-starts_with c =
    let text = c.args.text.now in
    let first = (starts_char 48 text c.starts_with.result c.starts_with.ensures.cases (lit< tt) (lit< tt)).0 c.if-starts_with.true in
    sym (count-none text (λ n small e. no_zero text n c.if-text-gt1.true first small e))

pub returns-in_err-digits_number : goal.returns-in_err-digits_number
returns-in_err-digits_number c =
    let text = c.args.text.now in
    c.from_residual.ensures ∙ sym (count-none text (λ n small e. no_numeral text n c.in_err-digits_number.ensures small e))

pub returns : goal.returns
returns c =
    let text = c.args.text.now in
    let read = c.in_ok-digits_number.ensures in
    let first : get_or text 0 0 ≡ 48 → length text ≡ 1 = λ zero. elim c.else-text-gt1.branch [
      | else-text-gt1-via-then-text-gt1+else-starts_with w ↦ absurd (cc (w.if-starts_with.false, (starts_char 48 text w.starts_with.result w.starts_with.ensures.cases (lit< tt) (lit< tt)).1 zero))
      | else-text-gt1-via-else-text-gt1 w ↦ omega (arith, read)
    ] in
    c.ok.ensures.value ∙ count-digits text c.in_ok-digits_number.field-0 c.try_from.result read.0.0 read.1 first c.try_from.ensures

use Rattle.std.proofs.Common.{◌≡◌, ◌∙◌, false, lit<}
use Rattle.std.proofs.lemmas.Str.Pattern.{starts_char}
use Rattle.em_bundle.specs.Parts.{is_header}
use Rattle.em_bundle.proofs.Walked.{not-headed, walk-begins, walk-next}
use Rattle.em_bundle.proofs.parts.skip_to_header.Goals as goal

pub lines-init : goal.lines-init
lines-init c = record { walked = walk-begins c.args.text.now; text = c.utf8.text }

pub starts_with-requires-text-self : goal.starts_with-requires-text-self
starts_with-requires-text-self c = λ _. c.lines.invariant.text

pub next_line-requires-text-text : goal.next_line-requires-text-text
next_line-requires-text-text c = λ _. c.lines.invariant.text

pub lines-preserved : goal.lines-preserved
lines-preserved c =
    let rest = c.lines.rest.now in
    let plain : is_header rest ≡ false
    = not-headed rest c.starts_with.result (starts_char 37 rest c.starts_with.result c.starts_with.ensures.cases (lit< tt) (lit< tt)) c.lines-test.true in
    record {
      walked = walk-next _ rest c.in-Some.field-0-0.now c.in-Some.after.now c.lines.invariant.walked c.in-Some.ensures.first (c.in-Some.ensures.first.headed ∙ plain);
      text = c.in-Some.ensures.utf8;
    }

pub returns-after-lines-text : goal.returns-after-lines-text
returns-after-lines-text c = c.lines.invariant.text

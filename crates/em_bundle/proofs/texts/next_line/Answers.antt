use Rattle.std.proofs.Common.{◌<◌, [], arith, length, lit<, refl}
use Rattle.std.proofs.lemmas.Bool.Decides.{nat_tests}
use Rattle.std.proofs.lemmas.Str.Pattern.{split_parts, strip_prefix_char}
use Rattle.em_bundle.proofs.TextLines.{first-feed, first-last, no-feed}
use Rattle.em_bundle.proofs.texts.next_line.Goals as goal

pub returns-in-Some-clause-first : goal.returns-in-Some-clause-first
returns-in-Some-clause-first c =
    let parts = strip_prefix_char 10 c.args.text.now c.strip_prefix.result c.strip_prefix.ensures.cases (lit< tt) in
    let front = rw c.in-Some.is at parts in
    first-feed c.args.text.now [] c.in-Some.rest.now [] front (λ i d within. absurd (omega arith)) refl

pub returns-in-Some-split_once-clause-first : goal.returns-in-Some-split_once-clause-first
returns-in-Some-split_once-clause-first c =
    let parts = split_parts 10 c.args.text.now c.split_once.result c.split_once.ensures.cases (lit< tt) in
    let found = rw c.in-Some-split_once.is at parts in
    first-feed c.args.text.now c.in-Some-split_once.line.now c.in-Some-split_once.rest.now c.without_return.result.now found.0 (no-feed c.in-Some-split_once.line.now found.1) c.without_return.ensures

pub returns-else-is_empty-clause-first : goal.returns-else-is_empty-clause-first
returns-else-is_empty-clause-first c =
    let parts = split_parts 10 c.args.text.now c.split_once.result c.split_once.ensures.cases (lit< tt) in
    let none = rw c.in-None.is at parts in
    let some : 0 < length c.args.text.now = grind (arith, nat_tests, c.is_empty.ensures, c.if-is_empty.false) in
    first-last c.args.text.now (no-feed c.args.text.now none) some

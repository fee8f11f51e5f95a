use Rattle.std.proofs.Common.{◌∙◌, sym, ap, not, List, ℕ}
use Rattle.std.specs.List.{list_all}
use Rattle.em_base.specs.Text.{texts_of}
use Rattle.em_table.specs.Tests.{is_of_background}
use Rattle.em_table.proofs.MappedTests.{all-map}
use Rattle.em_table.proofs.across.is_urgent.Goals as goal
use mathlib.Core.Bool.{◌&&◌}

pub returns-then-not-is_of_background : goal.returns-then-not-is_of_background
returns-then-not-is_of_background c =
    let test = λ (name : List ℕ). not (is_of_background c.args.rows.now name) in
    let readers = c.args.message.now.readers.items in
    c.are_not_of_background.ensures ∙ (ap (list_all (λ name. test name.now)) c.as_slice.ensures.value ∙ (all-map test (λ name. name.now) readers
    ∙ sym (ap (λ b. not b && list_all test (texts_of readers)) (sym c.is_of_background.ensures ∙ c.if-not-is_of_background.true))))

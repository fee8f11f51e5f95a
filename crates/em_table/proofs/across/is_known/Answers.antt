use Rattle.std.proofs.Common.{◌∙◌, sym, ap}
use Rattle.std.specs.List.{list_all}
use Rattle.em_base.specs.Text.{texts_of}
use Rattle.em_table.specs.Tests.{is_named}
use Rattle.em_table.proofs.MappedTests.{all-map}
use Rattle.em_table.proofs.across.is_known.Goals as goal
use mathlib.Core.Bool.{◌&&◌}

pub returns-then-is_named : goal.returns-then-is_named
returns-then-is_named c =
    let test = is_named c.args.rows.now in
    let readers = c.args.message.now.readers.items in
    c.are_named.ensures ∙ (ap (list_all (λ name. test name.now)) c.as_slice.ensures.value ∙ (all-map test (λ name. name.now) readers
    ∙ sym (ap (λ b. b && list_all test (texts_of readers)) (sym c.is_named.ensures ∙ c.if-is_named.true))))

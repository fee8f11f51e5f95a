use Rattle.std.proofs.Common.{◌≡◌, ◌∙◌, ◌∷◌, [], Some, None, true, false, ap, sym, not, nat_eq, codes}
use Rattle.toml.specs.Data.{get_member}
use Rattle.toml.specs.View.{table_view}
use Rattle.em_base.specs.declared.ids.SemId.{SemId}
use Rattle.em_table.specs.declared.faults.Fault.TheVariants.{Twice}
use Rattle.em_table.specs.Faults.{first_of, unless}
use Rattle.em_table.specs.Reading.{numbers_of}
use Rattle.em_table.specs.Tests.{uses_faults, uses_of}
use Rattle.em_table.specs.Values.{has_repeat, numbers_fault}
use Rattle.em_table.proofs.FirstOfTests.{fails_by, first_after_none}
use Rattle.em_table.proofs.MappedTests.{has_repeat-map}
use Rattle.em_table.proofs.tasks.read_uses.Goals as goal

pub returns-then-has_repeat : goal.returns-then-has_repeat
returns-then-has_repeat c =
    let task = table_view c.args.task.now in
    let same = has_repeat-map nat_eq (λ (semaphore : SemId). semaphore.0) c.as_slice.result.now in
    let uses = ap numbers_of c.as_slice.ensures ∙ c.in_ok-uses.ensures.1 in
    let repeats : has_repeat nat_eq (uses_of task) ≡ true
    = sym (ap (has_repeat nat_eq) uses) ∙ (sym same ∙ (sym c.has_repeat.ensures ∙ c.if-has_repeat.true)) in
    let first : first_of (uses_faults c.args.semaphores task) ≡ Some Twice
    = first_after_none (numbers_fault c.args.semaphores (get_member (codes "uses") task)) _ c.in_ok-uses.ensures.0
    ∙ ap (λ b. first_of (unless (not b) Twice ∷ [])) repeats in
    fails_by _ Twice _ c.into.ensures first

pub returns : goal.returns
returns c =
    let task = table_view c.args.task.now in
    let same = has_repeat-map nat_eq (λ (semaphore : SemId). semaphore.0) c.as_slice.result.now in
    let uses = ap numbers_of c.as_slice.ensures ∙ c.in_ok-uses.ensures.1 in
    let repeats : has_repeat nat_eq (uses_of task) ≡ false
    = sym (ap (has_repeat nat_eq) uses) ∙ (sym same ∙ (sym c.has_repeat.ensures ∙ c.if-has_repeat.false)) in
    let first : first_of (uses_faults c.args.semaphores task) ≡ None
    = first_after_none (numbers_fault c.args.semaphores (get_member (codes "uses") task)) _ c.in_ok-uses.ensures.0
    ∙ ap (λ b. first_of (unless (not b) Twice ∷ [])) repeats in
    (first, c.in_ok-uses.ensures.1)

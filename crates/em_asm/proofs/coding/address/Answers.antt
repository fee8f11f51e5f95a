use Rattle.std.proofs.Common.{◌≡◌, ◌%◌, ◌∙◌, IfSome, subst, sym}
use Rattle.em_asm.proofs.Lookups.{lookup-labels}
use Rattle.em_asm.proofs.coding.address.Goals as goal

pub returns-clause-value : goal.returns-clause-value
returns-clause-value c = c.copied.ensures ∙ c.get.ensures.value ∙ lookup-labels c.args.name.now c.args.labels.now.entries

pub returns-clause-aligned : goal.returns-clause-aligned
returns-clause-aligned c =
    let found = c.copied.ensures ∙ c.get.ensures.value ∙ lookup-labels c.args.name.now c.args.labels.now.entries in
    subst (λ o. IfSome o (λ address. address % 4 ≡ 0)) (sym found) (c.requires.aligned c.args.name.now)

use Rattle.std.proofs.Common.{◌∙◌, ℕ, List, is_some, ap, sym}
use Rattle.std.specs.Str.{bytes_eq}
use Rattle.indexmap.proofs.CallerLemmas.{insert_entry-new}
use denote.Ref.{Bor}
use Rattle.em_asm.specs.Coding.{labels_in}
use Rattle.em_asm.proofs.Lookups.{lookup-labels, labels-append, not-some}
use Rattle.em_asm.proofs.layout.put_label.Goals as goal

pub returns-clause-known : goal.returns-clause-known
returns-clause-known c = c.is_some.ensures ∙ ap is_some (c.in_ok-old.ensures.old ∙ lookup-labels c.args.name.now c.args.labels.now.entries)

pub returns-clause-put : goal.returns-clause-put
returns-clause-put c = λ e.
    let none = sym c.in_ok-old.ensures.old ∙ not-some c.in_ok-old.old (sym c.is_some.ensures ∙ e) in
    ap labels_in (c.in_ok-old.ensures.entries ∙ insert_entry-new (λ (x : Bor (List ℕ)) (y : Bor (List ℕ)). bytes_eq x.now y.now) c.args.labels.now c.args.name c.args.address none)
    ∙ labels-append c.args.labels.now.entries c.args.name c.args.address

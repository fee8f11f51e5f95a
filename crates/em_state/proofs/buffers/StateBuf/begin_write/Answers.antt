use Rattle.std.proofs.Common.{replicate, ap, ◌∙◌, sym, subst, false}
use Rattle.std.proofs.lemmas.List.{take-replicate}
use Rattle.em_state.specs.Buffers.{Kept, StandsFor}
use Rattle.em_state.proofs.Rings.{stands_begun}
use Rattle.em_state.proofs.buffers.StateBuf.begin_write.Goals as goal

pub returns-clause-stands : goal.returns-clause-stands
returns-clause-stands c = λ values stands.
    let a = c.self.inside in
    stands_begun a.words a.depth a.begun a.newest a.places.items _ _ _ _ values
    (subst (λ (buf : Kept). StandsFor buf values) (sym c.self.view_is) stands)

pub returns-clause-draft : goal.returns-clause-draft
returns-clause-draft c = take-replicate c.self.inside.words 16 0 c.self.invariant.1
    ∙ ap (λ (buf : Kept). replicate buf.words 0) c.self.view_is

pub returns-clause-put : goal.returns-clause-put
returns-clause-put c = take-replicate c.self.inside.words 16 false c.self.invariant.1
    ∙ ap (λ (buf : Kept). replicate buf.words false) c.self.view_is

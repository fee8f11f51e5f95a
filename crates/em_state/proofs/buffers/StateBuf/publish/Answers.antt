use Rattle.std.proofs.Common.{◌≡◌, ◌+◌, ap, sym, subst, arith}
use Rattle.em_state.specs.Buffers.{Kept, StandsFor}
use Rattle.em_state.proofs.Rings.{stands_published}
use Rattle.em_state.proofs.buffers.StateBuf.publish.Goals as goal

pub returns-clause-stands : goal.returns-clause-stands
returns-clause-stands c = λ values stands.
    let a = c.self.inside in
    let begun : a.begun ≡ c.args.self.now.begun = ap (λ (buf : Kept). buf.begun) c.self.view_is in
    let newest : a.newest ≡ c.args.self.now.newest = ap (λ (buf : Kept). buf.newest) c.self.view_is in
    let writing : a.begun ≡ a.newest + 1 = omega (arith, c.requires.writing) in
    stands_published a.words a.depth a.begun a.newest a.places.items _ _ a.draft _ _ values c.place_of-place.result c.args.self.now.draft
    (omega arith) c.self.invariant.4 (omega arith) writing c.place_of-place.ensures.place (ap (λ (buf : Kept). buf.draft) c.self.view_is)
    (subst (λ (buf : Kept). StandsFor buf values) (sym c.self.view_is) stands)

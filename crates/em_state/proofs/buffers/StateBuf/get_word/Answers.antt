use Rattle.std.proofs.Common.{◌≡◌, ℕ, ◌%◌, ◌<◌, List, [], ap, ◌∙◌, length, sym, subst, arith, get_or}
use Rattle.std.proofs.lemmas.List.{get_or_read}
use Rattle.em_state.specs.Buffers.{Kept, StandsFor}
use Rattle.em_state.proofs.Rings.{word_kept}
use Rattle.em_state.proofs.buffers.StateBuf.get_word.Goals as goal

pub returns-clause-word : goal.returns-clause-word
returns-clause-word c = λ values stands.
    let a = c.self.inside in
    let ring : List (List ℕ) = a.places.items in
    let noted : ℕ = c.args.noted in
    let newest : a.newest ≡ c.args.self.now.newest = ap (λ (buf : Kept). buf.newest) c.self.view_is in
    let words : a.words ≡ c.args.self.now.words = ap (λ (buf : Kept). buf.words) c.self.view_is in
    let inside : c.place_of.result < length ring = omega (arith, c.self.invariant, c.place_of.ensures.within) in
    let row : c.index.result.now ≡ get_or ring (noted % a.depth) [] =
    get_or_read ring c.place_of.result c.index.result.now inside c.index.ensures [] ∙ ap (λ k. get_or ring k []) c.place_of.ensures.place in
    ap (λ xs. get_or xs c.from-2.result 0) row
    ∙ ap (λ i. get_or (get_or ring (noted % a.depth) []) i 0) c.from-2.ensures
    ∙ word_kept a.words a.depth a.begun a.newest ring _ _ values noted c.args.i (omega (arith, newest)) (omega arith) (omega (arith, words))
    (subst (λ (buf : Kept). StandsFor buf values) (sym c.self.view_is) stands)

use Rattle.std.proofs.Common.{◌≡◌, replicate, ap, ◌∙◌}
use Rattle.std.proofs.lemmas.List.Elements.{same_from_all_zip}
use Rattle.em_state.proofs.Rings.{stands_first}
use Rattle.em_state.proofs.buffers.StateBuf.new.Goals as goal

pub returns-clause-stands : goal.returns-clause-stands
returns-clause-stands c =
    let zeros : c.in_ok-vec.field-0.items ≡ replicate c.args.depth (replicate 16 0) =
    c.in_ok-vec.ensures.items_if_clones_equal (λ y alike. same_from_all_zip _ _ y alike.whole (λ x y e. e))
    ∙ ap (λ n. replicate n (replicate 16 0)) c.from.ensures in
    stands_first c.args.words c.args.depth c.in_ok-vec.field-0.items _ _ c.requires.few_words c.requires.deep zeros

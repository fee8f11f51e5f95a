use Rattle.std.proofs.Common.{ℕ, List, sym, ◌∙◌, rules}
use Rattle.std.proofs.lemmas.Iterator.{YieldsList-from_slice}
use Rattle.std.proofs.lemmas.Iterator.Search.{position_from_yields_List}
use Rattle.std.specs.Str.{bytes_eq}
use denote.Ref.{Bor}
use Rattle.em_asm_read.proofs.Naming.{position-map}
use Rattle.em_asm_read.proofs.registers.register_among.Goals as goal

pub returns-in-Some-clause-place : goal.returns-in-Some-clause-place
returns-in-Some-clause-place c =
    sym c.in-Some.is
    ∙ position_from_yields_List (λ (name : Bor (List ℕ)). bytes_eq name.now c.args.text.now) _ _ c.position.result c.position.ensures.ran (YieldsList-from_slice c.args.names.now c.iter.ensures.rest) (λ x b q k. search rules)
    ∙ sym (position-map (λ name. bytes_eq name c.args.text.now) (λ (name : Bor (List ℕ)). name.now) c.args.names.now)

pub returns-in-None-clause-place : goal.returns-in-None-clause-place
returns-in-None-clause-place c =
    sym c.in-None.is
    ∙ position_from_yields_List (λ (name : Bor (List ℕ)). bytes_eq name.now c.args.text.now) _ _ c.position.result c.position.ensures.ran (YieldsList-from_slice c.args.names.now c.iter.ensures.rest) (λ x b q k. search rules)
    ∙ sym (position-map (λ name. bytes_eq name c.args.text.now) (λ (name : Bor (List ℕ)). name.now) c.args.names.now)

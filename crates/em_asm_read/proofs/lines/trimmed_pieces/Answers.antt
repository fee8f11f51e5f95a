use Rattle.std.proofs.Common.{◌∙◌, ℕ, List, rules}
use Rattle.std.proofs.lemmas.Iterator.{YieldsList-from_slice, YieldsList-from_map_by}
use Rattle.std.proofs.lemmas.Iterator.Consumers.{map_from_collect}
use Rattle.std.proofs.lemmas.Result.{IfOk-weaker}
use denote.Ref.{Bor}
use Rattle.em_base.specs.Text.{trimmed}
use Rattle.em_asm_read.proofs.Parting.{trimmed-each}
use Rattle.em_asm_read.proofs.lines.trimmed_pieces.Goals as goal

pub returns : goal.returns
returns c = IfOk-weaker c.collect.result _ _ (λ operands e. e ∙ trimmed-each c.args.pieces.now)
    (map_from_collect _ c.collect.ensures.ran (YieldsList-from_map_by _ (λ (operand : Bor (List ℕ)). operand.now) (λ (piece : Bor (List ℕ)). trimmed piece.now) (YieldsList-from_slice c.args.pieces.now cc) c.map.ensures.closure (λ x r q k. search rules)))

use Rattle.std.proofs.Common.{◌≡◌, ◌∙◌, ap, map, nat_eq, length, false, sym, List, ℕ}
use Rattle.std.proofs.lemmas.Result.{IfOk-weaker}
use denote.Ref.{Bor}
use Rattle.em_base.specs.Text.{trimmed}
use Rattle.em_asm_read.proofs.Parting.{some-operands}
use Rattle.em_asm_read.proofs.lines.split_operands.Goals as goal

pub returns : goal.returns
returns c =
    let some : nat_eq (length c.args.text.now) 0 ≡ false = sym c.is_empty.ensures ∙ c.if-is_empty.false in
    let pieces = ap (map (λ (piece : Bor (List ℕ)). piece.now)) c.as_slice.ensures.value ∙ c.in_ok-split_at_commas.ensures in
    IfOk-weaker c.trimmed_pieces.result _ _ (λ operands e. e ∙ ap (map trimmed) pieces ∙ some-operands c.args.text.now some) c.trimmed_pieces.ensures

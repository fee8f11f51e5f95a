use Rattle.std.proofs.Common.{◌≡◌, ◌∙◌, ap, map, nat_eq, length, false, sym, subst, IfErr, List, ℕ}
use denote.Ref.{Bor}
use Rattle.em_asm_read.specs.Cutting.{operands_in}
use Rattle.em_asm_read.specs.Faults.{FailsAs}
use Rattle.em_asm_read.specs.Lines.{statement_meaning}
use Rattle.em_base.specs.Text.{unindented}
use Rattle.em_asm_read.proofs.Parting.{some-words}
use Rattle.em_asm_read.proofs.lines.read_statement.Goals as goal

pub returns-clause-refused : goal.returns-clause-refused
returns-clause-refused c =
    let some : nat_eq (length c.args.text.now) 0 ≡ false = sym c.is_empty.ensures ∙ c.if-is_empty.false in
    let operands = ap (map (λ (text : Bor (List ℕ)). text.now)) c.as_slice.ensures.value ∙ c.in_ok-operands.ensures ∙ ap operands_in (c.skip_blanks.ensures ∙ ap unindented c.split_word.ensures.rest) in
    subst (λ words. IfErr c.read_words.result (FailsAs (statement_meaning c.args.labelled words))) (some-words c.args.text.now _ _ some c.split_word.ensures.word operands) c.read_words.ensures.refused

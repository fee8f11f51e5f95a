use Rattle.std.proofs.Common.{◌≡◌, [], true, false, slice_index_or, sym, ap, ◌∙◌}
use Rattle.std.specs.Str.{bytes_eq}
use Rattle.em_asm_read.specs.declared.mnemonics.Mnemonic.TheVariants.{Operation}
use Rattle.em_asm_read.proofs.Listed.{among-at, among-after, among-none}
use Rattle.em_asm_read.proofs.mnemonics.mnemonic_among.Goals as goal

pub returns-then-eq : goal.returns-then-eq
returns-then-eq c =
    let same : bytes_eq (slice_index_or c.args.rows.now c.loop-row.row-index (record { ref_ptr = (0, 0); now = [] }, Operation 0 false)).0.now c.args.text.now ≡ true = ap (λ name. bytes_eq name c.args.text.now) (sym c.as_bytes.ensures.value) ∙ sym c.eq.ensures ∙ c.if-eq.true in
    sym (c.loop-row.invariant ∙ among-at c.args.text.now c.args.rows.now c.loop-row.row-index _ c.loop-row-test.true same)

pub loop-row-preserved : goal.loop-row-preserved
loop-row-preserved c =
    let other : bytes_eq (slice_index_or c.args.rows.now c.loop-row.row-index (record { ref_ptr = (0, 0); now = [] }, Operation 0 false)).0.now c.args.text.now ≡ false = ap (λ name. bytes_eq name c.args.text.now) (sym c.as_bytes.ensures.value) ∙ sym c.eq.ensures ∙ c.if-eq.false in
    c.loop-row.invariant ∙ among-after c.args.text.now c.args.rows.now c.loop-row.row-index _ c.loop-row-test.true other

pub returns : goal.returns
returns c = sym (c.loop-row.invariant ∙ among-none c.args.text.now c.args.rows.now c.loop-row.row-index c.loop-row-test.false)

use Rattle.std.proofs.Common.{◌∙◌, ◌*◌, ℕ, List, ap, arith, sym, length, []}
use Rattle.std.specs.Option.{unwrap_or}
use Rattle.std.specs.Result.{result_ok}
use Rattle.em_asm.specs.Code.{words_of_item}
use Rattle.em_asm.specs.Image.{code_of, target_fault}
use Rattle.em_asm.specs.Numbering.{line_number_at}
use Rattle.em_base.specs.declared.refusals.Refusal.{Refusal}
use Rattle.em_asm.specs.Coding.{labels_in}
use Rattle.em_asm.proofs.Gathered.{gather-nil, line-here}
use Rattle.em_asm.proofs.Layouts.{clear-next, first-fault}
use Rattle.em_asm.proofs.Sized.{sizes-small, target-fault, words-next}
use Rattle.em_asm.proofs.coding.code_words.Goals as goal

pub loop-place-init : goal.loop-place-init
loop-place-init c = record {
  words = c.new-words.ensures ∙ sym (gather-nil (λ place at l. unwrap_or (result_ok (words_of_item (labels_in c.args.labels.now.entries) at l.item)) []) 0 0);
  count = ap length c.new-words.ensures;
  clear = λ i h. absurd (omega arith);
}

pub loop-place-preserved : goal.loop-place-preserved
loop-place-preserved c =
    let lines = c.args.lines.now in
    let i = c.loop-place.place in
    let labels = labels_in c.args.labels.now.entries in
    let here = line-here lines i c.index-lines-place.result c.loop-place-test.true c.index-lines-place.is in
    let next = words-next labels lines i c.loop-place.words c.put.new.words c.in-Ok.code c.index-lines-place.result c.loop-place-test.true here c.loop-place.invariant.words c.loop-place.invariant.count (c.in-Ok.ensures ∙ ap (λ (ws : List ℕ). words_of_item labels (4 * length ws) c.index-lines-place.result.item) c.as_slice.ensures) c.in_ok-put-in-Ok.ensures in
    record { words = next.words; count = next.count; clear = clear-next (target_fault labels) lines i c.loop-place-test.true c.loop-place.invariant.clear next.clear }

pub returns-clause-few : goal.returns-clause-few
returns-clause-few c = omega (arith, c.loop-place.invariant.count, sizes-small c.args.lines.now c.loop-place.place c.requires.room (omega arith))

pub overflow_cast-at : goal.overflow_cast-at
overflow_cast-at c =
    let small = sizes-small c.args.lines.now c.loop-place.place c.requires.room (omega arith) in
    omega (arith, c.loop-place.invariant.count, small, ap length c.as_slice.ensures)

pub overflow_mul-at : goal.overflow_mul-at
overflow_mul-at c =
    let small = sizes-small c.args.lines.now c.loop-place.place c.requires.room (omega arith) in
    omega (arith, c.loop-place.invariant.count, small, ap length c.as_slice.ensures)

pub returns-in-Err-clause-refused : goal.returns-in-Err-clause-refused
returns-in-Err-clause-refused c =
    let lines = c.args.lines.now in
    let i = c.loop-place.place in
    let labels = labels_in c.args.labels.now.entries in
    let here = line-here lines i c.index-lines-place.result c.loop-place-test.true c.index-lines-place.is in
    let faulty = target-fault labels lines i c.loop-place.words c.in-Err.fault c.index-lines-place.result here c.loop-place.invariant.count (c.in-Err.ensures ∙ ap (λ (ws : List ℕ). words_of_item labels (4 * length ws) c.index-lines-place.result.item) c.as_slice.ensures) in
    first-fault (target_fault labels) lines (line_number_at c.args.numbers) i c.in-Err.fault c.at.result c.loop-place-test.true c.loop-place.invariant.clear faulty
    (c.at.ensures ∙ ap (λ n. let r : Refusal = record { code = code_of c.in-Err.fault; line = n } in r) c.number_of_line.ensures)

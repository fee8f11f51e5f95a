use Rattle.std.proofs.Common.{arith, ◌∙◌, ◌+◌, ◌*◌, ◌++◌, ap, ap₂, refl, subst, sym, take, length, List, ℕ, ◌≤◌}
use Rattle.em_base.specs.Images.{most_words}
use Rattle.em_asm.specs.Code.{size_of}
use Rattle.em_asm.specs.Image.{code_size, label_at, labels_of, shared_word, shared_words, wait_at, waits_of}
use Rattle.em_asm.specs.Numbering.{line_number_at}
use Rattle.em_asm.proofs.Gathered.{all-taken, gather-next, gather-nil, line_at, line-here, shared-next, size-next}
use Rattle.em_asm.proofs.Sized.{sizes-small}
use Rattle.em_asm.proofs.Whole.{whole-image}
use Rattle.em_asm.proofs.assembling.image_of.Goals as goal

pub loop-place-init : goal.loop-place-init
loop-place-init c = record {
  words = refl;
  shared = c.new.ensures;
  waits = c.new-2.ensures ∙ sym (gather-nil (λ place at line. wait_at (line_number_at c.args.numbers place) at line.item) 0 0);
  labels = c.new-3.ensures ∙ sym (gather-nil (λ place at line. label_at at line.label) 0 0);
  size = refl;
}

pub loop-place-preserved : goal.loop-place-preserved
loop-place-preserved c =
    let lines = c.args.lines.now in
    let i = c.loop-place.place in
    let number = line_number_at c.args.numbers in
    let within = c.loop-place-test.true in
    let here = line-here lines i c.index-lines-place.result within c.index-lines-place.is in
    let before = c.loop-place.invariant in
    record {
      words = c.in_ok-list_line.ensures.words ∙ before.words;
      shared = c.in_ok-list_line.ensures.shared ∙ ap₂ (λ ws line. ws ++ shared_word line.item) before.shared here ∙ sym (shared-next lines i within);
      waits =
          c.in_ok-list_line.ensures.waits
          ∙ ap (λ n. c.loop-place.image.waits ++ wait_at n (4 * c.loop-place.size) c.index-lines-place.result.item) c.number_of_line-number.ensures
          ∙ ap₂ (λ size line. c.loop-place.image.waits ++ wait_at (number i) (4 * size) line.item) before.size here
          ∙ ap (λ ws. ws ++ wait_at (number i) (4 * code_size (take i lines)) (line_at lines i).item) before.waits
          ∙ sym (gather-next (λ place at line. wait_at (number place) at line.item) lines i within);
      labels =
          c.in_ok-list_line.ensures.labels
          ∙ ap₂ (λ size line. c.loop-place.image.labels ++ label_at (4 * size) line.label) before.size here
          ∙ ap (λ ls. ls ++ label_at (4 * code_size (take i lines)) (line_at lines i).label) before.labels
          ∙ sym (gather-next (λ place at line. label_at at line.label) lines i within);
      size =
          ap (λ more. c.loop-place.size + more) c.code_size-size.ensures.size
          ∙ ap₂ (λ size line. size + size_of line.item) before.size here
          ∙ sym (size-next lines i within);
    }

pub returns-clause-whole : goal.returns-clause-whole
returns-clause-whole c =
    let lines = c.args.lines.now in
    let before = c.loop-place.invariant in
    let all = all-taken lines c.loop-place.place c.loop-place-test.false in
    let few = subst (λ (ws : List ℕ). length ws ≤ most_words) (sym before.words) c.requires.words in
    whole-image (line_number_at c.args.numbers) lines c.loop-place.image c.requires.room few (before.shared ∙ ap shared_words all) (before.waits ∙ ap (waits_of (line_number_at c.args.numbers)) all) (before.labels ∙ ap labels_of all)

pub overflow_mul-size : goal.overflow_mul-size
overflow_mul-size c = omega (arith, c.loop-place.invariant.size, sizes-small c.args.lines.now c.loop-place.place c.requires.room (omega arith))

pub list_line-requires : goal.list_line-requires
list_line-requires c = omega (arith, c.loop-place.invariant.size, sizes-small c.args.lines.now c.loop-place.place c.requires.room (omega arith))

pub overflow_add-size : goal.overflow_add-size
overflow_add-size c = omega (arith, c.loop-place.invariant.size, sizes-small c.args.lines.now c.loop-place.place c.requires.room (omega arith))

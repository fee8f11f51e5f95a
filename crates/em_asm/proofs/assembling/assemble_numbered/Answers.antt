use Rattle.std.proofs.Common.{◌∙◌, ap, length, subst}
use Rattle.em_base.specs.FirstFault.{AreClear, by_test}
use Rattle.em_asm.specs.Image.{code_words_of, target_fault}
use Rattle.em_asm.specs.Coding.{labels_in}
use Rattle.em_asm.proofs.Aligned.{aligned-labels}
use Rattle.em_asm.proofs.assembling.assemble_numbered.Goals as goal

pub code_words-requires-clause-aligned : goal.code_words-requires-clause-aligned
code_words-requires-clause-aligned c = aligned-labels (labels_in c.in_ok-labels.labels.entries) c.args.lines.now c.in_ok-labels.ensures.labels

pub returns-clause-image : goal.returns-clause-image
returns-clause-image c =
    let lines = c.args.lines.now in
    let image = c.in_ok-image_of.ensures in
    record {
      laid_out = c.in_ok-labels.ensures.clear;
      aimed = subst (λ labels. AreClear (by_test (target_fault labels)) lines (length lines)) c.in_ok-labels.ensures.labels c.in_ok-words.ensures.clear;
      words = image.words ∙ c.in_ok-words.ensures.words ∙ ap (λ labels. code_words_of labels lines) c.in_ok-labels.ensures.labels;
      shared = image.shared;
      waits = image.waits;
      labels = image.labels;
    }

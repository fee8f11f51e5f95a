use Rattle.std.proofs.Common.{◌≡◌, length, take}
use Rattle.em_base.specs.FirstFault.{AreClear, by_test}
use Rattle.em_asm.specs.Image.{code_size, target_fault, code_words_of}
use Rattle.em_asm.specs.Coding.{labels_in}
use Rattle.em_asm.proofs.coding.code_words.Given as goal

-- the words are those of the lines so far, whose targets are met
abbrev pub invariant-loop-place : goal.invariant-loop-place
invariant-loop-place l = record {
  words : l.words ≡ code_words_of (labels_in l.labels.entries) (take l.place l.lines);
  count : length l.words ≡ code_size (take l.place l.lines);
  clear : AreClear (by_test (target_fault (labels_in l.labels.entries))) l.lines l.place;
}

use Rattle.std.proofs.Common.{◌≡◌, take}
use Rattle.em_asm.specs.Image.{code_size, labels_of, shared_words, waits_of}
use Rattle.em_asm.specs.Numbering.{line_number_at}
use Rattle.em_asm.proofs.assembling.image_of.Given as goal

-- the lists are those of the lines so far
abbrev pub invariant-loop-place : goal.invariant-loop-place
invariant-loop-place l = record {
  words : l.image.words ≡ l.fn.words;
  shared : l.image.shared ≡ shared_words (take l.place l.lines);
  waits : l.image.waits ≡ waits_of (line_number_at l.numbers) (take l.place l.lines);
  labels : l.image.labels ≡ labels_of (take l.place l.lines);
  size : l.size ≡ code_size (take l.place l.lines);
}

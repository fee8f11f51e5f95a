use Rattle.std.proofs.Common.{◌≤◌}
use Rattle.em_base.specs.Images.{most_words}
use Rattle.em_base.specs.FirstFault.{AreClear, by_test}
use Rattle.em_asm.specs.Image.{layout_fault}
use Rattle.em_asm.specs.Coding.{labels_in}
use Rattle.em_asm.proofs.Layouts.{Stands}
use Rattle.em_asm.proofs.layout.lay_out.Given as goal

-- the labels and counts are those of the lines so far, which have room
abbrev pub invariant-loop-place : goal.invariant-loop-place
invariant-loop-place l = record {
  stands : Stands l.lines l.place (labels_in l.labels.entries) l.room.code l.room.shared;
  few : l.room.code ≤ most_words;
  room : l.room.shared ≤ most_words;
  clear : AreClear (by_test layout_fault) l.lines l.place;
}

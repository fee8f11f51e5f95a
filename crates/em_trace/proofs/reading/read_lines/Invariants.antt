use Rattle.std.proofs.Common.{length, take}
use Rattle.std.specs.Str.Lines.{lines}
use Rattle.em_trace.specs.Reading.{AreTextsOf}
use Rattle.em_trace.proofs.reading.read_lines.Given as goal

-- the lines of the text so far are those of the lines found
abbrev pub invariant-loop-place : goal.invariant-loop-place
invariant-loop-place l = AreTextsOf (take (length l.yielded) (lines l.text)) l.found

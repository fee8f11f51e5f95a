use Rattle.std.proofs.Common.{length}
use Rattle.std.specs.List.{All}
use Rattle.std.specs.Str.{IsUtf8}
use Rattle.std.specs.Str.Lines.{lines}
use Rattle.em_asm_read.specs.Fitting.{LineFits}
use Rattle.em_bundle.proofs.StatementsRead.{AreRead}
use Rattle.em_bundle.proofs.code.read_statements.Given as goal

-- what the lines so far say is added
abbrev pub invariant-lines : goal.invariant-lines
invariant-lines l = record {
  read : AreRead l.first (lines l.text) (lines l.rest) l.number l.found;
  fits : All LineFits l.found.lines;
  utf8 : IsUtf8 l.rest;
}

abbrev pub decreases-lines : goal.decreases-lines
decreases-lines l = length l.rest

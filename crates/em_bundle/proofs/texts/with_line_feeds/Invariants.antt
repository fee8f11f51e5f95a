use Rattle.std.proofs.Common.{◌≡◌, ◌++◌, length, string_bytes}
use Rattle.std.specs.Str.{IsUtf8}
use Rattle.std.specs.Str.Lines.{lines}
use Rattle.em_bundle.specs.Parts.{text_of}
use Rattle.em_bundle.proofs.texts.with_line_feeds.Given as goal

-- the lines so far are copied
abbrev pub invariant-lines : goal.invariant-lines
invariant-lines l = record {
  copied : text_of (lines l.text) ≡ string_bytes l.copy ++ text_of (lines l.rest);
  utf8 : IsUtf8 l.rest;
}

abbrev pub decreases-lines : goal.decreases-lines
decreases-lines l = length l.rest

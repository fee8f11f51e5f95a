use Rattle.std.proofs.Common.{length}
use Rattle.std.specs.Str.{IsUtf8}
use Rattle.em_bundle.proofs.Walked.{IsWalked}
use Rattle.em_bundle.proofs.parts.skip_to_header.Given as goal

-- no line so far is a header line
abbrev pub invariant-lines : goal.invariant-lines
invariant-lines l = record { walked : IsWalked l.fn.text l.rest; text : IsUtf8 l.rest }

abbrev pub decreases-lines : goal.decreases-lines
decreases-lines l = length l.rest

use Rattle.std.proofs.Common.{◌≡◌, ◌+◌, length, map, string_bytes}
use Rattle.em_hint.specs.Lines as spec
use Rattle.em_hint.proofs.texts.hinted_text.Given as goal

-- the lines so far are counted and written
abbrev pub invariant-loop-line : goal.invariant-loop-line
invariant-loop-line l = record {
  counted : l.number ≡ l.fn.first + length l.yielded;
  written : string_bytes l.text ≡ spec.hinted_text l.map l.image.waits l.fn.first (map (λ line. line.now) l.yielded);
}

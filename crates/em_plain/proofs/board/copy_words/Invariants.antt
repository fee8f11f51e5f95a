use Rattle.std.proofs.Common.{◌≡◌, ◌<◌, ℕ, length, get_or}
use Rattle.em_system.specs.Windows.{core_in, own_word}
use Rattle.em_plain.proofs.board.copy_words.Given as goal

-- the words so far are those of the own window
abbrev pub invariant-loop-i : goal.invariant-loop-i
invariant-loop-i l =
    (length l.words ≡ length l.fn.words) × ((k : ℕ) → k < l.i → get_or l.words k 0 ≡ own_word (core_in l.system.threads l.t.0) l.at k)

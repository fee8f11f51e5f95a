use Rattle.std.proofs.Common.{◌≡◌, ℕ, All, take}
use Rattle.em_plain.specs.Words.{held_words_put}
use Rattle.em_system.specs.Held.{tasks_of}
use Rattle.em_system.specs.Sound.{IsSound}
use Rattle.em_plain.proofs.board.put_words.Given as goal

-- the words so far are put
abbrev pub invariant-loop-i : goal.invariant-loop-i
invariant-loop-i l =
    (l.system ≡ held_words_put l.t.0 l.at (take l.i l.words) l.fn.system)
    × ((n : ℕ) → All (IsSound n) (tasks_of l.fn.system.threads) → All (IsSound n) (tasks_of l.system.threads))

use Rattle.std.proofs.Common.{◌≡◌, ◌<◌, ℕ, length}
use Rattle.em_threads.specs.Threads.{thread_at}
use Rattle.em_system.specs.Standings.{rank_at, standing_at, standing_of}
use Rattle.em_system.proofs.standing.look.Given as goal

-- those before t were looked at
abbrev pub invariant-loop-t : goal.invariant-loop-t
invariant-loop-t l = record {
  each : (u : ℕ) → u < l.t → standing_at l.standings u ≡ standing_of (rank_at l.ranks u) l.owners u (thread_at l.threads u);
  count : length l.standings ≡ length l.fn.standings;
}

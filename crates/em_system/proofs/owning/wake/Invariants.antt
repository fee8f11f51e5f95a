use Rattle.std.proofs.Common.{◌≡◌, length}
use Rattle.em_gate.specs.Effects.{woken}
use Rattle.em_threads.specs.Threads.{with_task}
use Rattle.em_system.specs.Held.{has_flag}
use Rattle.em_system.proofs.InPlace.{changed_up_to}
use Rattle.em_system.proofs.owning.wake.Given as goal

-- the tasks before u try again
abbrev pub invariant-loop-u : goal.invariant-loop-u
invariant-loop-u l = record {
  threads : l.threads ≡ changed_up_to (with_task (woken (has_flag l.freed))) l.u l.fn.threads;
  count : length l.threads ≡ length l.fn.threads;
}

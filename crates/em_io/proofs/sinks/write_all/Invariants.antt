use Rattle.std.proofs.Common.{◌≡◌, ◌≤◌, ◌-◌, length, take}
use Rattle.em_io.specs.Bytes.{and_then}
use Rattle.em_io.proofs.sinks.write_all.Given as goal

-- the bytes before `done` were appended, and the count of faults has not fallen
abbrev pub invariant-loop-done : goal.invariant-loop-done
invariant-loop-done g l = record {
  within : l.done ≤ length l.bytes;
  appended : g.K.Sink.written l.out ≡ and_then (g.K.Sink.written l.fn.out) (take l.done l.bytes);
  grows : g.K.Sink.faults l.fn.out ≤ g.K.Sink.faults l.out;
}

abbrev pub decreases-loop-done : goal.decreases-loop-done
decreases-loop-done g l = length l.bytes - l.done

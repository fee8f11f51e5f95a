use Rattle.std.proofs.Common.{◌≡◌, ◌+◌, length}
use Rattle.std.specs.Str.Lines.{lines}
use Rattle.em_trace.proofs.ScheduleSteps.{IsSoFar}
use Rattle.em_trace.proofs.schedule_reading.read_lines.Given as goal

-- what holds of the lines that are left holds of all lines, with the events so far before them
abbrev pub invariant-loop-line : goal.invariant-loop-line
invariant-loop-line l = record {
  numbered : l.number ≡ l.first + length l.yielded;
  so_far : IsSoFar l.tasks l.first (lines l.text) (length l.yielded) l.least l.last l.events;
}

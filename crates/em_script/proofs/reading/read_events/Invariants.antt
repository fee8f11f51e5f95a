use Rattle.std.proofs.Common.{◌≡◌, length, take}
use Rattle.std.specs.Str.Lines.{lines}
use Rattle.em_base.specs.FirstFault.{AreClear, by_test}
use Rattle.em_script.specs.Script.{events_of, line_fault}
use Rattle.em_script.proofs.reading.read_events.Given as goal

-- the events so far are those of the lines so far, which have no fault
abbrev pub invariant-loop-place : goal.invariant-loop-place
invariant-loop-place l = record {
  same : l.events ≡ events_of l.rows (take (length l.yielded) (lines l.text));
  clear : AreClear (by_test (line_fault l.rows)) (lines l.text) (length l.yielded);
}

use Rattle.std.proofs.Common.{◌≡◌, ◌++◌, drop, string_bytes}
use Rattle.em_trace.specs.Printed.{trace_text}
use Rattle.em_trace.proofs.printing.put_trace.Given as goal

-- the text so far and that of the lines that are left are that of all lines, after what stood there
abbrev pub invariant-loop-line : goal.invariant-loop-line
invariant-loop-line l = string_bytes l.fn.text ++ trace_text l.lines ≡ string_bytes l.text ++ trace_text (drop l.line-index l.lines)

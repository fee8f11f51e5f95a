-- The bytes of a bundle with a schedule put behind them, as its last part: this project's own.
use Rattle.std.specs.Prelude.{ℕ, ◌-◌, nat_eq, List, [], ◌∷◌, ◌++◌, length, slice_index_or, codes, if◌then◌else◌}
use Rattle.em_base.specs.declared.events.Schedule.{Schedule}
use Rattle.em_trace.specs.Schedules.{schedule_text}

-- what ends a line, by its last byte: a line feed, and nothing where this byte is one. The end of a line takes one carriage return before
-- its line feed with it; where the last byte is one, another is put behind it, so that the line keeps its own.
abbrev pub line_end : ℕ → List ℕ
line_end last = if nat_eq last 10 then [] else (if nat_eq last 13 then 13 ∷ 10 ∷ [] else 10 ∷ [])

-- the bytes with their last line ended, where it isn't; without bytes there is no line to end
abbrev pub ended_lines : List ℕ → List ℕ
ended_lines bytes = bytes ++ line_end (slice_index_or bytes (length bytes - 1) 10)

-- the bytes with their last line ended, and behind them the schedule's header and its text
abbrev pub with_schedule : List ℕ → Schedule → List ℕ
with_schedule bytes schedule = ended_lines bytes ++ (codes "%schedule\n" ++ schedule_text schedule)

-- The lines that a text spells, and the first that is no line of a trace: this project's own.
use Rattle.std.specs.Prelude.{◌≡◌, ◌≢◌, ℕ, ◌+◌, ⊤, All, List, map, take, slice_get, Some}
use Rattle.std.specs.Str.Lines.{lines}
use Rattle.em_trace.specs.declared.fails.TraceFail.{TraceFail}
use Rattle.em_trace.specs.declared.fails.TraceFail.TheVariants.{Form, NoMemory}
use Rattle.em_trace.specs.declared.lines.Line.{Line}
use Rattle.em_trace.specs.Printed.{IsLine, line_text}

-- the texts are those of these lines, one of each
pub record AreTextsOf (texts : List (List ℕ)) (found : List Line) : Type 0 where
  pub spelled : map line_text found ≡ texts
  pub valid : All IsLine found

-- the text is a trace of these lines: its lines are their texts
abbrev pub IsTraceOf : List ℕ → List Line → Type 0
IsTraceOf text found = AreTextsOf (lines text) found

-- the text is that of no line
abbrev pub IsNoLine : List ℕ → Type 0
IsNoLine text = (line : Line) → IsLine line → line_text line ≢ text

-- the line of this number, counted from 1, is the first of a text that is no line of a trace
pub record IsFormFault (text : List ℕ) (number : ℕ) : Type 0 where
  pub place : ℕ
  pub line : List ℕ
  pub here : slice_get (lines text) place ≡ Some line
  pub faulty : IsNoLine line
  pub before : (found : List Line) × AreTextsOf (take place (lines text)) found
  pub numbered : number ≡ place + 1

-- running out of memory needs no cause
abbrev pub IsTraceFail : List ℕ → TraceFail → Type 0
IsTraceFail text (Form number) = IsFormFault text number
IsTraceFail text NoMemory = ⊤

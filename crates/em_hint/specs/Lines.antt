-- The code text with its hints: what is put where. This project's own.
use Rattle.std.specs.Prelude.{◌≡◌, ℕ, ◌+◌, ◌-◌, ◌<◌, ◌≤◌, ◌==◌, Bool, true, ◌||◌, is_some, List, [], ◌∷◌, ◌++◌, length, map, take, drop, slice_index, All, Option, None, Some, codes, if◌then◌else◌, nat_eq}
use Rattle.std.specs.Fmt.{decimal}
use Rattle.std.specs.List.{IsDistinct, before_first, enumerate_from, flat_map, list_any, position_or_len, prefix_len, slice_index_or}
use Rattle.em_base.specs.declared.apps.HintMap.{HintMap}
use Rattle.em_base.specs.declared.ids.SemId.{SemId}
use Rattle.em_base.specs.declared.images.Wait.{Wait}
use Rattle.em_base.specs.Hints.{hint_at}
use Rattle.em_base.specs.Text.{is_colon, is_hash, is_space}

-- ---- where the word `waitjob` stands in a line

-- how many bytes the label of a line has, with its colon: those up to the first colon, where one stands before the comment
abbrev pub label_size : List ℕ → ℕ
label_size line = if list_any is_colon (before_first is_hash line) then position_or_len is_colon line + 1 else 0

-- the place where the statement of a line begins: after the label, and the spaces and tabs behind it
abbrev pub statement_place : List ℕ → ℕ
statement_place line = label_size line + prefix_len is_space (drop (label_size line) line)

-- a word ends before this text: there is none, or it begins with a space, a tab or `#`
abbrev pub is_word_end : List ℕ → Bool
is_word_end text = nat_eq (length text) 0 || is_space (slice_index text 0) || is_hash (slice_index text 0)

-- the statement of a line begins with the word `waitjob`
abbrev pub IsWaitLine : List ℕ → Type 0
IsWaitLine line =
    (rest : List ℕ) × (drop (statement_place line) line ≡ codes "waitjob" ++ rest) × (is_word_end rest ≡ true)

-- the place behind that word
abbrev pub hint_place : List ℕ → ℕ
hint_place line = statement_place line + length (codes "waitjob")

-- ---- the lines of `waitjob` statements

-- the number is that of a line of `waitjob`, where the first line has the number `first`
abbrev pub HasWaitLine : ℕ → List (List ℕ) → Wait → Type 0
HasWaitLine first texts wait =
    (first ≤ wait.line) × (wait.line < first + length texts) × IsWaitLine (slice_index_or texts (wait.line - first) [])

-- each `waitjob` has a line of its own
pub record HaveWaitLines (first : ℕ) (texts : List (List ℕ)) (waits : List Wait) : Type 0 where
  pub lines : All (HasWaitLine first texts) waits
  pub distinct : IsDistinct nat_eq (map (λ wait. wait.line) waits)

-- ---- the hints that are put there

-- the hint that is still to be written of a `waitjob`: none where one is written already
abbrev pub unwritten : HintMap → Wait → Option SemId
unwritten hints wait = if is_some wait.hint then None else hint_at hints wait.address

-- the hint that is still to be written in the line of a number
abbrev pub unwritten_in : HintMap → List Wait → ℕ → Option SemId
unwritten_in hints [] number = None
unwritten_in hints (wait ∷ waits) number =
    if wait.line == number then unwritten hints wait else unwritten_in hints waits number

-- a line with a hint, as a space and its number, behind the word `waitjob`, and else as it is
abbrev pub hinted_line : Option SemId → List ℕ → List ℕ
hinted_line None line = line
hinted_line (Some s) line = take (hint_place line) line ++ (codes " " ++ decimal s.0) ++ drop (hint_place line) line

-- the lines, each with the hint that is still to be written in it and one line end
abbrev pub hinted_text : HintMap → List Wait → ℕ → List (List ℕ) → List ℕ
hinted_text hints waits first texts =
    flat_map (λ line. hinted_line (unwritten_in hints waits line.0) line.1 ++ 10 ∷ []) (enumerate_from first texts)

-- What a line of a script says: this project's own.
use Rattle.std.specs.Prelude.{ℕ, ◌^◌, ◌-◌, nat_le, nat_lt, List, [], ◌∷◌, length, filter, Option, Some, None, if◌then◌else◌, codes}
use Rattle.std.specs.List.{before_first, slice_split}
use Rattle.std.specs.Str.{bytes_eq}
use Rattle.em_base.specs.Number.{numeral_of}
use Rattle.em_base.specs.Text.{is_space, is_hash}
use Rattle.em_script.specs.declared.lines.Meaning.{Meaning}
use Rattle.em_script.specs.declared.lines.Meaning.TheVariants.{Nothing, Interrupt, Unplugged}

-- the words of a text: what stands between spaces and tabs
abbrev pub words_in : List ℕ → List (List ℕ)
words_in text = filter (λ word. nat_lt 0 (length word)) (slice_split is_space text)

-- the words of a line: those before the comment, which begins at the first `#`
abbrev pub words_of : List ℕ → List (List ℕ)
words_of line = words_in (before_first is_hash line)

-- the number, where there is one and it is at most so great
abbrev pub at_most : ℕ → Option ℕ → Option ℕ
at_most high None = None
at_most high (Some n) = if nat_le n high then Some n else None

-- the number that decimal digits write, where it is at most so great
abbrev pub decimal : ℕ → List ℕ → Option ℕ
decimal high text = at_most high (numeral_of 10 text)

-- the greatest time and word, the greatest number of an interrupt line, and that of a port
abbrev pub last_word : ℕ
last_word = 2 ^ 32 - 1

abbrev pub last_line : ℕ
last_line = 31

abbrev pub last_port : ℕ
last_port = 7

-- an interrupt or an unplugged port, where each of the numbers is there
abbrev pub interrupt : Option ℕ → Option ℕ → Option ℕ → Option Meaning
interrupt (Some time) (Some line) (Some word) = Some (Interrupt time line word)
interrupt _ _ _ = None

abbrev pub unplug : Option ℕ → Option ℕ → Option Meaning
unplug (Some time) (Some port) = Some (Unplugged time port)
unplug _ _ = None

-- what words say: nothing; TIME `line` N WORD; TIME `unplug` PORT; other words say none of these
abbrev pub meaning_of_words : List (List ℕ) → Option Meaning
meaning_of_words [] = Some Nothing
meaning_of_words (time ∷ verb ∷ port ∷ []) =
    if bytes_eq verb (codes "unplug") then unplug (decimal last_word time) (decimal last_port port) else None
meaning_of_words (time ∷ verb ∷ line ∷ word ∷ []) =
    if bytes_eq verb (codes "line") then interrupt (decimal last_word time) (decimal last_line line) (decimal last_word word)
    else None
meaning_of_words _ = None

-- what a line says, if it is a line of a script
abbrev pub meaning_of : List ℕ → Option Meaning
meaning_of line = meaning_of_words (words_of line)

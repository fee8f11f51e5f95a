-- The listing of code: a line for each word. The form is this project's own.
use Rattle.std.specs.Prelude.{◌≡◌, ℕ, suc, ◌*◌, ◌⊎◌, List, [], ◌∷◌, ◌++◌, codes}
use Rattle.em_isa.specs.declared.instructions.Instr.{Instr}
use Rattle.em_isa.specs.Encoding.{Fits, word_of}
use Rattle.em_show.specs.Show.{hexadecimal, raw_text, text_of}

-- the text of a word: that of its instruction, or its number where it is no instruction
abbrev pub IsTextOf : ℕ → List ℕ → Type 0
IsTextOf word text =
    ((i : Instr) × Fits i × (word_of i ≡ word) × (text ≡ text_of i))
    ⊎ (((i : Instr) → Fits i → word_of i ≡ word → ⊥) × (text ≡ raw_text word))

-- a line: the address and the word in hexadecimal, and the word's text
abbrev pub listed_line : ℕ → ℕ → List ℕ → List ℕ
listed_line address word text = hexadecimal address ++ codes ": " ++ hexadecimal word ++ codes " " ++ text ++ codes "\n"

-- each text is that of the word at its place
abbrev pub AreTextsOf : List ℕ → List (List ℕ) → Type 0
AreTextsOf [] texts = texts ≡ []
AreTextsOf (word ∷ words) texts =
    (text : List ℕ) × (rest : List (List ℕ)) × (texts ≡ text ∷ rest) × IsTextOf word text × AreTextsOf words rest

-- the lines of code words with their texts; the first word stands at this place, counted from 0
abbrev pub listed_lines : ℕ → List ℕ → List (List ℕ) → List ℕ
listed_lines place (word ∷ words) (text ∷ texts) = listed_line (4 * place) word text ++ listed_lines (suc place) words texts
listed_lines place _ _ = []

-- the listing of code words: a line for each, with its text
abbrev pub IsListing : List ℕ → List ℕ → Type 0
IsListing words listing = (texts : List (List ℕ)) × AreTextsOf words texts × (listing ≡ listed_lines 0 words texts)

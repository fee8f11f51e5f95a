-- What the lines of the code part say, and the image of the code. This project's own.
use Rattle.std.specs.Prelude.{◌≡◌, ◌⊎◌, ℕ, ◌+◌, Bool, true, false, ◌||◌, not, is_some, List, [], ◌∷◌, filter, map, slice_index}
use Rattle.std.specs.List.{enumerate_from}
use Rattle.em_base.specs.declared.images.Image.{Image}
use Rattle.em_base.specs.declared.refusals.Refusal.{Refusal}
use Rattle.em_base.specs.FirstFault.{NamesFirst}
use Rattle.em_asm_read.specs.declared.items.Item.{Item}
use Rattle.em_asm_read.specs.declared.items.Item.TheVariants.{Nothing}
use Rattle.em_asm_read.specs.declared.items.Line.{Line}
use Rattle.em_asm_read.specs.Lines.{IsFaulty, IsLine}
use Rattle.em_asm.specs.Image.{IsImageOf, IsAssemblyRefused}

-- ---- the statements

-- each of the texts is a line that says what stands at its place
abbrev pub AllSay : List (List ℕ) → List Line → Type 0
AllSay [] items = items ≡ []
AllSay (text ∷ texts) items = (item : Line) × (rest : List Line) × (items ≡ item ∷ rest) × IsLine text item × AllSay texts rest

abbrev pub is_nothing : Item → Bool
is_nothing Nothing = true
is_nothing _ = false

-- a line says something: it has a label or a statement
abbrev pub speaks : Line → Bool
speaks line = is_some line.label || not (is_nothing line.item)

-- the lines that say something, each with its number, where the first line has the number `first`
abbrev pub statements_of : ℕ → List Line → List (ℕ × Line)
statements_of first items = filter (λ statement. speaks statement.1) (enumerate_from first items)

-- these lines, and the number of the one at each place
abbrev pub lines_in : List (ℕ × Line) → List Line
lines_in statements = map (λ statement. statement.1) statements

abbrev pub number_in : List (ℕ × Line) → ℕ → ℕ
number_in statements place = slice_index (map (λ statement. statement.0) statements) place

-- ---- the image

-- the texts are lines of assembly, and their statements have this image; the first text is line `first` of the whole input
pub record IsCodeOf (first : ℕ) (texts : List (List ℕ)) (image : Image) : Type 0 where
  pub items : List Line
  pub read : AllSay texts items
  pub assembled : IsImageOf (number_in (statements_of first items)) (lines_in (statements_of first items)) image

-- a text is a line whose first fault has this code
abbrev pub IsFaultyText : List (List ℕ) → List ℕ → ℕ → Type 0
IsFaultyText before text code = IsFaulty text code

-- the refusal names the first of the texts that has a fault, and the code of its first fault
abbrev pub IsMisread : ℕ → List (List ℕ) → Refusal → Type 0
IsMisread first texts refusal = NamesFirst IsFaultyText (λ code. code) (λ place. first + place) texts refusal

-- the texts are lines of assembly, and their statements have no image together
pub record HasNoImage (first : ℕ) (texts : List (List ℕ)) (refusal : Refusal) : Type 0 where
  pub items : List Line
  pub read : AllSay texts items
  pub refused : IsAssemblyRefused (number_in (statements_of first items)) (lines_in (statements_of first items)) refusal

-- the refusal of the code part
abbrev pub IsCodeRefused : ℕ → List (List ℕ) → Refusal → Type 0
IsCodeRefused first texts refusal = IsMisread first texts refusal ⊎ HasNoImage first texts refusal

-- The image of a list of lines, and the first line that is refused. This project's own.
use Rattle.std.specs.Prelude.{◌≡◌, ℕ, suc, ◌+◌, ◌*◌, ◌⊎◌, ⊤, Bool, false, nat_lt, is_some, List, [], ◌∷◌, ◌++◌, length, sum_by, Option, Some, None, if◌then◌else◌}
use Rattle.std.specs.List.{flat_map}
use Rattle.std.specs.Option.{unwrap_or}
use Rattle.std.specs.Result.{result_ok, result_err}
use Rattle.em_base.specs.FirstFault.{AreClear, NamesFirst, by_test}
use Rattle.em_base.specs.Images.{most_words}
use Rattle.em_base.specs.declared.images.Image.{Image}
use Rattle.em_base.specs.declared.images.Wait.{Wait as WaitAt}
use Rattle.em_base.specs.declared.refusals.Refusal.{Refusal}
use Rattle.em_base.specs.declared.refusals.Fail.{Fail}
use Rattle.em_base.specs.declared.refusals.Fail.TheVariants.{Refused, NoMemory}
use Rattle.em_asm_read.specs.declared.items.Item.{Item}
use Rattle.em_asm_read.specs.declared.items.Item.TheVariants.{Word, Wait}
use Rattle.em_asm_read.specs.declared.items.Line.{Line}
use Rattle.em_asm.specs.declared.faults.Fault.{Fault}
use Rattle.em_asm.specs.declared.faults.Fault.TheVariants.{LabelTwice, LabelMissing, TargetTooFar, TooMuchCode, TooMuchShared}
use Rattle.em_base.specs.Images.{Labels, address_of}
use Rattle.em_asm.specs.Code.{words_of_item, size_of}

-- ---- what lines come to

-- how many code words the lines have
abbrev pub code_size : List Line → ℕ
code_size lines = sum_by (λ line. size_of line.item) lines

-- what the lines give, one after the other: each by its place, counted from 0, and by the address of the next code word
unfoldable pub gather : {A : Type 0} → (ℕ → ℕ → Line → List A) → ℕ → ℕ → List Line → List A
gather give place at [] = []
gather give place at (line ∷ lines) = give place at line ++ gather give (suc place) (at + 4 * size_of line.item) lines

-- the label of a line has the address of the next code word
abbrev pub label_at : ℕ → Option (List ℕ) → Labels
label_at at None = []
label_at at (Some name) = (name, at) ∷ []

abbrev pub labels_of : List Line → Labels
labels_of lines = gather (λ place at line. label_at at line.label) 0 0 lines

-- the code words of the lines; an item that has none for want of its target is refused
abbrev pub code_words_of : Labels → List Line → List ℕ
code_words_of labels lines = gather (λ place at line. unwrap_or (result_ok (words_of_item labels at line.item)) []) 0 0 lines

-- a `waitjob` has the address of its call, which is its second word, and the number of its line
abbrev pub wait_at : ℕ → ℕ → Item → List WaitAt
wait_at number at (Wait hint) = record { address = at + 4; line = number; hint = hint } ∷ []
wait_at number at _ = []

abbrev pub waits_of : (ℕ → ℕ) → List Line → List WaitAt
waits_of number lines = gather (λ place at line. wait_at (number place) at line.item) 0 0 lines

-- the shared word of a `.word`
abbrev pub shared_word : Item → List ℕ
shared_word (Word word) = word ∷ []
shared_word _ = []

abbrev pub shared_words : List Line → List ℕ
shared_words lines = flat_map (λ line. shared_word line.item) lines

-- ---- what is refused

-- the code of a fault
abbrev pub code_of : Fault → ℕ
code_of LabelTwice = 6
code_of LabelMissing = 7
code_of TargetTooFar = 8
code_of TooMuchCode = 9
code_of TooMuchShared = 10

-- whether the label is among these
abbrev pub is_known : Labels → Option (List ℕ) → Bool
is_known labels None = false
is_known labels (Some name) = is_some (address_of labels name)

-- the fault of a line, by the labels before it and by how many code words and shared words stand before it
abbrev pub room_fault : Labels → ℕ → ℕ → Line → Option Fault
room_fault labels code shared line =
    if is_known labels line.label then Some LabelTwice
    else if nat_lt most_words (code + size_of line.item) then Some TooMuchCode
    else if nat_lt most_words (shared + length (shared_word line.item)) then Some TooMuchShared
    else None

-- the fault of a line in its label or its size, given the lines before it
abbrev pub layout_fault : List Line → Line → Option Fault
layout_fault before line = room_fault (labels_of before) (code_size before) (length (shared_words before)) line

-- the fault of a line in its target, given the lines before it and the labels of all lines
abbrev pub target_fault : Labels → List Line → Line → Option Fault
target_fault labels before line = result_err (words_of_item labels (4 * code_size before) line.item)

-- the lines are refused, by the numbers of their places: their labels and sizes are looked at first, in all of them, and then
-- their targets
abbrev pub IsAssemblyRefused : (ℕ → ℕ) → List Line → Refusal → Type 0
IsAssemblyRefused number lines refusal =
    NamesFirst (by_test layout_fault) code_of number lines refusal
    ⊎ (AreClear (by_test layout_fault) lines (length lines)
    × NamesFirst (by_test (target_fault (labels_of lines))) code_of number lines refusal)

-- `NoMemory` may be answered at any time
abbrev pub IsAssemblyFail : (ℕ → ℕ) → List Line → Fail → Type 0
IsAssemblyFail number lines (Refused refusal) = IsAssemblyRefused number lines refusal
IsAssemblyFail number lines NoMemory = ⊤

-- the image of lines, of which none is refused, by the numbers of their places
pub record IsImageOf (number : ℕ → ℕ) (lines : List Line) (image : Image) : Type 0 where
  pub laid_out : AreClear (by_test layout_fault) lines (length lines)
  pub aimed : AreClear (by_test (target_fault (labels_of lines))) lines (length lines)
  pub words : image.words ≡ code_words_of (labels_of lines) lines
  pub shared : image.shared ≡ shared_words lines
  pub waits : image.waits ≡ waits_of number lines
  pub labels : image.labels ≡ labels_of lines

-- What the code holds, in the words of the definitions. These are used inside the crate alone.
use Rattle.std.specs.Prelude.{◌≡◌, ℕ, ◌%◌, IfSome, List, [], ◌∷◌, map, ⊤, Option, Result, Ok, Err}
use denote.Ref.{Bor}
use Rattle.em_asm.specs.declared.faults.Fault.{Fault}
use Rattle.em_asm.specs.declared.words.Words.{Words}
use Rattle.em_asm.specs.declared.words.Words.TheVariants.{None, One, Two}
use Rattle.em_base.specs.declared.refusals.Fail.{Fail}
use Rattle.em_base.specs.declared.refusals.Fail.TheVariants.{Refused, NoMemory}
use Rattle.em_asm_read.specs.declared.items.Line.{Line}
use Rattle.em_base.specs.Images.{Labels, address_of}
use Rattle.em_base.specs.FirstFault.{NamesFirst, by_test}
use Rattle.em_asm.specs.Image.{code_of}

abbrev pub word_list : Words → List ℕ
word_list None = []
word_list (One word) = word ∷ []
word_list (Two first second) = first ∷ second ∷ []

-- labels as the code keeps them, by borrowed names
abbrev pub labels_in : List (Bor (List ℕ) × ℕ) → Labels
labels_in entries = map (λ entry. (entry.0.now, entry.1)) entries

-- the code words of an item, or its fault
abbrev pub code_in : Result Words Fault → Result (List ℕ) Fault
code_in (Ok words) = Ok (word_list words)
code_in (Err fault) = Err fault

-- each label has an address of a code word
abbrev pub AreAligned : Labels → Type 0
AreAligned labels = (name : List ℕ) → IfSome (address_of labels name) (λ address. address % 4 ≡ 0)

-- the failure names the first line with such a fault, by the number of its place, unless memory ran out
abbrev pub FailsFirst : (List Line → Line → Option Fault) → (ℕ → ℕ) → List Line → Fail → Type 0
FailsFirst test number lines (Refused refusal) = NamesFirst (by_test test) code_of number lines refusal
FailsFirst test number lines NoMemory = ⊤

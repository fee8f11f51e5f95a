-- What a line says, or the first fault in it: first its label, then the mnemonic, then the count of operands, then the
-- operands from the left. This project's own.
use Rattle.std.specs.Prelude.{◌≡◌, ℕ, ⊤, Bool, true, false, not, ◌&&◌, is_some, List, Option, Some, None, Result, Ok, Err, if◌then◌else◌}
use Rattle.em_asm_read.specs.declared.faults.Fault.{Fault}
use Rattle.em_asm_read.specs.declared.faults.Fault.TheVariants.{Mnemonic as BadMnemonic, Label as BadLabel}
use Rattle.em_asm_read.specs.declared.faults.LineFail.{LineFail}
use Rattle.em_asm_read.specs.declared.faults.LineFail.TheVariants.{Code, NoMemory}
use Rattle.em_asm_read.specs.declared.items.Item.{Item}
use Rattle.em_asm_read.specs.declared.items.Item.TheVariants.{Nothing}
use Rattle.em_asm_read.specs.declared.items.Line.{Line}
use Rattle.em_asm_read.specs.declared.mnemonics.Mnemonic.{Mnemonic}
use Rattle.em_asm_read.specs.declared.mnemonics.Mnemonic.TheVariants.{Word}
use Rattle.em_asm_read.specs.Faults.{code_of, found_or, then_read}
use Rattle.em_asm_read.specs.Grammar.{Words, Parts, HasParts}
use Rattle.em_asm_read.specs.Labels.{is_label}
use Rattle.em_asm_read.specs.Mnemonics.{mnemonic_of}
use Rattle.em_asm_read.specs.Statements.{statement}

-- whether there is a label that may be the name of none
abbrev pub is_misspelled : Option (List ℕ) → Bool
is_misspelled None = false
is_misspelled (Some label) = not (is_label label)

-- whether the mnemonic is `.word`, whose line can't have a label
abbrev pub is_word : Mnemonic → Bool
is_word Word = true
is_word _ = false

-- what the statement of a line says, in a line with a label or in one without
abbrev pub statement_meaning : Bool → Option Words → Result Item Fault
statement_meaning labelled None = Ok Nothing
statement_meaning labelled (Some words) =
    then_read (found_or BadMnemonic (mnemonic_of words.mnemonic))
    (λ mnemonic. if labelled && is_word mnemonic then Err BadLabel else statement mnemonic words.operands)

-- what a line with these parts says
abbrev pub meaning_of : Parts → Result Line Fault
meaning_of parts =
    if is_misspelled parts.label then Err BadLabel
    else then_read (statement_meaning (is_some parts.label) parts.statement) (λ item. Ok (record { label = parts.label; item = item }))

-- the text is a line that says this
abbrev pub IsLine : List ℕ → Line → Type 0
IsLine text line = (parts : Parts) × HasParts text parts × (meaning_of parts ≡ Ok line)

-- the text is a line whose first fault has this code
abbrev pub IsFaulty : List ℕ → ℕ → Type 0
IsFaulty text code = (parts : Parts) × HasParts text parts × ((fault : Fault) × (meaning_of parts ≡ Err fault) × (code ≡ code_of fault))

-- the code is that of the line's first fault; want of memory needs no cause
abbrev pub IsLineFail : List ℕ → LineFail → Type 0
IsLineFail text (Code code) = IsFaulty text code
IsLineFail text NoMemory = ⊤

-- What may be wrong with a line, and the codes of that: this project's own.
use Rattle.std.specs.Prelude.{◌≡◌, ℕ, ⊤, Option, Some, None, Result, Ok, Err}
use Rattle.em_base.specs.declared.refusals.Fail.{Fail}
use Rattle.em_base.specs.declared.refusals.Fail.TheVariants.{Refused, NoMemory as OutOfMemory}
use Rattle.em_asm_read.specs.declared.faults.Fault.{Fault}
use Rattle.em_asm_read.specs.declared.faults.Fault.TheVariants.{Mnemonic, Operands, Register, Number, Label}
use Rattle.em_asm_read.specs.declared.faults.LineFail.{LineFail}
use Rattle.em_asm_read.specs.declared.faults.LineFail.TheVariants.{Code, NoMemory}

-- the code of a fault
abbrev pub code_of : Fault → ℕ
code_of Mnemonic = 1
code_of Operands = 2
code_of Register = 3
code_of Number = 4
code_of Label = 5

-- the value, or the fault that stands for want of one
abbrev pub found_or : {X : Type 0} → Fault → Option X → Result X Fault
found_or fault (Some x) = Ok x
found_or fault None = Err fault

-- goes on with the value, unless there is a fault already
abbrev pub then_read : {X Y : Type 0} → Result X Fault → (X → Result Y Fault) → Result Y Fault
then_read (Ok x) next = next x
then_read (Err fault) next = Err fault

-- the answer names the fault that was found, unless memory ran out
abbrev pub FailsAs : {X : Type 0} → Result X Fault → LineFail → Type 0
FailsAs {X} found (Code code) = (fault : Fault) × (found ≡ Err fault) × (code ≡ code_of fault)
FailsAs {X} found NoMemory = ⊤

-- the failure to read a line, as that of a whole input whose line of this number it is
abbrev pub fail_at : LineFail → ℕ → Fail
fail_at (Code code) line = Refused (record { code = code; line = line })
fail_at NoMemory line = OutOfMemory

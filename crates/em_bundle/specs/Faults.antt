-- What may be wrong with a bundle beside its parts, and the refusals that name it: this project's own.
use Rattle.std.specs.Prelude.{ℕ}
use Rattle.em_base.specs.declared.refusals.Refusal.{Refusal}
use Rattle.em_bundle.specs.declared.faults.Fault.{Fault}
use Rattle.em_bundle.specs.declared.faults.Fault.TheVariants.{TooDeep, MissingPart, MisplacedHeader, MissingEntry, NotUtf8}

-- the code of a fault
abbrev pub code_of : Fault → ℕ
code_of TooDeep = 28
code_of MissingPart = 40
code_of MisplacedHeader = 41
code_of MissingEntry = 42
code_of NotUtf8 = 43

-- the refusal that names a fault at a line
abbrev pub refusal_at : Fault → ℕ → Refusal
refusal_at fault line = record { code = code_of fault; line = line }

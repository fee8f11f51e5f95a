-- What may be wrong with a table, the codes of that, and the first fault of several: this project's own.
use Rattle.std.specs.Prelude.{◌≡◌, ℕ, ⊤, Bool, List, [], ◌∷◌, Option, Some, None, if◌then◌else◌}
use Rattle.std.specs.Option.{option_map}
use Rattle.em_base.specs.declared.refusals.Fail.{Fail}
use Rattle.em_base.specs.declared.refusals.Fail.TheVariants.{Refused, NoMemory}
use Rattle.em_base.specs.declared.refusals.Refusal.{Refusal}
use Rattle.em_table.specs.declared.faults.Fault.{Fault}
use Rattle.em_table.specs.declared.faults.Fault.TheVariants.{NoToml, Missing, WrongKind, OutOfRange, Unknown, Twice, Background, TooManyReleases}

-- the code of a fault
abbrev pub code_of : Fault → ℕ
code_of NoToml = 20
code_of Missing = 21
code_of WrongKind = 22
code_of OutOfRange = 23
code_of Unknown = 24
code_of Twice = 25
code_of Background = 26
code_of TooManyReleases = 27

-- a fault, unless this holds
abbrev pub unless : Bool → Fault → Option Fault
unless holds fault = if holds then None else Some fault

-- the first fault that the tests of a list find
abbrev pub first_of : List (Option Fault) → Option Fault
first_of [] = None
first_of (Some fault ∷ tests) = Some fault
first_of (None ∷ tests) = first_of tests

-- the refusal that names a fault, at line 1
abbrev pub refusal_of : Fault → Refusal
refusal_of fault = record { code = code_of fault; line = 1 }

-- the failure is the refusal that names the fault; running out of memory needs no cause
abbrev pub IsFailBy : Option Fault → Fail → Type 0
IsFailBy found (Refused refusal) = option_map refusal_of found ≡ Some refusal
IsFailBy found NoMemory = ⊤

-- The first line of a schedule that is wrong, and the refusal that names it: this project's own.
use Rattle.std.specs.Prelude.{◌≡◌, ℕ, ◌+◌, ◌<◌, ◌≤◌, ◌^◌, ◌⊎◌, ⊤, Bool, true, ◌&&◌, ◌||◌, not, nat_eq, nat_lt, List, [], ◌∷◌, length, slice_index_or, Option, Some, None, codes}
use Rattle.std.specs.Char.{is_digit}
use Rattle.std.specs.Fmt.{decimal}
use Rattle.std.specs.List.{list_all}
use Rattle.std.specs.Str.Parse.{digits_value}
use Rattle.em_base.specs.declared.events.Event.{Event}
use Rattle.em_base.specs.declared.refusals.Fail.{Fail}
use Rattle.em_base.specs.declared.refusals.Fail.TheVariants.{Refused, NoMemory}
use Rattle.em_base.specs.declared.refusals.Refusal.{Refusal}
use Rattle.em_trace.specs.declared.schedule_faults.Fault.{Fault}
use Rattle.em_trace.specs.declared.schedule_faults.Fault.TheVariants.{Form, CountFalls, NotThere}
use Rattle.em_trace.specs.declared.schedule_lines.Said.{Said}
use Rattle.em_trace.specs.declared.schedule_lines.Said.TheVariants.{Released, Unplugged, Ended}
use Rattle.em_trace.specs.Printed.{IsByte, IsWord}
use Rattle.em_trace.specs.Schedules.{IsLast, IsNext, IsSteps, end_text, event_text, ports}
use Rattle.em_trace.specs.Words.{words_of}

-- ---- what a line says

-- the first of the digits is 0 only where it is the only one
abbrev pub has_front : List ℕ → Bool
has_front digits = nat_eq (length digits) 1 || not (nat_eq (slice_index_or digits 0 0) 48)

-- decimal digits, of which the first is 0 only where it is the only one
abbrev pub is_numeral : List ℕ → Bool
is_numeral word = nat_lt 0 (length word) && list_all (λ byte. is_digit byte 10) word && has_front word

-- the word writes the number of a task or a port: one of 8 bits, or, for none, any greater one
abbrev pub Writes : Option ℕ → List ℕ → Type 0
Writes (Some n) word = (decimal n ≡ word) × IsByte n
Writes None word = (is_numeral word ≡ true) × (2 ^ 8 ≤ digits_value 10 word)

-- the words say it, with every number but a task's or a port's within its limit
abbrev pub SaysBy : Said → List (List ℕ) → Type 0
SaysBy (Released count task time word) words =
    (number : List ℕ)
    × (words ≡ decimal count ∷ codes "rel" ∷ number ∷ decimal time ∷ decimal word ∷ [])
    × Writes task number × IsSteps count × IsWord time × IsWord word
SaysBy (Unplugged count port) words =
    (number : List ℕ) × (words ≡ decimal count ∷ codes "unplug" ∷ number ∷ []) × Writes port number × IsSteps count
SaysBy (Ended count) words = (words ≡ decimal count ∷ codes "end" ∷ []) × IsSteps count

-- the line says it, by what stands between its spaces
abbrev pub Says : Said → List ℕ → Type 0
Says said line = SaysBy said (words_of line)

-- the count that is said
abbrev pub count_in : Said → ℕ
count_in (Released count task time word) = count
count_in (Unplugged count port) = count
count_in (Ended count) = count

-- the number is one of so many, counted from 0
abbrev pub IsOneOf : ℕ → Option ℕ → Type 0
IsOneOf limit None = ⊥
IsOneOf limit (Some n) = n < limit

-- there are so many tasks, and what is said names one of these, or a port that there is, or neither a task nor a port
abbrev pub IsThere : ℕ → Said → Type 0
IsThere tasks (Released count task time word) = IsOneOf tasks task
IsThere tasks (Unplugged count port) = IsOneOf ports port
IsThere tasks (Ended count) = ⊤

-- ---- what is wrong with a line

-- the line says nothing of a schedule; or it says something, with a count below the one before it; or with a count that isn't below, of a
-- task or a port that isn't there
abbrev pub IsWrong : ℕ → ℕ → List ℕ → Fault → Type 0
IsWrong tasks least line Form = (said : Said) → Says said line → ⊥
IsWrong tasks least line CountFalls = (said : Said) × Says said line × (count_in said < least)
IsWrong tasks least line NotThere = (said : Said) × Says said line × (least ≤ count_in said) × (IsThere tasks said → ⊥)

-- the code of a fault
abbrev pub code_of : Fault → ℕ
code_of Form = 50
code_of CountFalls = 51
code_of NotThere = 52

-- the refusal of the line of a number with a fault
abbrev pub refusal_at : ℕ → Fault → Refusal
refusal_at number fault = record { code = code_of fault; line = number }

-- ---- the first line that is wrong

-- the lines after the last line, of which the first has this number, are refused: there is one
abbrev pub AreTooMany : ℕ → List (List ℕ) → Refusal → Type 0
AreTooMany number [] refusal = ⊥
AreTooMany number (line ∷ lines) refusal = refusal ≡ refusal_at number Form

-- the lines, of which the first has this number and stands after a line with this count, are refused: there is none, so the last line is
-- missing; or the first is wrong; or it is the line of an event that may come next, or the last line, and what follows it is refused
abbrev pub AreRefused : ℕ → ℕ → ℕ → List (List ℕ) → Refusal → Type 0
AreRefused tasks number least [] refusal = refusal ≡ refusal_at number Form
AreRefused tasks number least (line ∷ lines) refusal =
    ((fault : Fault) × IsWrong tasks least line fault × (refusal ≡ refusal_at number fault))
    ⊎ ((event : ℕ × Event) × (event_text event ≡ line) × IsNext tasks least event × AreRefused tasks (number + 1) event.0 lines refusal)
    ⊎ ((last : ℕ) × (end_text last ≡ line) × IsLast least last × AreTooMany (number + 1) lines refusal)

-- the refusal names the first line that is wrong, where there are so many tasks and the first of the lines has this number
abbrev pub IsScheduleRefused : ℕ → ℕ → List (List ℕ) → Refusal → Type 0
IsScheduleRefused first tasks lines refusal = AreRefused tasks first 0 lines refusal

-- running out of memory needs no cause
abbrev pub IsScheduleFail : ℕ → ℕ → List (List ℕ) → Fail → Type 0
IsScheduleFail first tasks lines (Refused refusal) = IsScheduleRefused first tasks lines refusal
IsScheduleFail first tasks lines NoMemory = ⊤

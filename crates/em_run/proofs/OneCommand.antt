-- Words are one command or none.
use Rattle.std.proofs.Common.{◌≡◌, ◌≢◌, ◌⊎◌, ◌∙◌, ℕ, ◌<◌, ◌≤◌, ◌^◌, Bool, true, false, List, [], ◌∷◌, length, slice_index_or, Option, Some, None, inl, inr, refl, sym, ap, subst, arith, codes}
use Rattle.std.specs.Str.{bytes_eq}
use Rattle.std.specs.Char.{digit_value}
use Rattle.std.specs.Str.Parse.{AllDigits, IsNumeral, digits_value}
use Rattle.std.proofs.lemmas.Bool.{cases_lt, false≢true}
use Rattle.std.proofs.lemmas.Slice.Eq.{bytes_eq-Decides}
use Rattle.clap.specs.Words.{Kinds, Text, fault_of}
use Rattle.em_run.specs.declared.commands.Command.{Command}
use Rattle.em_run.specs.declared.commands.Command.TheVariants.{Run, Trial, Replay, List as ListCode, Hint, Bench}
use Rattle.em_run.specs.Commands.{IsCommand, IsNoCommand, IsNumberOf, Spells, command_line, command_text, value_in}

same_number : (m n : ℕ) (number : Option (List ℕ)) → IsNumberOf (Bench m) number → IsNumberOf (Bench n) number → Bench m ≡ Bench n
same_number m n None h k = absurd h
same_number m n (Some text) h k = ap Bench (sym h.value ∙ k.value)

-- two commands with one text and one number are the same
same_text : (one other : Command) (number : Option (List ℕ)) → command_text one ≡ command_text other → IsNumberOf one number → IsNumberOf other number → one ≡ other
same_text Run Run number e h k = refl
same_text Run Trial number e h k = absurd (omega (arith, ap length e))
same_text Run Replay number e h k = absurd (omega (arith, ap length e))
same_text Run ListCode number e h k = absurd (omega (arith, ap length e))
same_text Run Hint number e h k = absurd (omega (arith, ap length e))
same_text Run (Bench n) number e h k = absurd (omega (arith, ap length e))
same_text Trial Run number e h k = absurd (omega (arith, ap length e))
same_text Trial Trial number e h k = refl
same_text Trial Replay number e h k = absurd (omega (arith, ap length e))
same_text Trial ListCode number e h k = absurd (omega (arith, ap length e))
same_text Trial Hint number e h k = absurd (omega (arith, ap length e))
same_text Trial (Bench n) number e h k = absurd (omega (arith, ap (λ bytes. slice_index_or bytes 0 0) e))
same_text Replay Run number e h k = absurd (omega (arith, ap length e))
same_text Replay Trial number e h k = absurd (omega (arith, ap length e))
same_text Replay Replay number e h k = refl
same_text Replay ListCode number e h k = absurd (omega (arith, ap length e))
same_text Replay Hint number e h k = absurd (omega (arith, ap length e))
same_text Replay (Bench n) number e h k = absurd (omega (arith, ap length e))
same_text ListCode Run number e h k = absurd (omega (arith, ap length e))
same_text ListCode Trial number e h k = absurd (omega (arith, ap length e))
same_text ListCode Replay number e h k = absurd (omega (arith, ap length e))
same_text ListCode ListCode number e h k = refl
same_text ListCode Hint number e h k = absurd (omega (arith, ap (λ bytes. slice_index_or bytes 0 0) e))
same_text ListCode (Bench n) number e h k = absurd (omega (arith, ap length e))
same_text Hint Run number e h k = absurd (omega (arith, ap length e))
same_text Hint Trial number e h k = absurd (omega (arith, ap length e))
same_text Hint Replay number e h k = absurd (omega (arith, ap length e))
same_text Hint ListCode number e h k = absurd (omega (arith, ap (λ bytes. slice_index_or bytes 0 0) e))
same_text Hint Hint number e h k = refl
same_text Hint (Bench n) number e h k = absurd (omega (arith, ap length e))
same_text (Bench m) Run number e h k = absurd (omega (arith, ap length e))
same_text (Bench m) Trial number e h k = absurd (omega (arith, ap (λ bytes. slice_index_or bytes 0 0) e))
same_text (Bench m) Replay number e h k = absurd (omega (arith, ap length e))
same_text (Bench m) ListCode number e h k = absurd (omega (arith, ap length e))
same_text (Bench m) Hint number e h k = absurd (omega (arith, ap length e))
same_text (Bench m) (Bench n) number e h k = same_number m n number h k

same_some : (one other : List ℕ) → Some one ≡ Some other → one ≡ other
same_some one other e = cc

-- words are at most one command
pub one_command : (words : List Text) (one other : Command) → IsCommand words one → IsCommand words other → one ≡ other
one_command words one other h k =
    same_text one other (value_in words (codes "number")) (same_some (command_text one) (command_text other) (sym h.named ∙ k.named)) h.numbered k.numbered

some_not_none : (text : List ℕ) → Some text ≡ None → ⊥
some_not_none text e = absurd (cc)

-- the words are a command, or they are none
abbrev Decided : List Text → Type 0
Decided words = ((command : Command) × IsCommand words command) ⊎ IsNoCommand words

-- a text is one of these, or another
abbrev IsEither : List ℕ → List ℕ → Type 0
IsEither text other = (text ≡ other) ⊎ (text ≢ other)

either : (text other : List ℕ) → IsEither text other
either text other = by_test (bytes_eq text other) refl
  where
    by_test : (b : Bool) → bytes_eq text other ≡ b → IsEither text other
    by_test true e = inl ((bytes_eq-Decides text other).0 e)
    by_test false e = inr (λ same. false≢true (sym e ∙ (bytes_eq-Decides text other).1 same))

-- a command of this text, where no number is given
abbrev IsUnnumbered : List ℕ → Type 0
IsUnnumbered text = ((command : Command) × (text ≡ command_text command) × IsNumberOf command None)
    ⊎ ((command : Command) → text ≡ command_text command → IsNumberOf command None → ⊥)

unnumbered : (text : List ℕ) → IsUnnumbered text
unnumbered text =
    by_tests (either text (codes "run")) (either text (codes "trial")) (either text (codes "replay")) (either text (codes "list")) (either text (codes "hint"))
  where
    none : text ≢ codes "run" → text ≢ codes "trial" → text ≢ codes "replay" → text ≢ codes "list" → text ≢ codes "hint" → (command : Command) → text ≡ command_text command → IsNumberOf command None → ⊥
    none run trial replay list hint Run e h = run e
    none run trial replay list hint Trial e h = trial e
    none run trial replay list hint Replay e h = replay e
    none run trial replay list hint ListCode e h = list e
    none run trial replay list hint Hint e h = hint e
    none run trial replay list hint (Bench n) e h = h

    by_tests : IsEither text (codes "run") → IsEither text (codes "trial") → IsEither text (codes "replay") → IsEither text (codes "list")
        → IsEither text (codes "hint") → IsUnnumbered text
    by_tests (inl e) trial replay list hint = inl (Run, e, refl)
    by_tests (inr run) (inl e) replay list hint = inl (Trial, e, refl)
    by_tests (inr run) (inr trial) (inl e) list hint = inl (Replay, e, refl)
    by_tests (inr run) (inr trial) (inr replay) (inl e) hint = inl (ListCode, e, refl)
    by_tests (inr run) (inr trial) (inr replay) (inr list) (inl e) = inl (Hint, e, refl)
    by_tests (inr run) (inr trial) (inr replay) (inr list) (inr hint) = inr (none run trial replay list hint)

-- a text is decimal digits, or not
all_digits : (text : List ℕ) → AllDigits 10 text ⊎ (AllDigits 10 text → ⊥)
all_digits [] = inl tt
all_digits (c ∷ rest) = by_tests (cases_lt (digit_value c) 10) (all_digits rest)
  where
    by_tests : (digit_value c < 10) ⊎ (10 ≤ digit_value c) → AllDigits 10 rest ⊎ (AllDigits 10 rest → ⊥) → AllDigits 10 (c ∷ rest) ⊎ (AllDigits 10 (c ∷ rest) → ⊥)
    by_tests (inl digit) (inl digits) = inl (digit, digits)
    by_tests (inl digit) (inr none) = inr (λ h. none h.1)
    by_tests (inr large) digits = inr (λ h. omega (arith, large, h.0))

numeral_or_not : (text : List ℕ) → IsNumeral 10 text ⊎ (IsNumeral 10 text → ⊥)
numeral_or_not [] = inr (λ h. omega (arith, h.0))
numeral_or_not (c ∷ rest) = elim (all_digits (c ∷ rest)) [
  | inl digits ↦ inl (omega arith, digits)
  | inr none ↦ inr (λ h. none h.1)
]

-- a number that a text spells
abbrev IsSpelled : List ℕ → Type 0
IsSpelled number = ((n : ℕ) × Spells n number) ⊎ ((n : ℕ) → Spells n number → ⊥)

spelled : (number : List ℕ) → IsSpelled number
spelled number = by_tests (cases_lt 10 (length number)) (cases_lt (digits_value 10 number) (2 ^ 32)) (numeral_or_not number)
  where
    by_tests : (10 < length number) ⊎ (length number ≤ 10) → (digits_value 10 number < 2 ^ 32) ⊎ (2 ^ 32 ≤ digits_value 10 number)
        → IsNumeral 10 number ⊎ (IsNumeral 10 number → ⊥) → IsSpelled number
    by_tests (inl long) fits numeral = inr (λ n h. omega (arith, long, h.few))
    by_tests (inr few) (inl fits) (inl numeral) = inl (digits_value 10 number, record { numeral = numeral; few = few; value = refl; fits = fits })
    by_tests (inr few) (inl fits) (inr none) = inr (λ n h. none h.numeral)
    by_tests (inr few) (inr large) numeral = inr (λ n h. omega (arith, large, h.value, h.fits))

-- a command of this text, where this number is given
abbrev IsNumbered : List ℕ → List ℕ → Type 0
IsNumbered text number = ((command : Command) × (text ≡ command_text command) × IsNumberOf command (Some number))
    ⊎ ((command : Command) → text ≡ command_text command → IsNumberOf command (Some number) → ⊥)

some_number : (number : List ℕ) → Some number ≡ None → ⊥
some_number number e = absurd (cc)

numbered : (text number : List ℕ) → IsNumbered text number
numbered text number = by_tests (either text (codes "bench")) (spelled number)
  where
    none : text ≢ codes "bench" → (command : Command) → text ≡ command_text command → IsNumberOf command (Some number) → ⊥
    none bench Run e h = some_number number h
    none bench Trial e h = some_number number h
    none bench Replay e h = some_number number h
    none bench ListCode e h = some_number number h
    none bench Hint e h = some_number number h
    none bench (Bench n) e h = bench e

    unspelled : ((n : ℕ) → Spells n number → ⊥) → (command : Command) → text ≡ command_text command → IsNumberOf command (Some number) → ⊥
    unspelled none_spelled Run e h = some_number number h
    unspelled none_spelled Trial e h = some_number number h
    unspelled none_spelled Replay e h = some_number number h
    unspelled none_spelled ListCode e h = some_number number h
    unspelled none_spelled Hint e h = some_number number h
    unspelled none_spelled (Bench n) e h = none_spelled n h

    by_tests : IsEither text (codes "bench") → IsSpelled number → IsNumbered text number
    by_tests (inr bench) spells = inr (none bench)
    by_tests (inl e) (inl spells) = inl (Bench spells.0, e, spells.1)
    by_tests (inl e) (inr none_spelled) = inr (unspelled none_spelled)

by_number : (words : List Text) (text : List ℕ) → fault_of command_line words ≡ [] → value_in words (codes "COMMAND") ≡ Some text
    → (number : Option (List ℕ)) → value_in words (codes "number") ≡ number → Decided words
by_number words text taken at None given = by_text (unnumbered text)
  where
    by_text : IsUnnumbered text → Decided words
    by_text (inl (command, e, h)) = inl (command, record { taken = taken; named = at ∙ ap Some e; numbered = subst (IsNumberOf command) (sym given) h })
    by_text (inr none) =
        inr (λ command h. none command (same_some text (command_text command) (sym at ∙ h.named)) (subst (IsNumberOf command) given h.numbered))
by_number words text taken at (Some number) given = by_text (numbered text number)
  where
    by_text : IsNumbered text number → Decided words
    by_text (inl (command, e, h)) = inl (command, record { taken = taken; named = at ∙ ap Some e; numbered = subst (IsNumberOf command) (sym given) h })
    by_text (inr none) =
        inr (λ command h. none command (same_some text (command_text command) (sym at ∙ h.named)) (subst (IsNumberOf command) given h.numbered))

by_command : (words : List Text) → fault_of command_line words ≡ [] → (text : Option (List ℕ)) → value_in words (codes "COMMAND") ≡ text → Decided words
by_command words taken None at = inr (λ command h. some_not_none (command_text command) (sym h.named ∙ at))
by_command words taken (Some text) at = by_number words text taken at (value_in words (codes "number")) refl

by_fault : (words : List Text) (faults : Kinds) → fault_of command_line words ≡ faults → Decided words
by_fault words [] taken = by_command words taken (value_in words (codes "COMMAND")) refl
by_fault words (fault ∷ faults) e = inr (λ command h. let none : fault ∷ faults ≡ [] = sym e ∙ h.taken in absurd (cc))

-- words are a command or none
pub command_or_none : (words : List Text) → ((command : Command) × IsCommand words command) ⊎ IsNoCommand words
command_or_none words = by_fault words (fault_of command_line words) refl

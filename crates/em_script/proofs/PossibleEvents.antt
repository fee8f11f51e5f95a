-- The event of a line may happen: its time and its word are of 32 bits, its task has an interrupt line, and its port is below 8.
use Rattle.std.proofs.Common.{◌≡◌, ℕ, ◌<◌, ◌≤◌, ◌^◌, Bool, true, false, List, [], ◌∷◌, length, get_or, Option, Some, None, refl, subst, arith, codes}
use Rattle.std.proofs.Common.{if◌then◌else◌}
use Rattle.std.proofs.lemmas.Bool.Decides.{nat_tests}
use Rattle.std.proofs.lemmas.List.{get_or_default}
use Rattle.std.proofs.lemmas.List.Quantifiers.{position-Some}
use Rattle.std.specs.Option.{option_map}
use Rattle.std.specs.Prelude.{⊤, nat_le}
use Rattle.std.specs.Str.{bytes_eq}
use Rattle.em_base.specs.Number.{numeral_of}
use Rattle.em_base.specs.declared.events.Event.TheVariants.{Release, Unplug}
use Rattle.em_base.specs.declared.events.Timed.{Timed}
use Rattle.em_base.specs.declared.ids.TaskId.{TaskId}
use Rattle.em_base.specs.declared.tables.TaskRow.{TaskRow}
use Rattle.em_base.specs.Events.{HasLine, IsEventAt}
use Rattle.em_script.specs.declared.lines.Meaning.{Meaning}
use Rattle.em_script.specs.declared.lines.Meaning.TheVariants.{Nothing, Interrupt, Unplugged}
use Rattle.em_script.specs.Lines.{at_most, decimal, interrupt, last_line, last_port, last_word, meaning_of, meaning_of_words, unplug, words_of}
use Rattle.em_script.specs.Script.{HasWords, event_in, event_of, has_line, task_with_line}

-- ---- the numbers of a line

-- the numbers are no greater than they may be
abbrev AreWithin : Meaning → Type 0
AreWithin Nothing = ⊤
AreWithin (Interrupt time line word) = (time ≤ last_word) × (line ≤ last_line) × (word ≤ last_word)
AreWithin (Unplugged time port) = (time ≤ last_word) × (port ≤ last_port)

-- a number that is found is within the limit
abbrev IsLimited : ℕ → Option ℕ → Type 0
IsLimited high found = (n : ℕ) → found ≡ Some n → n ≤ high

at_most-limited : (high : ℕ) (found : Option ℕ) → IsLimited high (at_most high found)
at_most-limited high None n e = absurd (cc)
at_most-limited high (Some m) n e = by_size (nat_le m high) refl e
  where
    by_size : (b : Bool) → nat_le m high ≡ b → (if b then Some m else None) ≡ Some n → n ≤ high
    by_size false t k = absurd (cc)
    by_size true t k =
        let low : m ≤ high = grind (arith, nat_tests) in
        let same : m ≡ n = cc in
        omega arith

decimal-limited : (high : ℕ) (text : List ℕ) → IsLimited high (decimal high text)
decimal-limited high text = at_most-limited high (numeral_of 10 text)

unplug-within : (time port : Option ℕ) (meaning : Meaning) → IsLimited last_word time → IsLimited last_port port
    → unplug time port ≡ Some meaning → AreWithin meaning
unplug-within None port meaning t p e = absurd (cc)
unplug-within (Some time) None meaning t p e = absurd (cc)
unplug-within (Some time) (Some port) meaning t p e =
    let same : Unplugged time port ≡ meaning = cc in
    subst AreWithin same (t time refl, p port refl)

interrupt-within : (time line word : Option ℕ) (meaning : Meaning) → IsLimited last_word time → IsLimited last_line line → IsLimited last_word word
    → interrupt time line word ≡ Some meaning → AreWithin meaning
interrupt-within None line word meaning t l w e = absurd (cc)
interrupt-within (Some time) None word meaning t l w e = absurd (cc)
interrupt-within (Some time) (Some line) None meaning t l w e = absurd (cc)
interrupt-within (Some time) (Some line) (Some word) meaning t l w e =
    let same : Interrupt time line word ≡ meaning = cc in
    subst AreWithin same (t time refl, l line refl, w word refl)

chosen : (b : Bool) (found : Option Meaning) (meaning : Meaning) → (if b then found else None) ≡ Some meaning → found ≡ Some meaning
chosen true found meaning e = e
chosen false found meaning e = absurd (cc)

words-within : (words : List (List ℕ)) (meaning : Meaning) → meaning_of_words words ≡ Some meaning → AreWithin meaning
words-within [] meaning e =
    let same : Nothing ≡ meaning = cc in
    subst AreWithin same tt
words-within (a ∷ []) meaning e = absurd (cc)
words-within (a ∷ b ∷ []) meaning e = absurd (cc)
words-within (a ∷ b ∷ c ∷ []) meaning e =
    let found = unplug (decimal last_word a) (decimal last_port c) in
    unplug-within (decimal last_word a) (decimal last_port c) meaning (decimal-limited last_word a) (decimal-limited last_port c)
    (chosen (bytes_eq b (codes "unplug")) found meaning e)
words-within (a ∷ b ∷ c ∷ d ∷ []) meaning e =
    let found = interrupt (decimal last_word a) (decimal last_line c) (decimal last_word d) in
    interrupt-within (decimal last_word a) (decimal last_line c) (decimal last_word d) meaning
    (decimal-limited last_word a) (decimal-limited last_line c) (decimal-limited last_word d)
    (chosen (bytes_eq b (codes "line")) found meaning e)
words-within (a ∷ b ∷ c ∷ d ∷ f ∷ more) meaning e = absurd (cc)

-- ---- the task of an event

has-line : (rows : List TaskRow) (task : TaskId) (row : TaskRow) (line : ℕ) → task.0 < length rows → row ≡ get_or rows task.0 row
    → has_line line row.line ≡ true → HasLine rows task
has-line rows task row line h e t = (row, h, e, by_line row.line refl t)
  where
    by_line : (o : Option ℕ) → row.line ≡ o → has_line line o ≡ true → (other : ℕ) × (row.line ≡ Some other)
    by_line None k u = absurd (cc)
    by_line (Some other) k u = (other, k)

task-has_line : (rows : List TaskRow) (line task : ℕ) → task_with_line rows line ≡ Some task → HasLine rows (record { 0 = task })
task-has_line [] line task e = absurd (cc)
task-has_line (x ∷ rows) line task e =
    let p = position-Some (λ (row : TaskRow). has_line line row.line) (x ∷ rows) task x e in
    let row = get_or (x ∷ rows) task x in
    has-line (x ∷ rows) (record { 0 = task }) row line p.0 (get_or_default (x ∷ rows) task x row p.0) p.1

-- ---- the event that a line tells of

-- the event may happen at its time, one of 32 bits, and has a word of 32 bits
abbrev pub IsPossible : List TaskRow → Timed → Type 0
IsPossible rows event = (event.time < 2 ^ 32) × IsEventAt rows event.time event.event × HasWords event

release-possible : (rows : List TaskRow) (time line word : ℕ) (event : Timed) → time < 2 ^ 32 → word < 2 ^ 32 → (found : Option ℕ) → task_with_line rows line ≡ found
    → option_map (λ task. (let t : Timed = record { time = time; event = Release (record { 0 = task }) time word } in t)) found ≡ Some event
    → IsPossible rows event
release-possible rows time line word event early small None e k = absurd (cc)
release-possible rows time line word event early small (Some task) e k =
    let release : Timed = record { time = time; event = Release (record { 0 = task }) time word } in
    let same : release ≡ event = cc in
    subst (IsPossible rows) same (early, (task-has_line rows line task e, refl), (early, small))

event_of-possible : (rows : List TaskRow) (meaning : Meaning) (event : Timed) → AreWithin meaning → event_of rows meaning ≡ Some event → IsPossible rows event
event_of-possible rows Nothing event within e = absurd (cc)
event_of-possible rows (Interrupt time line word) event within e =
    release-possible rows time line word event (omega (arith, within.0)) (omega (arith, within.2)) (task_with_line rows line) refl e
event_of-possible rows (Unplugged time port) event within e =
    let unplugged : Timed = record { time = time; event = Unplug (record { 0 = port }) } in
    let same : unplugged ≡ event = cc in
    subst (IsPossible rows) same (omega (arith, within.0), omega (arith, within.1), tt)

-- the event of a line may happen
pub event_in-possible : (rows : List TaskRow) (line : List ℕ) (event : Timed) → event_in rows (meaning_of line) ≡ Some event → IsPossible rows event
event_in-possible rows line event e = by_meaning (meaning_of line) refl e
  where
    by_meaning : (o : Option Meaning) → meaning_of line ≡ o → event_in rows o ≡ Some event → IsPossible rows event
    by_meaning None k f = absurd (cc)
    by_meaning (Some meaning) k f = event_of-possible rows meaning event (words-within (words_of line) meaning k) f

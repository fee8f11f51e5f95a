-- The text of a schedule is ASCII, and none of its lines is a header line.
use Rattle.std.proofs.Common.{◌≡◌, ℕ, ◌<◌, ◌^◌, true, false, not, nat_lt, List, [], ◌∷◌, ◌++◌, codes, refl, ap, arith, lit<}
use Rattle.std.proofs.lemmas.Bool.Decides.{nat_tests}
use Rattle.std.proofs.lemmas.Fmt.{IsAscii-decimal, decimal_is_IsNumeral}
use Rattle.std.proofs.lemmas.List.Elements.{All-weaker}
use Rattle.std.proofs.lemmas.List.Sums.{AllPass-from_list_all}
use Rattle.std.proofs.lemmas.Str.{IsAscii-append}
use Rattle.std.proofs.lemmas.Str.Ascii.{IsAscii-cons, IsAscii-from_all, IsAscii-nil}
use Rattle.std.proofs.lemmas.Str.Parse.{digit_from_value}
use Rattle.std.specs.Fmt.{decimal}
use Rattle.std.specs.List.{AllByRecursion, join_with_byte, list_all}
use Rattle.std.specs.Str.{IsAscii}
use Rattle.std.specs.Str.Parse.{IsNumeral}
use Rattle.em_base.proofs.Trimming.{both_are}
use Rattle.em_base.specs.declared.events.Event.{Event}
use Rattle.em_base.specs.declared.events.Event.TheVariants.{Release, Unplug}
use Rattle.em_bundle.specs.Parts.{is_header, text_of}
use Rattle.em_bundle.specs.Walk.{ArePlain}
use Rattle.em_trace.specs.Schedules.{AreEvents, IsEvent, IsSteps, end_text, end_words, event_text, event_words, lines_of}

-- ---- no line is a header line

digits-plain : (digits rest : List ℕ) → IsNumeral 10 digits → is_header (digits ++ rest) ≡ false
digits-plain [] rest h = absurd (omega arith)
digits-plain (digit ∷ digits) rest h =
    let first = digit_from_value digit h.1.0 in
    grind (arith, nat_tests, first.0)

-- a line that begins with a number is no header line
number-plain : (n : ℕ) (rest : List ℕ) → IsSteps n → is_header (decimal n ++ rest) ≡ false
number-plain n rest h = digits-plain (decimal n) rest (decimal_is_IsNumeral n (omega arith)).0

event-plain : (count : ℕ) (event : Event) → IsSteps count → is_header (event_text (count, event)) ≡ false
event-plain count (Release t time word) h =
    number-plain count (32 ∷ join_with_byte 32 (codes "rel" ∷ decimal t.0 ∷ decimal time ∷ decimal word ∷ [])) h
event-plain count (Unplug p) h = number-plain count (32 ∷ join_with_byte 32 (codes "unplug" ∷ decimal p.0 ∷ [])) h

plain-cons : (line : List ℕ) (texts : List (List ℕ)) → is_header line ≡ false → ArePlain texts → ArePlain (line ∷ texts)
plain-cons line texts e h = both_are (not (is_header line)) (list_all (λ l. not (is_header l)) texts) (ap not e) h

-- no line of a schedule is a header line
pub lines-plain : (tasks least : ℕ) (events : List (ℕ × Event)) (last : ℕ) → AreEvents tasks least events last
    → ArePlain (lines_of events last)
lines-plain tasks least [] last h = plain-cons (end_text last) [] (number-plain last (32 ∷ codes "end") h.1) refl
lines-plain tasks least (event ∷ events) last h =
    plain-cons (event_text event) (lines_of events last) (event-plain event.0 event.1 h.0.1) (lines-plain tasks event.0 events last h.1)

-- ---- ASCII

-- bytes that a test finds to be ASCII
pub tested-ascii : (bytes : List ℕ) → list_all (λ byte. nat_lt byte 128) bytes ≡ true → IsAscii bytes
tested-ascii bytes h =
    IsAscii-from_all bytes
    (All-weaker (λ byte. nat_lt byte 128 ≡ true) (λ byte. byte < 128) (λ byte below. grind (arith, nat_tests)) bytes
    (AllPass-from_list_all (λ byte. nat_lt byte 128) bytes h))

joined-ascii : (words : List (List ℕ)) → AllByRecursion IsAscii words → IsAscii (join_with_byte 32 words)
joined-ascii [] h = IsAscii-nil
joined-ascii (word ∷ []) h = h.0
joined-ascii (word ∷ next ∷ rest) h =
    IsAscii-append word (32 ∷ join_with_byte 32 (next ∷ rest)) h.0
    (IsAscii-cons 32 (join_with_byte 32 (next ∷ rest)) (lit< tt) (joined-ascii (next ∷ rest) h.1))

number-ascii : (n : ℕ) → n < 2 ^ 32 → IsAscii (decimal n)
number-ascii n h = IsAscii-decimal n (omega arith)

event-ascii : (tasks count : ℕ) (event : Event) → IsSteps count → IsEvent tasks event → IsAscii (event_text (count, event))
event-ascii tasks count (Release t time word) h k =
    joined-ascii (event_words count (Release t time word)) (
      number-ascii count (omega arith),
      (
        tested-ascii (codes "rel") refl,
        (number-ascii t.0 (omega (arith, k.0)), (number-ascii time k.2, (number-ascii word k.3, tt))),
      ),
    )
event-ascii tasks count (Unplug p) h k =
    joined-ascii (event_words count (Unplug p))
    (number-ascii count (omega arith), (tested-ascii (codes "unplug") refl, (number-ascii p.0 (omega (arith, k)), tt)))

text-ascii : (line : List ℕ) (texts : List (List ℕ)) → IsAscii line → IsAscii (text_of texts) → IsAscii (text_of (line ∷ texts))
text-ascii line texts h k =
    IsAscii-append (line ++ 10 ∷ []) (text_of texts) (IsAscii-append line (10 ∷ []) h (IsAscii-cons 10 [] (lit< tt) IsAscii-nil)) k

-- the text of a schedule is ASCII
pub lines-ascii : (tasks least : ℕ) (events : List (ℕ × Event)) (last : ℕ) → AreEvents tasks least events last
    → IsAscii (text_of (lines_of events last))
lines-ascii tasks least [] last h =
    let words : AllByRecursion IsAscii (end_words last) = (number-ascii last (omega (arith, h.1)), (tested-ascii (codes "end") refl, tt)) in
    text-ascii (end_text last) [] (joined-ascii (end_words last) words) IsAscii-nil
lines-ascii tasks least (event ∷ events) last h =
    text-ascii (event_text event) (lines_of events last) (event-ascii tasks event.0 event.1 h.0.1 h.0.2)
    (lines-ascii tasks event.0 events last h.1)

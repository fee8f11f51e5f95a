-- The events of lines without a fault are a script.
use Rattle.std.proofs.Common.{◌≡◌, ℕ, zero, suc, ◌+◌, ◌<◌, ◌≤◌, ◌^◌, List, [], ◌∷◌, ◌++◌, length, get_or, take, Option, Some, None}
use Rattle.std.proofs.Common.{refl, sym, ap, subst, ◌∙◌, arith, add-one, append-nil, length-append}
use Rattle.std.proofs.Math.Seq.{take-suc}
use Rattle.std.proofs.lemmas.List.{take_all}
use Rattle.std.proofs.lemmas.List.Elements.{All-nil, All-push, filter_map-append}
use Rattle.std.proofs.lemmas.Option.{get_or_from_slice_get, slice_get-get_or, slice_get_within}
use Rattle.std.specs.List.{All, cons_option, slice_get}
use Rattle.std.specs.Option.{option_to_list}
use Rattle.em_base.proofs.FirstFaults.{none_found}
use Rattle.em_base.specs.declared.events.Timed.{Timed}
use Rattle.em_base.specs.declared.tables.TaskRow.{TaskRow}
use Rattle.em_base.specs.Events.{AreEarly, IsEventAt, IsScript}
use Rattle.em_base.specs.FirstFault.{AreClear, by_test}
use Rattle.em_script.specs.declared.faults.Fault.{Fault}
use Rattle.em_script.specs.Lines.{meaning_of}
use Rattle.em_script.specs.Script.{HasWords, IsScriptOf, event_in, events_of, line_fault, meaning_fault}
use Rattle.em_script.proofs.EventsInOrder.{order-push}
use Rattle.em_script.proofs.NextEvent.{IsNext, meaning_fault-next}
use Rattle.em_script.proofs.PossibleEvents.{IsPossible, event_in-possible}

-- ---- one line more

take-more : (lines : List (List ℕ)) (i : ℕ) (line : List ℕ) → slice_get lines i ≡ Some line → take (i + 1) lines ≡ take i lines ++ line ∷ []
take-more lines i line here =
    ap (λ n. take n lines) (add-one i) ∙ take-suc lines i line (slice_get_within lines i line here)
    ∙ ap (λ l. take i lines ++ l ∷ []) (get_or_from_slice_get lines i line line here)

from_option : (o : Option Timed) → cons_option o [] ≡ option_to_list o
from_option None = refl
from_option (Some event) = refl

events_of-more : (rows : List TaskRow) (lines : List (List ℕ)) (i : ℕ) (line : List ℕ) (found : Option Timed) → slice_get lines i ≡ Some line
    → event_in rows (meaning_of line) ≡ found
    → events_of rows (take (i + 1) lines) ≡ events_of rows (take i lines) ++ option_to_list found
events_of-more rows lines i line found here e =
    ap (events_of rows) (take-more lines i line here)
    ∙ filter_map-append (λ l. event_in rows (meaning_of l)) (take i lines) (line ∷ [])
    ∙ ap (λ o. events_of rows (take i lines) ++ cons_option o []) e
    ∙ ap (λ t. events_of rows (take i lines) ++ t) (from_option found)

-- the events so far, with that of the next line put at the end
pub events_of-next : (rows : List TaskRow) (lines : List (List ℕ)) (i : ℕ) (line : List ℕ) (found : Option Timed) (events after : List Timed)
    → slice_get lines i ≡ Some line → events ≡ events_of rows (take i lines) → found ≡ event_in rows (meaning_of line)
    → after ≡ events ++ option_to_list found → after ≡ events_of rows (take (i + 1) lines)
events_of-next rows lines i line found events after here same e more =
    more ∙ ap (λ t. t ++ option_to_list found) same ∙ sym (events_of-more rows lines i line found here (sym e))

-- the fault of a line, by the events before it
pub line_fault-here : (rows : List TaskRow) (lines : List (List ℕ)) (i : ℕ) (line : List ℕ) (events : List Timed) (fault : Option Fault)
    → events ≡ events_of rows (take i lines) → meaning_fault rows events (meaning_of line) ≡ fault → line_fault rows (take i lines) line ≡ fault
line_fault-here rows lines i line events fault same e = sym (ap (λ es. meaning_fault rows es (meaning_of line)) same) ∙ e

-- ---- what holds of the events

-- the events are a script that may be, at times and with words of 32 bits
pub record IsValid (rows : List TaskRow) (events : List Timed) : Type 0 where
  pub script : IsScript rows events
  pub early : AreEarly events
  pub words : All HasWords events

valid-push : (rows : List TaskRow) (events : List Timed) (event : Timed) → IsValid rows events → IsNext events event → IsPossible rows event
    → IsValid rows (events ++ event ∷ [])
valid-push rows events event v next possible = record {
  script = record {
    few = omega (arith, length-append events (event ∷ []), next.few);
    possible = All-push (λ e. IsEventAt rows e.time e.event) events event v.script.possible possible.1;
    ordered = order-push events event v.script.ordered next.late;
  };
  early = All-push (λ e. e.time < 2 ^ 32) events event v.early possible.0;
  words = All-push HasWords events event v.words possible.2;
}

valid-more : (rows : List TaskRow) (lines : List (List ℕ)) (i : ℕ) (line : List ℕ) → slice_get lines i ≡ Some line
    → IsValid rows (events_of rows (take i lines))
    → line_fault rows (take i lines) line ≡ None → IsValid rows (events_of rows (take (i + 1) lines))
valid-more rows lines i line here v none = by_event (event_in rows (meaning_of line)) refl
  where
    events : List Timed
    events = events_of rows (take i lines)

    by_event : (found : Option Timed) → event_in rows (meaning_of line) ≡ found → IsValid rows (events_of rows (take (i + 1) lines))
    by_event None e = subst (IsValid rows) (sym (events_of-more rows lines i line None here e ∙ append-nil events)) v
    by_event (Some event) e =
        subst (IsValid rows) (sym (events_of-more rows lines i line (Some event) here e))
        (valid-push rows events event v (meaning_fault-next rows events (meaning_of line) event e none) (event_in-possible rows line event e))

valid-before : (rows : List TaskRow) (lines : List (List ℕ)) (n : ℕ) → n ≤ length lines → AreClear (by_test (line_fault rows)) lines n
    → IsValid rows (events_of rows (take n lines))
valid-before rows lines zero h clear = record {
  script = record { few = omega arith; possible = All-nil (λ e. IsEventAt rows e.time e.event); ordered = tt };
  early = All-nil (λ e. e.time < 2 ^ 32);
  words = All-nil HasWords;
}
valid-before rows lines (suc n) h clear =
    let line = get_or lines n [] in
    let here = slice_get-get_or lines n [] (omega arith) in
    let before = valid-before rows lines n (omega arith) (λ i k. clear i (omega arith)) in
    let more : IsValid rows (events_of rows (take (n + 1) lines)) =
    valid-more rows lines n line here before (none_found (line_fault rows) lines (suc n) n line clear (omega arith) here) in
    subst (λ k. IsValid rows (events_of rows (take k lines))) (add-one n) more

-- the events of a script are one that its table may have, at times and with words of 32 bits
pub valid_script : (rows : List TaskRow) (lines : List (List ℕ)) (events : List Timed) → IsScriptOf rows lines events → IsValid rows events
valid_script rows lines events s =
    let whole : take (length lines) lines ≡ lines = take_all (length lines) lines (omega arith) in
    subst (IsValid rows) (ap (events_of rows) whole ∙ sym s.same) (valid-before rows lines (length lines) (omega arith) s.clear)

use Rattle.std.proofs.Common.{◌≡◌, ℕ, ◌+◌, ◌<◌, List, length, get_or, take, Some, None, refl, sym, ap, subst, ◌∙◌, arith}
use Rattle.std.proofs.lemmas.Iterator.Consumers.{YieldsList-end, YieldsList-from_enumerate, YieldsList-turn}
use Rattle.std.proofs.lemmas.Iterator.Splits.{YieldsList-from_lines}
use Rattle.std.proofs.lemmas.List.{length_push, take_all}
use Rattle.std.proofs.lemmas.List.FromFn.{get_or-enumerate_from, length-enumerate_from}
use Rattle.std.proofs.lemmas.Option.{slice_get_read}
use Rattle.std.specs.List.{enumerate_from, slice_get}
use Rattle.std.specs.Str.Lines.{lines}
use Rattle.em_base.proofs.FirstFaults.{clear_past}
use Rattle.em_base.specs.FirstFault.{AreClear, by_test}
use Rattle.em_script.specs.Lines.{meaning_of}
use Rattle.em_script.specs.Script.{events_of, line_fault, meaning_fault}
use Rattle.em_script.proofs.ValidScript.{events_of-next, line_fault-here}
use Rattle.em_script.proofs.reading.read_events.Goals as goal

-- a turn of the loop has the line at a place
record IsTurn (texts : List (List ℕ)) (n place : ℕ) (line : List ℕ) : Type 0 where
  inside : n < length texts
  counted : place ≡ n
  here : slice_get texts n ≡ Some line

-- what is yielded after n lines is the line at place n
is_turn : (texts : List (List ℕ)) (n place : ℕ) (line : List ℕ)
    → (n < length (enumerate_from 0 texts)) × ((place, line) ≡ get_or (enumerate_from 0 texts) n (place, line)) → IsTurn texts n place line
is_turn texts n place line h =
    let inside : n < length texts = omega (arith, h.0, length-enumerate_from 0 texts) in
    let same : (place, line) ≡ (0 + n, get_or texts n line) = h.1 ∙ get_or-enumerate_from 0 texts n (place, line) inside in
    record {
      inside = inside;
      counted = omega (arith, ap (λ p. p.0) same);
      here = slice_get_read texts (length texts) n line refl inside (ap (λ p. p.1) same);
    }

pub loop-place-preserved : goal.loop-place-preserved
loop-place-preserved c =
    let rows = c.args.rows.now in
    let texts = lines c.args.text.now in
    let n = length c.loop-place.yielded in
    let line : List ℕ = c.in-Some.line.now in
    let at = is_turn texts n c.in-Some.place line
    (YieldsList-turn (YieldsList-from_enumerate (YieldsList-from_lines c.args.text.now cc) (cc))
    c.loop-place.yielded _ c.loop-place.yielded_by _ _ (c.in-Some.place, c.in-Some.line) c.in-Some.is c.next.ensures.steps) in
    let none = line_fault-here rows texts n line c.loop-place.events None c.loop-place.invariant.same
    (ap (λ es. meaning_fault rows es (meaning_of line)) (sym c.as_slice.ensures) ∙ c.in-Ok.ensures.clear) in
    let more = length_push c.loop-place.yielded (c.in-Some.place, c.in-Some.line) in
    record {
      same =
          events_of-next rows texts n line c.in-Ok.event c.loop-place.events c.push_event.new.events at.here c.loop-place.invariant.same
          c.in-Ok.ensures.event c.in_ok-push_event-in-Ok.ensures
          ∙ ap (λ k. events_of rows (take k texts)) (sym more);
      clear = subst (AreClear (by_test (line_fault rows)) texts) (sym more) (clear_past (line_fault rows) texts n line c.loop-place.invariant.clear at.here none);
    }

pub overflow_cast-place : goal.overflow_cast-place
overflow_cast-place c =
    let at = is_turn (lines c.args.text.now) (length c.loop-place.yielded) c.in-Some.place c.in-Some.line.now
    (YieldsList-turn (YieldsList-from_enumerate (YieldsList-from_lines c.args.text.now cc) (cc))
    c.loop-place.yielded _ c.loop-place.yielded_by _ _ (c.in-Some.place, c.in-Some.line) c.in-Some.is c.next.ensures.steps) in
    omega (arith, at.inside, at.counted, c.requires.counted)

pub overflow_add-first : goal.overflow_add-first
overflow_add-first c =
    let at = is_turn (lines c.args.text.now) (length c.loop-place.yielded) c.in-Some.place c.in-Some.line.now
    (YieldsList-turn (YieldsList-from_enumerate (YieldsList-from_lines c.args.text.now cc) (cc))
    c.loop-place.yielded _ c.loop-place.yielded_by _ _ (c.in-Some.place, c.in-Some.line) c.in-Some.is c.next.ensures.steps) in
    omega (arith, at.inside, at.counted, c.requires.counted)

pub returns-in-Err-clause-refused : goal.returns-in-Err-clause-refused
returns-in-Err-clause-refused c =
    let rows = c.args.rows.now in
    let texts = lines c.args.text.now in
    let n = length c.loop-place.yielded in
    let line : List ℕ = c.in-Some.line.now in
    let at = is_turn texts n c.in-Some.place line
    (YieldsList-turn (YieldsList-from_enumerate (YieldsList-from_lines c.args.text.now cc) (cc))
    c.loop-place.yielded _ c.loop-place.yielded_by _ _ (c.in-Some.place, c.in-Some.line) c.in-Some.is c.next.ensures.steps) in
    let faulty = line_fault-here rows texts n line c.loop-place.events (Some c.in-Err.fault) c.loop-place.invariant.same
    (ap (λ es. meaning_fault rows es (meaning_of line)) (sym c.as_slice.ensures) ∙ c.in-Err.ensures.fault) in
    record {
      place = n;
      fault = c.in-Err.fault;
      first = record { item = line; here = at.here; faulty = faulty; before = c.loop-place.invariant.clear };
      coded = ap (λ r. r.code) c.at.ensures;
      placed = ap (λ r. r.line) c.at.ensures ∙ ap (λ k. c.args.first + k) at.counted;
    }

pub returns-clause-script : goal.returns-clause-script
returns-clause-script c =
    let rows = c.args.rows.now in
    let texts = lines c.args.text.now in
    let end = YieldsList-end (YieldsList-from_enumerate (YieldsList-from_lines c.args.text.now cc) (cc))
    c.loop-place.yielded _ c.loop-place.yielded_by _ _ c.in-None.is c.next.ensures.steps in
    let all : length c.loop-place.yielded ≡ length texts = end.1 ∙ length-enumerate_from 0 texts in
    record {
      clear = subst (AreClear (by_test (line_fault rows)) texts) all c.loop-place.invariant.clear;
      same =
          c.loop-place.invariant.same ∙ ap (λ k. events_of rows (take k texts)) all
          ∙ ap (events_of rows) (take_all (length texts) texts (omega arith));
    }

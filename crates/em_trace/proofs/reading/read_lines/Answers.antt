use Rattle.std.proofs.Common.{◌≡◌, ℕ, ◌+◌, ◌<◌, List, [], ◌∷◌, ◌++◌, length, get_or, take, Some, refl, sym, ap, subst, ◌∙◌, arith}
use Rattle.std.proofs.lemmas.Iterator.Consumers.{YieldsList-end, YieldsList-from_enumerate, YieldsList-turn}
use Rattle.std.proofs.lemmas.Iterator.Splits.{YieldsList-from_lines}
use Rattle.std.proofs.lemmas.List.{length_push, take_all}
use Rattle.std.proofs.lemmas.List.FromFn.{get_or-enumerate_from, length-enumerate_from}
use Rattle.std.proofs.lemmas.Option.{slice_get_read}
use Rattle.std.specs.List.{enumerate_from, slice_get}
use Rattle.std.specs.Str.Lines.{lines}
use Rattle.em_trace.proofs.LineTexts.{line-none}
use Rattle.em_trace.proofs.TraceTexts.{texts-next}
use Rattle.em_trace.specs.Reading.{AreTextsOf}
use Rattle.em_trace.proofs.reading.read_lines.Goals as goal

-- a turn of the loop has the line at a place
record IsTurn (texts : List (List ℕ)) (n place : ℕ) (line : List ℕ) : Type 0 where
  inside : n < length texts
  counted : place ≡ n
  here : slice_get texts n ≡ Some line

-- what is yielded after n lines is the line at place n
is_turn : (texts : List (List ℕ)) (n place : ℕ) (line : List ℕ)
    → (n < length (enumerate_from 0 texts)) × ((place, line) ≡ get_or (enumerate_from 0 texts) n (place, line)) → IsTurn texts n place line
is_turn texts n place line h =
    let inside : n < length texts = omega (arith, h.0, length-enumerate_from 0 texts) in
    let same : (place, line) ≡ (0 + n, get_or texts n line) = h.1 ∙ get_or-enumerate_from 0 texts n (place, line) inside in
    record {
      inside = inside;
      counted = omega (arith, ap (λ p. p.0) same);
      here = slice_get_read texts (length texts) n line refl inside (ap (λ p. p.1) same);
    }

pub loop-place-preserved : goal.loop-place-preserved
loop-place-preserved c =
    let at = is_turn (lines c.args.text.now) (length c.loop-place.yielded) c.in-Some.place c.in-Some.line.now
    (YieldsList-turn (YieldsList-from_enumerate (YieldsList-from_lines c.args.text.now cc) (cc))
    c.loop-place.yielded _ c.loop-place.yielded_by _ _ (c.in-Some.place, c.in-Some.line) c.in-Some.is c.next.ensures.steps) in
    let texts = lines c.args.text.now in
    let n = length c.loop-place.yielded in
    let more = length_push c.loop-place.yielded (c.in-Some.place, c.in-Some.line) in
    let next = texts-next texts n c.in-Some.line.now c.loop-place.found c.in-Some-read_line.line c.loop-place.invariant at.here (sym c.in-Some-read_line.ensures) in
    subst (AreTextsOf (take (length (c.loop-place.yielded ++ (c.in-Some.place, c.in-Some.line) ∷ [])) texts)) (sym c.in_ok-push-in-Some-read_line.ensures.ok)
    (subst (λ k. AreTextsOf (take k texts) (c.loop-place.found ++ c.in-Some-read_line.line ∷ [])) (sym more) next)

pub overflow_cast-result : goal.overflow_cast-result
overflow_cast-result c =
    let at = is_turn (lines c.args.text.now) (length c.loop-place.yielded) c.in-Some.place c.in-Some.line.now
    (YieldsList-turn (YieldsList-from_enumerate (YieldsList-from_lines c.args.text.now cc) (cc))
    c.loop-place.yielded _ c.loop-place.yielded_by _ _ (c.in-Some.place, c.in-Some.line) c.in-Some.is c.next.ensures.steps) in
    omega (arith, at.inside, at.counted, c.requires)

pub overflow_add-result : goal.overflow_add-result
overflow_add-result c =
    let at = is_turn (lines c.args.text.now) (length c.loop-place.yielded) c.in-Some.place c.in-Some.line.now
    (YieldsList-turn (YieldsList-from_enumerate (YieldsList-from_lines c.args.text.now cc) (cc))
    c.loop-place.yielded _ c.loop-place.yielded_by _ _ (c.in-Some.place, c.in-Some.line) c.in-Some.is c.next.ensures.steps) in
    omega (arith, at.inside, at.counted, c.requires)

pub returns-in-None-read_line-clause-fault : goal.returns-in-None-read_line-clause-fault
returns-in-None-read_line-clause-fault c =
    let at = is_turn (lines c.args.text.now) (length c.loop-place.yielded) c.in-Some.place c.in-Some.line.now
    (YieldsList-turn (YieldsList-from_enumerate (YieldsList-from_lines c.args.text.now cc) (cc))
    c.loop-place.yielded _ c.loop-place.yielded_by _ _ (c.in-Some.place, c.in-Some.line) c.in-Some.is c.next.ensures.steps) in
    record {
      place = length c.loop-place.yielded;
      line = c.in-Some.line.now;
      here = at.here;
      faulty = line-none c.in-Some.line.now (sym c.in-None-read_line.ensures);
      before = (c.loop-place.found, c.loop-place.invariant);
      numbered = ap (λ k. k + 1) at.counted;
    }

pub returns-clause-trace : goal.returns-clause-trace
returns-clause-trace c =
    let texts = lines c.args.text.now in
    let end = YieldsList-end (YieldsList-from_enumerate (YieldsList-from_lines c.args.text.now cc) (cc))
    c.loop-place.yielded _ c.loop-place.yielded_by _ _ c.in-None.is c.next.ensures.steps in
    let all : length c.loop-place.yielded ≡ length texts = end.1 ∙ length-enumerate_from 0 texts in
    subst (λ ts. AreTextsOf ts c.loop-place.found) (ap (λ k. take k texts) all ∙ take_all (length texts) texts (omega arith)) c.loop-place.invariant

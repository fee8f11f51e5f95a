-- Texts are those of one list of lines, or have a first that is no line, and never both.
use Rattle.std.proofs.Common.{◌≡◌, ℕ, zero, suc, ◌+◌, ◌<◌, ◌≤◌, All, List, [], ◌∷◌, ◌++◌, length, map, take, get_or, Option, Some, None, Result, Ok, Err, IfOk, IfErr, MatchResult, inl, inr, ◌⊎◌, refl, sym, ap, ap₂, subst, ◌∙◌, arith, add-one}
use Rattle.std.proofs.lemmas.Grind.{common_steps}
use Rattle.std.proofs.lemmas.List.{get_or-map, get_or_default, map-append, take_all, take_more}
use Rattle.std.proofs.lemmas.List.Elements.{All-get_or, All-head, All-nil, All-push, All-tail}
use Rattle.std.proofs.lemmas.Option.{get_or_from_slice_get, slice_get_read, slice_get_within}
use Rattle.std.specs.List.{slice_get}
use Rattle.std.specs.Str.Lines.{lines}
use Rattle.em_base.proofs.FirstFaults.{one_place}
use Rattle.em_trace.specs.declared.fails.TraceFail.{TraceFail}
use Rattle.em_trace.specs.declared.fails.TraceFail.TheVariants.{Form, NoMemory}
use Rattle.em_trace.specs.declared.lines.Line.{Line}
use Rattle.em_trace.specs.declared.lines.Line.TheVariants.{Exited}
use Rattle.em_trace.proofs.LineTexts.{line-none, line-tells, same-line}
use Rattle.em_trace.specs.Printed.{IsLine, line_text}
use Rattle.em_trace.specs.Reading.{AreTextsOf, IsFormFault, IsNoLine, IsTraceFail, IsTraceOf}
use Rattle.em_trace.specs.Words.{line_of}

-- ---- line by line

-- no text is no line
pub texts-none : (texts : List (List ℕ)) → AreTextsOf (take 0 texts) []
texts-none texts = record { spelled = refl; valid = All-nil IsLine }

-- the texts up to a place, and one more that spells a line
pub texts-next : (texts : List (List ℕ)) (n : ℕ) (text : List ℕ) (found : List Line) (line : Line) → AreTextsOf (take n texts) found
    → slice_get texts n ≡ Some text → line_of text ≡ Some line → AreTextsOf (take (n + 1) texts) (found ++ line ∷ [])
texts-next texts n text found line a here e =
    let t = line-tells text line e in
    let within = slice_get_within texts n text here in
    let last : line_text line ≡ get_or texts n text = t.1 ∙ sym (get_or_from_slice_get texts n text text here) in
    record {
      spelled =
          map-append line_text found (line ∷ []) ∙ ap₂ (λ front text. front ++ text ∷ []) a.spelled last
          ∙ sym (take_more texts n text within);
      valid = All-push IsLine found line a.valid t.0;
    }

-- ---- at most one

same-lines : (one other : List Line) → All IsLine one → All IsLine other → map line_text one ≡ map line_text other → one ≡ other
same-lines [] [] h k e = refl
same-lines [] (y ∷ ys) h k e = absurd (cc)
same-lines (x ∷ xs) [] h k e = absurd (cc)
same-lines (x ∷ xs) (y ∷ ys) h k e =
    let first : line_text x ≡ line_text y = cc in
    let rest : map line_text xs ≡ map line_text ys = cc in
    ap₂ (λ l ls. l ∷ ls) (same-line x y (All-head IsLine x xs h) (All-head IsLine y ys k) first)
    (same-lines xs ys (All-tail IsLine x xs h) (All-tail IsLine y ys k) rest)

-- a text is a trace of one list of lines
pub one_list : (text : List ℕ) (one other : List Line) → IsTraceOf text one → IsTraceOf text other → one ≡ other
one_list text one other a b = same-lines one other a.valid b.valid (a.spelled ∙ sym b.spelled)

-- where texts are those of lines, none of them is no line
not_faulty : (texts : List (List ℕ)) (n i : ℕ) (text : List ℕ) (found : List Line) → AreTextsOf (take n texts) found → i < n
    → slice_get texts i ≡ Some text → IsNoLine text → ⊥
not_faulty texts n i text found a h here none =
    let within = slice_get_within texts i text here in
    let other : Line = Exited (record { 0 = 0 }) in
    let size : length (map line_text found) ≡ length (take n texts) = ap length a.spelled in
    let inside : i < length found = grind (arith, common_steps) in
    let same : line_text (get_or found i other) ≡ text =
    sym (get_or-map line_text found i other text inside) ∙ ap (λ ts. get_or ts i text) a.spelled
    ∙ grind (arith, common_steps, get_or_from_slice_get texts i text text here) in
    none (get_or found i other) (All-get_or IsLine found i other inside a.valid) same

-- the first fault of a text is one
pub one_fault : (text : List ℕ) (one other : ℕ) → IsFormFault text one → IsFormFault text other → one ≡ other
one_fault text one other a b =
    let place : a.place ≡ b.place = one_place a.place b.place
    (λ h. not_faulty (lines text) b.place a.place a.line b.before.0 b.before.1 h a.here a.faulty)
    (λ h. not_faulty (lines text) a.place b.place b.line a.before.0 a.before.1 h b.here b.faulty) in
    a.numbered ∙ ap (λ p. p + 1) place ∙ sym b.numbered

-- a trace has no fault
pub trace_or_fault : (text : List ℕ) (found : List Line) (number : ℕ) → IsTraceOf text found → IsFormFault text number → ⊥
trace_or_fault text found number a b =
    let texts = lines text in
    let all : AreTextsOf (take (length texts) texts) found = subst (λ ts. AreTextsOf ts found) (sym (take_all (length texts) texts (omega arith))) a in
    not_faulty texts (length texts) b.place b.line found all (slice_get_within texts b.place b.line b.here) b.here b.faulty

-- ---- at least one

-- the texts up to a place are those of lines, or the first fault is before it
trace_or_first : (text : List ℕ) (n : ℕ) → n ≤ length (lines text)
    → ((found : List Line) × AreTextsOf (take n (lines text)) found) ⊎ ((number : ℕ) × IsFormFault text number)
trace_or_first text zero within = inl ([], texts-none (lines text))
trace_or_first text (suc n) within = elim (trace_or_first text n (omega arith)) [
  | inr fault ↦ inr fault
  | inl found ↦ by_line found.0 found.1 (line_of line) refl
]
  where
    line : List ℕ
    line = get_or (lines text) n []

    here : slice_get (lines text) n ≡ Some line
    here = slice_get_read (lines text) (length (lines text)) n line refl (omega arith) (get_or_default (lines text) n [] line (omega arith))

    by_line : (found : List Line) → AreTextsOf (take n (lines text)) found → (o : Option Line) → line_of line ≡ o
        → ((found : List Line) × AreTextsOf (take (suc n) (lines text)) found) ⊎ ((number : ℕ) × IsFormFault text number)
    by_line found a None e =
        inr (n + 1, record { place = n; line = line; here = here; faulty = line-none line e; before = (found, a); numbered = refl })
    by_line found a (Some next) e =
        inl (found ++ next ∷ [], subst (λ k. AreTextsOf (take k (lines text)) (found ++ next ∷ [])) (add-one n) (texts-next (lines text) n line found next a here e))

-- a text is a trace, or has a first fault
pub some_answer : (text : List ℕ) → ((found : List Line) × IsTraceOf text found) ⊎ ((number : ℕ) × IsFormFault text number)
some_answer text = elim (trace_or_first text (length (lines text)) (omega arith)) [
  | inr fault ↦ inr fault
  | inl found ↦ inl (found.0, subst (λ ts. AreTextsOf ts found.0) (take_all (length (lines text)) (lines text) (omega arith)) found.1)
]

-- ---- answers

-- the lines of a trace are answered
pub answers_lines : (text : List ℕ) (found : List Line) (result : Result (List Line) TraceFail) → IfOk result (IsTraceOf text) → IfErr result (IsTraceFail text)
    → IsTraceOf text found → MatchResult result (λ other. other ≡ found) (λ fail. fail ≡ NoMemory)
answers_lines text found (Ok other) ok err a = one_list text other found ok a
answers_lines text found (Err NoMemory) ok err a = refl
answers_lines text found (Err (Form number)) ok err a = absurd (trace_or_fault text found number a err)

-- the first fault is answered
pub answers_fault : (text : List ℕ) (number : ℕ) (result : Result (List Line) TraceFail) → IfOk result (IsTraceOf text) → IfErr result (IsTraceFail text)
    → IsFormFault text number → MatchResult result (λ _. ⊥) (λ fail. (fail ≡ Form number) ⊎ (fail ≡ NoMemory))
answers_fault text number (Ok other) ok err a = trace_or_fault text other number ok a
answers_fault text number (Err NoMemory) ok err a = inr refl
answers_fault text number (Err (Form other)) ok err a = inl (ap (λ n. Form n) (one_fault text other number err a))

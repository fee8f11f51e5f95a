-- Statements read line by line.
use Rattle.std.proofs.Common.{◌≡◌, ◌∙◌, ℕ, zero, suc, ◌+◌, ◌<◌, Bool, true, false, cond, List, [], ◌∷◌, ◌++◌, length, map, get_or, slice_index, filter, Some, inl, inr, refl, sym, ap, subst, arith, append-nil, append_assoc, length-append}
use Rattle.std.proofs.Math.Seq.{get_or-append_seam}
use Rattle.std.proofs.lemmas.Bool.{cases_lt}
use Rattle.std.proofs.lemmas.Grind.{common_steps}
use Rattle.std.proofs.lemmas.List.{length-map, map-append}
use Rattle.std.proofs.lemmas.List.Elements.{filter-append}
use Rattle.std.proofs.lemmas.Option.{get_or_from_slice_get, slice_get-get_or}
use Rattle.std.specs.List.{All, enumerate_from, slice_get}
use Rattle.em_asm_read.specs.Fitting.{LineFits}
use Rattle.em_asm_read.specs.Lines.{IsFaulty, IsLine, IsLineFail}
use Rattle.em_asm_read.specs.declared.faults.LineFail.{LineFail}
use Rattle.em_asm_read.specs.declared.faults.LineFail.TheVariants.{Code, NoMemory as OutOfMemory}
use Rattle.em_asm_read.specs.Faults.{fail_at}
use Rattle.em_asm_read.specs.declared.items.Line.{Line}
use Rattle.em_base.specs.declared.refusals.Fail.{Fail}
use Rattle.em_base.specs.declared.refusals.Fail.TheVariants.{Refused, NoMemory}
use Rattle.em_bundle.specs.declared.code.Statements.{Statements}
use Rattle.em_base.specs.declared.images.Image.{Image}
use Rattle.em_asm.specs.Image.{IsAssemblyFail, IsImageOf, IsAssemblyRefused}
use Rattle.em_bundle.specs.Code.{AllSay, IsCodeOf, IsMisread, lines_in, number_in, speaks, statements_of}
use Rattle.em_bundle.specs.Walk.{AreStatements, IsCodeFail, IsMisreadFail}

-- ---- what lines say, one line more

say-push : (texts : List (List ℕ)) (items : List Line) (text : List ℕ) (item : Line) → AllSay texts items → IsLine text item → AllSay (texts ++ text ∷ []) (items ++ item ∷ [])
say-push [] items text item s h = (item, [], ap (λ is. is ++ item ∷ []) s, h, refl)
say-push (t ∷ ts) items text item s h = (s.0, s.1 ++ item ∷ [], ap (λ is. is ++ item ∷ []) s.2, s.3, say-push ts s.1 text item s.4 h)

say-length : (texts : List (List ℕ)) (items : List Line) → AllSay texts items → length items ≡ length texts
say-length [] items h = ap length h
say-length (text ∷ texts) items h = ap length h.2 ∙ ap suc (say-length texts h.1 h.4)

-- a text that says something at a place
say-at : (texts : List (List ℕ)) (items : List Line) (i : ℕ) (text : List ℕ) → AllSay texts items → slice_get texts i ≡ Some text → (item : Line) × IsLine text item
say-at [] items i text s e = absurd (cc)
say-at (t ∷ ts) items zero text s e = (s.0, subst (λ x. IsLine x s.0) (same t text e) s.3)
  where
    same : (a b : List ℕ) → Some a ≡ Some b → a ≡ b
    same a b e = cc
say-at (t ∷ ts) items (suc i) text s e = say-at ts s.1 i text s.4 e

-- ---- statements, one line more

enumerate-push : (first : ℕ) (items : List Line) (item : Line) → enumerate_from first (items ++ item ∷ []) ≡ enumerate_from first items ++ (first + length items, item) ∷ []
enumerate-push first [] item = ap (λ n. (n, item) ∷ []) (omega arith)
enumerate-push first (x ∷ xs) item = ap (λ rest. (first, x) ∷ rest) (enumerate-push (first + 1) xs item ∙ ap (λ n. enumerate_from (first + 1) xs ++ (n, item) ∷ []) (omega arith))

statements-push : (first number : ℕ) (items : List Line) (item : Line) → number ≡ first + length items
    → statements_of first (items ++ item ∷ []) ≡ statements_of first items ++ cond (speaks item) ((number, item) ∷ []) []
statements-push first number items item e =
    ap (filter (λ statement. speaks statement.1)) (enumerate-push first items item)
    ∙ filter-append (λ statement. speaks statement.1) (enumerate_from first items) ((first + length items, item) ∷ [])
    ∙ ap (λ n. statements_of first items ++ cond (speaks item) ((n, item) ∷ []) []) (sym e)

lines-of-one : (number : ℕ) (item : Line) (b : Bool) → lines_in (cond b ((number, item) ∷ []) []) ≡ cond b (item ∷ []) []
lines-of-one number item true = refl
lines-of-one number item false = refl

numbers-of-one : (number : ℕ) (item : Line) (b : Bool) → map (λ (s : ℕ × Line). s.0) (cond b ((number, item) ∷ []) []) ≡ map (λ (l : Line). number) (cond b (item ∷ []) [])
numbers-of-one number item true = refl
numbers-of-one number item false = refl

-- the lines read so far, the lines that are left, and the number of the next
pub record AreRead (first : ℕ) (texts rest : List (List ℕ)) (number : ℕ) (found : Statements) : Type 0 where
  pub done : List (List ℕ)
  pub joined : texts ≡ done ++ rest
  pub counted : number ≡ first + length done
  pub statements : AreStatements first done found

pub read-next : (first : ℕ) (texts rest after : List (List ℕ)) (number : ℕ) (before found : Statements) (text : List ℕ) (line : Line)
    → AreRead first texts rest number before → rest ≡ text ∷ after → IsLine text line → found.lines ≡ before.lines ++ filter speaks (line ∷ [])
    → found.numbers ≡ before.numbers ++ map (λ (l : Line). number) (filter speaks (line ∷ [])) → AreRead first texts after (number + 1) found
read-next first texts rest after number before found text line r split said lines numbers =
    let s = r.statements in
    let count : number ≡ first + length s.items = omega (arith, r.counted, say-length r.done s.items s.read) in
    let more = statements-push first number s.items line count in
    record {
      done = r.done ++ text ∷ [];
      joined = r.joined ∙ ap (λ ts. r.done ++ ts) split ∙ sym (append_assoc r.done (text ∷ []) after);
      counted = omega (arith, r.counted, length-append r.done (text ∷ []));
      statements = record {
        items = s.items ++ line ∷ [];
        read = say-push r.done s.items text line s.read said;
        lines =
            lines ∙ ap (λ ls. ls ++ filter speaks (line ∷ [])) s.lines
            ∙ ap (λ ls. lines_in (statements_of first s.items) ++ ls) (sym (lines-of-one number line (speaks line)))
            ∙ sym (map-append (λ (p : ℕ × Line). p.1) (statements_of first s.items) (cond (speaks line) ((number, line) ∷ []) []))
            ∙ ap lines_in (sym more);
        numbers =
            numbers ∙ ap (λ ns. ns ++ map (λ (l : Line). number) (filter speaks (line ∷ []))) s.numbers
            ∙ ap (λ ns. map (λ (p : ℕ × Line). p.0) (statements_of first s.items) ++ ns) (sym (numbers-of-one number line (speaks line)))
            ∙ sym (map-append (λ (p : ℕ × Line). p.0) (statements_of first s.items) (cond (speaks line) ((number, line) ∷ []) []))
            ∙ ap (map (λ (p : ℕ × Line). p.0)) (sym more);
      };
    }

pub read-begins : (first : ℕ) (texts : List (List ℕ)) (found : Statements) → found.lines ≡ [] → found.numbers ≡ [] → AreRead first texts texts first found
read-begins first texts found lines numbers = record {
  done = [];
  joined = refl;
  counted = omega arith;
  statements = record { items = []; read = refl; lines = lines; numbers = numbers };
}

pub read-all : (first : ℕ) (texts rest : List (List ℕ)) (number : ℕ) (found : Statements) → AreRead first texts rest number found → rest ≡ [] → AreStatements first texts found
read-all first texts rest number found r none =
    subst (λ ts. AreStatements first ts found) (sym (r.joined ∙ ap (λ ts. r.done ++ ts) none ∙ append-nil r.done)) r.statements

-- ---- a line that isn't read

within-front : (texts done rest : List (List ℕ)) (i : ℕ) (text : List ℕ) → texts ≡ done ++ rest → i < length done → slice_get texts i ≡ Some text → slice_get done i ≡ Some text
within-front texts done rest i text e h here =
    let there : get_or done i [] ≡ text = grind (arith, common_steps, get_or_from_slice_get texts i text [] here) in
    slice_get-get_or done i [] h ∙ ap Some there

next-line : (texts done rest : List (List ℕ)) (text : List ℕ) → texts ≡ done ++ text ∷ rest → slice_get texts (length done) ≡ Some text
next-line texts done rest text e =
    let within : length done < length (done ++ text ∷ rest) = omega (arith, length-append done (text ∷ rest)) in
    ap (λ ts. slice_get ts (length done)) e ∙ slice_get-get_or (done ++ text ∷ rest) (length done) [] within ∙ ap Some (get_or-append_seam done text rest [])

misread : (first : ℕ) (texts rest : List (List ℕ)) (number : ℕ) (found : Statements) (text : List ℕ) (code : ℕ)
    → ((text : List ℕ) (line : Line) (code : ℕ) → IsLine text line → IsFaulty text code → ⊥)
    → AreRead first texts (text ∷ rest) number found → IsFaulty text code → IsMisread first texts (record { code = code; line = number })
misread first texts rest number found text code either r faulty = record {
  place = length r.done;
  fault = code;
  first = record {
    item = text;
    here = next-line texts r.done rest text r.joined;
    faulty = faulty;
    before = λ i h item fault here wrong.
        let said = say-at r.done r.statements.items i item r.statements.read (within-front texts r.done (text ∷ rest) i item r.joined h here) in
        either item said.0 fault said.1 wrong;
  };
  coded = refl;
  placed = r.counted;
}

pub misread-fail : (first : ℕ) (texts rest after : List (List ℕ)) (number : ℕ) (found : Statements) (text : List ℕ) (fail : LineFail) (answer : Fail)
    → ((text : List ℕ) (line : Line) (code : ℕ) → IsLine text line → IsFaulty text code → ⊥)
    → AreRead first texts rest number found → rest ≡ text ∷ after → IsLineFail text fail → answer ≡ fail_at fail number → IsMisreadFail first texts answer
misread-fail first texts rest after number found text (Code code) answer either r split faulty e =
    subst (IsMisreadFail first texts) (sym e) (misread first texts after number found text code either (subst (λ ls. AreRead first texts ls number found) split r) faulty)
misread-fail first texts rest after number found text OutOfMemory answer either r split faulty e = subst (IsMisreadFail first texts) (sym e) tt

-- ---- lines that fit

pub fits-next : (lines after : List Line) (line : Line) → All LineFits lines → LineFits line → after ≡ lines ++ filter speaks (line ∷ []) → All LineFits after
fits-next lines after line fits fit e = step (speaks line) e
  where
    push : All LineFits (lines ++ line ∷ [])
    push = λ k d h. elim (cases_lt k (length lines)) [
      | inl before ↦ subst LineFits (sym (front k d before)) (fits k d before)
      | inr past ↦ subst LineFits (sym (last k d (omega (arith, past, h, length-append lines (line ∷ []))))) fit
    ]
      where
        front : (k : ℕ) (d : Line) → k < length lines → get_or (lines ++ line ∷ []) k d ≡ get_or lines k d
        front k d h = grind (arith, common_steps)

        last : (k : ℕ) (d : Line) → k ≡ length lines → get_or (lines ++ line ∷ []) k d ≡ line
        last k d h = grind (arith, common_steps)

    step : (b : Bool) → after ≡ lines ++ cond b (line ∷ []) [] → All LineFits after
    step true e = subst (All LineFits) (sym e) push
    step false e = subst (All LineFits) (sym (e ∙ append-nil lines)) fits

-- ---- the image of the statements

pub code-found : (first : ℕ) (texts : List (List ℕ)) (found : Statements) (lines : List Line) (numbers : List ℕ) (image : Image) → AreStatements first texts found
    → lines ≡ found.lines → numbers ≡ found.numbers → IsImageOf (λ place. slice_index numbers place) lines image → IsCodeOf first texts image
code-found first texts found lines numbers image s l n h = record {
  items = s.items;
  read = s.read;
  assembled =
      subst (λ ls. IsImageOf (number_in (statements_of first s.items)) ls image) (l ∙ s.lines)
      (subst (λ ns. IsImageOf (λ place. slice_index ns place) lines image) (n ∙ s.numbers) h);
}

pub code-refused : (first : ℕ) (texts : List (List ℕ)) (found : Statements) (lines : List Line) (numbers : List ℕ) (fail : Fail) → AreStatements first texts found
    → lines ≡ found.lines → numbers ≡ found.numbers → IsAssemblyFail (λ place. slice_index numbers place) lines fail → IsCodeFail first texts fail
code-refused first texts found lines numbers (Refused refusal) s l n h = inr (record {
  items = s.items;
  read = s.read;
  refused =
      subst (λ ls. IsAssemblyRefused (number_in (statements_of first s.items)) ls refusal) (l ∙ s.lines)
      (subst (λ ns. IsAssemblyRefused (λ place. slice_index ns place) lines refusal) (n ∙ s.numbers) h);
})
code-refused first texts found lines numbers NoMemory s l n h = tt

-- there are as many numbers as lines
pub as-many : (first : ℕ) (texts : List (List ℕ)) (found : Statements) → AreStatements first texts found → length found.lines ≡ length found.numbers
as-many first texts found s =
    ap length s.lines ∙ length-map (statements_of first s.items) (λ (p : ℕ × Line). p.1)
    ∙ sym (ap length s.numbers ∙ length-map (statements_of first s.items) (λ (p : ℕ × Line). p.0))

-- what `?` answers where the lines aren't read
pub misread-code : (first : ℕ) (texts : List (List ℕ)) (fail : Fail) → IsMisreadFail first texts fail → IsCodeFail first texts fail
misread-code first texts (Refused refusal) h = inl h
misread-code first texts NoMemory h = tt

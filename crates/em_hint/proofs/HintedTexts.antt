-- The text with its hints, one line after the other.
use Rattle.std.proofs.Common.{◌≡◌, ℕ, ◌+◌, ◌-◌, ◌<◌, Bool, true, false, cond, List, [], ◌∷◌, ◌++◌, length, refl, sym, ap, ◌∙◌, subst, arith, All, Option, None, Some, OnSome, eqb}
use denote.Ref.{Bor}
use Rattle.std.proofs.lemmas.Bool.{eqb-true}
use Rattle.std.proofs.lemmas.List.{flat_map_more, get_or_default, length-map, map-append}
use Rattle.std.proofs.lemmas.List.Elements.{All-head, All-tail}
use Rattle.std.specs.List.{enumerate_from, flat_map, slice_index_or}
use Rattle.em_base.specs.Text.{texts_of}
use Rattle.em_base.specs.declared.apps.HintMap.{HintMap}
use Rattle.em_base.specs.declared.ids.SemId.{SemId}
use Rattle.em_base.specs.declared.images.Wait.{Wait}
use Rattle.em_hint.specs.Lines.{HasWaitLine, IsWaitLine, hinted_line, hinted_text, unwritten, unwritten_in}

-- one line more with its number
enumerate_from-push : (first : ℕ) (texts : List (List ℕ)) (text : List ℕ) → enumerate_from first (texts ++ text ∷ []) ≡ enumerate_from first texts ++ (first + length texts, text) ∷ []
enumerate_from-push first [] text = ap (λ number. (number, text) ∷ []) (omega arith)
enumerate_from-push first (one ∷ texts) text =
    let same : first + 1 + length texts ≡ first + length (one ∷ texts) = omega arith in
    ap (λ rest. (first, one) ∷ rest) (enumerate_from-push (first + 1) texts text ∙ ap (λ number. enumerate_from (first + 1) texts ++ (number, text) ∷ []) same)

-- the text with one line more
hinted_text-push : (hints : HintMap) (waits : List Wait) (first : ℕ) (texts : List (List ℕ)) (text : List ℕ) → hinted_text hints waits first (texts ++ text ∷ []) ≡ hinted_text hints waits first texts ++ (hinted_line (unwritten_in hints waits (first + length texts)) text ++ 10 ∷ [])
hinted_text-push hints waits first texts text =
    let written : ℕ × List ℕ → List ℕ = λ line. hinted_line (unwritten_in hints waits line.0) line.1 ++ 10 ∷ [] in
    ap (flat_map written) (enumerate_from-push first texts text) ∙ sym (flat_map_more written [] (enumerate_from first texts) (first + length texts, text))

-- a line with a hint that is to be written is one of a `waitjob`
is_wait_line : (hints : HintMap) (first : ℕ) (texts : List (List ℕ)) (waits : List Wait) (number : ℕ) (hint : SemId) → All (HasWaitLine first texts) waits → unwritten_in hints waits number ≡ Some hint → IsWaitLine (slice_index_or texts (number - first) [])
is_wait_line hints first texts [] number hint lines e = absurd (cc)
is_wait_line hints first texts (wait ∷ waits) number hint lines e = by_test (eqb wait.line number) refl e (is_wait_line hints first texts waits number hint (All-tail (HasWaitLine first texts) wait waits lines))
  where
    by_test : (here : Bool) → eqb wait.line number ≡ here → cond here (unwritten hints wait) (unwritten_in hints waits number) ≡ Some hint → (unwritten_in hints waits number ≡ Some hint → IsWaitLine (slice_index_or texts (number - first) [])) → IsWaitLine (slice_index_or texts (number - first) [])
    by_test true same e more = subst (λ n. IsWaitLine (slice_index_or texts (n - first) [])) (eqb-true wait.line number same) (All-head (HasWaitLine first texts) wait waits lines).2
    by_test false same e more = more e

-- a line that was found at its place is the one with its number
line_at : (texts : List (List ℕ)) (first number place : ℕ) (line : List ℕ) → number ≡ first + place → place < length texts → line ≡ slice_index_or texts place line → slice_index_or texts (number - first) [] ≡ line
line_at texts first number place line counted within found =
    ap (λ n. slice_index_or texts n []) (omega arith) ∙ get_or_default texts place [] line within ∙ sym found

-- a line that is to have a hint is one of a `waitjob`
pub has_wait_line : (hints : HintMap) (first : ℕ) (texts : List (List ℕ)) (waits : List Wait) (number place : ℕ) (line : List ℕ) (hint : Option SemId) → All (HasWaitLine first texts) waits → hint ≡ unwritten_in hints waits number → number ≡ first + place → place < length texts → line ≡ slice_index_or texts place line → OnSome hint (IsWaitLine line)
has_wait_line hints first texts waits number place line None lines e counted within found = tt
has_wait_line hints first texts waits number place line (Some hint) lines e counted within found =
    subst IsWaitLine (line_at texts first number place line counted within found) (is_wait_line hints first texts waits number hint lines (sym e))

-- the text so far, with the line of the next number written behind it
pub hinted_text-more : (hints : HintMap) (waits : List Wait) (first number : ℕ) (yielded : List (Bor (List ℕ))) (line : Bor (List ℕ)) (hint : Option SemId) (text more : List ℕ) → number ≡ first + length yielded → hint ≡ unwritten_in hints waits number → text ≡ hinted_text hints waits first (texts_of yielded) → more ≡ text ++ (hinted_line hint line.now ++ 10 ∷ []) → more ≡ hinted_text hints waits first (texts_of (yielded ++ line ∷ []))
hinted_text-more hints waits first number yielded line hint text more counted e so_far written =
    let texts = texts_of yielded in
    let place : number ≡ first + length texts = omega (arith, counted, length-map yielded (λ (t : Bor (List ℕ)). t.now)) in
    let same : hint ≡ unwritten_in hints waits (first + length texts) = e ∙ ap (unwritten_in hints waits) place in
    written
    ∙ ap (λ front. front ++ (hinted_line hint line.now ++ 10 ∷ [])) so_far
    ∙ ap (λ due. hinted_text hints waits first texts ++ (hinted_line due line.now ++ 10 ∷ [])) same
    ∙ sym (hinted_text-push hints waits first texts line.now)
    ∙ ap (hinted_text hints waits first) (sym (map-append (λ (t : Bor (List ℕ)). t.now) yielded (line ∷ [])))

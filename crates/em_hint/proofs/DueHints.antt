-- The hints that are to be written, one statement after the other.
use Rattle.std.proofs.Common.{◌≡◌, ℕ, ◌+◌, ◌<◌, Bool, true, false, List, [], ◌∷◌, ◌++◌, length, map, take, drop, refl, sym, ap, ◌∙◌, subst, get_or, arith, ◌&&◌, eqb, is_some, cond, Option, None, Some}
use Rattle.std.proofs.lemmas.Bool.Decides.{nat_tests}
use Rattle.std.proofs.lemmas.List.{drop_more, take_more, take-append-drop}
use Rattle.std.proofs.lemmas.Map.Keys.{IsDistinct-head, IsDistinct-tail}
use Rattle.std.specs.List.{AllByRecursion, IsDistinct}
use Rattle.em_base.specs.declared.apps.HintMap.{HintMap}
use Rattle.em_base.specs.declared.ids.SemId.{SemId}
use Rattle.em_base.specs.declared.images.Wait.{Wait}
use Rattle.em_hint.specs.Lines.{unwritten, unwritten_in}

abbrev numbers : List Wait → List ℕ
numbers waits = map (λ wait. wait.line) waits

-- the number behind the first ones is one of them all
all_at : (P : ℕ → Type 0) (before : List Wait) (wait : Wait) (rest : List Wait) → AllByRecursion P (numbers (before ++ wait ∷ rest)) → P wait.line
all_at P [] wait rest h = h.0
all_at P (first ∷ before) wait rest h = all_at P before wait rest h.1

-- what a hint more at a number makes of another
abbrev pub with_hint : Option SemId → ℕ → ℕ → Option SemId → Option SemId
with_hint hint number other old = cond (is_some hint && eqb number other) hint old

-- what stands before a number and is apart from it stays before it, whatever the tests answer
before_bools : (first here : Bool) (hint one old new : Option SemId) → (first ≡ true → here ≡ false) → new ≡ cond (is_some hint && here) hint old → cond first one new ≡ cond (is_some hint && here) hint (cond first one old)
before_bools true here None one old new other e = refl
before_bools true true (Some s) one old new other e = absurd (cc (other refl))
before_bools true false (Some s) one old new other e = refl
before_bools false here hint one old new other e = e

-- two numbers that are apart aren't both the third
not_both : (a b other : ℕ) → eqb a b ≡ false → eqb a other ≡ true → eqb b other ≡ false
not_both a b other apart e = grind (arith, nat_tests)

-- where nothing stands before, one hint at its number
alone : (here : Bool) (hint : Option SemId) → cond here hint None ≡ cond (is_some hint && here) hint None
alone true None = refl
alone true (Some s) = refl
alone false None = refl
alone false (Some s) = refl

-- the hints with those of one statement more
unwritten_in-push : (hints : HintMap) (before : List Wait) (wait : Wait) (rest : List Wait) (number : ℕ) → IsDistinct eqb (numbers (before ++ wait ∷ rest)) → unwritten_in hints (before ++ wait ∷ []) number ≡ with_hint (unwritten hints wait) wait.line number (unwritten_in hints before number)
unwritten_in-push hints [] wait rest number h = alone (eqb wait.line number) (unwritten hints wait)
unwritten_in-push hints (first ∷ before) wait rest number h =
    let apart = all_at (λ other. eqb first.line other ≡ false) before wait rest (IsDistinct-head eqb first.line (numbers (before ++ wait ∷ rest)) h) in
    before_bools (eqb first.line number) (eqb wait.line number) (unwritten hints wait) (unwritten hints first) (unwritten_in hints before number) (unwritten_in hints (before ++ wait ∷ []) number) (not_both first.line wait.line number apart) (unwritten_in-push hints before wait rest number (IsDistinct-tail eqb first.line (numbers (before ++ wait ∷ rest)) h))

-- the same, of the statement at a place
pub unwritten_in-more : (hints : HintMap) (waits : List Wait) (place : ℕ) (none : Wait) (number : ℕ) → place < length waits → IsDistinct eqb (numbers waits) → unwritten_in hints (take (place + 1) waits) number ≡ with_hint (unwritten hints (get_or waits place none)) (get_or waits place none).line number (unwritten_in hints (take place waits) number)
unwritten_in-more hints waits place none number within h =
    let whole : waits ≡ take place waits ++ get_or waits place none ∷ drop (place + 1) waits =
    sym (take-append-drop place waits) ∙ ap (λ rest. take place waits ++ rest) (drop_more waits place none within) in
    ap (λ some. unwritten_in hints some number) (take_more waits place none within)
    ∙ unwritten_in-push hints (take place waits) (get_or waits place none) (drop (place + 1) waits) number (subst (λ all. IsDistinct eqb (numbers all)) whole h)

-- Each `waitjob` of an image has the number of the line that says it, and each has a line of its own.
use Rattle.std.proofs.Common.{◌≡◌, ◌∙◌, ◌⊎◌, ℕ, suc, ◌+◌, ◌-◌, ◌*◌, ◌<◌, ◌≤◌, Bool, true, false, cond, nat_eq, List, [], ◌∷◌, ◌++◌, length, map, get_or, inl, inr, refl, sym, ap, ap₂, subst, arith}
use Rattle.std.proofs.lemmas.Bool.Decides.{nat_tests}
use Rattle.std.proofs.lemmas.List.{get_or-map, length-map}
use Rattle.std.proofs.lemmas.List.Elements.{All-cons, All-nil, All-weaker}
use Rattle.std.proofs.lemmas.Map.Keys.{IsDistinct-cons}
use Rattle.std.specs.List.{All, AllByRecursion, IsDistinct}
use Rattle.std.specs.Prelude.{slice_index_or}
use Rattle.std.specs.Str.Lines.{strip_carriage_return}
use Rattle.em_asm.specs.Code.{size_of}
use Rattle.em_asm.specs.Image.{gather, wait_at, waits_of}
use Rattle.em_asm_read.specs.declared.items.Item.{Item}
use Rattle.em_asm_read.specs.declared.items.Item.TheVariants.{Nothing, One, Branch, Jal, Li, Wait, Word, Raw}
use Rattle.em_asm_read.specs.declared.items.Line.{Line}
use Rattle.em_base.specs.declared.images.Wait.{Wait as WaitAt}
use Rattle.em_hint.specs.Lines.{HasWaitLine, HaveWaitLines, IsWaitLine}
use Rattle.em_bundle.proofs.WaitReturns.{wait-stripped}
use Rattle.em_bundle.proofs.WaitStatements.{is_wait}
use Rattle.em_bundle.proofs.WaitTexts.{wait-text}
use Rattle.em_bundle.specs.Code.{AllSay, lines_in, number_in, speaks, statements_of}

-- ---- the `waitjob` statements, by the statements and their numbers

abbrev pub waits_in : ℕ → List (ℕ × Line) → List WaitAt
waits_in at [] = []
waits_in at (s ∷ statements) = wait_at s.0 at s.1.item ++ waits_in (at + 4 * size_of s.1.item) statements

-- where the places have the numbers of statements
gathered : (number : ℕ → ℕ) (place at : ℕ) (statements : List (ℕ × Line))
    → ((i : ℕ) → i < length statements → number (place + i) ≡ get_or (map (λ (s : ℕ × Line). s.0) statements) i 0)
    → gather (λ p a line. wait_at (number p) a line.item) place at (lines_in statements) ≡ waits_in at statements
unfolding gather
gathered number place at [] h = refl
gathered number place at (s ∷ statements) h =
    let here : number place ≡ s.0 = ap number (omega arith) ∙ h 0 (omega arith) in
    ap₂ (λ n rest. wait_at n at s.1.item ++ rest) here
    (gathered number (suc place) (at + 4 * size_of s.1.item) statements (λ i within. ap number (omega arith) ∙ h (suc i) (omega (arith, within))))

pub waits-numbered : (statements : List (ℕ × Line)) → waits_of (number_in statements) (lines_in statements) ≡ waits_in 0 statements
waits-numbered statements = gathered (number_in statements) 0 0 statements (λ i within. ap (λ n. get_or (map (λ (s : ℕ × Line). s.0) statements) n 0) (omega arith))

-- ---- a line more in front

-- the line of a `waitjob` behind another line
line-next : (first : ℕ) (text : List ℕ) (texts : List (List ℕ)) (wait : WaitAt) → HasWaitLine (first + 1) texts wait → HasWaitLine first (text ∷ texts) wait
line-next first text texts wait h =
    let place : wait.line - first ≡ suc (wait.line - (first + 1)) = omega (arith, h.0) in
    (omega (arith, h.0), omega (arith, h.1), subst (λ n. IsWaitLine (slice_index_or (text ∷ texts) n [])) (sym place) h.2)

have-next : (first : ℕ) (text : List ℕ) (texts : List (List ℕ)) (waits : List WaitAt) → HaveWaitLines (first + 1) texts waits → HaveWaitLines first (text ∷ texts) waits
have-next first text texts waits h = record {
  lines = All-weaker (HasWaitLine (first + 1) texts) (HasWaitLine first (text ∷ texts)) (line-next first text texts) waits h.lines;
  distinct = h.distinct;
}

-- a number below all others is none of them
lower : (first : ℕ) (waits : List WaitAt) → All (λ wait. first + 1 ≤ wait.line) waits → AllByRecursion (λ y. nat_eq first y ≡ false) (map (λ (wait : WaitAt). wait.line) waits)
lower first [] h = tt
lower first (wait ∷ waits) h =
    let here : first + 1 ≤ wait.line = h 0 wait (omega arith) in
    (other first wait.line here, lower first waits (λ i d within. h (suc i) d (omega (arith, within))))
  where
    other : (a b : ℕ) → a + 1 ≤ b → nat_eq a b ≡ false
    other a b k = grind (arith, nat_tests)

have-more : (first : ℕ) (text : List ℕ) (texts : List (List ℕ)) (wait : WaitAt) (waits : List WaitAt) → IsWaitLine text → wait.line ≡ first
    → HaveWaitLines (first + 1) texts waits → HaveWaitLines first (text ∷ texts) (wait ∷ waits)
have-more first text texts wait waits said e h = record {
  lines = All-cons (HasWaitLine first (text ∷ texts)) wait waits here (have-next first text texts waits h).lines;
  distinct =
      IsDistinct-cons nat_eq wait.line (map (λ (w : WaitAt). w.line) waits)
      (subst (λ n. AllByRecursion (λ y. nat_eq n y ≡ false) (map (λ (w : WaitAt). w.line) waits)) (sym e) (lower first waits others)) h.distinct;
}
  where
    place : wait.line - first ≡ 0
    place = omega (arith, e)

    here : HasWaitLine first (text ∷ texts) wait
    here = (omega (arith, e), omega (arith, e), subst (λ n. IsWaitLine (slice_index_or (text ∷ texts) n [])) (sym place) said)

    others : All (λ w. first + 1 ≤ w.line) waits
    others = All-weaker (HasWaitLine (first + 1) texts) (λ w. first + 1 ≤ w.line) (λ w k. k.0) waits h.lines

-- ---- all lines

-- what a line gives: a `waitjob` at its number, or nothing
record IsOneWait (number : ℕ) (item : Item) (given : List WaitAt) : Type 0 where
  pub wait : WaitAt
  pub said : is_wait item ≡ true
  pub numbered : wait.line ≡ number
  pub alone : given ≡ wait ∷ []

one-or-none : (number at : ℕ) (item : Item) → IsOneWait number item (wait_at number at item) ⊎ (wait_at number at item ≡ [])
one-or-none number at Nothing = inr refl
one-or-none number at (One instruction) = inr refl
one-or-none number at (Branch op rs1 rs2 target) = inr refl
one-or-none number at (Jal rd target) = inr refl
one-or-none number at (Li rd value) = inr refl
one-or-none number at (Wait hint) = inl (record { wait = record { address = at + 4; line = number; hint = hint }; said = refl; numbered = refl; alone = refl })
one-or-none number at (Word word) = inr refl
one-or-none number at (Raw word) = inr refl

have-none : (first : ℕ) → HaveWaitLines first [] []
unfolding IsDistinct
have-none first = record { lines = All-nil (HasWaitLine first []); distinct = tt }

-- each `waitjob` of texts has a line of its own
pub have-waits : (first at : ℕ) (texts : List (List ℕ)) (items : List Line) → AllSay texts items → HaveWaitLines first texts (waits_in at (statements_of first items))
have-waits first at [] items h = subst (λ is. HaveWaitLines first [] (waits_in at (statements_of first is))) (sym h) (have-none first)
have-waits first at (text ∷ texts) items h =
    subst (λ is. HaveWaitLines first (text ∷ texts) (waits_in at (statements_of first is))) (sym h.2)
    (by_speech (speaks h.0) (λ a. have-waits (first + 1) a texts h.1 h.4))
  where
    Rest : ℕ → Type 0
    Rest a = HaveWaitLines (first + 1) texts (waits_in a (statements_of (first + 1) h.1))

    by_item : (a : ℕ) → Rest a → IsOneWait first h.0.item (wait_at first at h.0.item) ⊎ (wait_at first at h.0.item ≡ [])
        → HaveWaitLines first (text ∷ texts) (wait_at first at h.0.item ++ waits_in a (statements_of (first + 1) h.1))
    by_item a more (inl one) =
        subst (λ ws. HaveWaitLines first (text ∷ texts) (ws ++ waits_in a (statements_of (first + 1) h.1))) (sym one.alone)
        (have-more first text texts one.wait (waits_in a (statements_of (first + 1) h.1)) (wait-text text h.0 h.3 one.said) one.numbered more)
    by_item a more (inr none) =
        subst (λ ws. HaveWaitLines first (text ∷ texts) (ws ++ waits_in a (statements_of (first + 1) h.1))) (sym none)
        (have-next first text texts (waits_in a (statements_of (first + 1) h.1)) more)

    by_speech : (b : Bool) → ((a : ℕ) → Rest a) → HaveWaitLines first (text ∷ texts) (waits_in at (cond b ((first, h.0) ∷ statements_of (first + 1) h.1) (statements_of (first + 1) h.1)))
    by_speech true more = by_item (at + 4 * size_of h.0.item) (more (at + 4 * size_of h.0.item)) (one-or-none first at h.0.item)
    by_speech false more = have-next first text texts (waits_in at (statements_of (first + 1) h.1)) (more at)

-- ---- without carriage returns

line-stripped : (first : ℕ) (texts : List (List ℕ)) (wait : WaitAt) → HasWaitLine first texts wait → HasWaitLine first (map strip_carriage_return texts) wait
line-stripped first texts wait h =
    let within : wait.line - first < length texts = omega (arith, h.0, h.1) in (
      h.0,
      omega (arith, h.1, length-map texts strip_carriage_return),
      subst IsWaitLine (sym (get_or-map strip_carriage_return texts (wait.line - first) [] [] within)) (wait-stripped (slice_index_or texts (wait.line - first) []) h.2),
    )

-- the lines have their `waitjob` statements without carriage returns too
pub have-stripped : (first : ℕ) (texts : List (List ℕ)) (waits : List WaitAt) → HaveWaitLines first texts waits → HaveWaitLines first (map strip_carriage_return texts) waits
have-stripped first texts waits h = record {
  lines = All-weaker (HasWaitLine first texts) (HasWaitLine first (map strip_carriage_return texts)) (line-stripped first texts) waits h.lines;
  distinct = h.distinct;
}

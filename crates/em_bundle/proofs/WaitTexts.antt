-- A text that says a `waitjob` has that word first, behind its label where there is one.
use Rattle.std.proofs.Common.{◌≡◌, ◌∙◌, ℕ, Bool, true, false, not, List, [], ◌∷◌, ◌++◌, length, codes, Option, Some, None, refl, sym, ap, subst, arith, append_assoc, length-append}
use Rattle.std.proofs.lemmas.Bool.Decides.{nat_tests}
use Rattle.std.proofs.lemmas.List.Folds.{list_all-append}
use Rattle.std.specs.List.{list_all}
use Rattle.em_asm_read.specs.declared.items.Line.{Line}
use Rattle.em_asm_read.specs.Grammar.{IsLabelled, IsStated, StopsAt}
use Rattle.em_asm_read.specs.Lines.{IsLine}
use Rattle.em_base.proofs.Trimming.{both, cut, drop-front, list_all-joined, list_all-weaker}
use Rattle.em_base.specs.Text.{has_no, is_colon, is_hash, is_space, trimmed, unindented}
use Rattle.em_hint.specs.Lines.{IsWaitLine, label_size}
use Rattle.em_bundle.proofs.WaitPlaces.{colon-hash, has_colon, size-labelled, size-unlabelled, wait-there}
use Rattle.em_bundle.proofs.WaitStatements.{is_wait}
use Rattle.em_bundle.proofs.WaitParts.{from-meaning, operands-end, trims}

-- blanks have no colon
blank-colon : (blanks : List ℕ) → list_all is_space blanks ≡ true → has_no is_colon blanks ≡ true
blank-colon blanks h = list_all-weaker is_space (λ b. not (is_colon b)) blanks (λ b e. grind (arith, nat_tests)) h

-- a comment has no colon before it
comment-colon : (comment : List ℕ) → StopsAt is_hash comment → has_colon comment ≡ false
comment-colon [] h = refl
comment-colon (b ∷ comment) h = colon-hash b comment h

-- what stands first in a text without such bytes has none either
first-none : (test : ℕ → Bool) (text front rest : List ℕ) → text ≡ front ++ rest → has_no test text ≡ true → has_no test front ≡ true
first-none test text front rest e h =
    (both (has_no test front) (has_no test rest) (sym (list_all-append (λ b. not (test b)) front rest) ∙ sym (ap (has_no test) e) ∙ h)).0

-- ---- the line of a statement

-- a line without a label
wait-unlabelled : (before operands after comment : List ℕ) → list_all is_space before ≡ true → list_all is_space after ≡ true
    → has_no is_hash (before ++ (codes "waitjob" ++ operands) ++ after) ≡ true → StopsAt is_hash comment
    → has_no is_colon (codes "waitjob" ++ operands) ≡ true → StopsAt is_space operands
    → IsWaitLine ((before ++ (codes "waitjob" ++ operands) ++ after) ++ comment)
wait-unlabelled before operands after comment blank_before blank_after uncommented commented uncoloned apart =
    subst IsWaitLine (sym same) (wait-there [] before (operands ++ (after ++ comment)) size blank_before (operands-end operands after comment apart blank_after commented))
  where
    text : List ℕ
    text = before ++ (codes "waitjob" ++ operands) ++ after

    same : text ++ comment ≡ [] ++ before ++ (codes "waitjob" ++ (operands ++ (after ++ comment)))
    same = simp append_assoc

    plain : has_no is_colon text ≡ true
    plain =
        list_all-joined (λ b. not (is_colon b)) (before ++ (codes "waitjob" ++ operands)) after
        (list_all-joined (λ b. not (is_colon b)) before (codes "waitjob" ++ operands) (blank-colon before blank_before) uncoloned)
        (blank-colon after blank_after)

    size : label_size ([] ++ before ++ (codes "waitjob" ++ (operands ++ (after ++ comment)))) ≡ 0
    size = sym (ap label_size same) ∙ size-unlabelled text comment uncommented plain (comment-colon comment commented)

-- a line with a label
wait-labelled : (before name blanks operands after comment : List ℕ) → list_all is_space before ≡ true → list_all is_space after ≡ true
    → has_no is_hash (before ++ (name ++ codes ":" ++ (blanks ++ (codes "waitjob" ++ operands))) ++ after) ≡ true → StopsAt is_hash comment
    → has_no is_colon name ≡ true → list_all is_space blanks ≡ true → StopsAt is_space operands
    → IsWaitLine ((before ++ (name ++ codes ":" ++ (blanks ++ (codes "waitjob" ++ operands))) ++ after) ++ comment)
wait-labelled before name blanks operands after comment blank_before blank_after uncommented commented uncoloned blank apart =
    subst IsWaitLine (sym same) (wait-there label blanks (operands ++ (after ++ comment)) size blank (operands-end operands after comment apart blank_after commented))
  where
    label : List ℕ
    label = (before ++ name) ++ 58 ∷ []

    text : List ℕ
    text = before ++ (name ++ codes ":" ++ (blanks ++ (codes "waitjob" ++ operands))) ++ after

    same : text ++ comment ≡ label ++ blanks ++ (codes "waitjob" ++ (operands ++ (after ++ comment)))
    same = simp append_assoc

    first : text ≡ (before ++ name) ++ (58 ∷ (blanks ++ (codes "waitjob" ++ operands)) ++ after)
    first = simp append_assoc

    front : label ++ blanks ++ (codes "waitjob" ++ (operands ++ (after ++ comment))) ≡ (before ++ name) ++ 58 ∷ (blanks ++ (codes "waitjob" ++ (operands ++ (after ++ comment))))
    front = simp append_assoc

    unhashed : has_no is_hash (before ++ name) ≡ true
    unhashed = first-none is_hash text (before ++ name) (58 ∷ (blanks ++ (codes "waitjob" ++ operands)) ++ after) first uncommented

    plain : has_no is_colon (before ++ name) ≡ true
    plain = list_all-joined (λ b. not (is_colon b)) before name (blank-colon before blank_before) uncoloned

    size : label_size (label ++ blanks ++ (codes "waitjob" ++ (operands ++ (after ++ comment)))) ≡ length label
    size =
        ap label_size front ∙ size-labelled (before ++ name) (blanks ++ (codes "waitjob" ++ (operands ++ (after ++ comment)))) unhashed plain
        ∙ sym (length-append (before ++ name) (58 ∷ []))

-- ---- a text that says a `waitjob`

-- a line of a text and its comment, by what its label and its statement are
from-labelled : (text comment operands : List ℕ) (label : Option (List ℕ)) → has_no is_hash text ≡ true → StopsAt is_hash comment → StopsAt is_space operands
    → IsLabelled (trimmed text) label (codes "waitjob" ++ operands) → IsWaitLine (text ++ comment)
from-labelled text comment operands None uncommented commented apart h =
    let t = trims text in
    let whole : text ≡ t.before ++ (codes "waitjob" ++ operands) ++ t.after = t.split ∙ ap (λ c. t.before ++ c ++ t.after) (sym h.1) in
    subst (λ u. IsWaitLine (u ++ comment)) (sym whole)
    (wait-unlabelled t.before operands t.after comment t.blank_before t.blank_after (subst (λ u. has_no is_hash u ≡ true) whole uncommented) commented
    (subst (λ u. has_no is_colon u ≡ true) (sym h.1) h.0) apart)
from-labelled text comment operands (Some name) uncommented commented apart h =
    let t = trims text in
    let c = cut is_space h.0 in
    let statement : codes "waitjob" ++ operands ≡ c.rest = h.3 ∙ ap unindented c.split ∙ drop-front is_space c.front c.rest c.passes c.stops in
    let core : trimmed text ≡ name ++ codes ":" ++ (c.front ++ (codes "waitjob" ++ operands)) = h.1 ∙ ap (λ r. name ++ codes ":" ++ r) (c.split ∙ ap (λ r. c.front ++ r) (sym statement)) in
    let whole : text ≡ t.before ++ (name ++ codes ":" ++ (c.front ++ (codes "waitjob" ++ operands))) ++ t.after = t.split ∙ ap (λ u. t.before ++ u ++ t.after) core in
    subst (λ u. IsWaitLine (u ++ comment)) (sym whole)
    (wait-labelled t.before name c.front operands t.after comment t.blank_before t.blank_after (subst (λ u. has_no is_hash u ≡ true) whole uncommented) commented
    h.2 c.passes apart)

-- a text that says a `waitjob` is a line of it
pub wait-text : (text : List ℕ) (line : Line) → IsLine text line → is_wait line.item ≡ true → IsWaitLine text
wait-text text line h w =
    let parts = h.0 in
    let p = h.1 in
    let s = from-meaning parts line h.2 w in
    let stated : IsStated p.rest (Some s.words) = subst (IsStated p.rest) s.here p.stated in
    let rest : p.rest ≡ codes "waitjob" ++ stated.1.0 = stated.1.1 ∙ ap (λ m. m ++ stated.1.0) s.word in
    subst IsWaitLine (sym p.split)
    (from-labelled p.text p.comment stated.1.0 parts.label p.uncommented p.commented stated.1.3 (subst (IsLabelled (trimmed p.text) parts.label) rest p.labelled))

-- A line of `waitjob` stays one without the carriage return at its end.
use mathlib.Core.Bool.{◌||◌}
use Rattle.std.proofs.Common.{◌≡◌, ◌∙◌, ℕ, suc, ◌+◌, ◌<◌, ◌≤◌, Bool, true, false, cond, not, nat_eq, List, [], ◌∷◌, ◌++◌, length, drop, codes, inl, inr, refl, sym, ap, subst, arith, if◌then◌else◌, ◌==◌}
use Rattle.std.proofs.lemmas.Bool.Decides.{nat_tests}
use Rattle.std.proofs.lemmas.List.{drop-append-le, length-drop, same_from_push}
use Rattle.std.proofs.lemmas.List.Sums.{prefix_len-le-length}
use Rattle.std.specs.List.{position_or_len, prefix_len}
use Rattle.std.specs.Str.Lines.{strip_carriage_return}
use Rattle.em_base.specs.Text.{is_colon, is_hash, is_space}
use Rattle.em_hint.specs.Lines.{IsWaitLine, is_word_end, label_size, statement_place}
use Rattle.em_bundle.proofs.EndedLines.{some-last}
use Rattle.em_bundle.proofs.TextLines.{strip-none, strip-return}
use Rattle.em_bundle.proofs.WaitPlaces.{colon-hash, colon-next, has_colon}

-- ---- a carriage return more

-- a carriage return at the end is no colon before the comment
colon-return : (line : List ℕ) → has_colon (line ++ 13 ∷ []) ≡ has_colon line
colon-return [] = refl
colon-return (b ∷ line) = by_test (is_hash b) refl (colon-return line)
  where
    by_test : (f : Bool) → is_hash b ≡ f → has_colon (line ++ 13 ∷ []) ≡ has_colon line → has_colon (b ∷ line ++ 13 ∷ []) ≡ has_colon (b ∷ line)
    by_test true e h = colon-hash b (line ++ 13 ∷ []) e ∙ sym (colon-hash b line e)
    by_test false e h = colon-next b (line ++ 13 ∷ []) e ∙ ap (λ g. is_colon b || g) h ∙ sym (colon-next b line e)

-- where the first colon is, if one stands before the comment
record IsColonKept (line : List ℕ) : Type 0 where
  pub same : position_or_len is_colon (line ++ 13 ∷ []) ≡ position_or_len is_colon line
  pub within : position_or_len is_colon line < length line

colon-place : (line : List ℕ) → has_colon line ≡ true → IsColonKept line
colon-place [] e = absurd (cc)
colon-place (b ∷ line) e = by_test (is_hash b) refl (colon-place line)
  where
    by_colon : (f : Bool) → is_colon b ≡ f → (f || has_colon line) ≡ true → (has_colon line ≡ true → IsColonKept line) → IsColonKept (b ∷ line)
    by_colon true k e h = record {
      same = ap (λ f. cond (not f) (1 + position_or_len is_colon (line ++ 13 ∷ [])) 0) k ∙ sym (ap (λ f. cond (not f) (1 + position_or_len is_colon line) 0) k);
      within =
          let place : position_or_len is_colon (b ∷ line) ≡ 0 = ap (λ f. cond (not f) (1 + position_or_len is_colon line) 0) k in
          omega (arith, place);
    }
    by_colon false k e h =
        let more = h e in
        let place : position_or_len is_colon (b ∷ line) ≡ 1 + position_or_len is_colon line = ap (λ f. cond (not f) (1 + position_or_len is_colon line) 0) k in
        record {
          same = ap (λ f. cond (not f) (1 + position_or_len is_colon (line ++ 13 ∷ [])) 0) k ∙ ap (λ n. 1 + n) more.same ∙ sym place;
          within = omega (arith, place, more.within);
        }

    by_test : (f : Bool) → is_hash b ≡ f → (has_colon line ≡ true → IsColonKept line) → IsColonKept (b ∷ line)
    by_test true k h =
        let none : true ≡ false = sym e ∙ colon-hash b line k in
        absurd (cc)
    by_test false k h = by_colon (is_colon b) refl (sym (colon-next b line k) ∙ e) h

-- the label has the same length
record IsLabelKept (line : List ℕ) : Type 0 where
  pub same : label_size (line ++ 13 ∷ []) ≡ label_size line
  pub within : label_size line ≤ length line

label-return : (line : List ℕ) → IsLabelKept line
label-return line = by_test (has_colon line) refl
  where
    by_test : (f : Bool) → has_colon line ≡ f → IsLabelKept line
    by_test true e =
        let kept = colon-place line e in
        let size : label_size line ≡ position_or_len is_colon line + 1 = ap (λ f. if f then position_or_len is_colon line + 1 else 0) e in
        record {
          same = ap (λ f. if f then position_or_len is_colon (line ++ 13 ∷ []) + 1 else 0) (colon-return line ∙ e) ∙ ap (λ n. n + 1) kept.same ∙ sym size;
          within = omega (arith, size, kept.within);
        }
    by_test false e =
        let size : label_size line ≡ 0 = ap (λ f. if f then position_or_len is_colon line + 1 else 0) e in
        record {
          same = ap (λ f. if f then position_or_len is_colon (line ++ 13 ∷ []) + 1 else 0) (colon-return line ∙ e) ∙ sym size;
          within = omega (arith, size);
        }

-- as many spaces and tabs stand first
spaces-return : (line : List ℕ) → prefix_len is_space (line ++ 13 ∷ []) ≡ prefix_len is_space line
spaces-return [] = refl
spaces-return (b ∷ line) = ap (λ n. cond (is_space b) (1 + n) 0) (spaces-return line)

-- the statement begins at the same place
record IsPlaceKept (line : List ℕ) : Type 0 where
  pub same : statement_place (line ++ 13 ∷ []) ≡ statement_place line
  pub within : statement_place line ≤ length line

place-return : (line : List ℕ) → IsPlaceKept line
place-return line =
    let kept = label-return line in
    record {
      same =
          ap (λ n. n + prefix_len is_space (drop n (line ++ 13 ∷ []))) kept.same
          ∙ ap (λ t. label_size line + prefix_len is_space t) (drop-append-le (label_size line) line (13 ∷ []) kept.within)
          ∙ ap (λ n. label_size line + n) (spaces-return (drop (label_size line) line));
      within = omega (arith, kept.within, length-drop (label_size line) line, prefix_len-le-length is_space (drop (label_size line) line));
    }

-- ---- the line without it

some-bytes : (n : ℕ) → nat_eq (suc n) 0 ≡ false
some-bytes n = grind (arith, nat_tests)

-- a word that ends before a text does so before what is left of it
end-kept : (rest : List ℕ) (last : ℕ) → is_word_end (rest ++ last ∷ []) ≡ true → is_word_end rest ≡ true
end-kept [] last e = refl
end-kept (b ∷ rest) last e =
    ap (λ f. f || is_space b || is_hash b) (some-bytes (length rest) ∙ sym (some-bytes (length (rest ++ last ∷ [])))) ∙ e

-- the word stands first in what is left
word-kept : (text rest : List ℕ) → text ++ 13 ∷ [] ≡ codes "waitjob" ++ rest → is_word_end rest ≡ true
    → (left : List ℕ) × (text ≡ codes "waitjob" ++ left) × (is_word_end left ≡ true)
word-kept text rest e ends = elim (some-last rest) [
  | inl none ↦
      let whole : text ++ 13 ∷ [] ≡ codes "waitjo" ++ 98 ∷ [] = e ∙ ap (λ r. codes "waitjob" ++ r) none in
      let last = (same_from_push text (codes "waitjo") 13 98 whole).1 in
      absurd (omega (arith, last))
  | inr some ↦
      let whole : text ++ 13 ∷ [] ≡ (codes "waitjob" ++ some.0) ++ some.1 ∷ [] = e ∙ ap (λ r. codes "waitjob" ++ r) some.2 in
      (some.0, (same_from_push text (codes "waitjob" ++ some.0) 13 some.1 whole).0, end-kept some.0 some.1 (subst (λ r. is_word_end r ≡ true) some.2 ends))
]

-- a line of `waitjob` is one without the carriage return at its end
return-kept : (line : List ℕ) → IsWaitLine (line ++ 13 ∷ []) → IsWaitLine line
return-kept line h =
    let kept = place-return line in
    let text : drop (statement_place line) line ++ 13 ∷ [] ≡ codes "waitjob" ++ h.0
    = sym (drop-append-le (statement_place line) line (13 ∷ []) kept.within) ∙ ap (λ n. drop n (line ++ 13 ∷ [])) (sym kept.same) ∙ h.1 in
    word-kept (drop (statement_place line) line) h.0 text h.2

-- a line of `waitjob` is one as the lines of a text have it
pub wait-stripped : (line : List ℕ) → IsWaitLine line → IsWaitLine (strip_carriage_return line)
wait-stripped line h = elim (some-last line) [
  | inl none ↦ subst (λ t. IsWaitLine (strip_carriage_return t)) (sym none) (subst IsWaitLine none h)
  | inr some ↦
      let whole : IsWaitLine (some.0 ++ some.1 ∷ []) = subst IsWaitLine some.2 h in
      subst (λ t. IsWaitLine (strip_carriage_return t)) (sym some.2) (by_last some.0 some.1 whole (some.1 == 13) refl)
]
  where
    by_last : (front : List ℕ) (last : ℕ) → IsWaitLine (front ++ last ∷ []) → (b : Bool) → (last == 13) ≡ b → IsWaitLine (strip_carriage_return (front ++ last ∷ []))
    by_last front last w true e =
        let return : last ≡ 13 = grind (arith, nat_tests) in
        subst (λ n. IsWaitLine (strip_carriage_return (front ++ n ∷ []))) (sym return)
        (subst IsWaitLine (sym (strip-return front)) (return-kept front (subst (λ n. IsWaitLine (front ++ n ∷ [])) return w)))
    by_last front last w false e = subst IsWaitLine (sym (strip-none (front ++ last ∷ []) other)) w
      where
        other : (f : List ℕ) → front ++ last ∷ [] ≡ f ++ 13 ∷ [] → ⊥
        other f same =
            let return : last ≡ 13 = (same_from_push front f last 13 same).1 in
            absurd (grind (arith, nat_tests))

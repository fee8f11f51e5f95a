-- A text walked to a header line.
use Rattle.std.proofs.Common.{◌≡◌, ◌∙◌, ◌⊎◌, ℕ, ◌<◌, Bool, true, false, not, ◌==◌, List, [], ◌∷◌, ◌++◌, length, get_or, inl, inr, refl, sym, ap, subst, arith, append_assoc, length-append}
use Rattle.std.proofs.lemmas.Bool.Decides.{nat_tests}
use Rattle.std.proofs.lemmas.List.Folds.{list_all-append}
use Rattle.std.specs.Bool.{Decides}
use Rattle.std.specs.List.{list_all}
use Rattle.std.specs.Str.Lines.{lines}
use Rattle.em_base.proofs.Trimming.{both_are}
use Rattle.em_bundle.specs.Parts.{is_header, line_at}
use Rattle.em_bundle.specs.Walk.{ArePlain, IsClosed, IsFirstLine, IsPassed}

-- a text is bytes whose lines are no header lines, and the rest, of which the lines are those that follow
pub record IsWalked (text rest : List ℕ) : Type 0 where
  pub front : List ℕ
  pub split : text ≡ front ++ rest
  pub joined : lines text ≡ lines front ++ lines rest
  pub plain : ArePlain (lines front)
  pub closed : (rest ≡ []) ⊎ IsClosed front

pub walk-begins : (text : List ℕ) → IsWalked text text
walk-begins text = record { front = []; split = refl; joined = refl; plain = refl; closed = inr (λ more. refl) }

not-empty : (text line rest : List ℕ) → IsFirstLine text line rest → text ≡ [] → ⊥
not-empty text line rest first e =
    let none : [] ≡ line ∷ lines rest = ap lines (sym e) ∙ first.first in
    absurd (cc)

pub plain-more : (texts : List (List ℕ)) (line : List ℕ) → ArePlain texts → is_header line ≡ false → ArePlain (texts ++ line ∷ [])
plain-more texts line h e =
    list_all-append (λ l. not (is_header l)) texts (line ∷ [])
    ∙ both_are (list_all (λ l. not (is_header l)) texts) (list_all (λ l. not (is_header l)) (line ∷ [])) h
    (both_are (not (is_header line)) true (ap not e) refl)

-- one line more
pub walk-next : (text rest line after : List ℕ) → IsWalked text rest → IsFirstLine rest line after → is_header line ≡ false → IsWalked text after
walk-next text rest line after w first plain = by_end w.closed
  where
    by_end : (rest ≡ []) ⊎ IsClosed w.front → IsWalked text after
    by_end (inl none) = absurd (not-empty rest line after first none)
    by_end (inr closed) =
        let alone : lines (w.front ++ first.bytes) ≡ lines w.front ++ line ∷ [] = closed first.bytes ∙ ap (λ ls. lines w.front ++ ls) first.alone in
        record {
          front = w.front ++ first.bytes;
          split = w.split ∙ ap (λ t. w.front ++ t) first.split ∙ sym (append_assoc w.front first.bytes after);
          joined = w.joined ∙ ap (λ ls. lines w.front ++ ls) first.first ∙ sym (append_assoc (lines w.front) (line ∷ []) (lines after)) ∙ ap (λ ls. ls ++ lines after) (sym alone);
          plain = subst ArePlain (sym alone) (plain-more (lines w.front) line w.plain plain);
          closed = by_rest closed first.closed;
        }
      where
        by_rest : IsClosed w.front → (after ≡ []) ⊎ IsClosed first.bytes → (after ≡ []) ⊎ IsClosed (w.front ++ first.bytes)
        by_rest closed (inl none) = inl none
        by_rest closed (inr more) = inr (λ rest.
            ap lines (append_assoc w.front first.bytes rest) ∙ closed (first.bytes ++ rest) ∙ ap (λ ls. lines w.front ++ ls) (more rest)
            ∙ sym (append_assoc (lines w.front) (lines first.bytes) (lines rest)) ∙ ap (λ ls. ls ++ lines rest) (sym (closed first.bytes)))

pub passed : (text rest : List ℕ) → IsWalked text rest → IsPassed text rest
passed text rest w = record { front = w.front; split = w.split; joined = w.joined; plain = w.plain }

-- what is left gets shorter
pub shorter : (text line rest : List ℕ) → IsFirstLine text line rest → length rest < length text
shorter text line rest first = by_bytes first.bytes first.split first.alone
  where
    by_bytes : (bytes : List ℕ) → text ≡ bytes ++ rest → lines bytes ≡ line ∷ [] → length rest < length text
    by_bytes [] e alone = absurd (cc)
    by_bytes (byte ∷ bytes) e alone = omega (arith, ap length e, length-append (byte ∷ bytes) rest)

-- the first line of a text begins with `%` where the text does
pub headed-first : (text line rest : List ℕ) → IsFirstLine text line rest → is_header text ≡ true → is_header (line_at (lines text) 0) ≡ true
headed-first text line rest first e = ap (λ ls. is_header (line_at ls 0)) first.first ∙ first.headed ∙ e

-- a text that a search says doesn't begin with `%`
pub not-headed : (text : List ℕ) (found : Bool) → Decides found (get_or text 0 0 ≡ 37) → found ≡ false → is_header text ≡ false
not-headed text found d e = by_test (is_header text) refl
  where
    by_test : (b : Bool) → is_header text ≡ b → b ≡ false
    by_test false t = refl
    by_test true t =
        let same : get_or text 0 0 ≡ 37 = grind (arith, nat_tests) in
        let both : false ≡ true = sym e ∙ d.1 same in
        absurd (cc)

-- and one that does
pub is-headed : (text : List ℕ) (found : Bool) → Decides found (get_or text 0 0 ≡ 37) → found ≡ true → is_header text ≡ true
is-headed text found d e =
    let same : get_or text 0 0 ≡ 37 = d.0 e in
    ap (λ n. n == 37) same

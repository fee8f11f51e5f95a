-- The lines of the code text are those of the code part, each without the carriage return at its end.
use Rattle.std.proofs.Common.{◌≡◌, ◌∙◌, ℕ, ◌+◌, ◌-◌, Bool, true, false, cond, not, ◌==◌, List, [], ◌∷◌, length, take, drop, get_or, map, refl, sym, ap, append_assoc}
use Rattle.std.proofs.lemmas.List.{length-map, take-append-drop}
use Rattle.std.proofs.lemmas.List.Folds.{list_all-append}
use Rattle.std.specs.List.{after_first, list_all, onto_first, position_or_len, slice_split}
use Rattle.std.specs.Str.{bytes_eq}
use Rattle.std.specs.Str.Lines.{lines, lines_of_parts, strip_carriage_return}
use Rattle.em_base.proofs.Trimming.{both, both_are}
use Rattle.em_base.specs.Text.{has_no}
use Rattle.em_bundle.proofs.EndedLines.{tested-feed}
use Rattle.em_bundle.proofs.TextLines.{is_feed, lines-feed}
use Rattle.em_bundle.specs.Parts.{is_header, part_of, text_of}

-- no text has a line feed
abbrev pub AreUnfed : List (List ℕ) → Type 0
AreUnfed texts = list_all (has_no is_feed) texts ≡ true

-- ---- part of a list passes a test of all

taken : {X : Type 0} (test : X → Bool) (n : ℕ) (xs : List X) → list_all test xs ≡ true → list_all test (take n xs) ≡ true
taken test n xs h = (both (list_all test (take n xs)) (list_all test (drop n xs)) (sym (list_all-append test (take n xs) (drop n xs)) ∙ ap (list_all test) (take-append-drop n xs) ∙ h)).0

dropped : {X : Type 0} (test : X → Bool) (n : ℕ) (xs : List X) → list_all test xs ≡ true → list_all test (drop n xs) ≡ true
dropped test n xs h = (both (list_all test (take n xs)) (list_all test (drop n xs)) (sym (list_all-append test (take n xs) (drop n xs)) ∙ ap (list_all test) (take-append-drop n xs) ∙ h)).1

-- ---- lines have no line feed

unfed-onto : (b : ℕ) (parts : List (List ℕ)) → is_feed b ≡ false → AreUnfed parts → AreUnfed (onto_first b parts)
unfed-onto b [] e h = both_are (has_no is_feed (b ∷ [])) true (both_are (not (is_feed b)) true (ap not e) refl) refl
unfed-onto b (part ∷ parts) e h =
    let k = both (has_no is_feed part) (list_all (has_no is_feed) parts) h in
    both_are (has_no is_feed (b ∷ part)) (list_all (has_no is_feed) parts) (both_are (not (is_feed b)) (has_no is_feed part) (ap not e) k.0) k.1

-- the pieces between line feeds have none
unfed-pieces : (text : List ℕ) → AreUnfed (slice_split is_feed text)
unfed-pieces [] = refl
unfed-pieces (b ∷ text) = by_test (unfed-pieces text) (is_feed b) refl
  where
    by_test : AreUnfed (slice_split is_feed text) → (found : Bool) → is_feed b ≡ found
        → AreUnfed (cond found ([] ∷ slice_split is_feed text) (onto_first b (slice_split is_feed text)))
    by_test h true e = h
    by_test h false e = unfed-onto b (slice_split is_feed text) e h

unfed-stripped : (line : List ℕ) → has_no is_feed line ≡ true → has_no is_feed (strip_carriage_return line) ≡ true
unfed-stripped line h = by_test (get_or line (length line - 1) 0 == 13)
  where
    by_test : (b : Bool) → has_no is_feed (cond b (take (length line - 1) line) line) ≡ true
    by_test true = taken (λ byte. not (is_feed byte)) (length line - 1) line h
    by_test false = h

unfed-last : (part : List ℕ) → AreUnfed (part ∷ []) → (b : Bool) → AreUnfed (cond b [] (part ∷ []))
unfed-last part h true = refl
unfed-last part h false = h

unfed-parts : (parts : List (List ℕ)) → AreUnfed parts → AreUnfed (lines_of_parts parts)
unfed-parts [] h = refl
unfed-parts (part ∷ []) h = unfed-last part h (length part == 0)
unfed-parts (part ∷ next ∷ parts) h =
    let k = both (has_no is_feed part) (list_all (has_no is_feed) (next ∷ parts)) h in
    both_are (has_no is_feed (strip_carriage_return part)) (list_all (has_no is_feed) (lines_of_parts (next ∷ parts))) (unfed-stripped part k.0) (unfed-parts (next ∷ parts) k.1)

-- a part of a bundle has no line feed in its lines
pub unfed-part : (header bytes : List ℕ) → AreUnfed (part_of header (lines bytes))
unfed-part header bytes =
    let whole : AreUnfed (lines bytes) = unfed-parts (slice_split is_feed bytes) (unfed-pieces bytes) in
    let after = after_first (bytes_eq header) (lines bytes) in
    taken (has_no is_feed) (position_or_len is_header after) after
    (dropped (has_no is_feed) (position_or_len (bytes_eq header) (lines bytes) + 1) (lines bytes) whole)

-- ---- lines put into a text

-- the lines of a text that is made of lines
pub lines-text : (texts : List (List ℕ)) → AreUnfed texts → lines (text_of texts) ≡ map strip_carriage_return texts
lines-text [] h = refl
lines-text (text ∷ texts) h =
    let k = both (has_no is_feed text) (list_all (has_no is_feed) texts) h in
    ap lines (append_assoc text (10 ∷ []) (text_of texts))
    ∙ lines-feed text (text_of texts) (tested-feed text k.0)
    ∙ ap (λ ls. strip_carriage_return text ∷ ls) (lines-text texts k.1)

-- the lines of a text have no line feed
pub unfed-lines : (text : List ℕ) → AreUnfed (lines text)
unfed-lines text = unfed-parts (slice_split is_feed text) (unfed-pieces text)

-- the code text has as many lines as the code part
pub length-text : (text : List ℕ) → length (lines (text_of (lines text))) ≡ length (lines text)
length-text text = ap length (lines-text (lines text) (unfed-lines text)) ∙ length-map (lines text) strip_carriage_return

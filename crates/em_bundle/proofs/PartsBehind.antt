-- Lines with a schedule's part behind them: their own parts stay, and the schedule's part is their last.
use Rattle.std.proofs.Common.{◌≡◌, ◌∙◌, ℕ, ◌+◌, ◌<◌, Bool, true, false, cond, not, ◌==◌, List, [], ◌∷◌, ◌++◌, length, take, drop, inl, refl, sym, ap, subst, arith, append-nil, lit<}
use Rattle.std.proofs.lemmas.Bool.Decides.{nat_tests}
use Rattle.std.proofs.lemmas.List.{drop-append-le, take-append-le}
use Rattle.std.proofs.lemmas.List.Elements.{filter-append}
use Rattle.std.proofs.lemmas.List.Folds.{prefix_len-append}
use Rattle.std.proofs.lemmas.List.Sums.{prefix_len-le-length}
use Rattle.std.specs.List.{after_first, before_first, filter, list_all, position_or_len, prefix_len}
use Rattle.std.specs.Str.{bytes_eq}
use Rattle.em_base.proofs.Trimming.{both, both_are}
use Rattle.em_bundle.proofs.PartsCut.{Differ, IsPlaced, Lines, placed, plain-differ, plain-headers}
use Rattle.em_bundle.specs.Parts.{IsCut, code_header, header_number, headers, headers_in, is_header, line_at, part_of, parts_of, schedule_header, script_header, table_header}
use Rattle.em_bundle.specs.Walk.{ArePlain}

-- ---- where a line stands

-- a search ends at a line that passes, whatever follows it
position-stops : (p : List ℕ → Bool) (texts : Lines) (line : List ℕ) (rest : Lines) → p line ≡ true
    → position_or_len p (texts ++ line ∷ rest) ≡ position_or_len p texts
position-stops p texts line rest h =
    prefix_len-append (λ x. not (p x)) texts (line ∷ rest)
    ∙ ap (λ b. cond (place == length texts) (length texts + cond (not b) (1 + prefix_len (λ x. not (p x)) rest) 0) place) h
    ∙ by_place (place == length texts) refl
  where
    place : ℕ
    place = position_or_len p texts

    by_place : (b : Bool) → (place == length texts) ≡ b → cond b (length texts + 0) place ≡ place
    by_place false e = refl
    by_place true e =
        let past : place ≡ length texts = grind (arith, nat_tests) in
        omega arith

-- a line that is found is found there whatever follows
position-stays : (p : List ℕ → Bool) (texts rest : Lines) → position_or_len p texts < length texts
    → position_or_len p (texts ++ rest) ≡ position_or_len p texts
position-stays p texts rest h =
    prefix_len-append (λ x. not (p x)) texts rest
    ∙ ap (λ b. cond b (length texts + position_or_len p rest) (position_or_len p texts)) within
  where
    within : (position_or_len p texts == length texts) ≡ false
    within = grind (arith, nat_tests)

before-stops : (p : List ℕ → Bool) (texts : Lines) (line : List ℕ) (rest : Lines) → p line ≡ true
    → before_first p (texts ++ line ∷ rest) ≡ before_first p texts
before-stops p texts line rest h =
    ap (λ n. take n (texts ++ line ∷ rest)) (position-stops p texts line rest h)
    ∙ take-append-le (position_or_len p texts) texts (line ∷ rest) (prefix_len-le-length (λ x. not (p x)) texts)

after-stays : (p : List ℕ → Bool) (texts rest : Lines) → position_or_len p texts < length texts
    → after_first p (texts ++ rest) ≡ after_first p texts ++ rest
after-stays p texts rest h =
    ap (λ n. drop (n + 1) (texts ++ rest)) (position-stays p texts rest h)
    ∙ drop-append-le (position_or_len p texts + 1) texts rest (omega arith)

-- the part of a header that stands among lines, where a header line follows these
part-stays : (header : List ℕ) (texts : Lines) (line : List ℕ) (rest : Lines) → is_header line ≡ true
    → position_or_len (bytes_eq header) texts < length texts → part_of header (texts ++ line ∷ rest) ≡ part_of header texts
part-stays header texts line rest h found =
    ap (before_first is_header) (after-stays (bytes_eq header) texts (line ∷ rest) found)
    ∙ before-stops is_header (after_first (bytes_eq header) texts) line rest h

number-stays : (header : List ℕ) (texts rest : Lines) → position_or_len (bytes_eq header) texts < length texts
    → header_number header (texts ++ rest) ≡ header_number header texts
number-stays header texts rest found = ap (λ n. n + 1) (position-stays (bytes_eq header) texts rest found)

-- ---- which headers there are

-- a line that is found among those that pass a test is found among all
found-among : (p q : List ℕ → Bool) (texts : Lines) → position_or_len p (filter q texts) < length (filter q texts)
    → position_or_len p texts < length texts
found-among p q [] h = h
found-among p q (line ∷ texts) h = by_tests (p line) (q line) refl (found-among p q texts) h
  where
    by_tests : (b c : Bool) → p line ≡ b
        → (position_or_len p (filter q texts) < length (filter q texts) → position_or_len p texts < length texts)
        → position_or_len p (cond c (line ∷ filter q texts) (filter q texts)) < length (cond c (line ∷ filter q texts) (filter q texts))
        → position_or_len p (line ∷ texts) < length (line ∷ texts)
    by_tests true c e among h = subst (λ b. cond (not b) (1 + position_or_len p texts) 0 < length (line ∷ texts)) (sym e) (omega arith)
    by_tests false false e among h =
        let found : position_or_len p texts < length texts = among h in
        subst (λ b. cond (not b) (1 + position_or_len p texts) 0 < length (line ∷ texts)) (sym e) (omega arith)
    by_tests false true e among h =
        let place = ap (λ b. cond (not b) (1 + position_or_len p (filter q texts)) 0) e in
        let found : position_or_len p texts < length texts = among (omega (arith, place, h)) in
        subst (λ b. cond (not b) (1 + position_or_len p texts) 0 < length (line ∷ texts)) (sym e) (omega arith)

-- a header that isn't among the header lines is no line
differ-among : (header : List ℕ) (texts : Lines) → is_header header ≡ true → Differ header (headers_in texts) → Differ header texts
differ-among header [] h d = refl
differ-among header (line ∷ texts) h d = by_test (is_header line) refl (differ-among header texts h) d
  where
    both-differ : not (bytes_eq header line) ≡ true → Differ header texts → Differ header (line ∷ texts)
    both-differ first rest = both_are (not (bytes_eq header line)) (list_all (λ l. not (bytes_eq header l)) texts) first rest

    by_test : (b : Bool) → is_header line ≡ b → (Differ header (headers_in texts) → Differ header texts)
        → Differ header (cond b (line ∷ headers_in texts) (headers_in texts)) → Differ header (line ∷ texts)
    by_test true e among d =
        let b = both (not (bytes_eq header line)) (list_all (λ l. not (bytes_eq header l)) (headers_in texts)) d in
        both-differ b.0 (among b.1)
    by_test false e among d =
        let plain : ArePlain (line ∷ []) = both_are (not (is_header line)) true (ap not e) refl in
        let b = both (not (bytes_eq header line)) true (plain-differ header (line ∷ []) h plain) in
        both-differ b.0 (among d)

-- ---- the parts

-- a header that is due without replay stands among lines that are cut so
due-found : (header : List ℕ) (texts : Lines) → IsCut false texts
    → position_or_len (bytes_eq header) (headers false) < length (headers false)
    → position_or_len (bytes_eq header) texts < length texts
due-found header texts cut due =
    found-among (bytes_eq header) is_header texts
    (subst (λ hs. position_or_len (bytes_eq header) hs < length hs) (sym cut.due) due)

-- the lines with the schedule's header and the lines of its part behind them
abbrev pub with_part : Lines → Lines → Lines
with_part texts part = texts ++ schedule_header ∷ part

-- the header lines are those that are due with replay
pub cut-behind : (texts part : Lines) → IsCut false texts → ArePlain part → IsCut true (with_part texts part)
cut-behind texts part cut plain = record {
  headed = first texts cut.headed;
  due =
      filter-append is_header texts (schedule_header ∷ part)
      ∙ ap (λ hs. headers_in texts ++ schedule_header ∷ hs) (plain-headers part plain)
      ∙ ap (λ hs. hs ++ schedule_header ∷ []) cut.due;
}
  where
    first : (texts : Lines) → is_header (line_at texts 0) ≡ true → is_header (line_at (with_part texts part) 0) ≡ true
    first [] h = refl
    first (line ∷ texts) h = h

-- the parts of the lines, and behind them the schedule's
pub parts-behind : (texts part : Lines) → IsCut false texts → ArePlain part
    → parts_of (with_part texts part) ≡ record (parts_of texts) { schedule = part; schedule_line = length texts + 1 }
parts-behind texts part cut plain =
    let table = due-found table_header texts cut (lit< tt) in
    let code = due-found code_header texts cut (lit< tt) in
    let script = due-found script_header texts cut (lit< tt) in
    let last = placed-last in
    rw (
      part-stays table_header texts schedule_header part refl table,
      part-stays code_header texts schedule_header part refl code,
      part-stays script_header texts schedule_header part refl script,
      number-stays code_header texts (schedule_header ∷ part) code,
      number-stays script_header texts (schedule_header ∷ part) script,
      last.found,
      last.number,
    ) refl
  where
    placed-last : IsPlaced (with_part texts part) part schedule_header (length texts)
    placed-last =
        placed (with_part texts part) texts part part [] schedule_header refl
        (record { joined = sym (append-nil part); plain = plain; headed = inl refl })
        (differ-among schedule_header texts refl (subst (Differ schedule_header) (sym cut.due) refl)) refl

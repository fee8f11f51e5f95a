-- Each line has parts, and has them alone.
use mathlib.Core.Bool.{◌&&◌, ◌||◌}
use Rattle.std.proofs.Common.{◌≡◌, ℕ, suc, ◌+◌, ◌<◌, Bool, true, false, not, cond, nat_eq, List, [], ◌∷◌, ◌++◌, length, map, get_or, take, drop, Option, Some, None, inl, inr, refl, sym, ap, subst, ◌∙◌, arith, codes, append_assoc, if◌then◌else◌}
use Rattle.std.proofs.Math.Seq.{take-append_seam, drop-append_seam, drop-append-add}
use Rattle.std.proofs.lemmas.Bool.Decides.{nat_tests}
use Rattle.std.proofs.lemmas.List.{take-append-drop}
use Rattle.std.proofs.lemmas.List.Elements.{All-weaker}
use Rattle.std.proofs.lemmas.List.Sums.{AllPass-from_list_all, split_at_first, passes_at_first}
use Rattle.std.proofs.lemmas.List.Splits.{slice_split_none, slice_split_at, length-slice_split, join_with_byte-slice_split}
use Rattle.std.specs.List.{All, list_all, list_any, position_or_len, before_first, after_first, slice_split, onto_first, join_with_byte}
use denote.Ref.{Bor}
use Rattle.em_asm_read.specs.Cutting.{operands_in, statement_in, parts_in, parts_of}
use Rattle.em_asm_read.specs.Grammar.{Words, Parts, StopsAt, AreOperands, IsStated, IsLabelled, HasParts}
use Rattle.em_base.specs.Text.{is_space, is_hash, is_colon, is_comma, has_no, trimmed, unindented}
use Rattle.em_base.proofs.Trimming.{both, both_are, prefix_len-past}

-- ---- a text cut at the first byte that passes a test

one_more : (n : ℕ) → 1 + n ≡ suc n
one_more n = omega arith

-- what stands before that byte passes no test
clear-more : (test : ℕ → Bool) (b : ℕ) (text : List ℕ) → has_no test (before_first test text) ≡ true → (found : Bool) → test b ≡ found
    → has_no test (take (cond (not found) (1 + position_or_len test text) 0) (b ∷ text)) ≡ true
clear-more test b text h true e = refl
clear-more test b text h false e =
    ap (λ n. has_no test (take n (b ∷ text))) (one_more (position_or_len test text))
    ∙ both_are (not (test b)) (has_no test (take (position_or_len test text) text)) (ap not e) h

pub before-clear : (test : ℕ → Bool) (text : List ℕ) → has_no test (before_first test text) ≡ true
before-clear test [] = refl
before-clear test (b ∷ text) = clear-more test b text (before-clear test text) (test b) refl

stop-more : (test : ℕ → Bool) (b : ℕ) (text : List ℕ) → StopsAt test (drop (position_or_len test text) text) → (found : Bool) → test b ≡ found
    → StopsAt test (drop (cond (not found) (1 + position_or_len test text) 0) (b ∷ text))
stop-more test b text h true e = e
stop-more test b text h false e = subst (λ n. StopsAt test (drop n (b ∷ text))) (sym (one_more (position_or_len test text))) h

pub at-stop : (test : ℕ → Bool) (text : List ℕ) → StopsAt test (drop (position_or_len test text) text)
at-stop test [] = tt
at-stop test (b ∷ text) = stop-more test b text (at-stop test text) (test b) refl

-- a text with a clear front that stops is cut there
stop-none : (test : ℕ → Bool) (rest : List ℕ) → StopsAt test rest → position_or_len test rest ≡ 0
stop-none test [] h = refl
stop-none test (b ∷ rest) h = ap (λ f. cond (not f) (1 + position_or_len test rest) 0) h

cut-place : (test : ℕ → Bool) (front rest : List ℕ) → has_no test front ≡ true → StopsAt test rest → position_or_len test (front ++ rest) ≡ length front
cut-place test front rest h s = omega (arith, prefix_len-past (λ b. not (test b)) front rest h, stop-none test rest s)

cut-before : (test : ℕ → Bool) (front rest : List ℕ) → has_no test front ≡ true → StopsAt test rest → before_first test (front ++ rest) ≡ front
cut-before test front rest h s = ap (λ n. take n (front ++ rest)) (cut-place test front rest h s) ∙ take-append_seam front rest

cut-rest : (test : ℕ → Bool) (front rest : List ℕ) → has_no test front ≡ true → StopsAt test rest → drop (position_or_len test (front ++ rest)) (front ++ rest) ≡ rest
cut-rest test front rest h s = ap (λ n. drop n (front ++ rest)) (cut-place test front rest h s) ∙ drop-append_seam front rest

cut-after : (test : ℕ → Bool) (front rest : List ℕ) (mark : ℕ) → has_no test front ≡ true → test mark ≡ true → after_first test (front ++ (mark ∷ rest)) ≡ rest
cut-after test front rest mark h e =
    let s : StopsAt test (mark ∷ rest) = e in
    ap (λ n. drop (n + 1) (front ++ (mark ∷ rest))) (cut-place test front (mark ∷ rest) h s) ∙ drop-append-add front (mark ∷ rest) 1

-- ---- operands

clear-onto : (b : ℕ) (pieces : List (List ℕ)) → is_comma b ≡ false → list_all (has_no is_comma) pieces ≡ true → list_all (has_no is_comma) (onto_first b pieces) ≡ true
clear-onto b [] e h = both_are (has_no is_comma (b ∷ [])) true (both_are (not (is_comma b)) true (ap not e) refl) refl
clear-onto b (piece ∷ pieces) e h =
    let k = both (has_no is_comma piece) (list_all (has_no is_comma) pieces) h in
    both_are (has_no is_comma (b ∷ piece)) (list_all (has_no is_comma) pieces) (both_are (not (is_comma b)) (has_no is_comma piece) (ap not e) k.0) k.1

clear-split : (b : ℕ) (text : List ℕ) → list_all (has_no is_comma) (slice_split is_comma text) ≡ true → (found : Bool) → is_comma b ≡ found
    → list_all (has_no is_comma) (cond found ([] ∷ slice_split is_comma text) (onto_first b (slice_split is_comma text))) ≡ true
clear-split b text h true e = h
clear-split b text h false e = clear-onto b (slice_split is_comma text) e h

-- the pieces between commas have none
clear-pieces : (text : List ℕ) → list_all (has_no is_comma) (slice_split is_comma text) ≡ true
clear-pieces [] = refl
clear-pieces (b ∷ text) = clear-split b text (clear-pieces text) (is_comma b) refl

no-comma : (piece : List ℕ) → has_no is_comma piece ≡ true → All (λ b. is_comma b ≡ false) piece
no-comma piece h = All-weaker (λ b. not (is_comma b) ≡ true) (λ b. is_comma b ≡ false) (λ b k. turned (is_comma b) k) piece (AllPass-from_list_all (λ b. not (is_comma b)) piece h)
  where
    turned : (f : Bool) → not f ≡ true → f ≡ false
    turned false k = refl
    turned true k = absurd (cc)

-- pieces without commas, joined by commas, are found again
split-joined : (pieces : List (List ℕ)) → 0 < length pieces → list_all (has_no is_comma) pieces ≡ true → slice_split is_comma (join_with_byte 44 pieces) ≡ pieces
split-joined [] some h = absurd (omega arith)
split-joined (piece ∷ []) some h = slice_split_none is_comma piece (no-comma piece (both (has_no is_comma piece) true h).0)
split-joined (piece ∷ next ∷ more) some h =
    let k = both (has_no is_comma piece) (list_all (has_no is_comma) (next ∷ more)) h in
    slice_split_at is_comma piece 44 (join_with_byte 44 (next ∷ more)) (no-comma piece k.0) refl
    ∙ ap (λ t. piece ∷ t) (split-joined (next ∷ more) (omega arith) k.1)

empty : (text : List ℕ) → nat_eq (length text) 0 ≡ true → text ≡ []
empty [] e = refl
empty (b ∷ text) e = absurd (grind (arith, nat_tests))

pub operands-in : (text : List ℕ) → AreOperands text (operands_in text)
operands-in text = by_length (nat_eq (length text) 0) refl
  where
    by_length : (none : Bool) → nat_eq (length text) 0 ≡ none → AreOperands text (if none then [] else map trimmed (slice_split is_comma text))
    by_length true e = inl (empty text e, refl)
    by_length false e =
        let some : 0 < length text = grind (arith, nat_tests) in
        inr (some, (slice_split is_comma text, omega (arith, length-slice_split is_comma text), sym (join_with_byte-slice_split 44 text), clear-pieces text, refl))

pub operands-alone : (text : List ℕ) (operands : List (List ℕ)) → AreOperands text operands → operands ≡ operands_in text
operands-alone text operands (inl p) = p.1 ∙ ap operands_in (sym p.0)
operands-alone text operands (inr p) =
    let some : nat_eq (length text) 0 ≡ false = grind (arith, nat_tests, p.0) in
    p.1.4
    ∙ ap (map trimmed) (sym (split-joined p.1.0 p.1.1 p.1.3) ∙ ap (slice_split is_comma) (sym p.1.2))
    ∙ sym (ap (λ none. if none then [] else map trimmed (slice_split is_comma text)) some)

-- ---- statements

pub words-in : (text : List ℕ) → IsStated text (statement_in text)
words-in text = by_length (nat_eq (length text) 0) refl
  where
    words : Words
    words = record { mnemonic = before_first is_space text; operands = operands_in (unindented (drop (position_or_len is_space text) text)) }

    by_length : (none : Bool) → nat_eq (length text) 0 ≡ none → IsStated text (if none then None else Some words)
    by_length true e = empty text e
    by_length false e =
        let rest = drop (position_or_len is_space text) text in
        let some : 0 < length text = grind (arith, nat_tests) in
        (some, (rest, sym (take-append-drop (position_or_len is_space text) text), before-clear is_space text, at-stop is_space text, operands-in (unindented rest)))

words-same : (m : List ℕ) (n : List ℕ) (a b : List (List ℕ)) → m ≡ n → a ≡ b → (let w : Words = record { mnemonic = m; operands = a } in w) ≡ (let w : Words = record { mnemonic = n; operands = b } in w)
words-same m n a b e f = cc

pub words-alone : (text : List ℕ) (statement : Option Words) → IsStated text statement → statement ≡ statement_in text
words-alone text None h = ap statement_in (sym h)
words-alone text (Some words) h =
    let some : nat_eq (length text) 0 ≡ false = grind (arith, nat_tests, h.0) in
    let word : words.mnemonic ≡ before_first is_space text = sym (ap (before_first is_space) h.1.1 ∙ cut-before is_space words.mnemonic h.1.0 h.1.2 h.1.3) in
    let rest : h.1.0 ≡ drop (position_or_len is_space text) text = sym (ap (λ t. drop (position_or_len is_space t) t) h.1.1 ∙ cut-rest is_space words.mnemonic h.1.0 h.1.2 h.1.3) in
    let operands : words.operands ≡ operands_in (unindented (drop (position_or_len is_space text) text)) = operands-alone (unindented h.1.0) words.operands h.1.4 ∙ ap (λ t. operands_in (unindented t)) rest in
    ap Some (words-same words.mnemonic (before_first is_space text) words.operands (operands_in (unindented (drop (position_or_len is_space text) text))) word operands)
    ∙ sym (ap (λ none. if none then None else Some (let w : Words = record { mnemonic = before_first is_space text; operands = operands_in (unindented (drop (position_or_len is_space text) text)) } in w)) some)

-- ---- labels and lines

no-colon : (code : List ℕ) → has_no is_colon code ≡ true → list_any is_colon code ≡ false
no-colon [] h = refl
no-colon (b ∷ code) h =
    let k = both (not (is_colon b)) (has_no is_colon code) h in
    neither (is_colon b) (list_any is_colon code) (turned (is_colon b) k.0) (no-colon code k.1)
  where
    turned : (f : Bool) → not f ≡ true → f ≡ false
    turned false k = refl
    turned true k = absurd (cc)

    neither : (f g : Bool) → f ≡ false → g ≡ false → (f || g) ≡ false
    neither false g e k = k
    neither true g e k = absurd (cc)

some-colon : (front rest : List ℕ) → list_any is_colon (front ++ (58 ∷ rest)) ≡ true
some-colon [] rest = refl
some-colon (b ∷ front) rest = either (is_colon b) (list_any is_colon (front ++ (58 ∷ rest))) (some-colon front rest)
  where
    either : (f g : Bool) → g ≡ true → (f || g) ≡ true
    either true g e = refl
    either false g e = e

has-none : (code : List ℕ) → list_any is_colon code ≡ false → has_no is_colon code ≡ true
has-none [] e = refl
has-none (b ∷ code) e = by_parts (is_colon b) (list_any is_colon code) e (has-none code)
  where
    by_parts : (f g : Bool) → (f || g) ≡ false → (g ≡ false → has_no is_colon code ≡ true) → (not f && has_no is_colon code) ≡ true
    by_parts true g k h = absurd (cc)
    by_parts false g k h = h k

place-within : (code : List ℕ) → list_any is_colon code ≡ true → position_or_len is_colon code < length code
place-within [] e = absurd (cc)
place-within (b ∷ code) e = by_parts (is_colon b) (list_any is_colon code) e (place-within code)
  where
    by_parts : (f g : Bool) → (f || g) ≡ true → (g ≡ true → position_or_len is_colon code < length code) → cond (not f) (1 + position_or_len is_colon code) 0 < length (b ∷ code)
    by_parts true g k h = omega arith
    by_parts false g k h = omega (arith, h k)

colon-is : (b : ℕ) → is_colon b ≡ true → b ≡ 58
colon-is b e = grind (arith, nat_tests)

-- a text with a colon is what stands before it, the colon, and what stands after it
colon-split : (code : List ℕ) → list_any is_colon code ≡ true → code ≡ before_first is_colon code ++ codes ":" ++ after_first is_colon code
colon-split code e =
    let within = place-within code e in
    let left = before_first is_colon code in
    let right = after_first is_colon code in
    let mark = get_or code (position_or_len is_colon code) 0 in
    let at : code ≡ left ++ (mark ∷ right) = split_at_first is_colon code 0 within in
    let here : mark ≡ 58 = colon-is mark (passes_at_first is_colon code 0 within) in
    at ∙ ap (λ m. left ++ (m ∷ right)) here ∙ sym (append_assoc left (codes ":") right)

-- each line has its parts
pub has-parts : (line : List ℕ) → HasParts line (parts_of line)
has-parts line = by_colon (list_any is_colon code) refl
  where
    text : List ℕ
    text = before_first is_hash line

    code : List ℕ
    code = trimmed (before_first is_hash line)

    labelled : Parts
    labelled = record { label = Some (before_first is_colon code); statement = statement_in (unindented (after_first is_colon code)) }

    plain : Parts
    plain = record { label = None; statement = statement_in code }

    by_colon : (found : Bool) → list_any is_colon code ≡ found → HasParts line (if found then labelled else plain)
    by_colon true e = record {
      text = before_first is_hash line;
      comment = drop (position_or_len is_hash line) line;
      split = sym (take-append-drop (position_or_len is_hash line) line);
      uncommented = before-clear is_hash line;
      commented = at-stop is_hash line;
      rest = unindented (after_first is_colon code);
      labelled = (after_first is_colon code, colon-split code e, before-clear is_colon code, refl);
      stated = words-in (unindented (after_first is_colon code));
    }
    by_colon false e = record {
      text = before_first is_hash line;
      comment = drop (position_or_len is_hash line) line;
      split = sym (take-append-drop (position_or_len is_hash line) line);
      uncommented = before-clear is_hash line;
      commented = at-stop is_hash line;
      rest = code;
      labelled = (has-none code e, refl);
      stated = words-in code;
    }

label-alone : (code : List ℕ) (label : Option (List ℕ)) (statement : Option Words) (rest : List ℕ) → IsLabelled code label rest → IsStated rest statement
    → (let p : Parts = record { label = label; statement = statement } in p) ≡ parts_in code
label-alone code None statement rest l s =
    let said : statement ≡ statement_in code = words-alone rest statement s ∙ ap statement_in l.1 in
    parts-same None None statement (statement_in code) refl said
    ∙ sym (ap (λ found. if found then labelled code else plain code) (no-colon code l.0))
  where
    labelled : List ℕ → Parts
    labelled c = record { label = Some (before_first is_colon c); statement = statement_in (unindented (after_first is_colon c)) }

    plain : List ℕ → Parts
    plain c = record { label = None; statement = statement_in c }

    parts-same : (a b : Option (List ℕ)) (u v : Option Words) → a ≡ b → u ≡ v → (let p : Parts = record { label = a; statement = u } in p) ≡ (let p : Parts = record { label = b; statement = v } in p)
    parts-same a b u v e f = cc
label-alone code (Some name) statement rest l s =
    let shape : code ≡ name ++ (58 ∷ l.0) = l.1 ∙ append_assoc name (codes ":") l.0 in
    let found : list_any is_colon code ≡ true = ap (list_any is_colon) shape ∙ some-colon name l.0 in
    let before : name ≡ before_first is_colon code = sym (ap (before_first is_colon) shape ∙ cut-before is_colon name (58 ∷ l.0) l.2 refl) in
    let after : l.0 ≡ after_first is_colon code = sym (ap (after_first is_colon) shape ∙ cut-after is_colon name l.0 58 l.2 refl) in
    let said : statement ≡ statement_in (unindented (after_first is_colon code)) = words-alone rest statement s ∙ ap statement_in (l.3 ∙ ap unindented after) in
    parts-same (Some name) (Some (before_first is_colon code)) statement (statement_in (unindented (after_first is_colon code))) (ap Some before) said
    ∙ sym (ap (λ f. if f then labelled code else plain code) found)
  where
    labelled : List ℕ → Parts
    labelled c = record { label = Some (before_first is_colon c); statement = statement_in (unindented (after_first is_colon c)) }

    plain : List ℕ → Parts
    plain c = record { label = None; statement = statement_in c }

    parts-same : (a b : Option (List ℕ)) (u v : Option Words) → a ≡ b → u ≡ v → (let p : Parts = record { label = a; statement = u } in p) ≡ (let p : Parts = record { label = b; statement = v } in p)
    parts-same a b u v e f = cc

-- a line has its parts alone
pub parts-alone : (line : List ℕ) (parts : Parts) → HasParts line parts → parts ≡ parts_of line
parts-alone line parts h =
    let text : h.text ≡ before_first is_hash line = sym (ap (before_first is_hash) h.split ∙ cut-before is_hash h.text h.comment h.uncommented h.commented) in
    label-alone (trimmed h.text) parts.label parts.statement h.rest h.labelled h.stated ∙ ap (λ t. parts_in (trimmed t)) text

pub parts-once : (line : List ℕ) (one other : Parts) → HasParts line one → HasParts line other → one ≡ other
parts-once line one other h k = parts-alone line one h ∙ sym (parts-alone line other k)

-- ---- as the code has them

-- texts that are borrowed, trimmed one by one
pub trimmed-each : (pieces : List (Bor (List ℕ))) → map (λ piece. trimmed piece.now) pieces ≡ map trimmed (map (λ (piece : Bor (List ℕ)). piece.now) pieces)
trimmed-each [] = refl
trimmed-each (piece ∷ pieces) = ap (λ t. trimmed piece.now ∷ t) (trimmed-each pieces)

-- the words of a text that isn't empty
pub some-words : (text word : List ℕ) (operands : List (List ℕ)) → nat_eq (length text) 0 ≡ false → word ≡ before_first is_space text
    → operands ≡ operands_in (unindented (drop (position_or_len is_space text) text))
    → Some (let w : Words = record { mnemonic = word; operands = operands } in w) ≡ statement_in text
some-words text word operands some e f =
    ap Some (words-same word (before_first is_space text) operands (operands_in (unindented (drop (position_or_len is_space text) text))) e f)
    ∙ sym (ap (λ none. if none then None else Some (let w : Words = record { mnemonic = before_first is_space text; operands = operands_in (unindented (drop (position_or_len is_space text) text)) } in w)) some)

-- the operands of a text that isn't empty
pub some-operands : (text : List ℕ) → nat_eq (length text) 0 ≡ false → map trimmed (slice_split is_comma text) ≡ operands_in text
some-operands text some = sym (ap (λ none. if none then [] else map trimmed (slice_split is_comma text)) some)

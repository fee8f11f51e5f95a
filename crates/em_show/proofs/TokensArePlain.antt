-- Tokens: texts of which each byte stands for itself in a line, and the parts of a line that is made of them.
use mathlib.Core.Bool.{◌&&◌, ◌||◌}
use Rattle.std.proofs.Common.{◌≡◌, ℕ, ◌-◌, ◌<◌, Bool, true, false, not, nat_lt, List, [], ◌∷◌, ◌++◌, length, map, take, drop, Some, None, inl, inr, refl, sym, ap, ap₂, subst, ◌∙◌, arith, codes, append_assoc, append-nil, length-append}
use Rattle.std.proofs.lemmas.Bool.Decides.{nat_tests}
use Rattle.std.proofs.lemmas.List.{take_all}
use Rattle.std.specs.List.{list_all, join_with_byte, prefix_len, suffix_len}
use Rattle.em_asm_read.specs.Grammar.{AreOperands, HasParts}
use Rattle.em_base.specs.Text.{is_space, is_hash, is_colon, is_comma, has_no, trimmed, unindented}
use Rattle.em_base.proofs.Trimming.{both, both_are, drop-front, list_all-joined, list_all-weaker, prefix_len-none, prefix_len-stopped, suffix_len-ended}
use Rattle.em_show.specs.Show.{operands_text, statement_text}

-- ---- tokens

-- the byte is no space or tab, and none of the marks of a line
abbrev pub is_plain : ℕ → Bool
is_plain byte = not (is_space byte || is_hash byte || is_colon byte || is_comma byte)

-- at least one such byte, and no others
abbrev pub is_token : List ℕ → Bool
is_token text = nat_lt 0 (length text) && list_all is_plain text

no-space : (byte : ℕ) → is_plain byte ≡ true → not (is_space byte) ≡ true
no-space byte h = grind (arith, nat_tests)

no-hash : (byte : ℕ) → is_plain byte ≡ true → not (is_hash byte) ≡ true
no-hash byte h = grind (arith, nat_tests)

no-colon : (byte : ℕ) → is_plain byte ≡ true → not (is_colon byte) ≡ true
no-colon byte h = grind (arith, nat_tests)

no-comma : (byte : ℕ) → is_plain byte ≡ true → not (is_comma byte) ≡ true
no-comma byte h = grind (arith, nat_tests)

some : (text : List ℕ) → is_token text ≡ true → 0 < length text
some text h = let b = (both (nat_lt 0 (length text)) (list_all is_plain text) h).0 in grind (arith, nat_tests, b)

-- each byte of a token is plain
pub plain : (text : List ℕ) → is_token text ≡ true → list_all is_plain text ≡ true
plain text h = (both (nat_lt 0 (length text)) (list_all is_plain text) h).1

-- a token followed by a plain text is one
pub token-more : (text more : List ℕ) → is_token text ≡ true → list_all is_plain more ≡ true → is_token (text ++ more) ≡ true
token-more text more h k =
    let many : nat_lt 0 (length (text ++ more)) ≡ true = let n : 0 < length (text ++ more) = omega (arith, some text h, length-append text more) in grind (arith, nat_tests, n) in
    both_are (nat_lt 0 (length (text ++ more))) (list_all is_plain (text ++ more)) many (list_all-joined is_plain text more (plain text h) k)

-- ---- ends

not-space : (byte : ℕ) → is_plain byte ≡ true → is_space byte ≡ false
not-space byte h = grind (arith, nat_tests)

starts-plain : (text rest : List ℕ) → is_token text ≡ true → prefix_len is_space (text ++ rest) ≡ 0
starts-plain text rest h = prefix_len-stopped is_space text rest (some text h) (prefix_len-none is_space is_plain text not-space (plain text h))

ends-plain : (front text : List ℕ) → is_token text ≡ true → suffix_len is_space (front ++ text) ≡ 0
ends-plain front text h = suffix_len-ended is_space is_plain front text not-space (plain text h) (some text h)

-- a text that begins and ends with a token is trimmed already
same-trimmed : (text : List ℕ) → prefix_len is_space text ≡ 0 → suffix_len is_space text ≡ 0 → trimmed text ≡ text
same-trimmed text p q =
    let inner : unindented text ≡ text = ap (λ n. drop n text) p in
    let all : length text - suffix_len is_space text ≡ length text = omega (arith, q) in
    ap (λ t. take (length t - suffix_len is_space t) t) inner ∙ ap (λ n. take n text) all ∙ take_all (length text) text (omega arith)

-- a token has no spaces to trim
pub trimmed-token : (text : List ℕ) → is_token text ≡ true → trimmed text ≡ text
trimmed-token text h =
    let p : prefix_len is_space text ≡ 0 = subst (λ t. prefix_len is_space t ≡ 0) (append-nil text) (starts-plain text [] h) in
    same-trimmed text p (ends-plain [] text h)

trimmed-indented : (text : List ℕ) → is_token text ≡ true → trimmed (32 ∷ text) ≡ text
trimmed-indented text h =
    let p : prefix_len is_space text ≡ 0 = subst (λ t. prefix_len is_space t ≡ 0) (append-nil text) (starts-plain text [] h) in
    let inner : unindented (32 ∷ text) ≡ text = drop-front is_space (32 ∷ []) text refl p in
    let all : length text - suffix_len is_space text ≡ length text = omega (arith, ends-plain [] text h) in
    ap (λ t. take (length t - suffix_len is_space t) t) inner ∙ ap (λ n. take n text) all ∙ take_all (length text) text (omega arith)

-- ---- operands

-- the pieces between the commas: all but the first have a space in front
abbrev pieces_of : List ℕ → List (List ℕ) → List (List ℕ)
pieces_of operand operands = operand ∷ map (λ o. 32 ∷ o) operands

join-indented : (operand : List ℕ) (operands : List (List ℕ)) → join_with_byte 44 ((32 ∷ operand) ∷ map (λ o. 32 ∷ o) operands) ≡ 32 ∷ operands_text (operand ∷ operands)
join-indented operand [] = refl
join-indented operand (next ∷ more) =
    ap (λ t. (32 ∷ operand) ++ (44 ∷ t)) (join-indented next more) ∙ ap (λ t. 32 ∷ t) (sym (append_assoc operand (codes ", ") (operands_text (next ∷ more))))

join-pieces : (operand : List ℕ) (operands : List (List ℕ)) → operands_text (operand ∷ operands) ≡ join_with_byte 44 (pieces_of operand operands)
join-pieces operand [] = refl
join-pieces operand (next ∷ more) = append_assoc operand (codes ", ") (operands_text (next ∷ more)) ∙ sym (ap (λ t. operand ++ (44 ∷ t)) (join-indented next more))

clear-indented : (operands : List (List ℕ)) → list_all is_token operands ≡ true → list_all (has_no is_comma) (map (λ o. 32 ∷ o) operands) ≡ true
clear-indented [] h = refl
clear-indented (operand ∷ more) h =
    let b = both (is_token operand) (list_all is_token more) h in
    let clear : has_no is_comma operand ≡ true = list_all-weaker is_plain (λ byte. not (is_comma byte)) operand no-comma (plain operand b.0) in
    both_are (has_no is_comma (32 ∷ operand)) (list_all (has_no is_comma) (map (λ o. 32 ∷ o) more)) clear (clear-indented more b.1)

trimmed-pieces : (operands : List (List ℕ)) → list_all is_token operands ≡ true → operands ≡ map trimmed (map (λ o. 32 ∷ o) operands)
trimmed-pieces [] h = refl
trimmed-pieces (operand ∷ more) h =
    let b = both (is_token operand) (list_all is_token more) h in
    ap₂ (λ o os. o ∷ os) (sym (trimmed-indented operand b.0)) (trimmed-pieces more b.1)

-- the operands end in a token
record Ends (text : List ℕ) : Type 0 where
  front : List ℕ
  last : List ℕ
  split : text ≡ front ++ last
  token : is_token last ≡ true

ends-operands_text : (operand : List ℕ) (operands : List (List ℕ)) → is_token operand ≡ true → list_all is_token operands ≡ true → Ends (operands_text (operand ∷ operands))
ends-operands_text operand [] h k = record { front = []; last = operand; split = refl; token = h }
ends-operands_text operand (next ∷ more) h k =
    let b = both (is_token next) (list_all is_token more) k in
    let e = ends-operands_text next more b.0 b.1 in
    record {
      front = operand ++ codes ", " ++ e.front;
      last = e.last;
      split = ap (λ t. operand ++ codes ", " ++ t) e.split ∙ sym (append_assoc (operand ++ codes ", ") e.front e.last);
      token = e.token;
    }

starts-operands_text : (operand : List ℕ) (operands : List (List ℕ)) → is_token operand ≡ true → prefix_len is_space (operands_text (operand ∷ operands)) ≡ 0
starts-operands_text operand [] h = subst (λ t. prefix_len is_space t ≡ 0) (append-nil operand) (starts-plain operand [] h)
starts-operands_text operand (next ∷ more) h = subst (λ t. prefix_len is_space t ≡ 0) (sym (append_assoc operand (codes ", ") (operands_text (next ∷ more)))) (starts-plain operand (codes ", " ++ operands_text (next ∷ more)) h)

-- a byte that neither tokens nor commas nor spaces are
clear-operands_text : (test : ℕ → Bool) → ((x : ℕ) → is_plain x ≡ true → not (test x) ≡ true) → has_no test (codes ", ") ≡ true → (operand : List ℕ) (operands : List (List ℕ)) → is_token operand ≡ true → list_all is_token operands ≡ true
    → has_no test (operands_text (operand ∷ operands)) ≡ true
clear-operands_text test other marks operand [] h k = list_all-weaker is_plain (λ x. not (test x)) operand other (plain operand h)
clear-operands_text test other marks operand (next ∷ more) h k =
    let b = both (is_token next) (list_all is_token more) k in
    list_all-joined (λ x. not (test x)) (operand ++ codes ", ") (operands_text (next ∷ more))
    (list_all-joined (λ x. not (test x)) operand (codes ", ") (list_all-weaker is_plain (λ x. not (test x)) operand other (plain operand h)) marks)
    (clear-operands_text test other marks next more b.0 b.1)

some-operands_text : (operand : List ℕ) (operands : List (List ℕ)) → is_token operand ≡ true → 0 < length (operands_text (operand ∷ operands))
some-operands_text operand [] h = some operand h
some-operands_text operand (next ∷ more) h = omega (arith, some operand h, length-append (operand ++ codes ", ") (operands_text (next ∷ more)), length-append operand (codes ", "))

are-operands : (operand : List ℕ) (operands : List (List ℕ)) → is_token operand ≡ true → list_all is_token operands ≡ true → AreOperands (operands_text (operand ∷ operands)) (operand ∷ operands)
are-operands operand operands h k =
    let count : 0 < length (pieces_of operand operands) = omega arith in
    let own : has_no is_comma operand ≡ true = list_all-weaker is_plain (λ byte. not (is_comma byte)) operand no-comma (plain operand h) in
    let clear = both_are (has_no is_comma operand) (list_all (has_no is_comma) (map (λ o. 32 ∷ o) operands)) own (clear-indented operands k) in
    let trims = ap₂ (λ o os. o ∷ os) (sym (trimmed-token operand h)) (trimmed-pieces operands k) in
    inr (some-operands_text operand operands h, (pieces_of operand operands, count, join-pieces operand operands, clear, trims))

-- ---- lines

-- the parts of a mnemonic with operands
pub parts-statement_text : (mnemonic operand : List ℕ) (operands : List (List ℕ)) → is_token mnemonic ≡ true → is_token operand ≡ true → list_all is_token operands ≡ true
    → HasParts (statement_text mnemonic (operand ∷ operands)) (record { label = None; statement = Some record { mnemonic = mnemonic; operands = operand ∷ operands } })
parts-statement_text mnemonic operand operands m h k =
    let list = operands_text (operand ∷ operands) in
    let text = statement_text mnemonic (operand ∷ operands) in
    let shape : text ≡ mnemonic ++ (32 ∷ list) = append_assoc mnemonic (codes " ") list in
    let end = ends-operands_text operand operands h k in
    let starts : prefix_len is_space text ≡ 0 = subst (λ t. prefix_len is_space t ≡ 0) (sym shape) (starts-plain mnemonic (32 ∷ list) m) in
    let ending : text ≡ (mnemonic ++ codes " " ++ end.front) ++ end.last = ap (λ t. mnemonic ++ codes " " ++ t) end.split ∙ sym (append_assoc (mnemonic ++ codes " ") end.front end.last) in
    let ends : suffix_len is_space text ≡ 0 = subst (λ t. suffix_len is_space t ≡ 0) (sym ending) (ends-plain (mnemonic ++ codes " " ++ end.front) end.last end.token) in
    let same : trimmed text ≡ text = same-trimmed text starts ends in
    let hashes : has_no is_hash text ≡ true = list_all-joined (λ x. not (is_hash x)) (mnemonic ++ codes " ") list (list_all-joined (λ x. not (is_hash x)) mnemonic (codes " ") (list_all-weaker is_plain (λ x. not (is_hash x)) mnemonic no-hash (plain mnemonic m)) refl) (clear-operands_text is_hash no-hash refl operand operands h k) in
    let colons : has_no is_colon text ≡ true = list_all-joined (λ x. not (is_colon x)) (mnemonic ++ codes " ") list (list_all-joined (λ x. not (is_colon x)) mnemonic (codes " ") (list_all-weaker is_plain (λ x. not (is_colon x)) mnemonic no-colon (plain mnemonic m)) refl) (clear-operands_text is_colon no-colon refl operand operands h k) in
    let inner : unindented (32 ∷ list) ≡ list = drop-front is_space (32 ∷ []) list refl (starts-operands_text operand operands h) in
    let long : 0 < length text = omega (arith, ap length shape, length-append mnemonic (32 ∷ list)) in
    record {
      text = text;
      comment = [];
      split = sym (append-nil text);
      uncommented = hashes;
      commented = tt;
      rest = text;
      labelled = (subst (λ t. has_no is_colon t ≡ true) (sym same) colons, sym same);
      stated = (long, (32 ∷ list, shape, list_all-weaker is_plain (λ x. not (is_space x)) mnemonic no-space (plain mnemonic m), refl, subst (λ t. AreOperands t (operand ∷ operands)) (sym inner) (are-operands operand operands h k)));
    }

-- the parts of a mnemonic alone
pub parts-alone : (mnemonic : List ℕ) → is_token mnemonic ≡ true → HasParts mnemonic (record { label = None; statement = Some record { mnemonic = mnemonic; operands = [] } })
parts-alone mnemonic m =
    let same = trimmed-token mnemonic m in
    record {
      text = mnemonic;
      comment = [];
      split = sym (append-nil mnemonic);
      uncommented = list_all-weaker is_plain (λ x. not (is_hash x)) mnemonic no-hash (plain mnemonic m);
      commented = tt;
      rest = mnemonic;
      labelled = (subst (λ t. has_no is_colon t ≡ true) (sym same) (list_all-weaker is_plain (λ x. not (is_colon x)) mnemonic no-colon (plain mnemonic m)), sym same);
      stated = (some mnemonic m, ([], sym (append-nil mnemonic), list_all-weaker is_plain (λ x. not (is_space x)) mnemonic no-space (plain mnemonic m), tt, inl (refl, refl)));
    }

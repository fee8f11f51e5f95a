-- Where the word `waitjob` stands in a line: behind the label, where there is one, and the spaces and tabs there.
use mathlib.Core.Bool.{◌||◌}
use Rattle.std.proofs.Common.{◌≡◌, ◌∙◌, ℕ, suc, ◌+◌, Bool, true, false, cond, not, List, [], ◌∷◌, ◌++◌, length, take, drop, codes, refl, sym, ap, arith, append_assoc, length-append, if◌then◌else◌}
use Rattle.std.proofs.Math.Seq.{drop-append_seam}
use Rattle.std.specs.List.{before_first, list_all, list_any, position_or_len, prefix_len}
use Rattle.em_base.proofs.Trimming.{both, prefix_len-to_mark}
use Rattle.em_base.specs.Text.{has_no, is_colon, is_hash, is_space}
use Rattle.em_hint.specs.Lines.{IsWaitLine, is_word_end, label_size, statement_place}

-- whether a colon stands before the comment
abbrev pub has_colon : List ℕ → Bool
has_colon line = list_any is_colon (before_first is_hash line)

one_more : (n : ℕ) → 1 + n ≡ suc n
one_more n = omega arith

-- the first byte of a line is its comment's
pub colon-hash : (b : ℕ) (line : List ℕ) → is_hash b ≡ true → has_colon (b ∷ line) ≡ false
colon-hash b line e = ap (λ f. list_any is_colon (take (cond (not f) (1 + position_or_len is_hash line) 0) (b ∷ line))) e

-- or it is no such byte
pub colon-next : (b : ℕ) (line : List ℕ) → is_hash b ≡ false → has_colon (b ∷ line) ≡ (is_colon b || has_colon line)
colon-next b line e =
    ap (λ f. list_any is_colon (take (cond (not f) (1 + position_or_len is_hash line) 0) (b ∷ line))) e
    ∙ ap (λ n. list_any is_colon (take n (b ∷ line))) (one_more (position_or_len is_hash line))

-- bytes without a colon and `#` leave the question to what follows them
pub colon-past : (front line : List ℕ) → has_no is_hash front ≡ true → has_no is_colon front ≡ true → has_colon (front ++ line) ≡ has_colon line
colon-past [] line h k = refl
colon-past (b ∷ front) line h k =
    let hash = both (not (is_hash b)) (has_no is_hash front) h in
    let colon = both (not (is_colon b)) (has_no is_colon front) k in
    colon-next b (front ++ line) (turned (is_hash b) hash.0)
    ∙ ap (λ f. f || has_colon (front ++ line)) (turned (is_colon b) colon.0)
    ∙ colon-past front line hash.1 colon.1
  where
    turned : (f : Bool) → not f ≡ true → f ≡ false
    turned false e = refl
    turned true e = absurd (cc)

-- ---- how long the label is

-- a label of bytes without a colon and `#`, and its colon
pub size-labelled : (name rest : List ℕ) → has_no is_hash name ≡ true → has_no is_colon name ≡ true → label_size (name ++ 58 ∷ rest) ≡ length name + 1
size-labelled name rest h k =
    let found : has_colon (name ++ 58 ∷ rest) ≡ true = colon-past name (58 ∷ rest) h k ∙ colon-next 58 rest refl in
    ap (λ f. if f then position_or_len is_colon (name ++ 58 ∷ rest) + 1 else 0) found
    ∙ ap (λ n. n + 1) (prefix_len-to_mark (λ b. not (is_colon b)) name rest 58 k refl)

-- no label
pub size-unlabelled : (text comment : List ℕ) → has_no is_hash text ≡ true → has_no is_colon text ≡ true → has_colon comment ≡ false → label_size (text ++ comment) ≡ 0
size-unlabelled text comment h k e =
    ap (λ f. if f then position_or_len is_colon (text ++ comment) + 1 else 0) (colon-past text comment h k ∙ e)

-- ---- where the statement begins

-- behind the label, and the spaces and tabs there
place-behind : (label blanks word : List ℕ) (b : ℕ) → label_size (label ++ blanks ++ b ∷ word) ≡ length label → list_all is_space blanks ≡ true → is_space b ≡ false
    → statement_place (label ++ blanks ++ b ∷ word) ≡ length (label ++ blanks)
place-behind label blanks word b size h e =
    let line : label ++ blanks ++ b ∷ word ≡ label ++ (blanks ++ b ∷ word) = append_assoc label blanks (b ∷ word) in
    let rest : drop (length label) (label ++ blanks ++ b ∷ word) ≡ blanks ++ b ∷ word = ap (drop (length label)) line ∙ drop-append_seam label (blanks ++ b ∷ word) in
    let many : prefix_len is_space (drop (length label) (label ++ blanks ++ b ∷ word)) ≡ length blanks
    = ap (prefix_len is_space) rest ∙ prefix_len-to_mark is_space blanks word b h e in
    ap (λ n. n + prefix_len is_space (drop n (label ++ blanks ++ b ∷ word))) size
    ∙ ap (λ n. length label + n) many ∙ sym (length-append label blanks)

-- a line with the word `waitjob` there
pub wait-there : (label blanks rest : List ℕ) → label_size (label ++ blanks ++ (codes "waitjob" ++ rest)) ≡ length label → list_all is_space blanks ≡ true → is_word_end rest ≡ true
    → IsWaitLine (label ++ blanks ++ (codes "waitjob" ++ rest))
wait-there label blanks rest size h e =
    let place = place-behind label blanks (codes "aitjob" ++ rest) 119 size h refl in
    (rest, ap (λ n. drop n (label ++ blanks ++ (codes "waitjob" ++ rest))) place ∙ drop-append_seam (label ++ blanks) (codes "waitjob" ++ rest), e)

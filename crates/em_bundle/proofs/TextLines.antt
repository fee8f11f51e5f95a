-- The lines of a text, one after the other.
use Rattle.std.proofs.Common.{◌≡◌, ◌∙◌, ℕ, suc, ◌+◌, ◌-◌, ◌<◌, ◌≤◌, Bool, true, false, cond, ◌==◌, List, [], ◌∷◌, ◌++◌, length, take, drop, get_or, Option, Some, None, MatchOption, inl, inr, refl, sym, ap, arith, lit≤, append-nil, append_assoc, length-append, count_by}
use Rattle.std.proofs.Math.Seq.{take-append_seam, get_or-append_seam}
use Rattle.std.proofs.lemmas.Bool.Decides.{nat_tests}
use Rattle.std.proofs.lemmas.Grind.{common_steps}
use Rattle.std.proofs.lemmas.List.{take-append-drop}
use Rattle.std.proofs.lemmas.List.Splits.{length-slice_split, slice_split_at, slice_split_none}
use Rattle.std.proofs.lemmas.List.Sums.{sum_by-append}
use Rattle.std.specs.List.{All, slice_split}
use Rattle.std.specs.Str.Lines.{lines, lines_of_parts, strip_carriage_return}
use denote.Ref.{Bor}
use Rattle.em_bundle.specs.Parts.{is_header}
use Rattle.em_bundle.specs.Walk.{IsFirstLine}

-- whether a byte is a line feed
abbrev pub is_feed : ℕ → Bool
is_feed byte = byte == 10

-- no byte is a line feed
abbrev pub HasNoFeed : List ℕ → Type 0
HasNoFeed text = All (λ byte. is_feed byte ≡ false) text

-- the same from what a search for a line feed answers
pub no-feed : (text : List ℕ) → ((i : ℕ) → i < length text → get_or text i 0 ≡ 10 → ⊥) → HasNoFeed text
no-feed text h = λ i d within. by_test i d within (is_feed (get_or text i d)) refl
  where
    by_test : (i d : ℕ) → i < length text → (b : Bool) → is_feed (get_or text i d) ≡ b → b ≡ false
    by_test i d within false e = refl
    by_test i d within true e =
        let feed : get_or text i d ≡ 10 = grind (arith, nat_tests) in
        let same : get_or text i d ≡ get_or text i 0 = grind (arith, common_steps) in
        absurd (h i within (sym same ∙ feed))

-- ---- the first line

-- the lines of parts begin with the first part, where others follow
pub parted : (line : List ℕ) (parts : List (List ℕ)) → 0 < length parts → lines_of_parts (line ∷ parts) ≡ strip_carriage_return line ∷ lines_of_parts parts
parted line [] h = absurd (omega arith)
parted line (part ∷ parts) h = refl

-- a line that ends by a line feed, and the lines of what follows
pub lines-feed : (line rest : List ℕ) → HasNoFeed line → lines (line ++ 10 ∷ rest) ≡ strip_carriage_return line ∷ lines rest
lines-feed line rest h =
    let some : 0 < length (slice_split is_feed rest) = omega (arith, length-slice_split is_feed rest) in
    ap lines_of_parts (slice_split_at is_feed line 10 rest h refl) ∙ parted line (slice_split is_feed rest) some

-- a last line
pub lines-last : (line : List ℕ) → HasNoFeed line → 0 < length line → lines line ≡ line ∷ []
lines-last line h some =
    let no : (length line == 0) ≡ false = grind (arith, nat_tests) in
    ap lines_of_parts (slice_split_none is_feed line h) ∙ ap (λ b. cond b [] (line ∷ [])) no

shifted : (line more : List ℕ) → (line ++ 10 ∷ []) ++ more ≡ line ++ 10 ∷ more
shifted line more = append_assoc line (10 ∷ []) more

-- a line that ends by a line feed begins as its text does
begins : (line rest : List ℕ) → is_header (strip_carriage_return line) ≡ is_header (line ++ 10 ∷ rest)
begins [] rest = refl
begins (x ∷ []) rest = by_test (x == 13) refl
  where
    by_test : (b : Bool) → (x == 13) ≡ b → is_header (cond b [] (x ∷ [])) ≡ is_header (x ∷ 10 ∷ rest)
    by_test false e = refl
    by_test true e =
        let return : x ≡ 13 = grind (arith, nat_tests) in
        ap (λ y. y == 37) (sym return)
begins (x ∷ y ∷ ys) rest = by_test (get_or (x ∷ y ∷ ys) (length (x ∷ y ∷ ys) - 1) 0 == 13)
  where
    by_test : (b : Bool) → is_header (cond b (take (length (x ∷ y ∷ ys) - 1) (x ∷ y ∷ ys)) (x ∷ y ∷ ys)) ≡ is_header (x ∷ y ∷ ys ++ 10 ∷ rest)
    by_test false = refl
    by_test true =
        let place : length (x ∷ y ∷ ys) - 1 ≡ suc (length ys) = omega arith in
        ap (λ n. is_header (take n (x ∷ y ∷ ys))) place

pub first-feed : (text line rest stripped : List ℕ) → text ≡ line ++ 10 ∷ rest → HasNoFeed line → stripped ≡ strip_carriage_return line → IsFirstLine text stripped rest
first-feed text line rest stripped e h s =
    let alone : lines (line ++ 10 ∷ []) ≡ stripped ∷ [] = lines-feed line [] h ∙ ap (λ l. l ∷ []) (sym s) in
    record {
      bytes = line ++ 10 ∷ [];
      split = e ∙ sym (shifted line rest);
      first = ap lines e ∙ lines-feed line rest h ∙ ap (λ l. l ∷ lines rest) (sym s);
      alone = alone;
      headed = ap is_header s ∙ begins line rest ∙ ap is_header (sym e);
      closed = inr (λ more. ap lines (shifted line more) ∙ lines-feed line more h ∙ ap (λ l. l ∷ lines more) (sym s) ∙ ap (λ ls. ls ++ lines more) (sym alone));
    }

pub first-last : (text : List ℕ) → HasNoFeed text → 0 < length text → IsFirstLine text text []
first-last text h some = record {
  bytes = text;
  split = sym (append-nil text);
  first = lines-last text h some;
  alone = lines-last text h some;
  closed = inl refl;
  headed = refl;
}

-- ---- carriage returns

pub strip-return : (front : List ℕ) → strip_carriage_return (front ++ 13 ∷ []) ≡ front
strip-return front =
    let place : length (front ++ 13 ∷ []) - 1 ≡ length front = omega (arith, length-append front (13 ∷ [])) in
    let last : get_or (front ++ 13 ∷ []) (length (front ++ 13 ∷ []) - 1) 0 ≡ 13 = ap (λ n. get_or (front ++ 13 ∷ []) n 0) place ∙ get_or-append_seam front 13 [] 0 in
    let test : (get_or (front ++ 13 ∷ []) (length (front ++ 13 ∷ []) - 1) 0 == 13) ≡ true = ap (λ n. n == 13) last in
    ap (λ b. cond b (take (length (front ++ 13 ∷ []) - 1) (front ++ 13 ∷ [])) (front ++ 13 ∷ [])) test
    ∙ ap (λ n. take n (front ++ 13 ∷ [])) place ∙ take-append_seam front (13 ∷ [])

pub strip-none : (line : List ℕ) → ((front : List ℕ) → line ≡ front ++ 13 ∷ [] → ⊥) → strip_carriage_return line ≡ line
strip-none line none = by_test (get_or line (length line - 1) 0 == 13) refl
  where
    ends : (line : List ℕ) → get_or line (length line - 1) 0 ≡ 13 → line ≡ take (length line - 1) line ++ 13 ∷ []
    ends [] e = absurd (omega (arith, e))
    ends (x ∷ []) e = ap (λ y. y ∷ []) e
    ends (x ∷ y ∷ rest) e = grind (arith, common_steps)

    by_test : (b : Bool) → (get_or line (length line - 1) 0 == 13) ≡ b → cond b (take (length line - 1) line) line ≡ line
    by_test false e = refl
    by_test true e =
        let last : get_or line (length line - 1) 0 ≡ 13 = grind (arith, nat_tests) in
        absurd (none (take (length line - 1) line) (ends line last))

-- a line without the carriage return that was looked for at its end
pub strip-found : (line : List ℕ) (found : Option (Bor (List ℕ))) (result : List ℕ)
    → MatchOption found ((front : List ℕ) → line ≡ front ++ 13 ∷ [] → ⊥) (λ x. line ≡ x.now ++ 13 ∷ [])
    → MatchOption found (result ≡ line) (λ x. result ≡ x.now) → result ≡ strip_carriage_return line
strip-found line None result h e = e ∙ sym (strip-none line h)
strip-found line (Some x) result h e = e ∙ sym (ap strip_carriage_return h ∙ strip-return x.now)

-- ---- how many

long : (parts : List (List ℕ)) → length parts ≤ length (lines_of_parts parts) + 1
long [] = lit≤ tt
long (part ∷ []) = omega arith
long (part ∷ next ∷ parts) = omega (arith, long (next ∷ parts))

-- there are no more line feeds than lines
pub feeds-few : (text : List ℕ) (n : ℕ) → count_by is_feed (take n text) ≤ length (lines text)
feeds-few text n =
    let whole : count_by is_feed text ≡ count_by is_feed (take n text) + count_by is_feed (drop n text)
    = ap (count_by is_feed) (sym (take-append-drop n text)) ∙ sum_by-append (λ byte. cond (is_feed byte) 1 0) (take n text) (drop n text) in
    omega (arith, whole, long (slice_split is_feed text), length-slice_split is_feed text)

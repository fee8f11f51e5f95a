-- Bytes whose last line is ended have the lines that they had, and what follows them is cut into lines of its own.
use Rattle.std.proofs.Common.{◌≡◌, ◌∙◌, ◌⊎◌, ℕ, ◌-◌, ◌<◌, Bool, true, false, cond, not, ◌==◌, List, [], ◌∷◌, ◌++◌, length, get_or, map, inl, inr, refl, sym, ap, ap₂, subst, arith, append-nil, append_assoc, length-append}
use Rattle.std.proofs.Math.Seq.{get_or-append_seam}
use Rattle.std.proofs.lemmas.Bool.Decides.{nat_tests}
use Rattle.std.proofs.lemmas.List.Elements.{All-cons, All-nil, All-push, All-weaker}
use Rattle.std.proofs.lemmas.List.Splits.{length-slice_split}
use Rattle.std.proofs.lemmas.List.Sums.{AllPass-from_list_all}
use Rattle.std.specs.List.{list_all, onto_first, slice_split}
use Rattle.std.specs.Str.Lines.{lines, lines_of_parts, strip_carriage_return}
use Rattle.em_bundle.proofs.TextLines.{HasNoFeed, is_feed, lines-feed, lines-last, parted, strip-none, strip-return}
use Rattle.em_bundle.specs.Scheduled.{ended_lines, line_end}
use Rattle.em_bundle.specs.Walk.{IsClosed}

-- a text that a test finds to have no line feed
pub tested-feed : (text : List ℕ) → list_all (λ byte. not (is_feed byte)) text ≡ true → HasNoFeed text
tested-feed text h =
    All-weaker (λ byte. not (is_feed byte) ≡ true) (λ byte. is_feed byte ≡ false) (λ byte. unfed (is_feed byte)) text
    (AllPass-from_list_all (λ byte. not (is_feed byte)) text h)
  where
    unfed : (b : Bool) → not b ≡ true → b ≡ false
    unfed true e = absurd (cc)
    unfed false e = refl

-- ---- what follows a line feed

-- an element goes onto the first of some lists, whatever lists follow
onto-joined : (x : ℕ) (parts more : List (List ℕ)) → 0 < length parts → onto_first x (parts ++ more) ≡ onto_first x parts ++ more
onto-joined x [] more some = absurd (omega arith)
onto-joined x (part ∷ parts) more some = refl

-- the parts before a line feed, and those behind it
split-joined : (xs ys : List ℕ) → slice_split is_feed (xs ++ 10 ∷ ys) ≡ slice_split is_feed xs ++ slice_split is_feed ys
split-joined [] ys = refl
split-joined (x ∷ xs) ys = by_test (is_feed x) (split-joined xs ys)
  where
    by_test : (b : Bool) → slice_split is_feed (xs ++ 10 ∷ ys) ≡ slice_split is_feed xs ++ slice_split is_feed ys
        → cond b ([] ∷ slice_split is_feed (xs ++ 10 ∷ ys)) (onto_first x (slice_split is_feed (xs ++ 10 ∷ ys)))
        ≡ cond b ([] ∷ slice_split is_feed xs) (onto_first x (slice_split is_feed xs)) ++ slice_split is_feed ys
    by_test true e = ap (λ parts. [] ∷ parts) e
    by_test false e =
        ap (onto_first x) e
        ∙ onto-joined x (slice_split is_feed xs) (slice_split is_feed ys) (omega (arith, length-slice_split is_feed xs))

-- the lines of parts that others follow
lines-joined : (parts more : List (List ℕ)) → 0 < length more
    → lines_of_parts (parts ++ more) ≡ map strip_carriage_return parts ++ lines_of_parts more
lines-joined [] more some = refl
lines-joined (part ∷ parts) more some =
    parted part (parts ++ more) (omega (arith, length-append parts more))
    ∙ ap (λ ls. strip_carriage_return part ∷ ls) (lines-joined parts more some)

-- what follows a line feed is cut into lines of its own
closed-feed : (front : List ℕ) → IsClosed (front ++ 10 ∷ [])
closed-feed front more =
    ap lines (append_assoc front (10 ∷ []) more) ∙ at-feed more
    ∙ ap (λ ls. ls ++ lines more) (sym (at-feed [] ∙ append-nil (map strip_carriage_return (slice_split is_feed front))))
  where
    at-feed : (more : List ℕ) → lines (front ++ 10 ∷ more) ≡ map strip_carriage_return (slice_split is_feed front) ++ lines more
    at-feed more =
        ap lines_of_parts (split-joined front more)
        ∙ lines-joined (slice_split is_feed front) (slice_split is_feed more) (omega (arith, length-slice_split is_feed more))

-- ---- the line that isn't ended

-- bytes up to the last line feed, or none, and the rest, which has no line feed
record IsOpen (bytes : List ℕ) : Type 0 where
  pub before : List ℕ
  pub rest : List ℕ
  pub joined : bytes ≡ before ++ rest
  pub plain : HasNoFeed rest
  pub closed : (before ≡ []) ⊎ ((front : List ℕ) × (before ≡ front ++ 10 ∷ []))

-- a byte more in front
open-next : (x : ℕ) (xs : List ℕ) → IsOpen xs → IsOpen (x ∷ xs)
open-next x xs o = by_closed o.closed
  where
    by_test : o.before ≡ [] → (b : Bool) → is_feed x ≡ b → IsOpen (x ∷ xs)
    by_test none true e =
        let feed : x ≡ 10 = grind (arith, nat_tests) in
        record {
          before = x ∷ [];
          rest = o.rest;
          joined = ap (λ t. x ∷ t) (o.joined ∙ ap (λ t. t ++ o.rest) none);
          plain = o.plain;
          closed = inr ([], ap (λ y. y ∷ []) feed);
        }
    by_test none false e = record {
      before = [];
      rest = x ∷ o.rest;
      joined = ap (λ t. x ∷ t) (o.joined ∙ ap (λ t. t ++ o.rest) none);
      plain = All-cons (λ byte. is_feed byte ≡ false) x o.rest e o.plain;
      closed = inl refl;
    }

    by_closed : (o.before ≡ []) ⊎ ((front : List ℕ) × (o.before ≡ front ++ 10 ∷ [])) → IsOpen (x ∷ xs)
    by_closed (inl none) = by_test none (is_feed x) refl
    by_closed (inr feed) = record {
      before = x ∷ o.before;
      rest = o.rest;
      joined = ap (λ t. x ∷ t) o.joined;
      plain = o.plain;
      closed = inr (x ∷ feed.0, ap (λ t. x ∷ t) feed.1);
    }

-- any bytes, cut behind their last line feed
opened : (bytes : List ℕ) → IsOpen bytes
opened [] = record { before = []; rest = []; joined = refl; plain = All-nil (λ byte. is_feed byte ≡ false); closed = inl refl }
opened (x ∷ xs) = open-next x xs (opened xs)

-- what follows the bytes up to the last line feed is cut into lines of its own
closed-off : (bytes : List ℕ) (o : IsOpen bytes) → IsClosed o.before
closed-off bytes o = by_closed o.closed
  where
    by_closed : (o.before ≡ []) ⊎ ((front : List ℕ) × (o.before ≡ front ++ 10 ∷ [])) → IsClosed o.before
    by_closed (inl none) = subst IsClosed (sym none) (λ more. refl)
    by_closed (inr feed) = subst IsClosed (sym feed.1) (closed-feed feed.0)

-- ---- the line ended

-- one list has one last element
same-last : (front other : List ℕ) (last y : ℕ) → front ++ last ∷ [] ≡ other ++ y ∷ [] → last ≡ y
same-last front other last y e =
    let size : length front ≡ length other = omega (arith, ap length e, length-append front (last ∷ []), length-append other (y ∷ [])) in
    sym (get_or-append_seam front last [] 0) ∙ ap₂ (λ t n. get_or t n 0) e size ∙ get_or-append_seam other y [] 0

-- a line without a line feed, ended
line-ended : (front : List ℕ) (last : ℕ) → HasNoFeed (front ++ last ∷ []) → (b : Bool) → (last == 13) ≡ b
    → lines ((front ++ last ∷ []) ++ cond b (13 ∷ 10 ∷ []) (10 ∷ [])) ≡ (front ++ last ∷ []) ∷ []
line-ended front last plain false e =
    lines-feed (front ++ last ∷ []) [] plain ∙ ap (λ l. l ∷ []) (strip-none (front ++ last ∷ []) other)
  where
    other : (f : List ℕ) → front ++ last ∷ [] ≡ f ++ 13 ∷ [] → ⊥
    other f same =
        let return : last ≡ 13 = same-last front f last 13 same in
        absurd (grind (arith, nat_tests))
line-ended front last plain true e =
    ap lines (sym (append_assoc (front ++ last ∷ []) (13 ∷ []) (10 ∷ [])))
    ∙ lines-feed ((front ++ last ∷ []) ++ 13 ∷ []) [] (All-push (λ byte. is_feed byte ≡ false) (front ++ last ∷ []) 13 plain refl)
    ∙ ap (λ l. l ∷ []) (strip-return (front ++ last ∷ []))

-- the bytes have the lines of these, and what follows them is cut into lines of its own
pub record AreEnded (bytes whole : List ℕ) : Type 0 where
  pub same : lines whole ≡ lines bytes
  pub closed : IsClosed whole

-- bytes that end by no line feed
other-ended : (front : List ℕ) (last : ℕ) → is_feed last ≡ false → (b : Bool) → (last == 13) ≡ b
    → AreEnded (front ++ last ∷ []) ((front ++ last ∷ []) ++ cond b (13 ∷ 10 ∷ []) (10 ∷ []))
other-ended front last other b e = record { same = same; closed = closed b }
  where
    o : IsOpen front
    o = opened front

    line : List ℕ
    line = o.rest ++ last ∷ []

    plain : HasNoFeed line
    plain = All-push (λ byte. is_feed byte ≡ false) o.rest last o.plain other

    split : front ++ last ∷ [] ≡ o.before ++ line
    split = ap (λ t. t ++ last ∷ []) o.joined ∙ append_assoc o.before o.rest (last ∷ [])

    alone : lines line ≡ line ∷ []
    alone = lines-last line plain (omega (arith, length-append o.rest (last ∷ [])))

    same : lines ((front ++ last ∷ []) ++ cond b (13 ∷ 10 ∷ []) (10 ∷ [])) ≡ lines (front ++ last ∷ [])
    same =
        ap (λ t. lines (t ++ cond b (13 ∷ 10 ∷ []) (10 ∷ []))) split
        ∙ ap lines (append_assoc o.before line (cond b (13 ∷ 10 ∷ []) (10 ∷ [])))
        ∙ closed-off front o (line ++ cond b (13 ∷ 10 ∷ []) (10 ∷ []))
        ∙ ap (λ ls. lines o.before ++ ls) (line-ended o.rest last plain b e ∙ sym alone)
        ∙ sym (closed-off front o line) ∙ ap lines (sym split)

    closed : (b : Bool) → IsClosed ((front ++ last ∷ []) ++ cond b (13 ∷ 10 ∷ []) (10 ∷ []))
    closed false = closed-feed (front ++ last ∷ [])
    closed true = subst IsClosed (append_assoc (front ++ last ∷ []) (13 ∷ []) (10 ∷ [])) (closed-feed ((front ++ last ∷ []) ++ 13 ∷ []))

-- bytes that have this last one
last-ended : (front : List ℕ) (last : ℕ) → AreEnded (front ++ last ∷ []) ((front ++ last ∷ []) ++ line_end last)
last-ended front last = by_feed (is_feed last) refl
  where
    by_feed : (b : Bool) → is_feed last ≡ b
        → AreEnded (front ++ last ∷ []) ((front ++ last ∷ []) ++ cond b [] (cond (last == 13) (13 ∷ 10 ∷ []) (10 ∷ [])))
    by_feed false e = other-ended front last e (last == 13) refl
    by_feed true e =
        let feed : last ≡ 10 = grind (arith, nat_tests) in
        record {
          same = ap lines (append-nil (front ++ last ∷ []));
          closed = subst IsClosed (ap (λ y. front ++ y ∷ []) (sym feed) ∙ sym (append-nil (front ++ last ∷ []))) (closed-feed front);
        }

-- there are no bytes, or a last one and those before it
pub some-last : (bytes : List ℕ) → (bytes ≡ []) ⊎ ((front : List ℕ) × (last : ℕ) × (bytes ≡ front ++ last ∷ []))
some-last [] = inl refl
some-last (x ∷ xs) = elim (some-last xs) [
  | inl none ↦ inr ([], x, ap (λ t. x ∷ t) none)
  | inr some ↦ inr (x ∷ some.0, some.1, ap (λ t. x ∷ t) some.2)
]

-- bytes with their last line ended
pub all-ended : (bytes : List ℕ) → AreEnded bytes (ended_lines bytes)
all-ended bytes = by_last (some-last bytes)
  where
    at-last : (front : List ℕ) (last : ℕ) → get_or (front ++ last ∷ []) (length (front ++ last ∷ []) - 1) 10 ≡ last
    at-last front last =
        let place : length (front ++ last ∷ []) - 1 ≡ length front = omega (arith, length-append front (last ∷ [])) in
        ap (λ n. get_or (front ++ last ∷ []) n 10) place ∙ get_or-append_seam front last [] 10

    by_last : (bytes ≡ []) ⊎ ((front : List ℕ) × (last : ℕ) × (bytes ≡ front ++ last ∷ [])) → AreEnded bytes (ended_lines bytes)
    by_last (inl none) =
        let nothing : AreEnded [] (ended_lines []) = record { same = refl; closed = λ more. refl } in
        subst (λ t. AreEnded t (ended_lines t)) (sym none) nothing
    by_last (inr some) =
        let whole = some.0 ++ some.1 ∷ [] in
        let there : AreEnded whole (ended_lines whole)
        = subst (λ y. AreEnded whole (whole ++ line_end y)) (sym (at-last some.0 some.1)) (last-ended some.0 some.1) in
        subst (λ t. AreEnded t (ended_lines t)) (sym some.2) there

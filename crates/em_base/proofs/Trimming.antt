-- What trimming gives, over any test of bytes.
use mathlib.Core.Bool.{◌&&◌}
use Rattle.std.proofs.Common.{◌≡◌, ℕ, ◌+◌, ◌-◌, ◌<◌, Bool, true, false, cond, List, [], ◌∷◌, ◌++◌, length, take, drop, reverse, refl, sym, ap, ◌∙◌, arith, zero-add, append-nil, length-append}
use Rattle.std.proofs.lemmas.List.{reverse-append, length-reverse, reverse-reverse}
use Rattle.std.proofs.Math.Seq.{drop-append_seam, take-append_seam}
use Rattle.std.proofs.lemmas.List.Folds.{list_all-append}
use Rattle.std.specs.List.{list_all, prefix_len, suffix_len}

pub both : (a b : Bool) → (a && b) ≡ true → (a ≡ true) × (b ≡ true)
both true true h = (refl, refl)
both true false h = absurd (cc)
both false b h = absurd (cc)

pub both_are : (a b : Bool) → a ≡ true → b ≡ true → (a && b) ≡ true
both_are true true h k = refl
both_are true false h k = absurd (cc)
both_are false b h k = absurd (cc)

-- where one test passes, another does
pub list_all-weaker : (p q : ℕ → Bool) (xs : List ℕ) → ((x : ℕ) → p x ≡ true → q x ≡ true) → list_all p xs ≡ true → list_all q xs ≡ true
list_all-weaker p q [] other h = refl
list_all-weaker p q (x ∷ xs) other h =
    let b = both (p x) (list_all p xs) h in
    both_are (q x) (list_all q xs) (other x b.0) (list_all-weaker p q xs other b.1)

-- the test passes on two lists, one after the other
pub list_all-joined : (p : ℕ → Bool) (xs ys : List ℕ) → list_all p xs ≡ true → list_all p ys ≡ true → list_all p (xs ++ ys) ≡ true
list_all-joined p xs ys h k = list_all-append p xs ys ∙ both_are (list_all p xs) (list_all p ys) h k

-- the test passes on the front and goes on behind it
pub prefix_len-past : (p : ℕ → Bool) (front rest : List ℕ) → list_all p front ≡ true → prefix_len p (front ++ rest) ≡ length front + prefix_len p rest
prefix_len-past p [] rest h = sym (zero-add (prefix_len p rest))
prefix_len-past p (x ∷ xs) rest h =
    let b = both (p x) (list_all p xs) h in
    ap (λ c. cond c (1 + prefix_len p (xs ++ rest)) 0) b.0 ∙ omega (arith, prefix_len-past p xs rest b.1)

-- where the test fails on the first element, it does so whatever follows
pub prefix_len-stopped : (p : ℕ → Bool) (xs rest : List ℕ) → 0 < length xs → prefix_len p xs ≡ 0 → prefix_len p (xs ++ rest) ≡ 0
prefix_len-stopped p [] rest some h = absurd (omega arith)
prefix_len-stopped p (x ∷ xs) rest some h = by_head (p x) h
  where
    by_head : (b : Bool) → cond b (1 + prefix_len p xs) 0 ≡ 0 → cond b (1 + prefix_len p (xs ++ rest)) 0 ≡ 0
    by_head true e = absurd (omega arith)
    by_head false e = refl

-- no element passes the first test where each passes its opposite
pub prefix_len-none : (p q : ℕ → Bool) (xs : List ℕ) → ((x : ℕ) → q x ≡ true → p x ≡ false) → list_all q xs ≡ true → prefix_len p xs ≡ 0
prefix_len-none p q [] other h = refl
prefix_len-none p q (x ∷ xs) other h = ap (λ c. cond c (1 + prefix_len p xs) 0) (other x (both (q x) (list_all q xs) h).0)

pub list_all-reverse : (p : ℕ → Bool) (xs : List ℕ) → list_all p xs ≡ true → list_all p (reverse xs) ≡ true
list_all-reverse p [] h = refl
list_all-reverse p (x ∷ xs) h =
    let b = both (p x) (list_all p xs) h in
    ap (list_all p) (reverse-append (x ∷ []) xs) ∙ list_all-append p (reverse xs) (x ∷ []) ∙ both_are (list_all p (reverse xs)) (p x && true) (list_all-reverse p xs b.1) (both_are (p x) true b.0 refl)

-- ---- a text cut where the test first fails

pub record Cut (p : ℕ → Bool) (text : List ℕ) : Type 0 where
  pub front : List ℕ
  pub rest : List ℕ
  pub passes : list_all p front ≡ true
  pub split : text ≡ front ++ rest
  pub stops : prefix_len p rest ≡ 0

cut_more : (p : ℕ → Bool) (x : ℕ) (xs : List ℕ) → Cut p xs → (b : Bool) → p x ≡ b → Cut p (x ∷ xs)
cut_more p x xs more true e = record {
  front = x ∷ more.front;
  rest = more.rest;
  passes = both_are (p x) (list_all p more.front) e more.passes;
  split = ap (λ t. x ∷ t) more.split;
  stops = more.stops;
}
cut_more p x xs more false e = record { front = []; rest = x ∷ xs; passes = refl; split = refl; stops = ap (λ c. cond c (1 + prefix_len p xs) 0) e }

pub cut : (p : ℕ → Bool) (text : List ℕ) → Cut p text
cut p [] = record { front = []; rest = []; passes = refl; split = refl; stops = refl }
cut p (x ∷ xs) = cut_more p x xs (cut p xs) (p x) refl

-- what is left when the front is dropped
pub drop-front : (p : ℕ → Bool) (front rest : List ℕ) → list_all p front ≡ true → prefix_len p rest ≡ 0 → drop (prefix_len p (front ++ rest)) (front ++ rest) ≡ rest
drop-front p front rest h e =
    let n : prefix_len p (front ++ rest) ≡ length front = omega (arith, prefix_len-past p front rest h, e) in
    rw n (drop-append_seam front rest)

-- what is left when the back is dropped
pub take-back : (p : ℕ → Bool) (core back : List ℕ) → list_all p back ≡ true → suffix_len p core ≡ 0 → take (length (core ++ back) - suffix_len p (core ++ back)) (core ++ back) ≡ core
take-back p core back h e =
    let turned : suffix_len p (core ++ back) ≡ length (reverse back) + prefix_len p (reverse core) = ap (prefix_len p) (reverse-append core back) ∙ prefix_len-past p (reverse back) (reverse core) (list_all-reverse p back h) in
    let n : length (core ++ back) - suffix_len p (core ++ back) ≡ length core = omega (arith, turned, e, length-reverse back, length-append core back) in
    rw n (take-append_seam core back)

-- the back that passes, cut off
pub record BackCut (p : ℕ → Bool) (text : List ℕ) : Type 0 where
  pub core : List ℕ
  pub back : List ℕ
  pub passes : list_all p back ≡ true
  pub split : text ≡ core ++ back
  pub stops : suffix_len p core ≡ 0

pub cut_back : (p : ℕ → Bool) (text : List ℕ) → BackCut p text
cut_back p text =
    let c = cut p (reverse text) in
    record {
      core = reverse c.rest;
      back = reverse c.front;
      passes = list_all-reverse p c.front c.passes;
      split = sym (reverse-reverse text) ∙ ap reverse c.split ∙ reverse-append c.front c.rest;
      stops = ap (prefix_len p) (reverse-reverse c.rest) ∙ c.stops;
    }

-- where each element passes, nothing is left
pub nothing_left : (p : ℕ → Bool) (text : List ℕ) → list_all p text ≡ true → drop (prefix_len p text) text ≡ []
nothing_left p text h =
    let e = drop-front p text [] h refl in
    ap (λ t. drop (prefix_len p t) t) (sym (append-nil text)) ∙ e

-- a text that ends in an element that fails keeps its end
pub suffix_len-ended : (p q : ℕ → Bool) (xs end : List ℕ) → ((x : ℕ) → q x ≡ true → p x ≡ false) → list_all q end ≡ true → 0 < length end → suffix_len p (xs ++ end) ≡ 0
suffix_len-ended p q xs end other h some =
    let turned = list_all-reverse q end h in
    let many : 0 < length (reverse end) = omega (arith, length-reverse end) in
    ap (prefix_len p) (reverse-append xs end) ∙ prefix_len-stopped p (reverse end) (reverse xs) many (prefix_len-none p q (reverse end) other turned)

-- ---- the first comma

-- a mark that the front doesn't have is found behind it
pub prefix_len-to_mark : (p : ℕ → Bool) (front rest : List ℕ) (mark : ℕ) → list_all p front ≡ true → p mark ≡ false → prefix_len p (front ++ mark ∷ rest) ≡ length front
prefix_len-to_mark p front rest mark h e =
    let stop : prefix_len p (mark ∷ rest) ≡ 0 = ap (λ c. cond c (1 + prefix_len p rest) 0) e in
    omega (arith, prefix_len-past p front (mark ∷ rest) h, stop)

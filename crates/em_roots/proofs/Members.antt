-- What the tasks are that pass a test.
use Rattle.std.proofs.Common.{◌≡◌, ◌∙◌, ◌⊎◌, inl, inr, ℕ, ◌<◌, Bool, true, false, List, [], ◌∷◌, length, filter, get_or, All, Contains, cond, refl, sym, ap, subst, arith}
use Rattle.std.specs.List.{range_with_len}
use Rattle.std.proofs.lemmas.List.Elements.{All-nil, All-cons, All-contains, All-filter, All-from_get_or, Contains-append_cases, Contains-append_left, Contains-append_right, Contains-get_or, filter_passes}
use Rattle.std.proofs.lemmas.List.FromFn.{get_or-range_with_len, length-range_with_len}
use Rattle.em_base.specs.Selection.{tasks_where}

-- a list contains its head
pub contains_head : (x : ℕ) (xs : List ℕ) → Contains (x ∷ xs) x
contains_head x xs = Contains-append_left (x ∷ []) xs x (Contains-get_or (x ∷ []) 0 x (omega arith))

-- and what the rest of it contains
pub contains_rest : (x : ℕ) (xs : List ℕ) (t : ℕ) → Contains xs t → Contains (x ∷ xs) t
contains_rest x xs t h = Contains-append_right (x ∷ []) xs t h

-- and nothing else
contains_cases : (x : ℕ) (xs : List ℕ) (t : ℕ) → Contains (x ∷ xs) t → (t ≡ x) ⊎ Contains xs t
contains_cases x xs t h = by_part (Contains-append_cases (x ∷ []) xs t h)
  where
    by_part : Contains (x ∷ []) t ⊎ Contains xs t → (t ≡ x) ⊎ Contains xs t
    by_part (inl one) = inl (All-contains (λ u. u ≡ x) (x ∷ []) t (All-cons (λ u. u ≡ x) x [] refl (All-nil (λ u. u ≡ x))) one)
    by_part (inr rest) = inr rest

-- a filter keeps what passes
kept : (test : ℕ → Bool) (xs : List ℕ) (t : ℕ) → Contains xs t → test t ≡ true → Contains (filter test xs) t
kept test [] t h p = h
kept test (x ∷ xs) t h p = by_test (λ rest. kept test xs t rest p) (test x) refl (contains_cases x xs t h)
  where
    by_test : (Contains xs t → Contains (filter test xs) t) → (b : Bool) → test x ≡ b → (t ≡ x) ⊎ Contains xs t
        → Contains (cond b (x ∷ filter test xs) (filter test xs)) t
    by_test more true e (inl here) = subst (λ u. Contains (x ∷ filter test xs) u) (sym here) (contains_head x (filter test xs))
    by_test more true e (inr rest) = contains_rest x (filter test xs) t (more rest)
    by_test more false e (inl here) = absurd (let q : false ≡ true = sym e ∙ ap test (sym here) ∙ p in cc)
    by_test more false e (inr rest) = more rest

-- each task below the count that passes is one of them
pub is_where : (count : ℕ) (test : ℕ → Bool) (t : ℕ) → t < count → test t ≡ true → Contains (tasks_where count test) t
is_where count test t h p =
    let inside : t < length (range_with_len 0 count) = subst (λ n. t < n) (sym (length-range_with_len 0 count)) h in
    let same : get_or (range_with_len 0 count) t 0 ≡ t = get_or-range_with_len 0 count t 0 h ∙ omega arith in
    let all : List ℕ = range_with_len 0 count in
    kept test all t (subst (λ u. Contains all u) same (Contains-get_or all t 0 inside)) p

-- each of them is below the count
pub where_below : (count : ℕ) (test : ℕ → Bool) (t : ℕ) → Contains (tasks_where count test) t → t < count
where_below count test t h =
    All-contains (λ u. u < count) (tasks_where count test) t (All-filter test (λ u. u < count) (range_with_len 0 count) all) h
  where
    all : All (λ u. u < count) (range_with_len 0 count)
    all = All-from_get_or (λ u. u < count) (range_with_len 0 count) 0 (λ i l.
        let inside : i < count = subst (λ n. i < n) (length-range_with_len 0 count) l in
        subst (λ u. u < count) (sym (get_or-range_with_len 0 count i 0 inside ∙ omega arith)) inside)

-- and passes
pub where_passes : (count : ℕ) (test : ℕ → Bool) (t : ℕ) → Contains (tasks_where count test) t → test t ≡ true
where_passes count test t h =
    All-contains (λ u. test u ≡ true) (tasks_where count test) t (filter_passes test (range_with_len 0 count)) h

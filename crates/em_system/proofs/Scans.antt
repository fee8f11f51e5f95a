-- The least of a list, found from its end.
use Rattle.std.proofs.Common.{◌≡◌, ◌∙◌, ℕ, suc, ◌+◌, ◌-◌, ◌<◌, Bool, true, false, List, [], ◌∷◌, filter, map, slice_get, Option, None, Some, cond, sym, ap, arith}
use Rattle.std.specs.List.{range_with_len}
use Rattle.std.specs.Option.{option_map}
use Rattle.em_base.specs.declared.ids.SemId.{SemId}
use Rattle.em_base.specs.declared.jobs.Key.{Key}
use Rattle.em_base.specs.Selection.{least_by, more_urgent}

-- the task of the least key among those from u on that pass a test
abbrev pub least_from : (ℕ → Bool) → (ℕ → Key) → ℕ → ℕ → Option ℕ
least_from test key u n = least_by key (filter test (range_with_len u (n - u)))

-- what was found, with its key
abbrev pub with_key : (ℕ → Key) → Option ℕ → Option (ℕ × Key)
with_key key found = option_map (λ u. (u, key u)) found

from_here : (u n : ℕ) → u < n → range_with_len u (n - u) ≡ u ∷ range_with_len (u + 1) (n - (u + 1))
from_here u n h =
    let e : n - u ≡ suc (n - (u + 1)) = omega (arith, h) in
    ap (λ k. range_with_len u k) e

-- one task more: it passes, or it doesn't
pub least_more : (test : ℕ → Bool) (key : ℕ → Key) (u n : ℕ) → u < n → test u ≡ true
    → least_from test key u n ≡ Some (more_urgent key u (least_from test key (u + 1) n))
least_more test key u n h e =
    let rest : List ℕ = filter test (range_with_len (u + 1) (n - (u + 1))) in
    ap (λ r. least_by key (filter test r)) (from_here u n h) ∙ ap (λ b. least_by key (cond b (u ∷ rest) rest)) e

pub least_same : (test : ℕ → Bool) (key : ℕ → Key) (u n : ℕ) → u < n → test u ≡ false
    → least_from test key u n ≡ least_from test key (u + 1) n
least_same test key u n h e =
    let rest : List ℕ = filter test (range_with_len (u + 1) (n - (u + 1))) in
    ap (λ r. least_by key (filter test r)) (from_here u n h) ∙ ap (λ b. least_by key (cond b (u ∷ rest) rest)) e

-- nothing is left
pub least_none : (test : ℕ → Bool) (key : ℕ → Key) (n : ℕ) → least_from test key n n ≡ None
least_none test key n =
    let e : n - n ≡ 0 = omega arith in
    ap (λ k. least_by key (filter test (range_with_len n k))) e

-- the better of what was found and one task more that passes
pub better_found : (test : ℕ → Bool) (key : ℕ → Key) (v u n : ℕ) (result : Option (ℕ × Key)) → v < n → v + 1 ≡ u → test v ≡ true
    → result ≡ with_key key (Some (more_urgent key v (least_from test key u n)))
    → result ≡ with_key key (least_from test key v n)
better_found test key v u n result h e t r =
    r ∙ ap (λ w. with_key key (Some (more_urgent key v (least_from test key w n)))) (sym e) ∙ ap (with_key key) (sym (least_more test key v n h t))

-- ---- the first that passes

-- those from u on, below n, that pass a test
abbrev pub passing : (ℕ → Bool) → ℕ → ℕ → List ℕ
passing test u n = filter test (range_with_len u (n - u))

pub passing_here : (test : ℕ → Bool) (u n : ℕ) → u < n → test u ≡ true → passing test u n ≡ u ∷ passing test (u + 1) n
passing_here test u n h e =
    ap (filter test) (from_here u n h) ∙ ap (λ b. cond b (u ∷ passing test (u + 1) n) (passing test (u + 1) n)) e

pub passing_later : (test : ℕ → Bool) (u n : ℕ) → u < n → test u ≡ false → passing test u n ≡ passing test (u + 1) n
passing_later test u n h e =
    ap (filter test) (from_here u n h) ∙ ap (λ b. cond b (u ∷ passing test (u + 1) n) (passing test (u + 1) n)) e

pub passing_none : (test : ℕ → Bool) (n : ℕ) → passing test n n ≡ []
passing_none test n =
    let e : n - n ≡ 0 = omega arith in
    ap (λ k. filter test (range_with_len n k)) e

pub passing_all : (test : ℕ → Bool) (n : ℕ) → filter test (range_with_len 0 n) ≡ passing test 0 n
passing_all test n =
    let e : n ≡ n - 0 = omega arith in
    ap (λ k. filter test (range_with_len 0 k)) e

-- the first of some semaphores
abbrev pub first_semaphore : List ℕ → Option SemId
first_semaphore sems = slice_get (map (λ s. record { 0 = s }) sems) 0

-- What the task of the least key is.
use Rattle.std.proofs.Common.{◌≡◌, ◌≢◌, ◌∙◌, ◌⊎◌, inl, inr, ◌↔◌, ℕ, ◌<◌, Bool, true, false, List, [], ◌∷◌, Option, None, Some, All, Contains, cond, refl, sym, ap, subst}
use Rattle.std.proofs.lemmas.Bool.{cases_eq, cases_Bool}
use Rattle.std.proofs.lemmas.List.Elements.{All-nil, All-cons, All-contains, All-weaker}
use Rattle.em_base.specs.declared.jobs.Key.{Key}
use Rattle.em_base.specs.Keys.{key_lt}
use Rattle.em_base.specs.Selection.{least_by, more_urgent, tasks_where}
use Rattle.em_roots.specs.Roots.{AreNamed, IsMostUrgent}
use Rattle.em_roots.proofs.Order.{lt_from_apart, lt_not_lt, not_lt_self, not_lt_trans}
use Rattle.em_roots.proofs.Members.{contains_head, contains_rest, is_where, where_below, where_passes}

-- ---- in a list

-- the key of u is no less than that of t
abbrev pub NotBefore : (ℕ → Key) → ℕ → ℕ → Type 0
NotBefore key t u = key_lt (key u) (key t) ≡ false

-- t is in the list, and none in it has a lesser key
pub record IsLeastOf (key : ℕ → Key) (xs : List ℕ) (t : ℕ) : Type 0 where
  pub member : Contains xs t
  pub least : All (NotBefore key t) xs

-- what the least of a list is
pub data LeastOf (key : ℕ → Key) (xs : List ℕ) : Option ℕ → Type 0 where
  Empty : xs ≡ [] → LeastOf key xs None
  One : (t : ℕ) → IsLeastOf key xs t → LeastOf key xs (Some t)

-- the least of a list with one task more
least_more : (key : ℕ → Key) (x : ℕ) (xs : List ℕ) (found : Option ℕ) → LeastOf key xs found
    → LeastOf key (x ∷ xs) (Some (more_urgent key x found))
least_more key x xs _ (Empty e) = One x record {
  member = contains_head x xs;
  least =
      let none : All (NotBefore key x) xs = subst (All (NotBefore key x)) (sym e) (All-nil (NotBefore key x)) in
      All-cons (NotBefore key x) x xs (not_lt_self (key x)) none;
}
least_more key x xs _ (One t h) = by_key (key_lt (key t) (key x)) refl
  where
    by_key : (b : Bool) → key_lt (key t) (key x) ≡ b → LeastOf key (x ∷ xs) (Some (cond b t x))
    by_key true e = One t record {
      member = contains_rest x xs t h.member;
      least = All-cons (NotBefore key t) x xs (lt_not_lt (key t) (key x) e) h.least;
    }
    by_key false e = One x record {
      member = contains_head x xs;
      least =
          let rest : All (NotBefore key x) xs =
          All-weaker (NotBefore key t) (NotBefore key x) (λ u p. not_lt_trans (key x) (key t) (key u) e p) xs h.least in
          All-cons (NotBefore key x) x xs (not_lt_self (key x)) rest;
    }

-- the least of each list is that
pub least_of_list : (key : ℕ → Key) (xs : List ℕ) → LeastOf key xs (least_by key xs)
least_of_list key [] = Empty refl
least_of_list key (x ∷ xs) = least_more key x xs (least_by key xs) (least_of_list key xs)

-- ---- among the tasks that pass a test

-- what the least of the tasks that pass a test is
pub data Least (key : ℕ → Key) (count : ℕ) (test : ℕ → Bool) : Option ℕ → Type 0 where
  NonePasses : ((t : ℕ) → t < count → test t ≡ false) → Least key count test None
  Passing : (t : ℕ) → IsMostUrgent key count test t → Least key count test (Some t)

-- the empty list contains nothing
empty : (t : ℕ) → Contains [] t → ⊥
empty t h = All-contains (λ u. ⊥) [] t (All-nil (λ u. ⊥)) h

from_list : (key : ℕ → Key) (count : ℕ) (test : ℕ → Bool) (found : Option ℕ) → LeastOf key (tasks_where count test) found
    → Least key count test found
from_list key count test _ (Empty e) = NonePasses (λ t l. by_test t l (cases_Bool (test t)))
  where
    by_test : (t : ℕ) → t < count → (test t ≡ true) ⊎ (test t ≡ false) → test t ≡ false
    by_test t l (inl p) = absurd (empty t (subst (λ xs. Contains xs t) e (is_where count test t l p)))
    by_test t l (inr p) = p
from_list key count test _ (One t h) = Passing t record {
  below = where_below count test t h.member;
  passes = where_passes count test t h.member;
  least = λ u l p. All-contains (NotBefore key t) (tasks_where count test) u h.least (is_where count test u l p);
}

-- the least of them is that
pub least_tells : (key : ℕ → Key) (count : ℕ) (test : ℕ → Bool) → Least key count test (least_by key (tasks_where count test))
least_tells key count test =
    from_list key count test (least_by key (tasks_where count test)) (least_of_list key (tasks_where count test))

-- t passes, and its key is less than that of each other that passes
pub record IsStrict (key : ℕ → Key) (count : ℕ) (test : ℕ → Bool) (t : ℕ) : Type 0 where
  pub below : t < count
  pub passes : test t ≡ true
  pub less : (u : ℕ) → u < count → test u ≡ true → u ≢ t → key_lt (key t) (key u) ≡ true

strict_one : (key : ℕ → Key) (count : ℕ) (test : ℕ → Bool) (t : ℕ) (found : Option ℕ) → IsStrict key count test t
    → Least key count test found → found ≡ Some t
strict_one key count test t _ s (NonePasses none) = absurd (let q : false ≡ true = sym (none t s.below) ∙ s.passes in cc)
strict_one key count test t _ s (Passing u h) = by_task (cases_eq u t)
  where
    by_task : (u ≡ t) ⊎ (u ≢ t) → Some u ≡ Some t
    by_task (inl e) = ap Some e
    by_task (inr n) =
        absurd (let q : false ≡ true = sym (h.least t s.below s.passes) ∙ s.less u h.below h.passes n in cc)

-- a task that is strictly the least is found
pub strict_is : (key : ℕ → Key) (count : ℕ) (test : ℕ → Bool) (t : ℕ) → IsStrict key count test t
    → least_by key (tasks_where count test) ≡ Some t
strict_is key count test t s =
    strict_one key count test t (least_by key (tasks_where count test)) s (least_tells key count test)

-- where keys have the numbers of their tasks, one that is the least is it strictly
pub strict_by_names : (key : ℕ → Key) (count : ℕ) (test : ℕ → Bool) (t : ℕ) → AreNamed key count
    → IsMostUrgent key count test t → IsStrict key count test t
strict_by_names key count test t named h = record {
  below = h.below;
  passes = h.passes;
  less = λ u l p n. lt_from_apart (key t) (key u) (λ e. n (sym (named u l) ∙ sym e ∙ named t h.below)) (h.least u l p);
}

-- ---- the law

some_by : (key : ℕ → Key) (count : ℕ) (test : ℕ → Bool) (t : ℕ) (found : Option ℕ) → Least key count test found
    → found ≡ Some t → IsMostUrgent key count test t
some_by key count test t _ (NonePasses none) e = absurd (cc)
some_by key count test t _ (Passing u h) e = let same : u ≡ t = cc in subst (λ v. IsMostUrgent key count test v) same h

none_by : (key : ℕ → Key) (count : ℕ) (test : ℕ → Bool) (found : Option ℕ) → Least key count test found → found ≡ None
    → (t : ℕ) → t < count → test t ≡ false
none_by key count test _ (NonePasses none) e = none
none_by key count test _ (Passing u h) e = absurd (cc)

none_from : (key : ℕ → Key) (count : ℕ) (test : ℕ → Bool) (found : Option ℕ) → Least key count test found
    → ((t : ℕ) → t < count → test t ≡ false) → found ≡ None
none_from key count test _ (NonePasses none) h = refl
none_from key count test _ (Passing u m) h = absurd (let q : false ≡ true = sym (h u m.below) ∙ m.passes in cc)

-- a task is found exactly where it is the most urgent that passes
pub found_iff : (key : ℕ → Key) (count t : ℕ) (test : ℕ → Bool) → AreNamed key count
    → (least_by key (tasks_where count test) ≡ Some t) ↔ IsMostUrgent key count test t
found_iff key count t test named = (
  λ e. some_by key count test t (least_by key (tasks_where count test)) (least_tells key count test) e,
  λ h. strict_is key count test t (strict_by_names key count test t named h),
)

-- none is found exactly where none passes
pub none_iff : (key : ℕ → Key) (count : ℕ) (test : ℕ → Bool)
    → (least_by key (tasks_where count test) ≡ None) ↔ ((t : ℕ) → t < count → test t ≡ false)
none_iff key count test = (
  λ e. none_by key count test (least_by key (tasks_where count test)) (least_tells key count test) e,
  λ h. none_from key count test (least_by key (tasks_where count test)) (least_tells key count test) h,
)

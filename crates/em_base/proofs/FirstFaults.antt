-- A list has one first fault, or it is clear, and one of these it is.
use Rattle.std.proofs.Common.{◌≡◌, ℕ, zero, suc, ◌+◌, ◌<◌, List, length, take, Option, Some, None, inl, inr, ◌⊎◌, refl, sym, ap, ap₂, subst, ◌∙◌, arith, add-one, below_more}
use Rattle.std.proofs.lemmas.Bool.{cases_lt}
use Rattle.std.proofs.lemmas.Option.{slice_get_within}
use Rattle.std.specs.List.{slice_get}
use Rattle.em_base.specs.declared.refusals.Refusal.{Refusal}
use Rattle.em_base.specs.FirstFault.{AreClear, IsFirstFault, NamesFirst, by_test}

-- ---- places and refusals

-- where neither of two places is before the other, they are one
pub one_place : (i j : ℕ) → (i < j → ⊥) → (j < i → ⊥) → i ≡ j
one_place i j h k = elim (cases_lt i j) [
  | inl before ↦ absurd (h before)
  | inr other ↦ elim (cases_lt j i) [
    | inl before ↦ absurd (k before)
    | inr same ↦ omega arith
  ]
]

-- refusals with one code and one line are one
pub same_refusal : (a b : Refusal) → a.code ≡ b.code → a.line ≡ b.line → a ≡ b
same_refusal a b e f = ap₂ (λ c l. let r : Refusal = record { code = c; line = l } in r) e f

-- ---- at most one

-- a list with a first fault isn't clear past its place
pub not_clear : {A F : Type 0} (has_fault : List A → A → F → Type 0) (items : List A) (place n : ℕ) (fault : F) → IsFirstFault has_fault items place fault
    → place < n → AreClear has_fault items n → ⊥
not_clear has_fault items place n fault first h clear = clear place h first.item fault first.here first.faulty

-- the place of the first fault is one
pub same_place : {A F : Type 0} (has_fault : List A → A → F → Type 0) (items : List A) (i j : ℕ) (f g : F)
    → IsFirstFault has_fault items i f → IsFirstFault has_fault items j g → i ≡ j
same_place has_fault items i j f g a b =
    one_place i j (λ h. not_clear has_fault items i j f a h b.before) (λ h. not_clear has_fault items j i g b h a.before)

one_item : {A : Type 0} (o : Option A) (x y : A) → o ≡ Some x → o ≡ Some y → x ≡ y
one_item o x y e f = cc

-- where each item has one fault at most, the first fault is one
pub same_fault : {A F : Type 0} (has_fault : List A → A → F → Type 0) (items : List A) (i j : ℕ) (f g : F)
    → ((before : List A) (item : A) (one other : F) → has_fault before item one → has_fault before item other → one ≡ other)
    → IsFirstFault has_fault items i f → IsFirstFault has_fault items j g → f ≡ g
same_fault has_fault items i j f g one a b =
    let place = same_place has_fault items i j f g a b in
    let item = one_item (slice_get items j) a.item b.item (subst (λ k. slice_get items k ≡ Some a.item) place a.here) b.here in
    let moved = subst (λ x. has_fault (take j items) x f) item (subst (λ k. has_fault (take k items) a.item f) place a.faulty) in
    one (take j items) b.item f g moved b.faulty

-- and one refusal names it
pub one_refusal : {A F : Type 0} (has_fault : List A → A → F → Type 0) (code : F → ℕ) (number : ℕ → ℕ) (items : List A) (a b : Refusal)
    → ((before : List A) (item : A) (one other : F) → has_fault before item one → has_fault before item other → one ≡ other)
    → NamesFirst has_fault code number items a → NamesFirst has_fault code number items b → a ≡ b
one_refusal has_fault code number items a b one p q =
    let fault = same_fault has_fault items p.place q.place p.fault q.fault one p.first q.first in
    let place = same_place has_fault items p.place q.place p.fault q.fault p.first q.first in
    same_refusal a b (p.coded ∙ ap code fault ∙ sym q.coded) (p.placed ∙ ap number place ∙ sym q.placed)

-- a clear list has no refusal
pub clear_or_refused : {A F : Type 0} (has_fault : List A → A → F → Type 0) (code : F → ℕ) (number : ℕ → ℕ) (items : List A) (refusal : Refusal)
    → AreClear has_fault items (length items) → NamesFirst has_fault code number items refusal → ⊥
clear_or_refused has_fault code number items refusal clear p =
    not_clear has_fault items p.place (length items) p.fault p.first (slice_get_within items p.place p.first.item p.first.here) clear

-- ---- one item more

-- a list that is clear up to an item without a fault is clear past it
pub clear_next : {A F : Type 0} (has_fault : List A → A → F → Type 0) (items : List A) (i : ℕ) → AreClear has_fault items i
    → ((item : A) (fault : F) → slice_get items i ≡ Some item → has_fault (take i items) item fault → ⊥) → AreClear has_fault items (i + 1)
clear_next {A} {F} has_fault items i clear none =
    below_more (λ j. (item : A) (fault : F) → slice_get items j ≡ Some item → has_fault (take j items) item fault → ⊥) i clear none

-- ---- at least one

-- where each item has a fault or has none, a list is clear up to a place or has a first fault
pub clear_or_first : {A F : Type 0} (has_fault : List A → A → F → Type 0) (items : List A) (n : ℕ)
    → ((before : List A) (item : A) → ((fault : F) × has_fault before item fault) ⊎ ((fault : F) → has_fault before item fault → ⊥))
    → AreClear has_fault items n ⊎ ((place : ℕ) × (fault : F) × IsFirstFault has_fault items place fault)
clear_or_first has_fault items zero decide = inl (λ i h. absurd (omega arith))
clear_or_first {A} {F} has_fault items (suc n) decide = elim (clear_or_first has_fault items n decide) [
  | inr found ↦ inr found
  | inl clear ↦ by_item clear (slice_get items n) refl
]
  where
    past : AreClear has_fault items n → ((item : A) (fault : F) → slice_get items n ≡ Some item → has_fault (take n items) item fault → ⊥)
        → AreClear has_fault items (suc n) ⊎ ((place : ℕ) × (fault : F) × IsFirstFault has_fault items place fault)
    past clear none = inl (subst (AreClear has_fault items) (add-one n) (clear_next has_fault items n clear none))

    by_item : AreClear has_fault items n → (o : Option A) → slice_get items n ≡ o
        → AreClear has_fault items (suc n) ⊎ ((place : ℕ) × (fault : F) × IsFirstFault has_fault items place fault)
    by_item clear None e = past clear (λ item fault here _. absurd (cc))
    by_item clear (Some item) e = elim (decide (take n items) item) [
      | inl found ↦ inr (n, found.0, record { item = item; here = e; faulty = found.1; before = clear })
      | inr none ↦ past clear (λ other fault here faulty. none fault (subst (λ x. has_fault (take n items) x fault) (one_item (slice_get items n) other item here e) faulty))
    ]

-- ---- faults that a test finds

-- a test finds one fault at most
pub one_found : {A F : Type 0} (test : List A → A → Option F) (before : List A) (item : A) (one other : F)
    → by_test test before item one → by_test test before item other → one ≡ other
one_found test before item one other a b = one_item (test before item) one other a b

-- a test finds a fault or finds none
pub found_or_none : {A F : Type 0} (test : List A → A → Option F) (before : List A) (item : A)
    → ((fault : F) × by_test test before item fault) ⊎ ((fault : F) → by_test test before item fault → ⊥)
found_or_none {A} {F} test before item = by_option (test before item) refl
  where
    by_option : (o : Option F) → test before item ≡ o → ((fault : F) × by_test test before item fault) ⊎ ((fault : F) → by_test test before item fault → ⊥)
    by_option None e = inr (λ fault found. absurd (cc))
    by_option (Some fault) e = inl (fault, e)

-- what a test of a clear list answers
pub none_found : {A F : Type 0} (test : List A → A → Option F) (items : List A) (n i : ℕ) (item : A) → AreClear (by_test test) items n → i < n
    → slice_get items i ≡ Some item → test (take i items) item ≡ None
none_found {A} {F} test items n i item clear h here = by_option (test (take i items) item) refl
  where
    by_option : (o : Option F) → test (take i items) item ≡ o → o ≡ None
    by_option None e = refl
    by_option (Some fault) e = absurd (clear i h item fault here e)

-- where a test finds nothing at an item, the list is clear past it
pub clear_past : {A F : Type 0} (test : List A → A → Option F) (items : List A) (i : ℕ) (item : A) → AreClear (by_test test) items i
    → slice_get items i ≡ Some item → test (take i items) item ≡ None → AreClear (by_test test) items (i + 1)
clear_past test items i item clear here none =
    clear_next (by_test test) items i clear (λ other fault at found. absurd (cc (none, found, ap (test (take i items)) (one_item (slice_get items i) other item at here))))

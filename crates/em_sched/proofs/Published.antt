-- What a published value changes of the values of the messages: it stands behind the others of its own.
use Rattle.std.proofs.Common.{◌≡◌, ◌≢◌, ◌∙◌, ◌⊎◌, inl, inr, ℕ, ◌<◌, ◌≤◌, List, [], ◌∷◌, ◌++◌, length, slice_index_or, slice_set, sym, ap, subst, refl, length-append, arith}
use Rattle.std.proofs.Math.Seq.{get_or-append_seam}
use Rattle.std.proofs.lemmas.Bool.{cases_eq, cases_lt}
use Rattle.std.proofs.lemmas.List.{get_or-set_other, get_or-set_same, get_or_append_left, length-set, set_past}
use Rattle.std.proofs.lemmas.List.FromFn.{length-map-range_with_len}
use Rattle.em_base.specs.declared.apps.App.{App}
use Rattle.em_hart.specs.Hart.{Memory}
use Rattle.em_gate.specs.Calls.{words_of}
use Rattle.em_gate.specs.Effects.{words_at}
use Rattle.em_gate.specs.State.{Value, value_at, values_at}
use Rattle.em_sched.specs.Agreement.{AreSized}

-- with one more of this message
abbrev pub with_value : List (List Value) → ℕ → Value → List (List Value)
with_value values m value = slice_set values m (values_at values m ++ value ∷ [])

-- the values of a message are as they were, or have one more
abbrev OneMore : List (List Value) → ℕ → Value → ℕ → Type 0
OneMore values m value n =
    (values_at (with_value values m value) n ≡ values_at values n) ⊎ ((values_at (with_value values m value) n ≡ values_at values n ++ value ∷ []) × (n ≡ m))

one_more : (values : List (List Value)) (m : ℕ) (value : Value) (n : ℕ) → OneMore values m value n
one_more values m value n = by_message (cases_eq n m) (cases_lt m (length values))
  where
    by_message : (n ≡ m) ⊎ (n ≢ m) → (m < length values) ⊎ (length values ≤ m) → OneMore values m value n
    by_message (inl e) (inl inside) = inr (
      ap (values_at (with_value values m value)) e ∙ get_or-set_same values m (values_at values m ++ value ∷ []) [] inside
          ∙ ap (λ i. values_at values i ++ value ∷ []) (sym e),
      e,
    )
    by_message (inl e) (inr past) = inl (ap (λ vs. values_at vs n) (set_past values m (values_at values m ++ value ∷ []) past))
    by_message (inr other) size = inl (get_or-set_other values m n (values_at values m ++ value ∷ []) [] other)

-- those that were published are there still
abbrev pub Grow : List (List Value) → List (List Value) → Type 0
Grow values values' = (m number : ℕ) → number < length (values_at values m)
    → (number < length (values_at values' m)) × (value_at values' m number ≡ value_at values m number)

pub grow_same : (values : List (List Value)) → Grow values values
grow_same values m number h = (h, refl)

pub grow_published : (values : List (List Value)) (m : ℕ) (value : Value) → Grow values (with_value values m value)
grow_published values m value n number h =
    let more = with_value values m value in
    elim (one_more values m value n) as (λ _. (number < length (values_at more n)) × (value_at more n number ≡ value_at values n number)) [
      | inl same ↦ (subst (λ (vs : List Value). number < length vs) (sym same) h, ap (λ vs. slice_index_or vs number []) same)
      | inr more ↦ (
        (let count = ap length more.0 in omega (arith, h, count, length-append (values_at values n) (value ∷ []))),
        ap (λ vs. slice_index_or vs number []) more.0 ∙ get_or_append_left (values_at values n) (value ∷ []) [] number h,
      )
    ]

-- each value has the words of its message
pub sized_published : (app : App) (values : List (List Value)) (m : ℕ) (value : Value) → length value ≡ words_of app.table m → AreSized app values
    → AreSized app (with_value values m value)
sized_published app values m value words h n number inside =
    elim (one_more values m value n) as (λ _. length (value_at (with_value values m value) n number) ≡ words_of app.table n) [
      | inl same ↦ ap (λ vs. length (slice_index_or vs number [])) same ∙ h n number (subst (λ (vs : List Value). number < length vs) same inside)
      | inr more ↦ elim (cases_lt number (length (values_at values n))) as (λ _. length (value_at (with_value values m value) n number) ≡ words_of app.table n) [
        | inl before ↦ ap length (grow_published values m value n number before).1 ∙ h n number before
        | inr past ↦ (
            let count = ap length more.0 in
            let last : number ≡ length (values_at values n) = omega (arith, inside, past, count, length-append (values_at values n) (value ∷ [])) in
            ap (λ vs. length (slice_index_or vs number [])) more.0 ∙ ap (λ i. length (slice_index_or (values_at values n ++ value ∷ []) i [])) last
            ∙ ap length (get_or-append_seam (values_at values n) value [] []) ∙ words ∙ ap (words_of app.table) (sym more.1))
      ]
    ]

-- words of a window are so many
pub words_count : (own : Memory) (at count : ℕ) → length (words_at own at count) ≡ count
words_count own at count = length-map-range_with_len _ 0 count

-- each message has a value
abbrev pub AreValued : List (List Value) → Type 0
AreValued values = (m : ℕ) → m < length values → 0 < length (values_at values m)

pub valued_published : (values : List (List Value)) (m : ℕ) (value : Value) → AreValued values → AreValued (with_value values m value)
valued_published values m value h n inside =
    let count = length-set values m (values_at values m ++ value ∷ []) in
    (grow_published values m value n 0 (h n (omega (arith, inside, count)))).0

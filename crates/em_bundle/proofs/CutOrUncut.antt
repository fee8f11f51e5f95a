-- The header lines of lines are those that are due, or there is a refusal that says which isn't.
use Rattle.std.proofs.Common.{◌≡◌, ◌∙◌, ℕ, zero, suc, ◌+◌, ◌<◌, ◌≤◌, Bool, true, false, cond, List, [], ◌∷◌, ◌++◌, length, take, get_or, inl, inr, ◌⊎◌, refl, sym, ap, subst, arith}
use Rattle.std.proofs.Math.Seq.{take-suc}
use Rattle.std.proofs.lemmas.Bool.{cases_lt}
use Rattle.std.proofs.lemmas.Grind.{common_steps}
use Rattle.std.proofs.lemmas.List.{get_or_past, take_all}
use Rattle.std.proofs.lemmas.List.Elements.{filter-append}
use Rattle.std.proofs.lemmas.Slice.Eq.{bytes_eq-Decides}
use Rattle.std.specs.Str.{bytes_eq}
use Rattle.em_base.specs.declared.refusals.Refusal.{Refusal}
use Rattle.em_bundle.specs.declared.faults.Fault.TheVariants.{MissingPart, MisplacedHeader}
use Rattle.em_bundle.specs.Faults.{refusal_at}
use Rattle.em_bundle.specs.Parts.{AreFirst, IsCut, IsMisplaced, IsUncut, headers, headers_in, is_header, line_at}

-- ---- one line more

one_more : (lines : List (List ℕ)) (i : ℕ) → i < length lines
    → headers_in (take (suc i) lines) ≡ headers_in (take i lines) ++ cond (is_header (line_at lines i)) (line_at lines i ∷ []) []
one_more lines i h = ap headers_in (take-suc lines i [] h) ∙ filter-append is_header (take i lines) (line_at lines i ∷ [])

nothing_more : (xs : List (List ℕ)) → xs ++ [] ≡ xs
nothing_more xs = grind (arith, common_steps)

-- a line that is no header line
plain_next : (replay : Bool) (lines : List (List ℕ)) (i count : ℕ) → i < length lines → is_header (line_at lines i) ≡ false → AreFirst replay (take i lines) count
    → AreFirst replay (take (suc i) lines) count
plain_next replay lines i count h e first = (
  first.0,
  one_more lines i h
      ∙ (ap (λ b. headers_in (take i lines) ++ cond b (line_at lines i ∷ []) []) e
      ∙ (nothing_more (headers_in (take i lines)) ∙ first.1)),
)

-- the header line that is due
header_next : (replay : Bool) (lines : List (List ℕ)) (i count : ℕ) → i < length lines → is_header (line_at lines i) ≡ true
    → bytes_eq (line_at lines i) (get_or (headers replay) count []) ≡ true → count < length (headers replay) → AreFirst replay (take i lines) count
    → AreFirst replay (take (suc i) lines) (suc count)
header_next replay lines i count h e due few first = (
  omega (arith, few),
  one_more lines i h
      ∙ (ap (λ b. headers_in (take i lines) ++ cond b (line_at lines i ∷ []) []) e
      ∙ (ap (λ hs. hs ++ line_at lines i ∷ []) first.1
      ∙ (ap (λ header. take count (headers replay) ++ header ∷ []) ((bytes_eq-Decides (line_at lines i) (get_or (headers replay) count [])).0 due)
      ∙ sym (take-suc (headers replay) count [] few)))),
)

-- after all headers none is due
none_due : (replay : Bool) (line : List ℕ) (count : ℕ) → length (headers replay) ≤ count → is_header line ≡ true → bytes_eq line (get_or (headers replay) count []) ≡ true → ⊥
none_due replay line count past h e =
    let empty : line ≡ [] = (bytes_eq-Decides line []).0 (ap (bytes_eq line) (sym (get_or_past (headers replay) count [] past)) ∙ e) in
    let wrong : false ≡ true = sym (ap is_header empty) ∙ h in
    absurd (cc)

-- ---- all lines

-- the lines up to a place have a misplaced header line, or their header lines are the first that are due
first_or_misplaced : (replay : Bool) (lines : List (List ℕ)) → is_header (line_at lines 0) ≡ true → (i : ℕ) → i ≤ length lines
    → ((refusal : Refusal) × IsMisplaced replay lines refusal) ⊎ ((count : ℕ) × AreFirst replay (take i lines) count)
first_or_misplaced replay lines headed zero h = inr (0, (omega arith, refl))
first_or_misplaced replay lines headed (suc i) h = elim (first_or_misplaced replay lines headed i (omega (arith, h))) [
  | inl m ↦ inl m
  | inr f ↦ by_header f.0 f.1 (is_header (line_at lines i)) refl
]
  where
    within : i < length lines
    within = omega (arith, h)

    by_due : (count : ℕ) → AreFirst replay (take i lines) count → is_header (line_at lines i) ≡ true → (b : Bool) → bytes_eq (line_at lines i) (get_or (headers replay) count []) ≡ b
        → ((refusal : Refusal) × IsMisplaced replay lines refusal) ⊎ ((count : ℕ) × AreFirst replay (take (suc i) lines) count)
    by_due count first e false other = inl (
      refusal_at MisplacedHeader (i + 1),
      record { headed = headed; place = i; count = count; within = within; header = e; before = first; other = other; named = refl },
    )
    by_due count first e true due = elim (cases_lt count (length (headers replay))) [
      | inl few ↦ inr (suc count, header_next replay lines i count within e due few first)
      | inr past ↦ absurd (none_due replay (line_at lines i) count past e due)
    ]

    by_header : (count : ℕ) → AreFirst replay (take i lines) count → (b : Bool) → is_header (line_at lines i) ≡ b
        → ((refusal : Refusal) × IsMisplaced replay lines refusal) ⊎ ((count : ℕ) × AreFirst replay (take (suc i) lines) count)
    by_header count first false e = inr (count, plain_next replay lines i count within e first)
    by_header count first true e = by_due count first e (bytes_eq (line_at lines i) (get_or (headers replay) count [])) refl

all_or_short : (replay : Bool) (lines : List (List ℕ)) (count : ℕ) → is_header (line_at lines 0) ≡ true → AreFirst replay lines count → IsCut replay lines ⊎ ((refusal : Refusal) × IsUncut replay lines refusal)
all_or_short replay lines count headed first = elim (cases_lt count (length (headers replay))) [
  | inl few ↦ inr (
    refusal_at MissingPart (length lines + 1),
    inr (inr record { headed = headed; count = count; before = first; due = few; named = refl }),
  )
  | inr all ↦ inl record { headed = headed; due = first.1 ∙ take_all count (headers replay) all }
]

-- lines are cut into parts, or there is a refusal that says why not
pub cut_or_uncut : (replay : Bool) (lines : List (List ℕ)) → IsCut replay lines ⊎ ((refusal : Refusal) × IsUncut replay lines refusal)
cut_or_uncut replay lines = by_first (is_header (line_at lines 0)) refl
  where
    by_first : (b : Bool) → is_header (line_at lines 0) ≡ b → IsCut replay lines ⊎ ((refusal : Refusal) × IsUncut replay lines refusal)
    by_first false e = inr (refusal_at MissingPart 1, inl record { headless = e; named = refl })
    by_first true e = elim (first_or_misplaced replay lines e (length lines) (omega arith)) [
      | inl m ↦ inr (m.0, inr (inl m.1))
      | inr f ↦ all_or_short replay lines f.0 e (subst (λ l. AreFirst replay l f.0) (take_all (length lines) lines (omega arith)) f.1)
    ]

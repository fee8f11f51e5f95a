-- The buffers of a kernel stand for the values of a state after a step.
use Rattle.std.proofs.Common.{◌≡◌, ◌∙◌, inl, inr, ℕ, ◌+◌, ◌<◌, List, [], length, map, slice_set, sym, ap, subst, arith}
use Rattle.std.proofs.lemmas.Bool.{cases_eq}
use Rattle.std.proofs.lemmas.List.{ext_get_or, get_or-map, get_or-set_same, get_or-set_other, length-set, map-set, set-get_or}
use Rattle.std.proofs.lemmas.List.FromFn.{get_or-map-range_with_len, length-map-range_with_len}
use Rattle.em_gate.specs.Effects.{newest, words_at}
use Rattle.em_gate.specs.State.{Core, Value, values_at}
use Rattle.em_state.specs.Buffers.{Kept as Buffer, StandsFor}
use Rattle.em_system.specs.Windows.{own_word}
use Rattle.em_kernel.specs.Buffers.{IsSame, IsTaken}
use Rattle.em_kernel.specs.Kept.{Keep, buffer_at, no_buffer}
use Rattle.em_kernel.specs.Moves.{begun_at}

-- ---- values

-- a buffer that stands for the same values
pub keep_same : (buffers : List Buffer) (m : ℕ) (b : Buffer) (values : List (List Value)) → m < length buffers → IsSame (buffer_at buffers m) b
    → Keep buffers values → Keep (slice_set buffers m b) values
keep_same buffers m b values h is k = record {
  count = k.count ∙ sym (length-set buffers m b);
  stand = λ n l. elim (cases_eq n m) as (λ _. StandsFor (buffer_at (slice_set buffers m b) n) (values_at values n)) [
    | inl e ↦ subst (λ i. StandsFor (buffer_at (slice_set buffers m b) i) (values_at values i)) (sym e)
        (subst (λ after. StandsFor after (values_at values m)) (sym (get_or-set_same buffers m b no_buffer h)) (is.stands (values_at values m) (k.stand m h)))
    | inr other ↦ subst (λ after. StandsFor after (values_at values n)) (sym (get_or-set_other buffers m n b no_buffer other))
        (k.stand n (subst (λ i. n < i) (length-set buffers m b) l))
  ];
}

-- a buffer to which a value was published
pub keep_published : (buffers : List Buffer) (m : ℕ) (b : Buffer) (values : List (List Value)) (published : List Value) → m < length buffers
    → StandsFor b published → Keep buffers values → Keep (slice_set buffers m b) (slice_set values m published)
keep_published buffers m b values published h stands k = record {
  count = length-set values m published ∙ k.count ∙ sym (length-set buffers m b);
  stand = λ n l. elim (cases_eq n m) as (λ _. StandsFor (buffer_at (slice_set buffers m b) n) (values_at (slice_set values m published) n)) [
    | inl e ↦ subst (λ i. StandsFor (buffer_at (slice_set buffers m b) i) (values_at (slice_set values m published) i)) (sym e)
        (subst (λ after. StandsFor after (values_at (slice_set values m published) m)) (sym (get_or-set_same buffers m b no_buffer h))
        (subst (StandsFor b) (sym (get_or-set_same values m published [] (omega (arith, h, k.count)))) stands))
    | inr other ↦ subst (λ after. StandsFor after (values_at (slice_set values m published) n)) (sym (get_or-set_other buffers m n b no_buffer other))
        (subst (StandsFor (buffer_at buffers n)) (sym (get_or-set_other values m n published [] other)) (k.stand n (subst (λ i. n < i) (length-set buffers m b) l)))
  ];
}

-- ---- numbers begun

abbrev pub begun_of : List Buffer → List ℕ
begun_of buffers = map (λ buffer. buffer.begun) buffers

-- that of a message
pub begun_here : (buffers : List Buffer) (m : ℕ) → m < length buffers → begun_at (begun_of buffers) m ≡ (buffer_at buffers m).begun
begun_here buffers m h = get_or-map (λ (buffer : Buffer). buffer.begun) buffers m no_buffer 0 h

-- one write more has begun
pub begun_more : (buffers : List Buffer) (m : ℕ) (b : Buffer) → m < length buffers → b.begun ≡ (buffer_at buffers m).begun + 1
    → begun_of (slice_set buffers m b) ≡ slice_set (begun_of buffers) m (begun_at (begun_of buffers) m + 1)
begun_more buffers m b h e =
    map-set (λ (buffer : Buffer). buffer.begun) buffers m b
    ∙ ap (λ n. slice_set (begun_of buffers) m n) (e ∙ ap (λ n. n + 1) (sym (begun_here buffers m h)))

-- no write has begun
pub begun_same : (buffers : List Buffer) (m : ℕ) (b : Buffer) → m < length buffers → b.begun ≡ (buffer_at buffers m).begun
    → begun_of (slice_set buffers m b) ≡ begun_of buffers
begun_same buffers m b h e =
    map-set (λ (buffer : Buffer). buffer.begun) buffers m b
    ∙ ap (λ n. slice_set (begun_of buffers) m n) (e ∙ sym (begun_here buffers m h))
    ∙ set-get_or (begun_of buffers) m 0

-- ---- a value

-- the number of the newest value
pub newest_is : (buffers : List Buffer) (values : List (List Value)) (m : ℕ) → m < length buffers → Keep buffers values
    → (buffer_at buffers m).newest ≡ newest values m
newest_is buffers values m h k = omega (arith, (k.stand m h).newest)

-- what was taken word by word are the words of the own window
pub drafted : (core : Core) (at words : ℕ) (b : Buffer) → b.words ≡ words → IsTaken core at words b → b.draft ≡ words_at core.own at words
drafted core at words b wide taken =
    ext_get_or 0 b.draft (words_at core.own at words) (taken.draft ∙ wide ∙ sym (length-map-range_with_len (own_word core at) 0 words))
    (λ j l. taken.same j (below j l) ∙ sym (get_or-map-range_with_len (own_word core at) 0 words j j 0 (below j l) (none j)))
  where
    none : (j : ℕ) → 0 + j ≡ j
    none j = omega arith

    below : (j : ℕ) → j < length b.draft → j < words
    below j l = omega (arith, l, taken.draft, wide)

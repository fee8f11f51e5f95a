-- A ring of places for the newest values of a list, and what it says of the list.
use Rattle.std.proofs.Common.{◌≡◌, ◌≢◌, ℕ, suc, ◌+◌, ◌-◌, ◌*◌, ◌/◌, ◌%◌, ◌<◌, ◌≤◌, Bool, List, [], ◌∷◌, ◌++◌, length, map, take, drop, replicate, get_or, set, inl, inr, refl, sym, ap, ◌∙◌, arith}
use Rattle.std.specs.List.{range_with_len}
use Rattle.std.proofs.Math.Nat.{suc-mul}
use Rattle.std.proofs.lemmas.Bool.{cases_lt}
use Rattle.std.proofs.lemmas.List.{drop-append-le, drop-drop, ext_get_or, get_or-drop, get_or-replicate, get_or-set_other, get_or-set_same}
use Rattle.std.proofs.lemmas.List.{get_or-take, length-drop, length-replicate, length-take-le, length_push, take-replicate}
use Rattle.std.proofs.lemmas.List.Elements.{All-push}
use Rattle.std.proofs.lemmas.List.FromFn.{get_or-map-range_with_len, length-map-range_with_len, map-range_with_len_more}
use Rattle.std.proofs.lemmas.Nat.{div-add-mod', mod_below, mul-le}
use Rattle.em_state.specs.Buffers.{StandsFor, oldest, placed, placed_values}

-- numbers that are less than d apart have different places in a ring of d places
apart : (d n b : ℕ) → n < b → b < n + d → n % d ≢ b % d
apart d n b less near same = elim (cases_lt (n / d) (b / d)) [
  | inl below ↦ let rows : suc (n / d) * d ≤ b / d * d = mul-le (suc (n / d)) d (b / d) d below (omega arith) in
      absurd (omega (arith, div-add-mod' n d, div-add-mod' b d, suc-mul (n / d) d, rows))
  | inr above ↦ let rows : b / d * d ≤ n / d * d = mul-le (b / d) d (n / d) d above (omega arith) in
      absurd (omega (arith, div-add-mod' n d, div-add-mod' b d, rows))
]

-- lists that are the same from a place on are the same from a later one on
same_further : {X : Type 0} (n m : ℕ) (xs ys : List X) → n ≤ m → drop n xs ≡ drop n ys → drop m xs ≡ drop m ys
same_further n m xs ys le same =
    let e : m ≡ n + (m - n) = omega arith in
    ap (λ k. drop k xs) e ∙ sym (drop-drop (m - n) n xs) ∙ ap (drop (m - n)) same ∙ drop-drop (m - n) n ys ∙ ap (λ k. drop k ys) (sym e)

-- and have the same elements there
same_element : {X : Type 0} (n m : ℕ) (xs ys : List X) (d : X) → n ≤ m → drop n xs ≡ drop n ys → get_or xs m d ≡ get_or ys m d
same_element n m xs ys d le same =
    let e : m ≡ n + (m - n) = omega arith in
    ap (λ k. get_or xs k d) e ∙ sym (get_or-drop n xs (m - n) d) ∙ ap (λ zs. get_or zs (m - n) d) same
    ∙ get_or-drop n ys (m - n) d ∙ ap (λ k. get_or ys k d) (sym e)

-- the values of the numbers below n, by a ring
abbrev below : ℕ → ℕ → List (List ℕ) → ℕ → List (List ℕ)
below words depth places n = map (placed words depth places) (range_with_len 0 n)

-- a value that is put to its place is there
placed-set-same : (words depth : ℕ) (places : List (List ℕ)) (number : ℕ) (value : List ℕ) → 2 ≤ depth → length places ≡ depth
    → placed words depth (set places (number % depth) value) number ≡ take words value
placed-set-same words depth places number value deep ring =
    let within : number % depth < depth = mod_below number depth (omega arith) in
    ap (take words) (get_or-set_same places (number % depth) value [] (omega arith))

-- and no value changes that is nearer to it than the ring is deep
placed-set-other : (words depth : ℕ) (places : List (List ℕ)) (number : ℕ) (value : List ℕ) (m : ℕ) → m < number → number < m + depth
    → placed words depth (set places (number % depth) value) m ≡ placed words depth places m
placed-set-other words depth places number value m less near =
    ap (take words) (get_or-set_other places (number % depth) (m % depth) value [] (apart depth m number less near))

-- so the values that are kept stay as they were
kept-set : (words depth : ℕ) (places : List (List ℕ)) (number : ℕ) (value : List ℕ)
    → drop (oldest number depth) (below words depth (set places (number % depth) value) number)
    ≡ drop (oldest number depth) (below words depth places number)
kept-set words depth places number value = ext_get_or [] (drop first after) (drop first before) same_length same
  where
    first : ℕ
    first = oldest number depth

    before : List (List ℕ)
    before = below words depth places number

    after : List (List ℕ)
    after = below words depth (set places (number % depth) value) number

    length_before : length before ≡ number
    length_before = length-map-range_with_len (placed words depth places) 0 number

    length_after : length after ≡ number
    length_after = length-map-range_with_len (placed words depth (set places (number % depth) value)) 0 number

    same_length : length (drop first after) ≡ length (drop first before)
    same_length = length-drop first after ∙ ap (λ n. n - first) (length_after ∙ sym length_before) ∙ sym (length-drop first before)

    same : (i : ℕ) → i < length (drop first after) → get_or (drop first after) i [] ≡ get_or (drop first before) i []
    same i inside =
        let less : first + i < number = omega (arith, length-drop first after, length_after) in
        get_or-drop first after i []
        ∙ get_or-map-range_with_len (placed words depth (set places (number % depth) value)) 0 number
        (first + i) (first + i) [] less (omega arith)
        ∙ placed-set-other words depth places number value (first + i) less (omega arith)
        ∙ sym (get_or-map-range_with_len (placed words depth places) 0 number (first + i) (first + i) [] less (omega arith))
        ∙ sym (get_or-drop first before i [])

-- the first value is all zero
pub stands_first : (words depth : ℕ) (places : List (List ℕ)) (draft : List ℕ) (put : List Bool) → words ≤ 16 → 2 ≤ depth
    → places ≡ replicate depth (replicate 16 0) → StandsFor (record {
      words = words;
      depth = depth;
      begun = 0;
      newest = 0;
      values = placed_values words depth 0 0 places;
      draft = draft;
      put = put;
    }) (replicate words 0 ∷ [])
stands_first words depth places draft put few deep zeros = record {
  newest = refl;
  widths = All-push (λ v. length v ≡ words) [] (replicate words 0) (λ k d none. absurd (omega arith)) (length-replicate words 0);
  kept = ap (λ value. drop (oldest 0 depth) (value ∷ []))
      (ap (λ xs. take words (get_or xs (0 % depth) [])) zeros
      ∙ ap (take words) (get_or-replicate depth (0 % depth) (replicate 16 0) [] (mod_below 0 depth (omega arith)))
      ∙ take-replicate words 16 0 few);
}

-- as a write begins, no value changes
pub stands_begun : (words depth begun newest : ℕ) (places : List (List ℕ)) (draft draft' : List ℕ) (put put' : List Bool)
    (values : List (List ℕ)) → StandsFor (record {
      words = words;
      depth = depth;
      begun = begun;
      newest = newest;
      values = placed_values words depth begun newest places;
      draft = draft;
      put = put;
    }) values → StandsFor (record {
      words = words;
      depth = depth;
      begun = begun + 1;
      newest = newest;
      values = placed_values words depth (begun + 1) newest places;
      draft = draft';
      put = put';
    }) values
stands_begun words depth begun newest places draft draft' put put' values stands = record {
  newest = stands.newest;
  widths = stands.widths;
  kept = same_further (oldest begun depth) (oldest (begun + 1) depth) (below words depth places (newest + 1)) values
      (omega arith) stands.kept;
}

-- as a value is published, it is put to the end
pub stands_published : (words depth begun newest : ℕ) (places : List (List ℕ)) (draft draft' value : List ℕ) (put put' : List Bool)
    (values : List (List ℕ)) (place : ℕ) (last : List ℕ) → 2 ≤ depth → length places ≡ depth → words ≤ length value
    → begun ≡ newest + 1 → place ≡ begun % depth → take words value ≡ last → StandsFor (record {
      words = words;
      depth = depth;
      begun = begun;
      newest = newest;
      values = placed_values words depth begun newest places;
      draft = draft;
      put = put;
    }) values → StandsFor (record {
      words = words;
      depth = depth;
      begun = begun;
      newest = begun;
      values = placed_values words depth begun begun (set places place value);
      draft = draft';
      put = put';
    }) (values ++ last ∷ [])
stands_published words depth begun newest places draft draft' value put put' values place last
    deep ring wide writing there is stands = record {
      newest = length_push values last ∙ ap (λ n. n + 1) (stands.newest ∙ sym writing);
      widths = All-push (λ v. length v ≡ words) values last stands.widths (ap length (sym is) ∙ length-take-le words value wide);
      kept = ap (λ k. drop first (below words depth (set places k value) (begun + 1))) there
          ∙ ap (drop first) (map-range_with_len_more (placed words depth after) 0 begun begun (omega arith))
          ∙ drop-append-le first (below words depth after begun) (placed words depth after begun ∷ [])
          (omega (arith, length-map-range_with_len (placed words depth after) 0 begun))
          ∙ ap (λ xs. xs ++ placed words depth after begun ∷ [])
          (kept-set words depth places begun value ∙ ap (λ n. drop first (below words depth places n)) writing ∙ stands.kept)
          ∙ ap (λ x. drop first values ++ x ∷ []) (placed-set-same words depth places begun value deep ring ∙ is)
          ∙ sym (drop-append-le first values (last ∷ []) (omega (arith, stands.newest)));
    }
  where
    first : ℕ
    first = oldest begun depth

    after : List (List ℕ)
    after = set places (begun % depth) value

-- a word of a value that is kept is that of the list's value
pub word_kept : (words depth begun newest : ℕ) (places : List (List ℕ)) (draft : List ℕ) (put : List Bool)
    (values : List (List ℕ)) (noted i : ℕ) → noted ≤ newest → begun < noted + depth → i < words → StandsFor (record {
      words = words;
      depth = depth;
      begun = begun;
      newest = newest;
      values = placed_values words depth begun newest places;
      draft = draft;
      put = put;
    }) values → get_or (get_or places (noted % depth) []) i 0 ≡ get_or (get_or values noted []) i 0
word_kept words depth begun newest places draft put values noted i published kept within stands =
    sym (get_or-take words (get_or places (noted % depth) []) i 0 within)
    ∙ ap (λ value. get_or value i 0)
    (sym (get_or-map-range_with_len (placed words depth places) 0 (newest + 1) noted noted [] (omega arith) (omega arith))
    ∙ same_element (oldest begun depth) noted (below words depth places (newest + 1)) values [] (omega arith) stands.kept)

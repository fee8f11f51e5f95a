-- Where a number was put into bytes, the other numbers stand as before.
use Rattle.std.proofs.Common.{◌≡◌, ◌≢◌, ℕ, ◌+◌, ◌-◌, ◌*◌, ◌≤◌, List, ◌++◌, length, take, drop, inl, inr, sym, ap, ◌∙◌, arith}
use Rattle.std.proofs.lemmas.List.{append_assoc, drop_at, drop-drop, drop-take, take-take, drop-append-le, take-append-le, length-append, length-take-le, length-drop}
use Rattle.std.proofs.lemmas.Bool.{cases_lt}
use Rattle.em_hart.specs.Hart.{number_of_bytes, bytes_of, number_in_bytes, with_number}

-- a word below the place that was written
below : (bytes rest : List ℕ) (p q : ℕ) → q + 4 ≤ p → p ≤ length bytes → take 4 (drop q (take p bytes ++ rest)) ≡ take 4 (drop q bytes)
below bytes rest p q h l =
    let len : length (take p bytes) ≡ p = length-take-le p bytes l in
    let e : q + (p - q) ≡ p = omega arith in
    ap (take 4) (drop-append-le q (take p bytes) rest (omega arith))
    ∙ take-append-le 4 (drop q (take p bytes)) rest (omega (arith, length-drop q (take p bytes)))
    ∙ ap (λ (n : ℕ). take 4 (drop q (take n bytes))) (sym e)
    ∙ ap (take 4) (drop-take q (p - q) bytes)
    ∙ take-take 4 (p - q) (drop q bytes) (omega arith)

-- what stands above it
above : (bytes front : List ℕ) (p q : ℕ) → length front ≡ p + 4 → p + 4 ≤ q → drop q (front ++ drop (p + 4) bytes) ≡ drop q bytes
above bytes front p q l h =
    let e : p + 4 + (q - (p + 4)) ≡ q = omega arith in
    ap (λ (n : ℕ). drop n (front ++ drop (p + 4) bytes)) (sym e)
    ∙ sym (drop-drop (q - (p + 4)) (p + 4) (front ++ drop (p + 4) bytes))
    ∙ ap (drop (q - (p + 4))) (drop_at front (drop (p + 4) bytes) (p + 4) l)
    ∙ drop-drop (q - (p + 4)) (p + 4) bytes
    ∙ ap (λ (n : ℕ). drop n bytes) e

-- a number that was put at one word leaves the others as they were
pub number_in_bytes-with_number_other : (bytes : List ℕ) (i j w : ℕ) → j ≢ i → 4 * i + 4 ≤ length bytes
    → number_in_bytes (with_number bytes 4 (4 * i) w) 4 (4 * j) ≡ number_in_bytes bytes 4 (4 * j)
number_in_bytes-with_number_other bytes i j w n h =
    let p = 4 * i in
    let front = take p bytes ++ bytes_of 4 w in
    let len : length front ≡ p + 4 = omega (arith, length-append (take p bytes) (bytes_of 4 w), length-take-le p bytes (omega arith)) in
    elim (cases_lt j i) [
      | inl l ↦
          ap (λ (x : List ℕ). number_of_bytes (take 4 (drop (4 * j) x))) (append_assoc (take p bytes) (bytes_of 4 w) (drop (p + 4) bytes))
          ∙ ap number_of_bytes (below bytes (bytes_of 4 w ++ drop (p + 4) bytes) p (4 * j) (omega arith) (omega arith))
      | inr g ↦ ap (λ (x : List ℕ). number_of_bytes (take 4 x)) (above bytes front p (4 * j) len (omega arith))
    ]

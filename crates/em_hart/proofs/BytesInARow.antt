-- Writing bytes one by one is putting a number into them.
use Rattle.std.proofs.Common.{◌≡◌, ℕ, ◌+◌, ◌/◌, ◌%◌, ◌<◌, List, [], ◌∷◌, ◌++◌, length, get_or, take, drop, set, refl, sym, ap, ◌∙◌, arith}
use Rattle.std.proofs.lemmas.List.{take-append-drop, append_assoc, set_at, drop_more, length-append, length-take-le}
use Rattle.em_hart.specs.Hart.{bytes_of}

-- one more byte is written right after a front that stands before the rest
set_next : (front xs : List ℕ) (m b : ℕ) → length front ≡ m → m < length xs → set (front ++ drop m xs) m b ≡ (front ++ b ∷ []) ++ drop (m + 1) xs
set_next front xs m b l h =
    ap (λ (rest : List ℕ). set (front ++ rest) m b) (drop_more xs m 0 h)
    ∙ set_at front (get_or xs m 0) (drop (m + 1) xs) b m l
    ∙ sym (append_assoc front (b ∷ []) (drop (m + 1) xs))

-- one, two and four bytes that are written in a row
put_one : (xs : List ℕ) (p a : ℕ) → p < length xs → set xs p a ≡ take p xs ++ (a ∷ []) ++ drop (p + 1) xs
put_one xs p a h =
    ap (λ (whole : List ℕ). set whole p a) (sym (take-append-drop p xs))
    ∙ set_next (take p xs) xs p a (length-take-le p xs (omega arith)) h

put_two : (xs : List ℕ) (p a b : ℕ) → p + 1 < length xs → set (set xs p a) (p + 1) b ≡ take p xs ++ (a ∷ b ∷ []) ++ drop (p + 2) xs
put_two xs p a b h =
    let l : length (take p xs ++ a ∷ []) ≡ p + 1 = omega (arith, length-append (take p xs) (a ∷ []), length-take-le p xs (omega arith)) in
    let e : p + 1 + 1 ≡ p + 2 = omega arith in
    ap (λ (whole : List ℕ). set whole (p + 1) b) (put_one xs p a (omega arith))
    ∙ set_next (take p xs ++ a ∷ []) xs (p + 1) b l h
    ∙ ap (λ (front : List ℕ). front ++ drop (p + 1 + 1) xs) (append_assoc (take p xs) (a ∷ []) (b ∷ []))
    ∙ ap (λ (n : ℕ). take p xs ++ (a ∷ b ∷ []) ++ drop n xs) e

-- four bytes in a row
pub put_four : (xs : List ℕ) (p a b c d : ℕ) → p + 3 < length xs
    → set (set (set (set xs p a) (p + 1) b) (p + 2) c) (p + 3) d ≡ take p xs ++ (a ∷ b ∷ c ∷ d ∷ []) ++ drop (p + 4) xs
put_four xs p a b c d h =
    let l : length (take p xs ++ (a ∷ b ∷ [])) ≡ p + 2 = omega (arith, length-append (take p xs) (a ∷ b ∷ []), length-take-le p xs (omega arith)) in
    let m : length (take p xs ++ (a ∷ b ∷ []) ++ c ∷ []) ≡ p + 3 =
    omega (arith, l, length-append (take p xs ++ (a ∷ b ∷ [])) (c ∷ [])) in
    let e : p + 2 + 1 ≡ p + 3 = omega arith in
    let f : p + 3 + 1 ≡ p + 4 = omega arith in
    ap (λ (whole : List ℕ). set (set whole (p + 2) c) (p + 3) d) (put_two xs p a b (omega arith))
    ∙ ap (λ (whole : List ℕ). set whole (p + 3) d) (set_next (take p xs ++ (a ∷ b ∷ [])) xs (p + 2) c l (omega arith))
    ∙ ap (λ (n : ℕ). set (take p xs ++ (a ∷ b ∷ []) ++ c ∷ [] ++ drop n xs) (p + 3) d) e
    ∙ set_next (take p xs ++ (a ∷ b ∷ []) ++ c ∷ []) xs (p + 3) d m h
    ∙ simp (append_assoc, f)

-- the bytes that the language takes a number apart into
pub four_bytes : (v : ℕ) → bytes_of 4 v ≡ v % 256 ∷ v / 256 % 256 ∷ v / 65536 % 256 ∷ v / 16777216 % 256 ∷ []
four_bytes v =
    let two : v / 256 / 256 ≡ v / 65536 = omega arith in
    let three : v / 256 / 256 / 256 ≡ v / 16777216 = omega arith in
    rw (three, two) refl

-- Words put into an own window one after the other are put at once.
use Rattle.std.proofs.Common.{◌≡◌, ◌∙◌, ℕ, ◌+◌, ◌-◌, ◌*◌, ◌<◌, ◌≤◌, ◌⊎◌, inl, inr, List, [], ◌∷◌, ◌++◌, length, take, drop, slice_index_or, append-nil, append_assoc, sym, ap, refl, arith}
use Rattle.std.specs.List.{flat_map, splice}
use Rattle.std.proofs.lemmas.Bool.{cases_lt}
use Rattle.std.proofs.lemmas.Grind.{flat_map-append}
use Rattle.std.proofs.lemmas.List.{drop_all, drop_at, drop-drop, length-append, length-take-le, take_all, take_at, take_more}
use Rattle.std.proofs.lemmas.List.Concat.{flat_map-cons}
use Rattle.em_hart.specs.Hart.{bytes_of}
use Rattle.em_gate.specs.Effects.{with_core, with_value, with_words}
use Rattle.em_gate.specs.State.{Core, Value}
use Rattle.em_plain.specs.Words.{given_words, held_words_put}
use Rattle.em_system.specs.Held.{Held}
use Rattle.em_system.specs.Windows.{held_word_put, with_words_from}
use Rattle.em_system.proofs.Changes.{changed_again}
use Rattle.em_threads.specs.Threads.{Thread, thread_at, with_task}

-- ---- parts of a list

-- a part is put right behind another that was put inside
inside : (xs fs gs : List ℕ) (p q r : ℕ) → q ≡ p + length fs → r ≡ q + length gs → p ≤ length xs
    → splice (splice xs p q fs) q r gs ≡ splice xs p r (fs ++ gs)
inside xs fs gs p q r e f h =
    let front = take p xs ++ fs in
    let whole : splice xs p q fs ≡ front ++ drop q xs = sym (append_assoc (take p xs) fs (drop q xs)) in
    let len : length front ≡ q = omega (arith, e, length-append (take p xs) fs, length-take-le p xs h) in
    let more : q + length gs ≡ r = sym f in
    let behind : drop r (front ++ drop q xs) ≡ drop r xs =
    ap (λ n. drop n (front ++ drop q xs)) f
    ∙ sym (drop-drop (length gs) q (front ++ drop q xs))
    ∙ ap (drop (length gs)) (drop_at front (drop q xs) q len)
    ∙ drop-drop (length gs) q xs
    ∙ ap (λ n. drop n xs) more in
    ap (λ ys. take q ys ++ (gs ++ drop r ys)) whole
    ∙ ap (λ ys. ys ++ (gs ++ drop r (front ++ drop q xs))) (take_at front (drop q xs) q len)
    ∙ ap (λ ys. front ++ (gs ++ ys)) behind
    ∙ append_assoc (take p xs) fs (gs ++ drop r xs)
    ∙ ap (λ ys. take p xs ++ ys) (sym (append_assoc fs gs (drop r xs)))

-- or behind the end
outside : (xs fs gs : List ℕ) (p q r : ℕ) → q ≡ p + length fs → r ≡ q + length gs → length xs < p
    → splice (splice xs p q fs) q r gs ≡ splice xs p r (fs ++ gs)
outside xs fs gs p q r e f h =
    let whole : splice xs p q fs ≡ xs ++ fs =
    ap (λ ys. ys ++ (fs ++ drop q xs)) (take_all p xs (omega arith))
    ∙ ap (λ ys. xs ++ (fs ++ ys)) (drop_all q xs (omega (arith, h, e)))
    ∙ ap (λ ys. xs ++ ys) (append-nil fs) in
    let len : length (xs ++ fs) ≤ q = omega (arith, h, e, length-append xs fs) in
    ap (λ ys. take q ys ++ (gs ++ drop r ys)) whole
    ∙ ap (λ ys. ys ++ (gs ++ drop r (xs ++ fs))) (take_all q (xs ++ fs) len)
    ∙ ap (λ ys. (xs ++ fs) ++ (gs ++ ys)) (drop_all r (xs ++ fs) (omega (arith, len, f)))
    ∙ append_assoc xs fs (gs ++ [])
    ∙ ap (λ ys. xs ++ ys) (sym (append_assoc fs gs []))
    ∙ ap (λ ys. xs ++ ((fs ++ gs) ++ ys)) (sym (drop_all r xs (omega (arith, h, e, f))))
    ∙ ap (λ ys. ys ++ ((fs ++ gs) ++ drop r xs)) (sym (take_all p xs (omega arith)))

-- a part is put right behind another
splice_on : (xs fs gs : List ℕ) (p q r : ℕ) → q ≡ p + length fs → r ≡ q + length gs
    → splice (splice xs p q fs) q r gs ≡ splice xs p r (fs ++ gs)
splice_on xs fs gs p q r e f = by_place (cases_lt (length xs) p)
  where
    by_place : (length xs < p) ⊎ (p ≤ length xs) → splice (splice xs p q fs) q r gs ≡ splice xs p r (fs ++ gs)
    by_place (inl h) = outside xs fs gs p q r e f h
    by_place (inr h) = inside xs fs gs p q r e f h

-- ---- words

words_length : (words : Value) → length (flat_map (bytes_of 4) words) ≡ 4 * length words
words_length [] = refl
words_length (w ∷ words) =
    omega (arith, ap length (flat_map-cons (bytes_of 4) w words), length-append (bytes_of 4 w) (flat_map (bytes_of 4) words), words_length words)

-- one word more
words_more : (bytes : List ℕ) (place w : ℕ) (words : Value)
    → with_words (with_words bytes place words) (place + 4 * length words) (w ∷ []) ≡ with_words bytes place (words ++ w ∷ [])
words_more bytes place w words =
    let q = place + 4 * length words in
    let last : place + 4 * length words + 4 * length (w ∷ []) ≡ place + 4 * length (words ++ w ∷ []) = omega (arith, length-append words (w ∷ [])) in
    splice_on bytes (flat_map (bytes_of 4) words) (flat_map (bytes_of 4) (w ∷ [])) place q (q + 4 * length (w ∷ []))
    (omega (arith, words_length words)) (omega (arith, words_length (w ∷ [])))
    ∙ ap (λ n. splice bytes place n (flat_map (bytes_of 4) words ++ flat_map (bytes_of 4) (w ∷ []))) last
    ∙ ap (λ ys. splice bytes place (place + 4 * length (words ++ w ∷ [])) ys) (sym (flat_map-append (bytes_of 4) words (w ∷ [])))

-- a core with other bytes in its own window
abbrev with_bytes : Core → List ℕ → Core
with_bytes core bytes = record core { own = record core.own { bytes = bytes } }

core_more : (core : Core) (at i w : ℕ) (words : Value) → length words ≡ i
    → with_words_from at i (w ∷ []) (with_value at words core) ≡ with_value at (words ++ w ∷ []) core
core_more core at i w words e =
    let place = at - core.own.base in
    ap (λ n. with_bytes core (with_words (with_words core.own.bytes place words) (place + 4 * n) (w ∷ []))) (sym e)
    ∙ ap (with_bytes core) (words_more core.own.bytes place w words)

-- ---- what is held

-- one word more of some
pub word_more : (t at i : ℕ) (words : Value) (held held' : Held) → i < length words → t < length held.threads
    → held' ≡ held_words_put t at (take i words) held
    → held_word_put t at i (slice_index_or words i 0) held' ≡ held_words_put t at (take (i + 1) words) held
word_more t at i words held held' less within e =
    let w = slice_index_or words i 0 in
    let so_far : (Thread → Thread) = with_task (given_words at (take i words)) in
    let put : (Thread → Thread) = with_task (λ task. with_core (with_words_from at i (w ∷ []) task.core) task) in
    let both : (Thread → Thread) = with_task (given_words at (take i words ++ w ∷ [])) in
    let thread : Thread = thread_at held.threads t in
    ap (λ h. held_word_put t at i w h) e
    ∙ ap (λ threads. record held { threads = threads })
    (changed_again so_far put both t held.threads within
    (ap (λ core. with_task (with_core core) thread) (core_more thread.task.core at i w (take i words) (length-take-le i words (omega (arith, less))))))
    ∙ ap (λ ws. held_words_put t at ws held) (sym (take_more words i 0 less))

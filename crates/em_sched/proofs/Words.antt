-- The words of a read, put one after another, are those of its value put at once.
use Rattle.std.proofs.Common.{◌≡◌, ◌∙◌, ℕ, zero, suc, ◌+◌, ◌-◌, ◌*◌, ◌<◌, ◌≤◌, List, [], ◌∷◌, ◌++◌, length, take, drop, Some, sym, ap, refl, append_assoc, append-nil, arith}
use Rattle.std.specs.List.{flat_map, splice}
use Rattle.std.proofs.Math.Seq.{drop-nil, take-append_seam}
use Rattle.std.proofs.lemmas.List.{drop_all, drop_more, take_all}
use Rattle.std.proofs.lemmas.Slice.{drop-append-drop}
use Rattle.em_base.specs.declared.ids.MsgId.{MsgId}
use Rattle.em_hart.specs.Hart.{bytes_of}
use Rattle.em_gate.specs.Effects.{after_answer, with_value, with_words}
use Rattle.em_gate.specs.State.{Core, Reads, Value, value_at}
use Rattle.em_kernel.specs.Moves.{noted_word, with_word_put}
use Rattle.em_sched.specs.Agreement.{settled_core}

-- what is put in place of a part, and behind it of another, is both put in place of both
put_twice : (xs a b : List ℕ) (p i j : ℕ) → i ≡ p + length a → i ≤ j → splice (splice xs p i a) i j b ≡ splice xs p j (a ++ b)
put_twice xs a b zero i j e le =
    let same : i ≡ length a = omega (arith, e) in
    let first : take i (a ++ drop i xs) ≡ a = ap (λ n. take n (a ++ drop i xs)) same ∙ take-append_seam a (drop i xs) in
    ap (λ ys. ys ++ (b ++ drop j (a ++ drop i xs))) first
    ∙ ap (λ ys. a ++ (b ++ ys)) (drop-append-drop i xs a j le (sym same))
    ∙ sym (append_assoc a b (drop j xs))
put_twice [] a b (suc p) i j e le =
    let none : a ++ drop i [] ≡ a = ap (λ ys. a ++ ys) (drop-nil i) ∙ append-nil a in
    ap (λ ys. take i ys ++ (b ++ drop j ys)) none
    ∙ ap (λ ys. ys ++ (b ++ drop j a)) (take_all i a (omega (arith, e)))
    ∙ ap (λ ys. a ++ (b ++ ys)) (drop_all j a (omega (arith, e, le)) ∙ sym (drop-nil j))
    ∙ sym (append_assoc a b (drop j []))
put_twice (x ∷ xs) a b (suc p) zero j e le = absurd (omega (arith, e))
put_twice (x ∷ xs) a b (suc p) (suc i) zero e le = absurd (omega (arith, le))
put_twice (x ∷ xs) a b (suc p) (suc i) (suc j) e le = ap (λ ys. x ∷ ys) (put_twice xs a b p i j (omega (arith, e)) (omega (arith, le)))

-- a word, and others behind it
put_more : (bytes : List ℕ) (place word : ℕ) (words : Value)
    → with_words (with_words bytes place (word ∷ [])) (place + 4) words ≡ with_words bytes place (word ∷ words)
put_more bytes place word words =
    let all : place + 4 + 4 * length words ≡ place + 4 * suc (length words) = omega arith in
    put_twice bytes (bytes_of 4 word) (flat_map (bytes_of 4) words) place (place + 4) (place + 4 + 4 * length words) refl (omega arith)
    ∙ ap (λ n. splice bytes place n (bytes_of 4 word ++ flat_map (bytes_of 4) words)) all

-- the core with these bytes in its own window, at the end of its read
abbrev ended_with : Core → List ℕ → Core
ended_with core bytes = after_answer 0 (record core { own = record core.own { bytes = bytes } })

-- a read that begins is settled once its whole value is put
pub settled_first : (values : List (List Value)) (m : MsgId) (at noted : ℕ) (core : Core)
    → settled_core values (Some (Reads m at noted 0)) core ≡ after_answer 0 (with_value at (value_at values m.0 noted) core)
settled_first values m at noted core =
    let place : at - core.own.base + 4 * 0 ≡ at - core.own.base = omega arith in
    ap (λ n. ended_with core (with_words core.own.bytes n (value_at values m.0 noted))) place

-- a word that is put and isn't the last leaves the settled core as it is
pub settled_word : (values : List (List Value)) (m : MsgId) (at noted i : ℕ) (core : Core) → i < length (value_at values m.0 noted)
    → settled_core values (Some (Reads m at noted (i + 1))) (with_word_put values m.0 at noted i core) ≡ settled_core values (Some (Reads m at noted i)) core
settled_word values m at noted i core more =
    let value = value_at values m.0 noted in
    let word = noted_word values m.0 noted i in
    let place = at - core.own.base + 4 * i in
    let next : at - core.own.base + 4 * (i + 1) ≡ place + 4 = omega arith in
    ap (λ n. ended_with core (with_words (with_words core.own.bytes place (word ∷ [])) n (drop (i + 1) value))) next
    ∙ ap (ended_with core) (put_more core.own.bytes place word (drop (i + 1) value))
    ∙ ap (λ ws. ended_with core (with_words core.own.bytes place ws)) (sym (drop_more value i 0 more))

-- and so does the last one, once the read has its answer
pub settled_last : (values : List (List Value)) (m : MsgId) (at noted i : ℕ) (core : Core) → length (value_at values m.0 noted) ≡ i + 1
    → after_answer 0 (with_word_put values m.0 at noted i core) ≡ settled_core values (Some (Reads m at noted i)) core
settled_last values m at noted i core all =
    let value = value_at values m.0 noted in
    let word = noted_word values m.0 noted i in
    let place = at - core.own.base + 4 * i in
    ap (λ ws. ended_with core (with_words core.own.bytes place ws))
    (sym (drop_more value i 0 (omega (arith, all)) ∙ ap (λ ws. word ∷ ws) (drop_all (i + 1) value (omega (arith, all)))))

-- What is told of bytes that are taken or appended in several pieces.
use Rattle.std.proofs.Common.{◌≡◌, ℕ, ◌+◌, ◌-◌, List, ◌++◌, length, take, drop, Option, None, Some, refl, ap, sym, subst, ◌∙◌, append_assoc, arith, length-append}
use Rattle.std.proofs.lemmas.List.{take_at, take_rest}
use Rattle.std.proofs.lemmas.Simd.{chunk-drop}
use Rattle.std.proofs.Math.Seq.{take-add}
use Rattle.em_io.specs.Bytes.{then_left, and_then, Took}

-- taking two pieces is taking both at once
pub then_left-then_left : (a b : List ℕ) (left : Option (List ℕ)) → then_left a (then_left b left) ≡ then_left (a ++ b) left
then_left-then_left a b None = refl
then_left-then_left a b (Some rest) = ap Some (sym (append_assoc a b rest))

-- appending two pieces is appending both at once
pub and_then-and_then : (written : Option (List ℕ)) (a b : List ℕ) → and_then (and_then written a) b ≡ and_then written (a ++ b)
and_then-and_then None a b = refl
and_then-and_then (Some bytes) a b = ap Some (append_assoc bytes a b)

-- the next bytes were taken after these, and the number of both has the property
pub took_more :
    (P : ℕ → Type 0) (bytes more : List ℕ) (old mid new : Option (List ℕ))
    → old ≡ then_left bytes mid → mid ≡ then_left more new → P (length bytes + length more) → Took P old new
took_more P bytes more old mid new before after fits = (
  bytes ++ more,
  subst P (sym (length-append bytes more)) fits,
  before ∙ ap (then_left bytes) after ∙ then_left-then_left bytes more new,
)

-- the next `count` bytes of what was offered, all after the first `done`
pub and_then-take :
    (written : Option (List ℕ)) (bytes : List ℕ) (done count : ℕ)
    → and_then (and_then written (take done bytes)) (take count (take (length bytes - done) (drop done bytes)))
    ≡ and_then written (take (done + count) bytes)
and_then-take written bytes done count =
    ap (λ offered. and_then (and_then written (take done bytes)) (take count offered)) (take_rest bytes done)
    ∙ and_then-and_then written (take done bytes) (take count (drop done bytes))
    ∙ ap (and_then written) (sym (take-add done count bytes))

-- the `count` bytes from `at` on that were copied to the front of a buffer stand before the rest
pub drop-copied :
    (bytes buf copied : List ℕ) (at count : ℕ)
    → length copied ≡ count → copied ≡ take (at + count - at) (drop at bytes)
    → drop at bytes ≡ take count (copied ++ drop count buf) ++ drop (at + count) bytes
drop-copied bytes buf copied at count size value =
    let same : at + count - at ≡ count = omega arith in
    chunk-drop at count bytes
    ∙ ap
    (λ front. front ++ drop (at + count) bytes)
    (sym (take_at copied (drop count buf) count size ∙ value ∙ ap (λ n. take n (drop at bytes)) same))

-- A number is ASCII, and so is the name of a label.
use mathlib.Core.Bool.{◌&&◌}
use Rattle.std.proofs.Common.{◌≡◌, ℕ, ◌<◌, ◌≤◌, ℤ, Bool, true, List, [], ◌∷◌, ◌++◌, inl, inr, refl, ap, ◌∙◌, arith, lit≤, nat_lt}
use Rattle.std.proofs.lemmas.Bool.Decides.{nat_tests}
use Rattle.std.proofs.lemmas.List.Elements.{All-weaker}
use Rattle.std.proofs.lemmas.List.Sums.{AllPass-from_list_all}
use Rattle.std.proofs.lemmas.Str.{IsUtf8-from_ascii}
use Rattle.std.proofs.lemmas.Str.Ascii.{IsAscii-from_all}
use Rattle.std.specs.List.{list_all}
use Rattle.std.specs.Prelude.{length, nat_le, slice_index}
use Rattle.std.specs.Char.{digit_value}
use Rattle.std.specs.Str.{IsUtf8}
use Rattle.std.specs.Str.Parse.{AllDigits}
use Rattle.em_asm_read.specs.Labels.{is_label, is_label_start, is_label_byte}
use Rattle.em_base.specs.Number.{IsMagnitude, IsNumber}
use Rattle.em_base.proofs.Trimming.{both, both_are, list_all-weaker, list_all-joined}

abbrev is_ascii_byte : ℕ → Bool
is_ascii_byte byte = nat_lt byte 128

-- each byte of the text is one of ASCII
abbrev is_ascii_text : List ℕ → Bool
is_ascii_text text = list_all is_ascii_byte text

ascii_digit : (c : ℕ) → digit_value c < 36 → is_ascii_byte c ≡ true
ascii_digit c h = grind (arith, nat_tests)

ascii_below : (c : ℕ) → is_ascii_byte c ≡ true → c < 128
ascii_below c h = grind (arith, nat_tests)

ascii-joined : (xs ys : List ℕ) → is_ascii_text xs ≡ true → is_ascii_text ys ≡ true → is_ascii_text (xs ++ ys) ≡ true
ascii-joined xs ys h k = list_all-joined is_ascii_byte xs ys h k

-- ---- numbers

ascii-digits : (radix : ℕ) (ds : List ℕ) → radix ≤ 36 → AllDigits radix ds → is_ascii_text ds ≡ true
ascii-digits radix [] small h = refl
ascii-digits radix (c ∷ cs) small h = both_are (is_ascii_byte c) (is_ascii_text cs) (ascii_digit c (omega (arith, h.0))) (ascii-digits radix cs small h.1)

ascii-magnitude : (text : List ℕ) (n : ℕ) → IsMagnitude text n → is_ascii_text text ≡ true
ascii-magnitude text n h = elim h [
  | inl p ↦ ascii-digits 10 text (lit≤ tt) p.0.1
  | inr p ↦ ap is_ascii_text p.1 ∙ ascii-digits 16 p.0 (lit≤ tt) p.2.1
]

ascii-number : (text : List ℕ) (z : ℤ) → IsNumber text z → is_ascii_text text ≡ true
ascii-number text z h = elim h [
  | inl p ↦ ascii-magnitude text p.0 p.1
  | inr p ↦ ap is_ascii_text p.2 ∙ ascii-magnitude p.1 p.0 p.3
]

pub utf8-number : (text : List ℕ) (z : ℤ) → IsNumber text z → IsUtf8 text
utf8-number text z h =
    let passes = AllPass-from_list_all is_ascii_byte text (ascii-number text z h) in
    IsUtf8-from_ascii text (IsAscii-from_all text (All-weaker (λ c. is_ascii_byte c ≡ true) (λ c. c < 128) ascii_below text passes))

-- ---- labels

ascii_label_byte : (c : ℕ) → is_label_byte c ≡ true → is_ascii_byte c ≡ true
ascii_label_byte c h = grind (arith, nat_tests)

pub utf8-label : (text : List ℕ) → is_label text ≡ true → IsUtf8 text
utf8-label text h =
    let bytes = (both (nat_lt 0 (length text) && nat_le (length text) 64 && is_label_start (slice_index text 0)) (list_all is_label_byte text) h).1 in
    let passes = AllPass-from_list_all is_ascii_byte text (list_all-weaker is_label_byte is_ascii_byte text ascii_label_byte bytes) in
    IsUtf8-from_ascii text (IsAscii-from_all text (All-weaker (λ c. is_ascii_byte c ≡ true) (λ c. c < 128) ascii_below text passes))

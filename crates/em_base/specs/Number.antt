-- How numbers are written: this project's own, for assembly and for what is read beside it.
use Rattle.std.specs.Prelude.{◌≡◌, ℕ, ℤ, pos, neg_ℤ, ◌&&◌, nat_eq, nat_lt, List, length, drop, ◌++◌, ◌⊎◌, Option, Some, None, if◌then◌else◌, codes}
use Rattle.std.specs.Char.{is_digit}
use Rattle.std.specs.List.{list_all, starts_with}
use Rattle.std.specs.Option.{option_map}
use Rattle.std.specs.Str.Parse.{IsNumeral, digits_value}

-- the text writes n: in decimal digits, or as 0x and hexadecimal digits of either case
abbrev pub IsMagnitude : List ℕ → ℕ → Type 0
IsMagnitude text n =
    (IsNumeral 10 text × (digits_value 10 text ≡ n))
    ⊎ ((digits : List ℕ) × (text ≡ codes "0x" ++ digits) × IsNumeral 16 digits × (digits_value 16 digits ≡ n))

-- the text writes z: a magnitude, or a minus sign and a magnitude
abbrev pub IsNumber : List ℕ → ℤ → Type 0
IsNumber text z =
    ((n : ℕ) × IsMagnitude text n × (z ≡ pos n))
    ⊎ ((n : ℕ) × (rest : List ℕ) × (text ≡ codes "-" ++ rest) × IsMagnitude rest n × (z ≡ neg_ℤ (pos n)))

-- ---- the same as functions of the text

-- the number that digits write, of which there is at least one
abbrev pub numeral_of : ℕ → List ℕ → Option ℕ
numeral_of radix digits =
    if nat_lt 0 (length digits) && list_all (λ c. is_digit c radix) digits then Some (digits_value radix digits) else None

-- the number that a text without a sign writes: decimal digits, or 0x and hexadecimal ones of either case
abbrev pub magnitude_of : List ℕ → Option ℕ
magnitude_of text = if starts_with nat_eq text (codes "0x") then numeral_of 16 (drop 2 text) else numeral_of 10 text

-- the number that a text writes: a magnitude, with an optional minus sign before it
unfoldable pub written_number : List ℕ → Option ℤ
written_number text =
    if starts_with nat_eq text (codes "-") then option_map (λ n. neg_ℤ (pos n)) (magnitude_of (drop 1 text))
    else option_map pos (magnitude_of text)

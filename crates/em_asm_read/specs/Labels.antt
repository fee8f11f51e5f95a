-- The names of labels: this project's own.
use Rattle.std.specs.Prelude.{ℕ, Bool, ◌&&◌, ◌||◌, nat_eq, nat_lt, nat_le, List, length, slice_index}
use Rattle.std.specs.Char.{is_digit, is_ascii_alphabetic}
use Rattle.std.specs.List.{list_all}

-- a letter, an underscore or a dot
abbrev pub is_label_start : ℕ → Bool
is_label_start byte = nat_eq byte 95 || nat_eq byte 46 || is_ascii_alphabetic byte

-- the same, or a digit
abbrev pub is_label_byte : ℕ → Bool
is_label_byte byte = is_label_start byte || is_digit byte 10

-- whether the text may be the name of a label: 1 to 64 letters, digits, underscores and dots, the first of them no digit
abbrev pub is_label : List ℕ → Bool
is_label text =
    nat_lt 0 (length text) && nat_le (length text) 64 && is_label_start (slice_index text 0) && list_all is_label_byte text

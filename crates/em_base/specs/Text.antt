-- Texts taken apart: this project's own.
use Rattle.std.specs.Prelude.{ℕ, ◌-◌, Bool, IsTrue, ◌||◌, not, nat_eq, List, length, map, take, drop}
use denote.Ref.{Bor}
use Rattle.std.specs.List.{list_all, list_any, prefix_len, suffix_len}

-- the texts that borrowed texts are
abbrev pub texts_of : List (Bor (List ℕ)) → List (List ℕ)
texts_of borrowed = map (λ text. text.now) borrowed

-- whether the byte is a space or a tab
abbrev pub is_space : ℕ → Bool
is_space byte = nat_eq byte 32 || nat_eq byte 9

-- whether the byte is `#`, `:`, a comma, or an opening parenthesis
abbrev pub is_hash : ℕ → Bool
is_hash byte = nat_eq byte 35

abbrev pub is_colon : ℕ → Bool
is_colon byte = nat_eq byte 58

abbrev pub is_comma : ℕ → Bool
is_comma byte = nat_eq byte 44

abbrev pub is_opening : ℕ → Bool
is_opening byte = nat_eq byte 40

-- whether no byte of the text passes the test
abbrev pub has_no : (ℕ → Bool) → List ℕ → Bool
has_no test text = list_all (λ byte. not (test byte)) text

abbrev pub HasNo : (ℕ → Bool) → List ℕ → Type 0
HasNo test text = IsTrue (has_no test text)

-- whether a space or a tab stands in the text
abbrev pub has_space : List ℕ → Bool
has_space text = list_any is_space text

-- the text without the spaces and tabs in front
abbrev pub unindented : List ℕ → List ℕ
unindented text = drop (prefix_len is_space text) text

-- the text without the spaces and tabs at both its ends
abbrev pub trimmed : List ℕ → List ℕ
trimmed text =
    take (length (unindented text) - suffix_len is_space (unindented text)) (unindented text)

-- The mnemonic that a text is, searched row by row.
use Rattle.std.proofs.Common.{◌≡◌, ℕ, suc, ◌<◌, Bool, true, false, List, [], ◌∷◌, length, map, drop, get_or, drop-cons, add-one, ◌+◌, ◌≤◌, Option, Some, None, IfSome, rules, refl, sym, ap, ◌∙◌, if◌then◌else◌}
use Rattle.std.proofs.lemmas.List.{drop_all}
use Rattle.std.specs.Str.{bytes_eq}
use denote.Ref.{Bor}
use Rattle.em_asm_read.specs.declared.mnemonics.Mnemonic.{Mnemonic}
use Rattle.em_asm_read.specs.Fitting.{MnemonicFits}
use Rattle.em_asm_read.specs.Mnemonics.{among, mnemonics, mnemonic_of}

-- the rows of a table, as texts with what they name
abbrev pub rows_of : List (Bor (List ℕ) × Mnemonic) → List (List ℕ × Mnemonic)
rows_of rows = map (λ row. (row.0.now, row.1)) rows

pub among-here : (text name : List ℕ) (m : Mnemonic) (rows : List (List ℕ × Mnemonic)) → bytes_eq name text ≡ true → among text ((name, m) ∷ rows) ≡ Some m
unfolding among
among-here text name m rows e = ap (λ b. if b then Some m else among text rows) e

pub among-past : (text name : List ℕ) (m : Mnemonic) (rows : List (List ℕ × Mnemonic)) → bytes_eq name text ≡ false → among text ((name, m) ∷ rows) ≡ among text rows
unfolding among
among-past text name m rows e = ap (λ b. if b then Some m else among text rows) e

among-empty : (text : List ℕ) → among text [] ≡ None
unfolding among
among-empty text = refl

-- the row at a place is the one
pub among-at : (text : List ℕ) (rows : List (Bor (List ℕ) × Mnemonic)) (i : ℕ) (d : Bor (List ℕ) × Mnemonic) → i < length rows
    → bytes_eq (get_or rows i d).0.now text ≡ true → among text (rows_of (drop i rows)) ≡ Some (get_or rows i d).1
among-at text rows i d h e =
    ap (λ left. among text (rows_of left)) (drop-cons rows i d h)
    ∙ among-here text (get_or rows i d).0.now (get_or rows i d).1 (rows_of (drop (suc i) rows)) e

-- the row at a place isn't the one
pub among-after : (text : List ℕ) (rows : List (Bor (List ℕ) × Mnemonic)) (i : ℕ) (d : Bor (List ℕ) × Mnemonic) → i < length rows
    → bytes_eq (get_or rows i d).0.now text ≡ false → among text (rows_of (drop i rows)) ≡ among text (rows_of (drop (i + 1) rows))
among-after text rows i d h e =
    ap (λ left. among text (rows_of left)) (drop-cons rows i d h)
    ∙ among-past text (get_or rows i d).0.now (get_or rows i d).1 (rows_of (drop (suc i) rows)) e
    ∙ ap (λ n. among text (rows_of (drop n rows))) (sym (add-one i))

-- no row is left
pub among-none : (text : List ℕ) (rows : List (Bor (List ℕ) × Mnemonic)) (i : ℕ) → length rows ≤ i → among text (rows_of (drop i rows)) ≡ None
among-none text rows i h = ap (λ left. among text (rows_of left)) (drop_all i rows h) ∙ among-empty text

-- ---- each mnemonic of the table has the fields of an instruction

abbrev AllFit : List (List ℕ × Mnemonic) → Type 0
AllFit [] = Unit {0}
AllFit (row ∷ rows) = MnemonicFits row.1 × AllFit rows

fits-here : (b : Bool) (m : Mnemonic) (o : Option Mnemonic) → MnemonicFits m → IfSome o MnemonicFits → IfSome (if b then Some m else o) MnemonicFits
fits-here true m o h k = h
fits-here false m o h k = k

among-fits : (text : List ℕ) (rows : List (List ℕ × Mnemonic)) → AllFit rows → IfSome (among text rows) MnemonicFits
unfolding among
among-fits text [] h = tt
among-fits text (row ∷ rows) h = fits-here (bytes_eq row.0 text) row.1 (among text rows) h.0 (among-fits text rows h.1)

all-fit : AllFit mnemonics
all-fit = search rules

pub named-fits : (text : List ℕ) → IfSome (mnemonic_of text) MnemonicFits
named-fits text = among-fits text mnemonics all-fit

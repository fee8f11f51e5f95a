-- The names of registers: the numbered ones, and those of the RISC-V calling convention (the manual's "RISC-V Assembly
-- Programmer's Handbook").
use Rattle.std.specs.Prelude.{ℕ, List, [], ◌∷◌, Option, Some, if◌then◌else◌, position, codes}
use Rattle.std.specs.Option.{option_or}
use Rattle.std.specs.Str.{bytes_eq}

-- the names by number, x0 first
abbrev pub numbered_names : List (List ℕ)
numbered_names =
    codes "x0" ∷ codes "x1" ∷ codes "x2" ∷ codes "x3" ∷ codes "x4" ∷ codes "x5" ∷ codes "x6" ∷ codes "x7"
    ∷ codes "x8" ∷ codes "x9" ∷ codes "x10" ∷ codes "x11" ∷ codes "x12" ∷ codes "x13" ∷ codes "x14" ∷ codes "x15"
    ∷ codes "x16" ∷ codes "x17" ∷ codes "x18" ∷ codes "x19" ∷ codes "x20" ∷ codes "x21" ∷ codes "x22" ∷ codes "x23"
    ∷ codes "x24" ∷ codes "x25" ∷ codes "x26" ∷ codes "x27" ∷ codes "x28" ∷ codes "x29" ∷ codes "x30" ∷ codes "x31"
    ∷ []

-- the names by use, in the order of the registers
abbrev pub convention_names : List (List ℕ)
convention_names =
    codes "zero" ∷ codes "ra" ∷ codes "sp" ∷ codes "gp" ∷ codes "tp" ∷ codes "t0" ∷ codes "t1" ∷ codes "t2"
    ∷ codes "s0" ∷ codes "s1" ∷ codes "a0" ∷ codes "a1" ∷ codes "a2" ∷ codes "a3" ∷ codes "a4" ∷ codes "a5"
    ∷ codes "a6" ∷ codes "a7" ∷ codes "s2" ∷ codes "s3" ∷ codes "s4" ∷ codes "s5" ∷ codes "s6" ∷ codes "s7"
    ∷ codes "s8" ∷ codes "s9" ∷ codes "s10" ∷ codes "s11" ∷ codes "t3" ∷ codes "t4" ∷ codes "t5" ∷ codes "t6"
    ∷ []

-- the place of the text among the names
abbrev pub place_among : List (List ℕ) → List ℕ → Option ℕ
place_among names text = position (λ name. bytes_eq name text) names

-- the number of the register that the text names: its place among the numbered names, or among those by use; fp is s0
unfoldable pub register_of : List ℕ → Option ℕ
register_of text =
    if bytes_eq text (codes "fp") then Some 8
    else option_or (place_among numbered_names text) (place_among convention_names text)

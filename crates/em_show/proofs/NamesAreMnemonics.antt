-- Each mnemonic that is written is a token, and names what it is written for.
use Rattle.std.proofs.Common.{◌≡◌, ℕ, zero, suc, ◌<◌, Bool, true, false, List, Some, refl, arith, codes}
use Rattle.std.proofs.lemmas.Bool.Decides.{nat_tests}
use Rattle.std.specs.Bool.{OnTrue}
use Rattle.std.specs.Prelude.{IsTrue, nat_eq, slice_index, [], ◌∷◌}
use Rattle.em_isa.specs.Encoding.{is_one_of}
use Rattle.em_asm_read.specs.declared.mnemonics.Mnemonic.{Mnemonic}
use Rattle.em_asm_read.specs.declared.mnemonics.Mnemonic.TheVariants.{Operation, Immediate, Load, Store, Branch, Jal, Jalr, Lui, Auipc, Fence, Ecall, Ebreak, Code}
use Rattle.em_asm_read.specs.Mnemonics.{among, mnemonic_of}
use Rattle.em_show.specs.Show.{branch_names, immediate_name, load_names, name_at, operation_name, store_names}
use Rattle.em_show.proofs.TokensArePlain.{is_token}

-- the first byte is no percent sign
abbrev pub IsPlainFirst : List ℕ → Type 0
IsPlainFirst text = nat_eq (slice_index text 0) 37 ≡ false

-- the name is a token that stands for the mnemonic, and begins with no percent sign
abbrev pub IsNamed : List ℕ → Mnemonic → Type 0
IsNamed name mnemonic = (is_token name ≡ true) × (mnemonic_of name ≡ Some mnemonic) × IsPlainFirst name

-- operations on registers
pub operation-named : (op : ℕ) (alt : Bool) → op < 8 → OnTrue alt (IsTrue (is_one_of op (0 ∷ 5 ∷ []))) → IsNamed (operation_name op alt) (Operation op alt)
unfolding among
operation-named zero false h k = (refl, refl, refl)
operation-named zero true h k = (refl, refl, refl)
operation-named (suc zero) false h k = (refl, refl, refl)
operation-named (suc zero) true h k = absurd (cc)
operation-named (suc (suc zero)) false h k = (refl, refl, refl)
operation-named (suc (suc zero)) true h k = absurd (cc)
operation-named (suc (suc (suc zero))) false h k = (refl, refl, refl)
operation-named (suc (suc (suc zero))) true h k = absurd (cc)
operation-named (suc (suc (suc (suc zero)))) false h k = (refl, refl, refl)
operation-named (suc (suc (suc (suc zero)))) true h k = absurd (cc)
operation-named (suc (suc (suc (suc (suc zero))))) false h k = (refl, refl, refl)
operation-named (suc (suc (suc (suc (suc zero))))) true h k = (refl, refl, refl)
operation-named (suc (suc (suc (suc (suc (suc zero)))))) false h k = (refl, refl, refl)
operation-named (suc (suc (suc (suc (suc (suc zero)))))) true h k = absurd (cc)
operation-named (suc (suc (suc (suc (suc (suc (suc zero))))))) false h k = (refl, refl, refl)
operation-named (suc (suc (suc (suc (suc (suc (suc zero))))))) true h k = absurd (cc)
operation-named (suc (suc (suc (suc (suc (suc (suc (suc op)))))))) alt h k = absurd (omega arith)

-- operations with an immediate
pub immediate-named : (op : ℕ) (alt : Bool) → op < 8 → OnTrue alt (op ≡ 5) → IsNamed (immediate_name op alt) (Immediate op alt)
unfolding among
immediate-named zero false h k = (refl, refl, refl)
immediate-named zero true h k = absurd (omega (arith, k))
immediate-named (suc zero) false h k = (refl, refl, refl)
immediate-named (suc zero) true h k = absurd (omega (arith, k))
immediate-named (suc (suc zero)) false h k = (refl, refl, refl)
immediate-named (suc (suc zero)) true h k = absurd (omega (arith, k))
immediate-named (suc (suc (suc zero))) false h k = (refl, refl, refl)
immediate-named (suc (suc (suc zero))) true h k = absurd (omega (arith, k))
immediate-named (suc (suc (suc (suc zero)))) false h k = (refl, refl, refl)
immediate-named (suc (suc (suc (suc zero)))) true h k = absurd (omega (arith, k))
immediate-named (suc (suc (suc (suc (suc zero))))) false h k = (refl, refl, refl)
immediate-named (suc (suc (suc (suc (suc zero))))) true h k = (refl, refl, refl)
immediate-named (suc (suc (suc (suc (suc (suc zero)))))) false h k = (refl, refl, refl)
immediate-named (suc (suc (suc (suc (suc (suc zero)))))) true h k = absurd (omega (arith, k))
immediate-named (suc (suc (suc (suc (suc (suc (suc zero))))))) false h k = (refl, refl, refl)
immediate-named (suc (suc (suc (suc (suc (suc (suc zero))))))) true h k = absurd (omega (arith, k))
immediate-named (suc (suc (suc (suc (suc (suc (suc (suc op)))))))) alt h k = absurd (omega arith)

-- branches
pub branch-named : (op : ℕ) → IsTrue (is_one_of op (0 ∷ 1 ∷ 4 ∷ 5 ∷ 6 ∷ 7 ∷ [])) → IsNamed (name_at branch_names op) (Branch op)
unfolding among
branch-named zero h = (refl, refl, refl)
branch-named (suc zero) h = (refl, refl, refl)
branch-named (suc (suc zero)) h = absurd (cc)
branch-named (suc (suc (suc zero))) h = absurd (cc)
branch-named (suc (suc (suc (suc zero)))) h = (refl, refl, refl)
branch-named (suc (suc (suc (suc (suc zero))))) h = (refl, refl, refl)
branch-named (suc (suc (suc (suc (suc (suc zero)))))) h = (refl, refl, refl)
branch-named (suc (suc (suc (suc (suc (suc (suc zero))))))) h = (refl, refl, refl)
branch-named (suc (suc (suc (suc (suc (suc (suc (suc op)))))))) h = absurd (grind (arith, nat_tests, h))

-- loads
pub load-named : (op : ℕ) → IsTrue (is_one_of op (0 ∷ 1 ∷ 2 ∷ 4 ∷ 5 ∷ [])) → IsNamed (name_at load_names op) (Load op)
unfolding among
load-named zero h = (refl, refl, refl)
load-named (suc zero) h = (refl, refl, refl)
load-named (suc (suc zero)) h = (refl, refl, refl)
load-named (suc (suc (suc zero))) h = absurd (cc)
load-named (suc (suc (suc (suc zero)))) h = (refl, refl, refl)
load-named (suc (suc (suc (suc (suc zero))))) h = (refl, refl, refl)
load-named (suc (suc (suc (suc (suc (suc op)))))) h = absurd (grind (arith, nat_tests, h))

-- stores
pub store-named : (op : ℕ) → IsTrue (is_one_of op (0 ∷ 1 ∷ 2 ∷ [])) → IsNamed (name_at store_names op) (Store op)
unfolding among
store-named zero h = (refl, refl, refl)
store-named (suc zero) h = (refl, refl, refl)
store-named (suc (suc zero)) h = (refl, refl, refl)
store-named (suc (suc (suc op))) h = absurd (grind (arith, nat_tests, h))

-- the mnemonics that stand alone in their group
pub jal-named : IsNamed (codes "jal") Jal
unfolding among
jal-named = (refl, refl, refl)

pub jalr-named : IsNamed (codes "jalr") Jalr
unfolding among
jalr-named = (refl, refl, refl)

pub lui-named : IsNamed (codes "lui") Lui
unfolding among
lui-named = (refl, refl, refl)

pub auipc-named : IsNamed (codes "auipc") Auipc
unfolding among
auipc-named = (refl, refl, refl)

pub fence-named : IsNamed (codes "fence") Fence
unfolding among
fence-named = (refl, refl, refl)

pub ecall-named : IsNamed (codes "ecall") Ecall
unfolding among
ecall-named = (refl, refl, refl)

pub ebreak-named : IsNamed (codes "ebreak") Ebreak
unfolding among
ebreak-named = (refl, refl, refl)

pub code-named : IsNamed (codes ".code") Code
unfolding among
code-named = (refl, refl, refl)

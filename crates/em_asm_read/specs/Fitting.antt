-- What a statement's parts are within, so that each instruction that comes of it is one of the manual's.
use Rattle.std.specs.Prelude.{◌≡◌, ℕ, ◌<◌, ◌^◌, ◌%◌, ℤ, ◌≤ℤ◌, unsigned_abs, IsTrue, ⊤, [], ◌∷◌}
use Rattle.std.specs.Bool.{OnTrue}
use Rattle.em_isa.specs.Encoding.{Fits, IsRegister, IsOffset, is_one_of}
use Rattle.em_asm_read.specs.declared.items.Item.{Item}
use Rattle.em_asm_read.specs.declared.items.Item.TheVariants.{Nothing, One, Branch, Jal, Li, Wait, Word, Raw}
use Rattle.em_asm_read.specs.declared.items.Line.{Line}
use Rattle.em_asm_read.specs.declared.items.Target.{Target}
use Rattle.em_asm_read.specs.declared.items.Target.TheVariants.{Label, Offset}
use Rattle.em_asm_read.specs.declared.mnemonics.Mnemonic.{Mnemonic}
use Rattle.em_asm_read.specs.declared.mnemonics.Mnemonic.TheVariants.{Operation, Immediate, Load, Store, Branch as BranchIf}

-- an offset is one that the instruction may have
abbrev pub TargetFits : ℕ → Target → Type 0
TargetFits half (Label name) = ⊤
TargetFits half (Offset offset) = IsOffset half offset

-- an offset is even, at least low and at most high
abbrev pub IsAimed : ℤ → ℤ → Target → Type 0
IsAimed low high (Label name) = ⊤
IsAimed low high (Offset offset) = (low ≤ℤ offset) × (offset ≤ℤ high) × (unsigned_abs offset % 2 ≡ 0)

-- the instruction is one of the manual's, and so is each that comes of a branch or a jump with an offset in range; words
-- have 32 bits
abbrev pub ItemFits : Item → Type 0
ItemFits Nothing = ⊤
ItemFits (One instruction) = Fits instruction
ItemFits (Branch op rs1 rs2 target) =
    IsTrue (is_one_of op (0 ∷ 1 ∷ 4 ∷ 5 ∷ 6 ∷ 7 ∷ [])) × IsRegister rs1 × IsRegister rs2 × TargetFits 4096 target
ItemFits (Jal rd target) = IsRegister rd × TargetFits 1048576 target
ItemFits (Li rd value) = IsRegister rd × (value < 2 ^ 32)
ItemFits (Wait hint) = ⊤
ItemFits (Word word) = word < 2 ^ 32
ItemFits (Raw word) = word < 2 ^ 32

-- what a line says fits
abbrev pub LineFits : Line → Type 0
LineFits line = ItemFits line.item

-- the fields of a mnemonic are those of an instruction
abbrev pub MnemonicFits : Mnemonic → Type 0
MnemonicFits (Operation op alt) = (op < 8) × OnTrue alt (IsTrue (is_one_of op (0 ∷ 5 ∷ [])))
MnemonicFits (Immediate op alt) = (op < 8) × OnTrue alt (op ≡ 5)
MnemonicFits (Load op) = IsTrue (is_one_of op (0 ∷ 1 ∷ 2 ∷ 4 ∷ 5 ∷ []))
MnemonicFits (Store op) = IsTrue (is_one_of op (0 ∷ 1 ∷ 2 ∷ []))
MnemonicFits (BranchIf op) = IsTrue (is_one_of op (0 ∷ 1 ∷ 4 ∷ 5 ∷ 6 ∷ 7 ∷ []))
MnemonicFits _ = ⊤

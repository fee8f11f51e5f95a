-- The outcome of an instruction by its operands, and which effect it has where it writes a value or none.
use Rattle.std.proofs.Common.{◌≡◌, ◌≢◌, ℕ, ℤ, Some, None, refl, sym, ap, ◌∙◌}
use Rattle.em_isa.specs.declared.instructions.Instr.{Instr}
use Rattle.em_isa.specs.declared.instructions.Instr.TheVariants.{Lui, Auipc, Jal, Jalr, Branch, Load, Store, OpImm, Op, Fence, Ecall, Ebreak}
use Rattle.em_hart.specs.Hart.{Registers, Memory, register}
use Rattle.em_hart.specs.Effect.{writes, passes}
use Rattle.em_hart.specs.Instruction.{effect_outcome, value_of}
use Rattle.em_hart.specs.Decoded.{exec_instr, effect_of, rd_of, rs1_of, rs2_of}

-- the outcome of an instruction, with what its registers were found to be and to hold
pub by_operands : (i j : Instr) (r : Registers) (o m : Memory) (d a b : ℕ) → i ≡ j → d ≡ rd_of i → a ≡ register r (rs1_of i) → b ≡ register r (rs2_of i)
    → exec_instr i r o m ≡ effect_outcome (effect_of j r.pc a b) d r o m
by_operands i j r o m d a b e ed ea eb =
    ap (λ (x : ℕ). effect_outcome (effect_of i r.pc x (register r (rs2_of i))) (rd_of i) r o m) (sym ea)
    ∙ ap (λ (x : ℕ). effect_outcome (effect_of i r.pc a x) (rd_of i) r o m) (sym eb)
    ∙ ap (λ (x : ℕ). effect_outcome (effect_of i r.pc a b) x r o m) (sym ed)
    ∙ ap (λ (x : Instr). effect_outcome (effect_of x r.pc a b) d r o m) e

-- an instruction with a value does no more than write it, but for jal
pub only_writes : (i : Instr) (pc a b v : ℕ) → ((rd : ℕ) (offset : ℤ) → i ≢ Jal rd offset) → value_of (effect_of i pc a b) ≡ Some v
    → effect_of i pc a b ≡ writes v
unfolding value_of
only_writes (Lui rd imm) pc a b v n h = cc
only_writes (Auipc rd imm) pc a b v n h = cc
only_writes (Jal rd offset) pc a b v n h = absurd (n rd offset refl)
only_writes (Jalr rd rs1 imm) pc a b v n h = absurd (cc)
only_writes (Branch op rs1 rs2 offset) pc a b v n h = absurd (cc)
only_writes (Load op rd rs1 imm) pc a b v n h = absurd (cc)
only_writes (Store op rs1 rs2 imm) pc a b v n h = absurd (cc)
only_writes (OpImm op alt rd rs1 imm) pc a b v n h = cc
only_writes (Op op alt rd rs1 rs2) pc a b v n h = cc
only_writes (Fence rd rs1 imm) pc a b v n h = absurd (cc)
only_writes Ecall pc a b v n h = absurd (cc)
only_writes Ebreak pc a b v n h = absurd (cc)

-- an instruction without a value that is none of these is a fence
pub only_passes : (i : Instr) (pc a b : ℕ)
    → ((rd rs1 : ℕ) (imm : ℤ) → i ≢ Jalr rd rs1 imm)
    → ((op rs1 rs2 : ℕ) (offset : ℤ) → i ≢ Branch op rs1 rs2 offset)
    → ((op rd rs1 : ℕ) (imm : ℤ) → i ≢ Load op rd rs1 imm)
    → ((op rs1 rs2 : ℕ) (imm : ℤ) → i ≢ Store op rs1 rs2 imm)
    → i ≢ Ecall → i ≢ Ebreak → value_of (effect_of i pc a b) ≡ None → effect_of i pc a b ≡ passes
unfolding value_of
only_passes (Lui rd imm) pc a b j c l s e k h = absurd (cc)
only_passes (Auipc rd imm) pc a b j c l s e k h = absurd (cc)
only_passes (Jal rd offset) pc a b j c l s e k h = absurd (cc)
only_passes (Jalr rd rs1 imm) pc a b j c l s e k h = absurd (j rd rs1 imm refl)
only_passes (Branch op rs1 rs2 offset) pc a b j c l s e k h = absurd (c op rs1 rs2 offset refl)
only_passes (Load op rd rs1 imm) pc a b j c l s e k h = absurd (l op rd rs1 imm refl)
only_passes (Store op rs1 rs2 imm) pc a b j c l s e k h = absurd (s op rs1 rs2 imm refl)
only_passes (OpImm op alt rd rs1 imm) pc a b j c l s e k h = absurd (cc)
only_passes (Op op alt rd rs1 rs2) pc a b j c l s e k h = absurd (cc)
only_passes (Fence rd rs1 imm) pc a b j c l s e k h = refl
only_passes Ecall pc a b j c l s e k h = absurd (e refl)
only_passes Ebreak pc a b j c l s e k h = absurd (k refl)

-- The hint computed, way by way; the proofs show that it is what all ways agree on. And what an instruction does, by its fields as the
-- code has them. These are used inside the crate alone.
use Rattle.std.specs.Prelude.{ℕ, zero, suc, Bool, true, ◌&&◌, is_some, nat_eq, List, Option, Some, None, if◌then◌else◌}
use Rattle.em_base.specs.declared.ids.SemId.{SemId}
use Rattle.em_isa.specs.declared.instructions.Instr.{Instr}
use Rattle.em_isa.specs.declared.instructions.Instr.TheVariants.{OpImm, Op}
use Rattle.em_hart.specs.Decoded.{effect_of, rd_of, rs1_of, rs2_of}
use Rattle.em_hart.specs.Effect.{Effect}
use Rattle.em_scan.specs.declared.next.Next.{Next}
use Rattle.em_scan.specs.declared.next.Next.TheVariants.{Takes, Stops, Goes, Forks}
use Rattle.em_scan.specs.Known.{Known, known_of}
use Rattle.em_scan.specs.Private.{learned_by, next_by, value_known}

-- what both say
abbrev pub agreed : Option SemId → Option SemId → Option SemId
agreed (Some a) (Some b) = if nat_eq a.0 b.0 then Some a else None
agreed (Some a) None = None
agreed None b = None

abbrev pub taken_at : Next → Option SemId
taken_at (Takes s) = Some s
taken_at Stops = None
taken_at (Goes y) = None
taken_at (Forks y z) = None

-- what all ways say, by what comes next and by what the ways from there say with so many branches left
abbrev pub hint_after : Next → ℕ → (ℕ → ℕ → Option SemId) → Option SemId
hint_after (Takes s) most hint = Some s
hint_after Stops most hint = None
hint_after (Goes y) most hint = hint most y
hint_after (Forks y z) zero hint = None
hint_after (Forks y z) (suc most) hint = agreed (hint most y) (hint most z)

-- what all ways say, with so many members and branches left
abbrev pub hint_from : (ℕ → Known → Next) → (ℕ → Known → Known) → ℕ → ℕ → ℕ → Known → Option SemId
hint_from next learned zero = λ most x known. taken_at (next x known)
hint_from next learned (suc left) = λ most x known.
    hint_after (next x known) most (λ most y. hint_from next learned left most y (learned x known))

-- ---- instructions

-- the effect of an instruction at x
abbrev pub effect_at : Known → ℕ → Instr → Effect
effect_at known x i = effect_of i x (value_known known (rs1_of i)) (value_known known (rs2_of i))

-- the registers from which an instruction computes the value that it writes are known
abbrev pub are_known : Known → Instr → Bool
are_known known (Op op alt rd rs1 rs2) = is_some (known_of known rs1) && is_some (known_of known rs2)
are_known known (OpImm op alt rd rs1 imm) = is_some (known_of known rs1)
are_known known _ = true

-- what comes after an instruction at x
abbrev pub next_of : List ℕ → ℕ → ℕ → Known → ℕ → Instr → Next
next_of code sems own known x i = next_by code sems own known x (known_of known (rs1_of i)) (effect_at known x i)

-- what is known after an instruction at x
abbrev pub learned_of : Known → ℕ → Instr → Known
learned_of known x i = learned_by (are_known known i) known (rd_of i) (effect_at known x i)

-- What a word is in a private walk is what the instruction is whose word it is.
use Rattle.std.proofs.Common.{◌≡◌, ℕ, List, refl, sym, ap, ◌∙◌, arith}
use Rattle.em_isa.specs.declared.instructions.Instr.{Instr}
use Rattle.em_isa.specs.declared.instructions.Instr.TheVariants.{Lui, Auipc, Jal, Jalr, Branch, Load, Store, OpImm, Op, Fence, Ecall, Ebreak}
use Rattle.em_isa.specs.Encoding.{Fits, word_of, twos_complement}
use Rattle.em_hart.specs.Fields.{rs1, rs2}
use Rattle.em_hart.specs.InstructionTable.{mnemonic}
use Rattle.em_hart.specs.Effect.{loads, sum}
use Rattle.em_hart.specs.Decoded.{effect_of, is_signed, modulo, width_of}
use Rattle.em_hart.specs.Widths.{bytes_in}
use Rattle.em_hart.proofs.Formats.{i_rs1}
use Rattle.em_hart.proofs.InstructionsAreListed.{is_named, load_below}
use Rattle.em_scan.specs.declared.next.Next.{Next}
use Rattle.em_scan.specs.Known.{Known, known_of}
use Rattle.em_scan.specs.Private.{next_by, next_of_word, value_known}
use Rattle.em_scan.specs.Computed.{next_of}

-- ---- what comes next

-- a load alone asks what its fields name
next_by_fields : (code : List ℕ) (sems own : ℕ) (known : Known) (x : ℕ) (i : Instr) → Fits i
    → let w = word_of i in
    next_by code sems own known x (known_of known (rs1 w)) (effect_of i x (value_known known (rs1 w)) (value_known known (rs2 w)))
    ≡ next_of code sems own known x i
unfolding next_by
next_by_fields code sems own known x (Lui d imm) h = refl
next_by_fields code sems own known x (Auipc d imm) h = refl
next_by_fields code sems own known x (Jal d z) h = refl
next_by_fields code sems own known x (Jalr d s imm) h = refl
next_by_fields code sems own known x (Branch op s t z) h = refl
next_by_fields code sems own known x (Load op d s imm) h =
    let load : ℕ → Next = λ r. next_by code sems own known x (known_of known r) (loads (is_signed op) (bytes_in (width_of op)) (sum (value_known known r) (modulo imm))) in
    ap load (i_rs1 (twos_complement 12 imm) s op d 0b0000011 (omega arith) h.1 (load_below op h.0) h.2)
next_by_fields code sems own known x (Store op s t imm) h = refl
next_by_fields code sems own known x (OpImm op alt d s imm) h = refl
next_by_fields code sems own known x (Op op alt d s t) h = refl
next_by_fields code sems own known x (Fence d s imm) h = refl
next_by_fields code sems own known x Ecall h = refl
next_by_fields code sems own known x Ebreak h = refl

-- what comes after the word of an instruction
pub next_of_instruction : (code : List ℕ) (sems own : ℕ) (known : Known) (x : ℕ) (i : Instr) → Fits i → (w : ℕ) → word_of i ≡ w
    → next_of_word code sems own known x w (mnemonic w) ≡ next_of code sems own known x i
unfolding next_of_word
next_of_instruction code sems own known x i h w e =
    let n = is_named i h in
    let v = word_of i in
    ap (λ (u : ℕ). next_of_word code sems own known x u (mnemonic u)) (sym e)
    ∙ ap (next_of_word code sems own known x v) n.listed
    ∙ ap (next_by code sems own known x (known_of known (rs1 v))) (n.does x (value_known known (rs1 v)) (value_known known (rs2 v)))
    ∙ next_by_fields code sems own known x i h

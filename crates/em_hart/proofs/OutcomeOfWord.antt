-- The outcome of a word, and the value that it writes, by the instruction that it is the word of.
use Rattle.std.proofs.Common.{◌≡◌, ℕ, ◌+◌, ◌*◌, ◌/◌, ◌%◌, ◌^◌, Option, refl, sym, ap, ◌∙◌, arith}
use Rattle.em_isa.specs.declared.instructions.Instr.{Instr}
use Rattle.em_isa.specs.declared.instructions.Instr.TheVariants.{Lui, Auipc, Jal, Jalr, Branch, Load, Store, OpImm, Op, Fence, Ecall, Ebreak}
use Rattle.em_isa.specs.Encoding.{Fits, word_of, twos_complement, operation_kind, shift_kind}
use Rattle.em_hart.specs.Hart.{Registers, Memory, register}
use Rattle.em_hart.specs.Fields.{rd, rs1, rs2}
use Rattle.em_hart.specs.InstructionTable.{Mnemonic, mnemonic}
use Rattle.em_hart.specs.Effect.{Effect, branches, loads, stores, writes, jumps, jumps_by_register, sum, even}
use Rattle.em_hart.specs.Instruction.{effect_outcome, mnemonic_outcome, written_value, mnemonic_value, value_of}
use Rattle.em_hart.specs.Decoded.{exec_instr, effect_of, operation_value, branch_condition, modulo, is_signed, width_of}
use Rattle.em_hart.specs.Widths.{bytes_in}
use Rattle.em_hart.proofs.Formats.{r_rd, r_rs1, r_rs2, i_rd, i_rs1, b_is_r, u_rd, j_is_u}
use Rattle.em_hart.proofs.InstructionsAreListed.{is_named, load_below, store_below, branch_below}

-- the registers that the fields of the word name are the instruction's
by_fields : (i : Instr) → Fits i → (r : Registers) (own shared : Memory)
    → effect_outcome (effect_of i r.pc (register r (rs1 (word_of i))) (register r (rs2 (word_of i)))) (rd (word_of i)) r own shared ≡ exec_instr i r own shared
unfolding effect_outcome
by_fields (Lui d imm) h r own shared = ap (λ (x : ℕ). effect_outcome (writes (imm * 2 ^ 12)) x r own shared) (u_rd imm d 0b0110111 (omega arith) h.0)
by_fields (Auipc d imm) h r own shared = ap (λ (x : ℕ). effect_outcome (writes (sum r.pc (imm * 2 ^ 12))) x r own shared) (u_rd imm d 0b0010111 (omega arith) h.0)
by_fields (Jal d z) h r own shared =
    ap (λ (x : ℕ). effect_outcome (jumps (sum r.pc 4) (sum r.pc (modulo z))) x r own shared) (ap rd (j_is_u (twos_complement 21 z) d 0b1101111) ∙ u_rd _ d 0b1101111 (omega arith) h.0)
by_fields (Jalr d s imm) h r own shared =
    let n = twos_complement 12 imm in
    ap (λ (x : ℕ). effect_outcome (jumps_by_register (sum r.pc 4) (even (sum (register r x) (modulo imm)))) (rd (word_of (Jalr d s imm))) r own shared) (i_rs1 n s 0 d 0b1100111 (omega arith) h.0 (omega arith) h.1)
    ∙ ap (λ (x : ℕ). effect_outcome (jumps_by_register (sum r.pc 4) (even (sum (register r s) (modulo imm)))) x r own shared) (i_rd n s 0 d 0b1100111 (omega arith) h.0)
by_fields (Branch op s t z) h r own shared =
    let n = twos_complement 13 z in
    let g = n / 4096 % 2 * 64 + n / 32 % 64 in
    let d = n / 2 % 16 * 2 + n / 2048 % 2 in
    let same = b_is_r n t s op 0b1100011 in
    let b = branch_below op h.0 in
    ap (λ (x : ℕ). effect_outcome (branches (branch_condition op (register r x) (register r (rs2 (word_of (Branch op s t z))))) (sum r.pc (modulo z))) 0 r own shared) (ap rs1 same ∙ r_rs1 g t s op d 0b1100011 (omega arith) (omega arith) b h.1)
    ∙ ap (λ (x : ℕ). effect_outcome (branches (branch_condition op (register r s) (register r x)) (sum r.pc (modulo z))) 0 r own shared) (ap rs2 same ∙ r_rs2 g t s op d 0b1100011 (omega arith) (omega arith) b h.1 h.2)
by_fields (Load op d s imm) h r own shared =
    let n = twos_complement 12 imm in
    let b = load_below op h.0 in
    ap (λ (x : ℕ). effect_outcome (loads (is_signed op) (bytes_in (width_of op)) (sum (register r x) (modulo imm))) (rd (word_of (Load op d s imm))) r own shared) (i_rs1 n s op d 0b0000011 (omega arith) h.1 b h.2)
    ∙ ap (λ (x : ℕ). effect_outcome (loads (is_signed op) (bytes_in (width_of op)) (sum (register r s) (modulo imm))) x r own shared) (i_rd n s op d 0b0000011 (omega arith) h.1)
by_fields (Store op s t imm) h r own shared =
    let n = twos_complement 12 imm in
    let b = store_below op h.0 in
    ap (λ (x : ℕ). effect_outcome (stores (bytes_in (width_of op)) (sum (register r x) (modulo imm)) (register r (rs2 (word_of (Store op s t imm))))) 0 r own shared) (r_rs1 (n / 32 % 128) t s op (n / 1 % 32) 0b0100011 (omega arith) (omega arith) b h.1)
    ∙ ap (λ (x : ℕ). effect_outcome (stores (bytes_in (width_of op)) (sum (register r s) (modulo imm)) (register r x)) 0 r own shared) (r_rs2 (n / 32 % 128) t s op (n / 1 % 32) 0b0100011 (omega arith) (omega arith) b h.1 h.2)
by_fields (OpImm op alt d s imm) h r own shared =
    let n = shift_kind alt + twos_complement 12 imm in
    ap (λ (x : ℕ). effect_outcome (writes (operation_value op alt (register r x) (modulo imm))) (rd (word_of (OpImm op alt d s imm))) r own shared) (i_rs1 n s op d 0b0010011 (omega arith) h.2 h.0 h.3)
    ∙ ap (λ (x : ℕ). effect_outcome (writes (operation_value op alt (register r s) (modulo imm))) x r own shared) (i_rd n s op d 0b0010011 (omega arith) h.2)
by_fields (Op op alt d s t) h r own shared =
    let g = operation_kind alt in
    let w = word_of (Op op alt d s t) in
    ap (λ (x : ℕ). effect_outcome (writes (operation_value op alt (register r x) (register r (rs2 w)))) (rd w) r own shared) (r_rs1 g t s op d 0b0110011 (omega arith) h.2 h.0 h.3)
    ∙ ap (λ (x : ℕ). effect_outcome (writes (operation_value op alt (register r s) (register r x))) (rd w) r own shared) (r_rs2 g t s op d 0b0110011 (omega arith) h.2 h.0 h.3 h.4)
    ∙ ap (λ (x : ℕ). effect_outcome (writes (operation_value op alt (register r s) (register r t))) x r own shared) (r_rd g t s op d 0b0110011 (omega arith) h.2)
by_fields (Fence d s imm) h r own shared = refl
by_fields Ecall h r own shared = refl
by_fields Ebreak h r own shared = refl

-- the outcome of the word of an instruction
pub outcome_of_word : (i : Instr) → Fits i → (w : ℕ) → word_of i ≡ w → (r : Registers) (own shared : Memory)
    → mnemonic_outcome (mnemonic w) w r own shared ≡ exec_instr i r own shared
unfolding mnemonic_outcome
outcome_of_word i h w e r own shared =
    let n = is_named i h in
    let v = word_of i in
    ap (λ (x : ℕ). mnemonic_outcome (mnemonic x) x r own shared) (sym e)
    ∙ ap (λ (m : Option Mnemonic). mnemonic_outcome m v r own shared) n.listed
    ∙ ap (λ (x : Effect). effect_outcome x (rd v) r own shared) (n.does r.pc (register r (rs1 v)) (register r (rs2 v)))
    ∙ by_fields i h r own shared

-- the value that the word of an instruction writes
pub value_of_word : (i : Instr) → Fits i → (pc a b : ℕ) → written_value (word_of i) pc a b ≡ value_of (effect_of i pc a b)
unfolding written_value mnemonic_value
value_of_word i h pc a b =
    let n = is_named i h in
    ap (λ (m : Option Mnemonic). mnemonic_value m (word_of i) pc a b) n.listed
    ∙ ap value_of (n.does pc a b)

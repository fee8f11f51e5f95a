-- What a word makes known is what the instruction does whose word it is.
use Rattle.std.proofs.Common.{◌≡◌, ◌*◌, ◌+◌, ◌^◌, ◌==◌, ◌&&◌, ℕ, Bool, true, if◌then◌else◌, None, is_some, refl, sym, ap, ap₂, ◌∙◌, arith}
use Rattle.em_isa.specs.declared.instructions.Instr.{Instr}
use Rattle.em_isa.specs.declared.instructions.Instr.TheVariants.{Lui, Auipc, Jal, Jalr, Branch, Load, Store, OpImm, Op, Fence, Ecall, Ebreak}
use Rattle.em_isa.specs.Encoding.{Fits, word_of, twos_complement, operation_kind, shift_kind}
use Rattle.em_hart.specs.Fields.{opcode, rd, rs1, rs2}
use Rattle.em_hart.specs.InstructionTable.{mnemonic}
use Rattle.em_hart.specs.Effect.{writes, jumps, sum}
use Rattle.em_hart.specs.Decoded.{effect_of, modulo, operation_value}
use Rattle.em_hart.proofs.Formats.{i_opcode, i_rd, i_rs1, j_is_u, r_opcode, r_rd, r_rs1, r_rs2, u_opcode, u_rd}
use Rattle.em_hart.proofs.InstructionsAreListed.{is_named}
use Rattle.em_scan.specs.Known.{Known, known_of, with_known}
use Rattle.em_scan.specs.Private.{are_sources_known, learned_by, learned_of_word, value_known}
use Rattle.em_scan.specs.Computed.{learned_of}

-- whether the sources of a word are known, by its opcode and its registers
abbrev sources : Known → ℕ → ℕ → ℕ → Bool
sources known o r s =
    if o == 0b0110011 then is_some (known_of known r) && is_some (known_of known s)
    else if o == 0b0010011 then is_some (known_of known r)
    else true

-- a value that is computed from nothing is known
written_alone : (known : Known) (w d o v : ℕ) → opcode w ≡ o → sources known o (rs1 w) (rs2 w) ≡ true → rd w ≡ d
    → learned_by (are_sources_known known w) known (rd w) (writes v) ≡ learned_by true known d (writes v)
written_alone known w d o v e f g =
    ap (λ (x : ℕ). learned_by (sources known x (rs1 w) (rs2 w)) known (rd w) (writes v)) e
    ∙ ap₂ (λ b x. learned_by b known x (writes v)) f g

learned_by_fields : (known : Known) (x : ℕ) (i : Instr) → Fits i
    → let w = word_of i in
    learned_by (are_sources_known known w) known (rd w) (effect_of i x (value_known known (rs1 w)) (value_known known (rs2 w))) ≡ learned_of known x i
unfolding learned_by
learned_by_fields known x (Lui d imm) h =
    written_alone known (word_of (Lui d imm)) d 0b0110111 (imm * 2 ^ 12) (u_opcode imm d 0b0110111 (omega arith)) refl (u_rd imm d 0b0110111 (omega arith) h.0)
learned_by_fields known x (Auipc d imm) h =
    written_alone known (word_of (Auipc d imm)) d 0b0010111 (sum x (imm * 2 ^ 12)) (u_opcode imm d 0b0010111 (omega arith)) refl (u_rd imm d 0b0010111 (omega arith) h.0)
learned_by_fields known x (Jal d z) h =
    ap (λ (r : ℕ). learned_by true known r (jumps (sum x 4) (sum x (modulo z)))) (ap rd (j_is_u (twos_complement 21 z) d 0b1101111) ∙ u_rd _ d 0b1101111 (omega arith) h.0)
learned_by_fields known x (Jalr d s imm) h = refl
learned_by_fields known x (Branch op s t z) h = refl
learned_by_fields known x (Load op d s imm) h =
    ap (λ (r : ℕ). with_known known r None) (i_rd (twos_complement 12 imm) s op d 0b0000011 (omega arith) h.1)
learned_by_fields known x (Store op s t imm) h = refl
learned_by_fields known x (OpImm op alt d s imm) h =
    let n = shift_kind alt + twos_complement 12 imm in
    let w = word_of (OpImm op alt d s imm) in
    let value : ℕ → ℕ = λ r. operation_value op alt (value_known known r) (modulo imm) in
    ap (λ (o : ℕ). learned_by (sources known o (rs1 w) (rs2 w)) known (rd w) (writes (value (rs1 w)))) (i_opcode n s op d 0b0010011 (omega arith))
    ∙ ap (λ (r : ℕ). learned_by (is_some (known_of known r)) known (rd w) (writes (value r))) (i_rs1 n s op d 0b0010011 (omega arith) h.2 h.0 h.3)
    ∙ ap (λ (r : ℕ). learned_by (is_some (known_of known s)) known r (writes (value s))) (i_rd n s op d 0b0010011 (omega arith) h.2)
learned_by_fields known x (Op op alt d s t) h =
    let g = operation_kind alt in
    let w = word_of (Op op alt d s t) in
    let value : ℕ → ℕ → ℕ = λ a b. operation_value op alt (value_known known a) (value_known known b) in
    ap (λ (o : ℕ). learned_by (sources known o (rs1 w) (rs2 w)) known (rd w) (writes (value (rs1 w) (rs2 w)))) (r_opcode g t s op d 0b0110011 (omega arith))
    ∙ ap (λ (r : ℕ). learned_by (is_some (known_of known r) && is_some (known_of known (rs2 w))) known (rd w) (writes (value r (rs2 w)))) (r_rs1 g t s op d 0b0110011 (omega arith) h.2 h.0 h.3)
    ∙ ap (λ (r : ℕ). learned_by (is_some (known_of known s) && is_some (known_of known r)) known (rd w) (writes (value s r))) (r_rs2 g t s op d 0b0110011 (omega arith) h.2 h.0 h.3 h.4)
    ∙ ap (λ (r : ℕ). learned_by (is_some (known_of known s) && is_some (known_of known t)) known r (writes (value s t))) (r_rd g t s op d 0b0110011 (omega arith) h.2)
learned_by_fields known x (Fence d s imm) h = refl
learned_by_fields known x Ecall h = refl
learned_by_fields known x Ebreak h = refl

-- what the word of an instruction makes known
pub learned_of_instruction : (known : Known) (x : ℕ) (i : Instr) → Fits i → (w : ℕ) → word_of i ≡ w
    → learned_of_word known x w (mnemonic w) ≡ learned_of known x i
unfolding learned_of_word
learned_of_instruction known x i h w e =
    let n = is_named i h in
    let v = word_of i in
    ap (λ (u : ℕ). learned_of_word known x u (mnemonic u)) (sym e)
    ∙ ap (learned_of_word known x v) n.listed
    ∙ ap (learned_by (are_sources_known known v) known (rd v)) (n.does x (value_known known (rs1 v)) (value_known known (rs2 v)))
    ∙ learned_by_fields known x i h

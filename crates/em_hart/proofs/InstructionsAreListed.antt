-- The word of each instruction that fits is listed, and the effect listed for it is the instruction's.
use Rattle.std.proofs.Common.{◌≡◌, ℕ, zero, suc, ◌+◌, ◌*◌, ◌/◌, ◌%◌, ◌<◌, Bool, true, false, ℤ, pos, negsuc, Option, Some, [], ◌∷◌, refl, sym, ap, ◌∙◌, arith}
use Rattle.std.specs.Prelude.{IsTrue}
use Rattle.std.specs.Bool.{MatchBool, OnTrue}
use Rattle.std.proofs.lemmas.Bool.{false≢true}
use Rattle.std.proofs.lemmas.Bool.Decides.{nat_tests}
use Rattle.em_hart.specs.Widths.{bytes_in}
use Rattle.em_isa.specs.declared.instructions.Instr.{Instr}
use Rattle.em_isa.specs.declared.instructions.Instr.TheVariants.{Lui, Auipc, Jal, Jalr, Branch, Load, Store, OpImm, Op, Fence, Ecall, Ebreak}
use Rattle.em_isa.specs.Encoding.{Fits, word_of, is_one_of, is_shift, IsImmediate, IsShiftAmount, IsOffset, twos_complement, operation_kind, shift_kind, i_format}
use Rattle.em_hart.specs.Fields.{opcode, funct3, funct7, shamt, imm_i, imm_s, imm_b}
use Rattle.em_hart.specs.InstructionTable.{Mnemonic, lui, auipc, jal, jalr, beq, bne, blt, bge, bltu, bgeu, lb, lh, lw, lbu, lhu, sb, sh, sw, addi, slti, sltiu, xori, ori, andi, slli, srli, srai, add, sub, sll, slt, sltu, xor, srl, sra, or, and, fence, ecall, ebreak, instruction_table, first_row, mnemonic}
use Rattle.em_hart.specs.Effect.{writes, jumps, jumps_by_register, branches, loads, stores, effect, sum, even, amount, shifted_left, shifted_right, shifted_right_signed}
use Rattle.em_hart.specs.Decoded.{operation_value, branch_condition, width_of, is_signed, effect_of}
use Rattle.em_hart.proofs.Formats.{r_opcode, r_funct3, r_funct7, i_opcode, i_funct3, i_funct7, i_shamt, i_imm, s_imm, b_is_r, b_imm, u_opcode, u_imm, j_is_u, j_imm}

-- the instruction of a word, by the instruction table, and what it does
pub record IsNamed (i : Instr) : Type 0 where
  pub name : Mnemonic
  pub listed : mnemonic (word_of i) ≡ Some name
  pub does : (pc a b : ℕ) → effect name (word_of i) pc a b ≡ effect_of i pc a b

-- a row is found by the fields
found : (w o f g : ℕ) (r : Option Mnemonic) → opcode w ≡ o → funct3 w ≡ f → funct7 w ≡ g → first_row instruction_table o f g w ≡ r → mnemonic w ≡ r
unfolding mnemonic
found w o f g r p q s e =
    ap (λ (x : ℕ). first_row instruction_table x (funct3 w) (funct7 w) w) p
    ∙ ap (λ (x : ℕ). first_row instruction_table o x (funct7 w) w) q
    ∙ ap (λ (x : ℕ). first_row instruction_table o f x w) s ∙ e

-- a fact about each number below 8
by_eight : (P : ℕ → Type 0) → P 0 → P 1 → P 2 → P 3 → P 4 → P 5 → P 6 → P 7 → (n : ℕ) → n < 8 → P n
by_eight P a b c d e f g h zero l = a
by_eight P a b c d e f g h (suc zero) l = b
by_eight P a b c d e f g h (suc (suc zero)) l = c
by_eight P a b c d e f g h (suc (suc (suc zero))) l = d
by_eight P a b c d e f g h (suc (suc (suc (suc zero)))) l = e
by_eight P a b c d e f g h (suc (suc (suc (suc (suc zero))))) l = f
by_eight P a b c d e f g h (suc (suc (suc (suc (suc (suc zero)))))) l = g
by_eight P a b c d e f g h (suc (suc (suc (suc (suc (suc (suc zero))))))) l = h
by_eight P a b c d e f g h (suc (suc (suc (suc (suc (suc (suc (suc n)))))))) l = absurd (omega arith)

-- ---- OP

op_row : (name : Mnemonic) (op : ℕ) (alt : Bool) (d s t : ℕ) → d < 32 → s < 32 → t < 32 → op < 8
    → ((w : ℕ) → first_row instruction_table 0b0110011 op (operation_kind alt) w ≡ Some name)
    → ((w pc a b : ℕ) → effect name w pc a b ≡ writes (operation_value op alt a b))
    → operation_kind alt < 128 → IsNamed (Op op alt d s t)
op_row name op alt d s t k l m h e f g = record {
  name = name;
  listed = found (word_of (Op op alt d s t)) _ _ _ (Some name) (r_opcode (operation_kind alt) t s op d 0b0110011 (omega arith)) (r_funct3 (operation_kind alt) t s op d 0b0110011 (omega arith) k h) (r_funct7 (operation_kind alt) t s op d 0b0110011 (omega arith) k h l m g) (e _);
  does = λ pc a b. f _ pc a b;
}

abbrev OpNamed : ℕ → Type 0
OpNamed op = (alt : Bool) (d s t : ℕ) → OnTrue alt (IsTrue (is_one_of op (0 ∷ 5 ∷ []))) → d < 32 → s < 32 → t < 32 → IsNamed (Op op alt d s t)

op_add : OpNamed 0
unfolding first_row instruction_table effect operation_value
op_add false d s t h k l m = op_row add 0 false d s t k l m (omega arith) (λ w. refl) (λ w pc a b. refl) (omega arith)
op_add true d s t h k l m = op_row sub 0 true d s t k l m (omega arith) (λ w. refl) (λ w pc a b. refl) (omega arith)

op_sll : OpNamed 1
unfolding first_row instruction_table effect operation_value
op_sll false d s t h k l m = op_row sll 1 false d s t k l m (omega arith) (λ w. refl) (λ w pc a b. refl) (omega arith)
op_sll true d s t h k l m = absurd (false≢true h)

op_slt : OpNamed 2
unfolding first_row instruction_table effect operation_value
op_slt false d s t h k l m = op_row slt 2 false d s t k l m (omega arith) (λ w. refl) (λ w pc a b. refl) (omega arith)
op_slt true d s t h k l m = absurd (false≢true h)

op_sltu : OpNamed 3
unfolding first_row instruction_table effect operation_value
op_sltu false d s t h k l m = op_row sltu 3 false d s t k l m (omega arith) (λ w. refl) (λ w pc a b. refl) (omega arith)
op_sltu true d s t h k l m = absurd (false≢true h)

op_xor : OpNamed 4
unfolding first_row instruction_table effect operation_value
op_xor false d s t h k l m = op_row xor 4 false d s t k l m (omega arith) (λ w. refl) (λ w pc a b. refl) (omega arith)
op_xor true d s t h k l m = absurd (false≢true h)

op_srl : OpNamed 5
unfolding first_row instruction_table effect operation_value
op_srl false d s t h k l m = op_row srl 5 false d s t k l m (omega arith) (λ w. refl) (λ w pc a b. refl) (omega arith)
op_srl true d s t h k l m = op_row sra 5 true d s t k l m (omega arith) (λ w. refl) (λ w pc a b. refl) (omega arith)

op_or : OpNamed 6
unfolding first_row instruction_table effect operation_value
op_or false d s t h k l m = op_row or 6 false d s t k l m (omega arith) (λ w. refl) (λ w pc a b. refl) (omega arith)
op_or true d s t h k l m = absurd (false≢true h)

op_and : OpNamed 7
unfolding first_row instruction_table effect operation_value
op_and false d s t h k l m = op_row and 7 false d s t k l m (omega arith) (λ w. refl) (λ w pc a b. refl) (omega arith)
op_and true d s t h k l m = absurd (false≢true h)

op_named : (op : ℕ) → op < 8 → OpNamed op
op_named op h = by_eight OpNamed op_add op_sll op_slt op_sltu op_xor op_srl op_or op_and op h

-- ---- OP-IMM

imm_row : (name : Mnemonic) (op d s : ℕ) (imm : ℤ) → d < 32 → s < 32 → op < 8 → IsImmediate imm
    → ((g w : ℕ) → first_row instruction_table 0b0010011 op g w ≡ Some name)
    → ((w pc a b : ℕ) → effect name w pc a b ≡ writes (operation_value op false a (imm_i w)))
    → IsNamed (OpImm op false d s imm)
imm_row name op d s imm k l h i e f =
    let w = word_of (OpImm op false d s imm) in
    let n = 0 + twos_complement 12 imm in
    let z : n ≡ twos_complement 12 imm = omega arith in
    record {
      name = name;
      listed = found w _ _ _ (Some name) (i_opcode n s op d 0b0010011 (omega arith)) (i_funct3 n s op d 0b0010011 (omega arith) k h) refl (e _ _);
      does = λ pc a b. f w pc a b ∙ ap (λ (x : ℕ). writes (operation_value op false a x)) (i_imm n imm s op d 0b0010011 (omega arith) k h l z i);
    }

shift_row : (name : Mnemonic) (op g d s n : ℕ) (alt : Bool) (shift : ℕ → ℕ → ℕ) → d < 32 → s < 32 → op < 8 → n < 32 → g < 128 → shift_kind alt ≡ g * 32
    → ((w : ℕ) → first_row instruction_table 0b0010011 op g w ≡ Some name)
    → ((w pc a b : ℕ) → effect name w pc a b ≡ writes (shift a (shamt w)))
    → ((a : ℕ) → operation_value op alt a n ≡ shift a (amount n))
    → IsNamed (OpImm op alt d s (pos n))
shift_row name op g d s n alt shift k l h i j kind e f c =
    let w = word_of (OpImm op alt d s (pos n)) in
    let v = i_format (g * 32 + n) s op d 0b0010011 in
    let same : w ≡ v = ap (λ (x : ℕ). i_format (x + n) s op d 0b0010011) kind in
    let small : n ≡ amount n = omega arith in
    record {
      name = name;
      listed = found w _ _ _ (Some name) (ap opcode same ∙ i_opcode _ s op d 0b0010011 (omega arith)) (ap funct3 same ∙ i_funct3 _ s op d 0b0010011 (omega arith) k h) (ap funct7 same ∙ i_funct7 g n s op d 0b0010011 (omega arith) k h l i j) (e _);
      does = λ pc a b.
          f w pc a b ∙ ap (λ (x : ℕ). writes (shift a x)) (ap shamt same ∙ i_shamt g n s op d 0b0010011 (omega arith) k h l i j ∙ small)
          ∙ ap (λ (x : ℕ). writes x) (sym (c a));
    }

abbrev ImmNamed : ℕ → Type 0
ImmNamed op = (alt : Bool) (d s : ℕ) (imm : ℤ) → OnTrue alt (op ≡ 5) → d < 32 → s < 32 → MatchBool (is_shift op) (IsShiftAmount imm) (IsImmediate imm) → IsNamed (OpImm op alt d s imm)

imm_addi : ImmNamed 0
unfolding first_row instruction_table effect operation_value
imm_addi false d s imm h k l i = imm_row addi 0 d s imm k l (omega arith) i (λ g w. refl) (λ w pc a b. refl)
imm_addi true d s imm h k l i = absurd (omega arith)

imm_slli : ImmNamed 1
unfolding first_row instruction_table effect operation_value
imm_slli false d s (pos n) h k l i = shift_row slli 1 0 d s n false shifted_left k l (omega arith) i (omega arith) refl (λ w. refl) (λ w pc a b. refl) (λ a. refl)
imm_slli false d s (negsuc n) h k l i = absurd i
imm_slli true d s imm h k l i = absurd (omega arith)

imm_slti : ImmNamed 2
unfolding first_row instruction_table effect operation_value
imm_slti false d s imm h k l i = imm_row slti 2 d s imm k l (omega arith) i (λ g w. refl) (λ w pc a b. refl)
imm_slti true d s imm h k l i = absurd (omega arith)

imm_sltiu : ImmNamed 3
unfolding first_row instruction_table effect operation_value
imm_sltiu false d s imm h k l i = imm_row sltiu 3 d s imm k l (omega arith) i (λ g w. refl) (λ w pc a b. refl)
imm_sltiu true d s imm h k l i = absurd (omega arith)

imm_xori : ImmNamed 4
unfolding first_row instruction_table effect operation_value
imm_xori false d s imm h k l i = imm_row xori 4 d s imm k l (omega arith) i (λ g w. refl) (λ w pc a b. refl)
imm_xori true d s imm h k l i = absurd (omega arith)

imm_srli : ImmNamed 5
unfolding first_row instruction_table effect operation_value
imm_srli false d s (pos n) h k l i = shift_row srli 5 0 d s n false shifted_right k l (omega arith) i (omega arith) refl (λ w. refl) (λ w pc a b. refl) (λ a. refl)
imm_srli true d s (pos n) h k l i = shift_row srai 5 32 d s n true shifted_right_signed k l (omega arith) i (omega arith) refl (λ w. refl) (λ w pc a b. refl) (λ a. refl)
imm_srli alt d s (negsuc n) h k l i = absurd i

imm_ori : ImmNamed 6
unfolding first_row instruction_table effect operation_value
imm_ori false d s imm h k l i = imm_row ori 6 d s imm k l (omega arith) i (λ g w. refl) (λ w pc a b. refl)
imm_ori true d s imm h k l i = absurd (omega arith)

imm_andi : ImmNamed 7
unfolding first_row instruction_table effect operation_value
imm_andi false d s imm h k l i = imm_row andi 7 d s imm k l (omega arith) i (λ g w. refl) (λ w pc a b. refl)
imm_andi true d s imm h k l i = absurd (omega arith)

imm_named : (op : ℕ) → op < 8 → ImmNamed op
imm_named op h = by_eight ImmNamed imm_addi imm_slli imm_slti imm_sltiu imm_xori imm_srli imm_ori imm_andi op h

-- ---- LOAD

load_row : (name : Mnemonic) (op d s : ℕ) (imm : ℤ) → d < 32 → s < 32 → op < 8 → IsImmediate imm
    → ((g w : ℕ) → first_row instruction_table 0b0000011 op g w ≡ Some name)
    → ((w pc a b : ℕ) → effect name w pc a b ≡ loads (is_signed op) (bytes_in (width_of op)) (sum a (imm_i w)))
    → IsNamed (Load op d s imm)
load_row name op d s imm k l h i e f =
    let w = word_of (Load op d s imm) in
    let n = twos_complement 12 imm in
    record {
      name = name;
      listed = found w _ _ _ (Some name) (i_opcode n s op d 0b0000011 (omega arith)) (i_funct3 n s op d 0b0000011 (omega arith) k h) refl (e _ _);
      does = λ pc a b. f w pc a b ∙ ap (λ (x : ℕ). loads (is_signed op) (bytes_in (width_of op)) (sum a x)) (i_imm n imm s op d 0b0000011 (omega arith) k h l refl i);
    }

abbrev LoadNamed : ℕ → Type 0
LoadNamed op = (d s : ℕ) (imm : ℤ) → IsTrue (is_one_of op (0 ∷ 1 ∷ 2 ∷ 4 ∷ 5 ∷ [])) → d < 32 → s < 32 → IsImmediate imm → IsNamed (Load op d s imm)

load_lb : LoadNamed 0
unfolding first_row instruction_table effect width_of
load_lb d s imm h k l i = load_row lb 0 d s imm k l (omega arith) i (λ g w. refl) (λ w pc a b. refl)

load_lh : LoadNamed 1
unfolding first_row instruction_table effect width_of
load_lh d s imm h k l i = load_row lh 1 d s imm k l (omega arith) i (λ g w. refl) (λ w pc a b. refl)

load_lw : LoadNamed 2
unfolding first_row instruction_table effect width_of
load_lw d s imm h k l i = load_row lw 2 d s imm k l (omega arith) i (λ g w. refl) (λ w pc a b. refl)

load_lbu : LoadNamed 4
unfolding first_row instruction_table effect width_of
load_lbu d s imm h k l i = load_row lbu 4 d s imm k l (omega arith) i (λ g w. refl) (λ w pc a b. refl)

load_lhu : LoadNamed 5
unfolding first_row instruction_table effect width_of
load_lhu d s imm h k l i = load_row lhu 5 d s imm k l (omega arith) i (λ g w. refl) (λ w pc a b. refl)

no_load : (op : ℕ) → is_one_of op (0 ∷ 1 ∷ 2 ∷ 4 ∷ 5 ∷ []) ≡ false → LoadNamed op
no_load op e d s imm h k l i = absurd (false≢true (sym e ∙ h))

-- a load's funct3 is below 8
pub load_below : (op : ℕ) → IsTrue (is_one_of op (0 ∷ 1 ∷ 2 ∷ 4 ∷ 5 ∷ [])) → op < 8
load_below op h = grind (arith, nat_tests)

load_named : (op : ℕ) → op < 8 → LoadNamed op
load_named op h = by_eight LoadNamed load_lb load_lh load_lw (no_load 3 refl) load_lbu load_lhu (no_load 6 refl) (no_load 7 refl) op h

-- ---- STORE

store_row : (name : Mnemonic) (op s t : ℕ) (imm : ℤ) → s < 32 → t < 32 → op < 8 → IsImmediate imm
    → ((g w : ℕ) → first_row instruction_table 0b0100011 op g w ≡ Some name)
    → ((w pc a b : ℕ) → effect name w pc a b ≡ stores (bytes_in (width_of op)) (sum a (imm_s w)) b)
    → IsNamed (Store op s t imm)
store_row name op s t imm k l h i e f =
    let w = word_of (Store op s t imm) in
    let n = twos_complement 12 imm in
    record {
      name = name;
      listed = found w _ _ _ (Some name) (r_opcode (n / 32 % 128) t s op (n / 1 % 32) 0b0100011 (omega arith)) (r_funct3 (n / 32 % 128) t s op (n / 1 % 32) 0b0100011 (omega arith) (omega arith) h) refl (e _ _);
      does = λ pc a b. f w pc a b ∙ ap (λ (x : ℕ). stores (bytes_in (width_of op)) (sum a x) b) (s_imm imm t s op 0b0100011 (omega arith) h k l i);
    }

abbrev StoreNamed : ℕ → Type 0
StoreNamed op = (s t : ℕ) (imm : ℤ) → IsTrue (is_one_of op (0 ∷ 1 ∷ 2 ∷ [])) → s < 32 → t < 32 → IsImmediate imm → IsNamed (Store op s t imm)

store_sb : StoreNamed 0
unfolding first_row instruction_table effect width_of
store_sb s t imm h k l i = store_row sb 0 s t imm k l (omega arith) i (λ g w. refl) (λ w pc a b. refl)

store_sh : StoreNamed 1
unfolding first_row instruction_table effect width_of
store_sh s t imm h k l i = store_row sh 1 s t imm k l (omega arith) i (λ g w. refl) (λ w pc a b. refl)

store_sw : StoreNamed 2
unfolding first_row instruction_table effect width_of
store_sw s t imm h k l i = store_row sw 2 s t imm k l (omega arith) i (λ g w. refl) (λ w pc a b. refl)

no_store : (op : ℕ) → is_one_of op (0 ∷ 1 ∷ 2 ∷ []) ≡ false → StoreNamed op
no_store op e s t imm h k l i = absurd (false≢true (sym e ∙ h))

-- a store's funct3 is below 8
pub store_below : (op : ℕ) → IsTrue (is_one_of op (0 ∷ 1 ∷ 2 ∷ [])) → op < 8
store_below op h = grind (arith, nat_tests)

store_named : (op : ℕ) → op < 8 → StoreNamed op
store_named op h = by_eight StoreNamed store_sb store_sh store_sw (no_store 3 refl) (no_store 4 refl) (no_store 5 refl) (no_store 6 refl) (no_store 7 refl) op h

-- ---- BRANCH

branch_row : (name : Mnemonic) (op s t : ℕ) (z : ℤ) → s < 32 → t < 32 → op < 8 → IsOffset 4096 z
    → ((g w : ℕ) → first_row instruction_table 0b1100011 op g w ≡ Some name)
    → ((w pc a b : ℕ) → effect name w pc a b ≡ branches (branch_condition op a b) (sum pc (imm_b w)))
    → IsNamed (Branch op s t z)
branch_row name op s t z k l h i e f =
    let w = word_of (Branch op s t z) in
    let n = twos_complement 13 z in
    let g = n / 4096 % 2 * 64 + n / 32 % 64 in
    let d = n / 2 % 16 * 2 + n / 2048 % 2 in
    let same = b_is_r n t s op 0b1100011 in
    record {
      name = name;
      listed = found w _ _ _ (Some name) (ap opcode same ∙ r_opcode g t s op d 0b1100011 (omega arith)) (ap funct3 same ∙ r_funct3 g t s op d 0b1100011 (omega arith) (omega arith) h) refl (e _ _);
      does = λ pc a b. f w pc a b ∙ ap (λ (x : ℕ). branches (branch_condition op a b) (sum pc x)) (b_imm z t s op 0b1100011 (omega arith) h k l i.0 i.1);
    }

abbrev BranchNamed : ℕ → Type 0
BranchNamed op = (s t : ℕ) (z : ℤ) → IsTrue (is_one_of op (0 ∷ 1 ∷ 4 ∷ 5 ∷ 6 ∷ 7 ∷ [])) → s < 32 → t < 32 → IsOffset 4096 z → IsNamed (Branch op s t z)

branch_beq : BranchNamed 0
unfolding first_row instruction_table effect branch_condition
branch_beq s t z h k l i = branch_row beq 0 s t z k l (omega arith) i (λ g w. refl) (λ w pc a b. refl)

branch_bne : BranchNamed 1
unfolding first_row instruction_table effect branch_condition
branch_bne s t z h k l i = branch_row bne 1 s t z k l (omega arith) i (λ g w. refl) (λ w pc a b. refl)

branch_blt : BranchNamed 4
unfolding first_row instruction_table effect branch_condition
branch_blt s t z h k l i = branch_row blt 4 s t z k l (omega arith) i (λ g w. refl) (λ w pc a b. refl)

branch_bge : BranchNamed 5
unfolding first_row instruction_table effect branch_condition
branch_bge s t z h k l i = branch_row bge 5 s t z k l (omega arith) i (λ g w. refl) (λ w pc a b. refl)

branch_bltu : BranchNamed 6
unfolding first_row instruction_table effect branch_condition
branch_bltu s t z h k l i = branch_row bltu 6 s t z k l (omega arith) i (λ g w. refl) (λ w pc a b. refl)

branch_bgeu : BranchNamed 7
unfolding first_row instruction_table effect branch_condition
branch_bgeu s t z h k l i = branch_row bgeu 7 s t z k l (omega arith) i (λ g w. refl) (λ w pc a b. refl)

no_branch : (op : ℕ) → is_one_of op (0 ∷ 1 ∷ 4 ∷ 5 ∷ 6 ∷ 7 ∷ []) ≡ false → BranchNamed op
no_branch op e s t z h k l i = absurd (false≢true (sym e ∙ h))

-- a branch's funct3 is below 8
pub branch_below : (op : ℕ) → IsTrue (is_one_of op (0 ∷ 1 ∷ 4 ∷ 5 ∷ 6 ∷ 7 ∷ [])) → op < 8
branch_below op h = grind (arith, nat_tests)

branch_named : (op : ℕ) → op < 8 → BranchNamed op
branch_named op h = by_eight BranchNamed branch_beq branch_bne (no_branch 2 refl) (no_branch 3 refl) branch_blt branch_bge branch_bltu branch_bgeu op h

-- ---- all

-- each instruction that fits is listed, with its effect
pub is_named : (i : Instr) → Fits i → IsNamed i
unfolding mnemonic first_row instruction_table effect
is_named (Lui d imm) h = record {
  name = lui;
  listed = found (word_of (Lui d imm)) _ _ _ (Some lui) (u_opcode imm d 0b0110111 (omega arith)) refl refl refl;
  does = λ pc a b. ap writes (u_imm imm d 0b0110111 (omega arith) h.0 h.1);
}
is_named (Auipc d imm) h = record {
  name = auipc;
  listed = found (word_of (Auipc d imm)) _ _ _ (Some auipc) (u_opcode imm d 0b0010111 (omega arith)) refl refl refl;
  does = λ pc a b. ap (λ (x : ℕ). writes (sum pc x)) (u_imm imm d 0b0010111 (omega arith) h.0 h.1);
}
is_named (Jal d z) h =
    let same = j_is_u (twos_complement 21 z) d 0b1101111 in
    record {
      name = jal;
      listed = found (word_of (Jal d z)) _ _ _ (Some jal) (ap opcode same ∙ u_opcode _ d 0b1101111 (omega arith)) refl refl refl;
      does = λ pc a b. ap (λ (x : ℕ). jumps (sum pc 4) (sum pc x)) (j_imm z d 0b1101111 (omega arith) h.0 h.1.0 h.1.1);
    }
is_named (Jalr d s imm) h =
    let n = twos_complement 12 imm in
    record {
      name = jalr;
      listed = found (word_of (Jalr d s imm)) _ _ _ (Some jalr) (i_opcode n s 0 d 0b1100111 (omega arith)) (i_funct3 n s 0 d 0b1100111 (omega arith) h.0 (omega arith)) refl refl;
      does = λ pc a b. ap (λ (x : ℕ). jumps_by_register (sum pc 4) (even (sum a x))) (i_imm n imm s 0 d 0b1100111 (omega arith) h.0 (omega arith) h.1 refl h.2);
    }
is_named (Branch op s t z) h = branch_named op (branch_below op h.0) s t z h.0 h.1 h.2 h.3
is_named (Load op d s imm) h = load_named op (load_below op h.0) d s imm h.0 h.1 h.2 h.3
is_named (Store op s t imm) h = store_named op (store_below op h.0) s t imm h.0 h.1 h.2 h.3
is_named (OpImm op alt d s imm) h = imm_named op h.0 alt d s imm h.1 h.2 h.3 h.4
is_named (Op op alt d s t) h = op_named op h.0 alt d s t h.1 h.2 h.3 h.4
is_named (Fence d s imm) h =
    let n = twos_complement 12 imm in
    record {
      name = fence;
      listed = found (word_of (Fence d s imm)) _ _ _ (Some fence) (i_opcode n s 0 d 0b0001111 (omega arith)) (i_funct3 n s 0 d 0b0001111 (omega arith) h.0 (omega arith)) refl refl;
      does = λ pc a b. refl;
    }
is_named Ecall h = record { name = ecall; listed = refl; does = λ pc a b. refl }
is_named Ebreak h = record { name = ebreak; listed = refl; does = λ pc a b. refl }

-- Two instructions with one word are the same.
use Rattle.std.proofs.Common.{◌≡◌, ℕ, ◌+◌, ◌*◌, ◌/◌, ◌%◌, ◌^◌, ◌<◌, Bool, true, false, sym, ap, subst, ◌∙◌, refl, arith}
use Rattle.std.proofs.lemmas.Bool.{false≢true}
use Rattle.std.specs.Bool.{MatchBool, OnTrue}
use Rattle.std.specs.Prelude.{ℤ, pos, negsuc, unsigned_abs}
use Rattle.em_isa.specs.declared.instructions.Instr.{Instr}
use Rattle.em_isa.specs.declared.instructions.Instr.TheVariants.{Lui, Auipc, Jal, Jalr, Branch, Load, Store, OpImm, Op, Fence, Ecall, Ebreak}
use Rattle.em_isa.specs.Encoding.{Fits, IsImmediate, IsShiftAmount, IsWithin, b_format, i_format, is_shift, j_format, operation_kind, r_format, s_format, shift_kind, twos_complement, u_format, word_of}
use Rattle.em_isa.proofs.InstructionOrNone.{branch_op, load_op, store_op}

-- ---- one word of a format has one value in each field

-- format R
pub r_parts : (g t s f d g' t' s' f' d' o : ℕ) → t < 32 → s < 32 → f < 8 → d < 32 → t' < 32 → s' < 32 → f' < 8 → d' < 32
    → r_format g t s f d o ≡ r_format g' t' s' f' d' o → (g ≡ g') × (t ≡ t') × (s ≡ s') × (f ≡ f') × (d ≡ d')
r_parts g t s f d g' t' s' f' d' o ht hs hf hd kt ks kf kd e = (omega arith, omega arith, omega arith, omega arith, omega arith)

-- format I
pub i_parts : (n s f d n' s' f' d' o : ℕ) → s < 32 → f < 8 → d < 32 → s' < 32 → f' < 8 → d' < 32
    → i_format n s f d o ≡ i_format n' s' f' d' o → (n ≡ n') × (s ≡ s') × (f ≡ f') × (d ≡ d')
i_parts n s f d n' s' f' d' o hs hf hd ks kf kd e = (omega arith, omega arith, omega arith, omega arith)

-- format U
pub u_parts : (n d n' d' o : ℕ) → d < 32 → d' < 32 → u_format n d o ≡ u_format n' d' o → (n ≡ n') × (d ≡ d')
u_parts n d n' d' o hd kd e = (omega arith, omega arith)

s_parts : (n t s f n' t' s' f' o : ℕ) → n < 4096 → t < 32 → s < 32 → f < 8 → n' < 4096 → t' < 32 → s' < 32 → f' < 8
    → s_format n t s f o ≡ s_format n' t' s' f' o → (n ≡ n') × (t ≡ t') × (s ≡ s') × (f ≡ f')
s_parts n t s f n' t' s' f' o hn ht hs hf kn kt ks kf e =
    let p = r_parts (n / 32 % 128) t s f (n / 1 % 32) (n' / 32 % 128) t' s' f' (n' / 1 % 32) o ht hs hf (omega arith) kt ks kf (omega arith) e in
    (omega (arith, p.0, p.4), p.1, p.2, p.3)

-- an offset is its pieces, as a word of format B has them
b_pieces : (n n' : ℕ) → n < 8192 → n' < 8192 → n % 2 ≡ 0 → n' % 2 ≡ 0
    → n / 4096 % 2 * 64 + n / 32 % 64 ≡ n' / 4096 % 2 * 64 + n' / 32 % 64
    → n / 2 % 16 * 2 + n / 2048 % 2 ≡ n' / 2 % 16 * 2 + n' / 2048 % 2 → n ≡ n'
b_pieces n n' h k e e' high low =
    let top : n / 4096 % 2 ≡ n' / 4096 % 2 = omega arith in
    let six : n / 32 % 64 ≡ n' / 32 % 64 = omega arith in
    let four : n / 2 % 16 ≡ n' / 2 % 16 = omega arith in
    let one : n / 2048 % 2 ≡ n' / 2048 % 2 = omega arith in
    omega arith

b_parts : (n t s f n' t' s' f' o : ℕ) → n < 8192 → n % 2 ≡ 0 → t < 32 → s < 32 → f < 8 → n' < 8192 → n' % 2 ≡ 0 → t' < 32 → s' < 32 → f' < 8
    → b_format n t s f o ≡ b_format n' t' s' f' o → (n ≡ n') × (t ≡ t') × (s ≡ s') × (f ≡ f')
b_parts n t s f n' t' s' f' o hn he ht hs hf kn ke kt ks kf e =
    let p = r_parts (n / 4096 % 2 * 64 + n / 32 % 64) t s f (n / 2 % 16 * 2 + n / 2048 % 2)
    (n' / 4096 % 2 * 64 + n' / 32 % 64) t' s' f' (n' / 2 % 16 * 2 + n' / 2048 % 2) o ht hs hf (omega arith) kt ks kf (omega arith) (omega (arith, e)) in
    (b_pieces n n' hn kn he ke p.0 p.4, p.1, p.2, p.3)

-- the same of a word of format J
j_pieces : (n n' : ℕ) → n < 2097152 → n' < 2097152 → n % 2 ≡ 0 → n' % 2 ≡ 0
    → n / 1048576 % 2 * 524288 + n / 2 % 1024 * 512 + n / 2048 % 2 * 256 + n / 4096 % 256
    ≡ n' / 1048576 % 2 * 524288 + n' / 2 % 1024 * 512 + n' / 2048 % 2 * 256 + n' / 4096 % 256 → n ≡ n'
j_pieces n n' h k e e' all =
    let top : n / 1048576 % 2 ≡ n' / 1048576 % 2 = omega arith in
    let ten : n / 2 % 1024 ≡ n' / 2 % 1024 = omega arith in
    let one : n / 2048 % 2 ≡ n' / 2048 % 2 = omega arith in
    let eight : n / 4096 % 256 ≡ n' / 4096 % 256 = omega arith in
    omega (arith, top, ten, one, eight)

j_parts : (n d n' d' o : ℕ) → n < 2097152 → n % 2 ≡ 0 → d < 32 → n' < 2097152 → n' % 2 ≡ 0 → d' < 32
    → j_format n d o ≡ j_format n' d' o → (n ≡ n') × (d ≡ d')
j_parts n d n' d' o hn he hd kn ke kd e =
    let p = u_parts (n / 1048576 % 2 * 524288 + n / 2 % 1024 * 512 + n / 2048 % 2 * 256 + n / 4096 % 256) d
    (n' / 1048576 % 2 * 524288 + n' / 2 % 1024 * 512 + n' / 2048 % 2 * 256 + n' / 4096 % 256) d' o hd kd (omega (arith, e)) in
    (j_pieces n n' hn kn he ke p.0, p.1)

-- ---- one field has one value

below : (width half : ℕ) (z : ℤ) → 2 ^ width ≡ half + half → 0 < half → IsWithin half z → twos_complement width z < half + half
below width half (pos n) e k h = omega arith
below width half (negsuc n) e k h = omega arith

even : (width half : ℕ) (z : ℤ) → 2 ^ width ≡ half + half → IsWithin half z → unsigned_abs z % 2 ≡ 0 → twos_complement width z % 2 ≡ 0
even width half (pos n) e w h = h
even width half (negsuc n) e w h = omega arith

same_integer : (width half : ℕ) (z z' : ℤ) → 2 ^ width ≡ half + half → IsWithin half z → IsWithin half z'
    → twos_complement width z ≡ twos_complement width z' → z ≡ z'
same_integer width half (pos n) (pos m) p h k e = ap pos e
same_integer width half (pos n) (negsuc m) p h k e = absurd (omega arith)
same_integer width half (negsuc n) (pos m) p h k e = absurd (omega arith)
same_integer width half (negsuc n) (negsuc m) p h k e = let s : n ≡ m = omega arith in ap negsuc s

same_kind : (alt alt' : Bool) → operation_kind alt ≡ operation_kind alt' → alt ≡ alt'
same_kind true true e = refl
same_kind true false e = absurd (omega arith)
same_kind false true e = absurd (omega arith)
same_kind false false e = refl

-- the operand of an OP-IMM, with the bit that tells srai from srli
same_operand : (shift alt alt' : Bool) (z z' : ℤ) → OnTrue alt (shift ≡ true) → OnTrue alt' (shift ≡ true)
    → MatchBool shift (IsShiftAmount z) (IsImmediate z) → MatchBool shift (IsShiftAmount z') (IsImmediate z')
    → shift_kind alt + twos_complement 12 z ≡ shift_kind alt' + twos_complement 12 z' → (alt ≡ alt') × (z ≡ z')
same_operand true true true (pos n) (pos m) a b h k e = let s : n ≡ m = omega arith in (refl, ap pos s)
same_operand true true false (pos n) (pos m) a b h k e = absurd (omega arith)
same_operand true false true (pos n) (pos m) a b h k e = absurd (omega arith)
same_operand true false false (pos n) (pos m) a b h k e = let s : n ≡ m = omega arith in (refl, ap pos s)
same_operand true alt alt' (negsuc n) z' a b h k e = absurd h
same_operand true alt alt' (pos n) (negsuc m) a b h k e = absurd k
same_operand false true alt' z z' a b h k e = absurd (false≢true a)
same_operand false false true z z' a b h k e = absurd (false≢true b)
same_operand false false false z z' a b h k e = (refl, same_integer 12 2048 z z' refl h k (omega arith))

alternate_shifts : (op : ℕ) (alt : Bool) → OnTrue alt (op ≡ 5) → OnTrue alt (is_shift op ≡ true)
alternate_shifts op true e = ap is_shift e
alternate_shifts op false h = tt

-- ---- one word has one opcode

opcode_of : Instr → ℕ
opcode_of (Lui rd imm) = 0b0110111
opcode_of (Auipc rd imm) = 0b0010111
opcode_of (Jal rd z) = 0b1101111
opcode_of (Jalr rd rs1 z) = 0b1100111
opcode_of (Branch op rs1 rs2 z) = 0b1100011
opcode_of (Load op rd rs1 z) = 0b0000011
opcode_of (Store op rs1 rs2 z) = 0b0100011
opcode_of (OpImm op alt rd rs1 z) = 0b0010011
opcode_of (Op op alt rd rs1 rs2) = 0b0110011
opcode_of (Fence rd rs1 z) = 0b0001111
opcode_of Ecall = 0b1110011
opcode_of Ebreak = 0b1110011

opcode_is : (i : Instr) → word_of i % 128 ≡ opcode_of i
unfolding opcode_of
opcode_is (Lui rd imm) = omega arith
opcode_is (Auipc rd imm) = omega arith
opcode_is (Jal rd z) = omega arith
opcode_is (Jalr rd rs1 z) = omega arith
opcode_is (Branch op rs1 rs2 z) = omega arith
opcode_is (Load op rd rs1 z) = omega arith
opcode_is (Store op rs1 rs2 z) = omega arith
opcode_is (OpImm op alt rd rs1 z) = omega arith
opcode_is (Op op alt rd rs1 rs2) = omega arith
opcode_is (Fence rd rs1 z) = omega arith
opcode_is Ecall = refl
opcode_is Ebreak = refl

-- ---- all

same_group : (one other : Instr) → opcode_of one ≡ opcode_of other → Fits one → Fits other → word_of one ≡ word_of other → one ≡ other
unfolding opcode_of
same_group (Lui d n) (Lui d' n') o h k e = let p = u_parts n d n' d' _ h.0 k.0 e in rw (p.0, p.1) refl
same_group (Auipc d n) (Auipc d' n') o h k e = let p = u_parts n d n' d' _ h.0 k.0 e in rw (p.0, p.1) refl
same_group (Jal d z) (Jal d' z') o h k e =
    let p = j_parts (twos_complement 21 z) d (twos_complement 21 z') d' 0b1101111
    (below 21 1048576 z refl (omega arith) h.1.0) (even 21 1048576 z refl h.1.0 h.1.1) h.0
    (below 21 1048576 z' refl (omega arith) k.1.0) (even 21 1048576 z' refl k.1.0 k.1.1) k.0 e in
    let q = same_integer 21 1048576 z z' refl h.1.0 k.1.0 p.0 in
    rw (p.1, q) refl
same_group (Jalr d s z) (Jalr d' s' z') o h k e =
    let p = i_parts (twos_complement 12 z) s 0 d (twos_complement 12 z') s' 0 d' 0b1100111 h.1 (omega arith) h.0 k.1 (omega arith) k.0 e in
    let q = same_integer 12 2048 z z' refl h.2 k.2 p.0 in
    rw (p.1, p.3, q) refl
same_group (Branch op s t z) (Branch op' s' t' z') o h k e =
    let p = b_parts (twos_complement 13 z) t s op (twos_complement 13 z') t' s' op' 0b1100011
    (below 13 4096 z refl (omega arith) h.3.0) (even 13 4096 z refl h.3.0 h.3.1) h.2 h.1 (branch_op op h.0)
    (below 13 4096 z' refl (omega arith) k.3.0) (even 13 4096 z' refl k.3.0 k.3.1) k.2 k.1 (branch_op op' k.0) e in
    let q = same_integer 13 4096 z z' refl h.3.0 k.3.0 p.0 in
    rw (p.1, p.2, p.3, q) refl
same_group (Load op d s z) (Load op' d' s' z') o h k e =
    let p = i_parts (twos_complement 12 z) s op d (twos_complement 12 z') s' op' d' 0b0000011 h.2 (load_op op h.0) h.1 k.2 (load_op op' k.0) k.1 e in
    let q = same_integer 12 2048 z z' refl h.3 k.3 p.0 in
    rw (p.1, p.2, p.3, q) refl
same_group (Store op s t z) (Store op' s' t' z') o h k e =
    let p = s_parts (twos_complement 12 z) t s op (twos_complement 12 z') t' s' op' 0b0100011
    (below 12 2048 z refl (omega arith) h.3) h.2 h.1 (store_op op h.0)
    (below 12 2048 z' refl (omega arith) k.3) k.2 k.1 (store_op op' k.0) e in
    let q = same_integer 12 2048 z z' refl h.3 k.3 p.0 in
    rw (p.1, p.2, p.3, q) refl
same_group (OpImm op alt d s z) (OpImm op' alt' d' s' z') o h k e =
    let p = i_parts (shift_kind alt + twos_complement 12 z) s op d (shift_kind alt' + twos_complement 12 z') s' op' d' 0b0010011 h.3 h.0 h.2 k.3 k.0 k.2 e in
    let P : ℕ → Type 0 = λ f. OnTrue alt' (f ≡ 5) × MatchBool (is_shift f) (IsShiftAmount z') (IsImmediate z') in
    let m = subst P (sym p.2) (k.1, k.4) in
    let q = same_operand (is_shift op) alt alt' z z' (alternate_shifts op alt h.1) (alternate_shifts op alt' m.0) h.4 m.1 p.0 in
    rw (p.1, p.2, p.3, q.0, q.1) refl
same_group (Op op alt d s t) (Op op' alt' d' s' t') o h k e =
    let p = r_parts (operation_kind alt) t s op d (operation_kind alt') t' s' op' d' 0b0110011 h.4 h.3 h.0 h.2 k.4 k.3 k.0 k.2 e in
    let q = same_kind alt alt' p.0 in
    rw (p.1, p.2, p.3, p.4, q) refl
same_group (Fence d s z) (Fence d' s' z') o h k e =
    let p = i_parts (twos_complement 12 z) s 0 d (twos_complement 12 z') s' 0 d' 0b0001111 h.1 (omega arith) h.0 k.1 (omega arith) k.0 e in
    let q = same_integer 12 2048 z z' refl h.2 k.2 p.0 in
    rw (p.1, p.3, q) refl
same_group Ecall Ecall o h k e = refl
same_group Ebreak Ebreak o h k e = refl
same_group Ecall Ebreak o h k e = absurd (omega arith)
same_group Ebreak Ecall o h k e = absurd (omega arith)
same_group _ _ o h k e = absurd (omega (arith, o))

-- an instruction has a word of its own
pub same : (one other : Instr) → Fits one → Fits other → word_of one ≡ word_of other → one ≡ other
same one other h k e =
    same_group one other (sym (opcode_is one) ∙ ap (λ n. n % 128) e ∙ opcode_is other) h k e

-- The fields of a word that was put together from its fields.
use Rattle.std.proofs.Common.{◌≡◌, ℕ, suc, ◌+◌, ◌-◌, ◌*◌, ◌/◌, ◌%◌, ◌^◌, ◌<◌, ℤ, pos, negsuc, refl, ap, ◌∙◌, arith}
use Rattle.std.proofs.lemmas.Bool.{lt-ltb, le-ltb, cond-true, cond-false}
use Rattle.std.specs.Prelude.{unsigned_abs}
use Rattle.em_isa.specs.Encoding.{r_format, i_format, s_format, b_format, u_format, j_format, twos_complement, IsWithin}
use Rattle.em_hart.specs.Fields.{opcode, rd, funct3, rs1, rs2, funct7, shamt, bits, sign_extended, imm_i, imm_s, imm_b, imm_u, imm_j}
use Rattle.em_hart.specs.Decoded.{modulo}

-- ---- format R

pub r_opcode : (g t s f d o : ℕ) → o < 128 → opcode (r_format g t s f d o) ≡ o
r_opcode g t s f d o h = omega arith

pub r_rd : (g t s f d o : ℕ) → o < 128 → d < 32 → rd (r_format g t s f d o) ≡ d
r_rd g t s f d o h k = omega arith

pub r_funct3 : (g t s f d o : ℕ) → o < 128 → d < 32 → f < 8 → funct3 (r_format g t s f d o) ≡ f
r_funct3 g t s f d o h k l = omega arith

pub r_rs1 : (g t s f d o : ℕ) → o < 128 → d < 32 → f < 8 → s < 32 → rs1 (r_format g t s f d o) ≡ s
r_rs1 g t s f d o h k l m = omega arith

pub r_rs2 : (g t s f d o : ℕ) → o < 128 → d < 32 → f < 8 → s < 32 → t < 32 → rs2 (r_format g t s f d o) ≡ t
r_rs2 g t s f d o h k l m n = omega arith

pub r_funct7 : (g t s f d o : ℕ) → o < 128 → d < 32 → f < 8 → s < 32 → t < 32 → g < 128 → funct7 (r_format g t s f d o) ≡ g
r_funct7 g t s f d o h k l m n p = omega arith

-- ---- format I

pub i_opcode : (imm s f d o : ℕ) → o < 128 → opcode (i_format imm s f d o) ≡ o
i_opcode imm s f d o h = omega arith

pub i_rd : (imm s f d o : ℕ) → o < 128 → d < 32 → rd (i_format imm s f d o) ≡ d
i_rd imm s f d o h k = omega arith

pub i_funct3 : (imm s f d o : ℕ) → o < 128 → d < 32 → f < 8 → funct3 (i_format imm s f d o) ≡ f
i_funct3 imm s f d o h k l = omega arith

pub i_rs1 : (imm s f d o : ℕ) → o < 128 → d < 32 → f < 8 → s < 32 → rs1 (i_format imm s f d o) ≡ s
i_rs1 imm s f d o h k l m = omega arith

i_bits : (imm s f d o : ℕ) → o < 128 → d < 32 → f < 8 → s < 32 → imm < 4096 → bits 31 20 (i_format imm s f d o) ≡ imm
i_bits imm s f d o h k l m n = omega arith

-- a shift's word: the upper seven bits of its immediate, and the amount
pub i_funct7 : (g n s f d o : ℕ) → o < 128 → d < 32 → f < 8 → s < 32 → n < 32 → g < 128 → funct7 (i_format (g * 32 + n) s f d o) ≡ g
i_funct7 g n s f d o h k l m p q = omega arith

-- the amount of a shift
pub i_shamt : (g n s f d o : ℕ) → o < 128 → d < 32 → f < 8 → s < 32 → n < 32 → g < 128 → shamt (i_format (g * 32 + n) s f d o) ≡ n
i_shamt g n s f d o h k l m p q = omega arith

-- ---- signs: a number's two's complement, extended, is the number modulo 2^32

extended_12 : (z : ℤ) → IsWithin 2048 z → sign_extended 12 (twos_complement 12 z) ≡ modulo z
extended_12 (pos n) h = cond-true _ _ _ (lt-ltb n 2048 h)
extended_12 (negsuc n) h = cond-false _ _ _ (le-ltb (4096 - suc n) 2048 (omega arith)) ∙ omega arith

extended_13 : (z : ℤ) → IsWithin 4096 z → sign_extended 13 (twos_complement 13 z) ≡ modulo z
extended_13 (pos n) h = cond-true _ _ _ (lt-ltb n 4096 h)
extended_13 (negsuc n) h = cond-false _ _ _ (le-ltb (8192 - suc n) 4096 (omega arith)) ∙ omega arith

extended_21 : (z : ℤ) → IsWithin 1048576 z → sign_extended 21 (twos_complement 21 z) ≡ modulo z
extended_21 (pos n) h = cond-true _ _ _ (lt-ltb n 1048576 h)
extended_21 (negsuc n) h = cond-false _ _ _ (le-ltb (2097152 - suc n) 1048576 (omega arith)) ∙ omega arith

twos_complement_below : (width half : ℕ) (z : ℤ) → 2 ^ width ≡ half + half → IsWithin half z → 0 < half → twos_complement width z < half + half
twos_complement_below width half (pos n) e h k = omega arith
twos_complement_below width half (negsuc n) e h k = omega arith

-- ---- immediates

-- format I
pub i_imm : (n : ℕ) (z : ℤ) (s f d o : ℕ) → o < 128 → d < 32 → f < 8 → s < 32 → n ≡ twos_complement 12 z → IsWithin 2048 z → imm_i (i_format n s f d o) ≡ modulo z
i_imm n z s f d o h k l m e w =
    ap (sign_extended 12) (i_bits n s f d o h k l m (omega (arith, e, twos_complement_below 12 2048 z refl w (omega arith))) ∙ e) ∙ extended_12 z w

s_bits : (n t s f o : ℕ) → o < 128 → f < 8 → s < 32 → t < 32 → n < 4096 → bits 31 25 (s_format n t s f o) * 2 ^ 5 + bits 11 7 (s_format n t s f o) ≡ n
s_bits n t s f o h k l m p =
    omega (arith, r_funct7 (n / 32 % 128) t s f (n / 1 % 32) o h (omega arith) k l m (omega arith), r_rd (n / 32 % 128) t s f (n / 1 % 32) o h (omega arith))

-- format S
pub s_imm : (z : ℤ) (t s f o : ℕ) → o < 128 → f < 8 → s < 32 → t < 32 → IsWithin 2048 z → imm_s (s_format (twos_complement 12 z) t s f o) ≡ modulo z
s_imm z t s f o h k l m w =
    ap (sign_extended 12) (s_bits _ t s f o h k l m (twos_complement_below 12 2048 z refl w (omega arith))) ∙ extended_12 z w

-- a word of format B as one of format R
pub b_is_r : (n t s f o : ℕ) → b_format n t s f o ≡ r_format (n / 4096 % 2 * 64 + n / 32 % 64) t s f (n / 2 % 16 * 2 + n / 2048 % 2) o
b_is_r n t s f o = omega arith

b_bits : (n t s f o : ℕ) → o < 128 → f < 8 → s < 32 → t < 32 → n < 8192 → n % 2 ≡ 0
    → bits 31 31 (b_format n t s f o) * 2 ^ 12 + bits 7 7 (b_format n t s f o) * 2 ^ 11 + bits 30 25 (b_format n t s f o) * 2 ^ 5 + bits 11 8 (b_format n t s f o) * 2 ≡ n
b_bits n t s f o h k l m p e =
    let w = b_format n t s f o in
    let g = n / 4096 % 2 * 64 + n / 32 % 64 in
    let d = n / 2 % 16 * 2 + n / 2048 % 2 in
    let high : w / 33554432 % 128 ≡ g = ap funct7 (b_is_r n t s f o) ∙ r_funct7 g t s f d o h (omega arith) k l m (omega arith) in
    let low : w / 128 % 32 ≡ d = ap rd (b_is_r n t s f o) ∙ r_rd g t s f d o h (omega arith) in
    let top : w / 2147483648 % 2 ≡ g / 64 = omega (arith, high) in
    let mid : w / 33554432 % 64 ≡ g % 64 = omega (arith, high) in
    let one : w / 128 % 2 ≡ d % 2 = omega (arith, low) in
    let four : w / 256 % 16 ≡ d / 2 = omega (arith, low) in
    omega (arith, top, mid, one, four)

even_13 : (z : ℤ) → IsWithin 4096 z → unsigned_abs z % 2 ≡ 0 → twos_complement 13 z % 2 ≡ 0
even_13 (pos n) w h = h
even_13 (negsuc n) w h = omega arith

even_21 : (z : ℤ) → IsWithin 1048576 z → unsigned_abs z % 2 ≡ 0 → twos_complement 21 z % 2 ≡ 0
even_21 (pos n) w h = h
even_21 (negsuc n) w h = omega arith

-- format B
pub b_imm : (z : ℤ) (t s f o : ℕ) → o < 128 → f < 8 → s < 32 → t < 32 → IsWithin 4096 z → unsigned_abs z % 2 ≡ 0
    → imm_b (b_format (twos_complement 13 z) t s f o) ≡ modulo z
b_imm z t s f o h k l m w e =
    ap (sign_extended 13) (b_bits _ t s f o h k l m (twos_complement_below 13 4096 z refl w (omega arith)) (even_13 z w e)) ∙ extended_13 z w

-- format U
pub u_opcode : (n d o : ℕ) → o < 128 → opcode (u_format n d o) ≡ o
u_opcode n d o h = omega arith

pub u_rd : (n d o : ℕ) → o < 128 → d < 32 → rd (u_format n d o) ≡ d
u_rd n d o h k = omega arith

pub u_imm : (n d o : ℕ) → o < 128 → d < 32 → n < 2 ^ 20 → imm_u (u_format n d o) ≡ n * 2 ^ 12
u_imm n d o h k l = omega arith

-- a word of format J as one of format U
pub j_is_u : (n d o : ℕ) → j_format n d o ≡ u_format (n / 1048576 % 2 * 524288 + n / 2 % 1024 * 512 + n / 2048 % 2 * 256 + n / 4096 % 256) d o
j_is_u n d o = omega arith

j_bits : (n d o : ℕ) → o < 128 → d < 32 → n < 2097152 → n % 2 ≡ 0
    → bits 31 31 (j_format n d o) * 2 ^ 20 + bits 19 12 (j_format n d o) * 2 ^ 12 + bits 20 20 (j_format n d o) * 2 ^ 11 + bits 30 21 (j_format n d o) * 2 ≡ n
j_bits n d o h k p e =
    let w = j_format n d o in
    let g = n / 1048576 % 2 * 524288 + n / 2 % 1024 * 512 + n / 2048 % 2 * 256 + n / 4096 % 256 in
    let all : w / 4096 ≡ g = omega arith in
    let top : w / 2147483648 % 2 ≡ g / 524288 = omega (arith, all) in
    let low : w / 4096 % 256 ≡ g % 256 = omega (arith, all) in
    let one : w / 1048576 % 2 ≡ g / 256 % 2 = omega (arith, all) in
    let ten : w / 2097152 % 1024 ≡ g / 512 % 1024 = omega (arith, all) in
    omega (arith, top, low, one, ten)

-- format J
pub j_imm : (z : ℤ) (d o : ℕ) → o < 128 → d < 32 → IsWithin 1048576 z → unsigned_abs z % 2 ≡ 0
    → imm_j (j_format (twos_complement 21 z) d o) ≡ modulo z
j_imm z d o h k w e =
    ap (sign_extended 21) (j_bits _ d o h k (twos_complement_below 21 1048576 z refl w (omega arith)) (even_21 z w e)) ∙ extended_21 z w

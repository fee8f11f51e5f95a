-- Fields that are put side by side by `<<` and `|` are added at their places.
use Rattle.std.proofs.Common.{◌≡◌, ℕ, ◌+◌, ◌-◌, ◌*◌, ◌%◌, ◌^◌, ◌<◌, bit_and, bit_or, refl, arith}
use Rattle.std.proofs.Math.Nat.{mod-eq_of_lt}
use Rattle.std.proofs.lemmas.Nat.{or_shifted, and_mask, one_shl}
use Rattle.em_isa.specs.Encoding.{r_format, i_format, u_format}

-- a number with k zeros at its end, and a number of k bits
pub join : (x y k m : ℕ) → x ≡ m * 2 ^ k → y < 2 ^ k → bit_or x y ≡ x + y
join x y k m e h = rw e (or_shifted m k y h)

-- a shift that loses no bit
pub whole : (x : ℕ) → x < 2 ^ 32 → x % 2 ^ 32 ≡ x
whole x h = mod-eq_of_lt h

pub r_joined :
    (funct7 rs2 rs1 funct3 rd opcode : ℕ) → funct7 < 128 → rs2 < 32 → rs1 < 32 → funct3 < 8 → rd < 32 → opcode < 128 →
    bit_or (bit_or (bit_or (bit_or (bit_or (funct7 * 33554432 % 4294967296) (rs2 * 1048576 % 4294967296)) (rs1 * 32768 % 4294967296)) (funct3 * 4096 % 4294967296)) (rd * 128 % 4294967296)) opcode
    ≡ r_format funct7 rs2 rs1 funct3 rd opcode
r_joined funct7 rs2 rs1 funct3 rd opcode h7 h2 h1 h3 hd ho =
    let e7 = whole (funct7 * 33554432) (omega arith) in
    let e2 = whole (rs2 * 1048576) (omega arith) in
    let e1 = whole (rs1 * 32768) (omega arith) in
    let e3 = whole (funct3 * 4096) (omega arith) in
    let ed = whole (rd * 128) (omega arith) in
    let s2 = join (funct7 * 33554432) (rs2 * 1048576) 25 funct7 refl (omega arith) in
    let s1 = join
    (funct7 * 33554432 + rs2 * 1048576) (rs1 * 32768) 20 (funct7 * 32 + rs2) (omega arith) (omega arith) in
    let s3 = join
    (funct7 * 33554432 + rs2 * 1048576 + rs1 * 32768) (funct3 * 4096) 15 (funct7 * 1024 + rs2 * 32 + rs1) (omega arith) (omega arith) in
    let sd = join
    (funct7 * 33554432 + rs2 * 1048576 + rs1 * 32768 + funct3 * 4096) (rd * 128) 12 (funct7 * 8192 + rs2 * 256 + rs1 * 8 + funct3) (omega arith) (omega arith) in
    let so = join
    (funct7 * 33554432 + rs2 * 1048576 + rs1 * 32768 + funct3 * 4096 + rd * 128) opcode 7 (funct7 * 262144 + rs2 * 8192 + rs1 * 256 + funct3 * 32 + rd) (omega arith) ho in
    rw (e7, e2, e1, e3, ed, s2, s1, s3, sd, so) refl

pub i_joined :
    (imm rs1 funct3 rd opcode : ℕ) → imm < 4096 → rs1 < 32 → funct3 < 8 → rd < 32 → opcode < 128 →
    bit_or (bit_or (bit_or (bit_or (imm * 1048576 % 4294967296) (rs1 * 32768 % 4294967296)) (funct3 * 4096 % 4294967296)) (rd * 128 % 4294967296)) opcode
    ≡ i_format imm rs1 funct3 rd opcode
i_joined imm rs1 funct3 rd opcode hi h1 h3 hd ho =
    let ei = whole (imm * 1048576) (omega arith) in
    let e1 = whole (rs1 * 32768) (omega arith) in
    let e3 = whole (funct3 * 4096) (omega arith) in
    let ed = whole (rd * 128) (omega arith) in
    let s1 = join (imm * 1048576) (rs1 * 32768) 20 imm refl (omega arith) in
    let s3 = join (imm * 1048576 + rs1 * 32768) (funct3 * 4096) 15 (imm * 32 + rs1) (omega arith) (omega arith) in
    let sd = join
    (imm * 1048576 + rs1 * 32768 + funct3 * 4096) (rd * 128) 12 (imm * 256 + rs1 * 8 + funct3) (omega arith) (omega arith) in
    let so = join
    (imm * 1048576 + rs1 * 32768 + funct3 * 4096 + rd * 128) opcode 7 (imm * 8192 + rs1 * 256 + funct3 * 32 + rd) (omega arith) ho in
    rw (ei, e1, e3, ed, s1, s3, sd, so) refl

pub u_joined :
    (imm rd opcode : ℕ) → imm < 1048576 → rd < 32 → opcode < 128 →
    bit_or (bit_or (imm * 4096 % 4294967296) (rd * 128 % 4294967296)) opcode ≡ u_format imm rd opcode
u_joined imm rd opcode hi hd ho =
    let ei = whole (imm * 4096) (omega arith) in
    let ed = whole (rd * 128) (omega arith) in
    let sd = join (imm * 4096) (rd * 128) 12 imm refl (omega arith) in
    let so = join (imm * 4096 + rd * 128) opcode 7 (imm * 32 + rd) (omega arith) ho in
    rw (ei, ed, sd, so) refl

-- the mask of `width` ones, as the code makes it
pub masked : (n width : ℕ) → width < 32 → bit_and n (1 * 2 ^ width % 4294967296 - 1) ≡ n % 2 ^ width
masked n width h = rw (one_shl width 32 h) (and_mask n width)

-- the pieces of a branch's offset
pub b_joined :
    (bit_12 bit_11 high low : ℕ) → bit_12 < 2 → bit_11 < 2 → high < 64 → low < 16 →
    bit_or (bit_or (bit_or (bit_12 * 4096 % 4294967296) (bit_11 * 2048 % 4294967296)) (high * 32 % 4294967296)) (low * 2 % 4294967296)
    ≡ bit_12 * 4096 + bit_11 * 2048 + high * 32 + low * 2
b_joined bit_12 bit_11 high low a b c d =
    let ea = whole (bit_12 * 4096) (omega arith) in
    let eb = whole (bit_11 * 2048) (omega arith) in
    let ec = whole (high * 32) (omega arith) in
    let ed = whole (low * 2) (omega arith) in
    let sb = join (bit_12 * 4096) (bit_11 * 2048) 12 bit_12 refl (omega arith) in
    let sc = join (bit_12 * 4096 + bit_11 * 2048) (high * 32) 11 (bit_12 * 2 + bit_11) (omega arith) (omega arith) in
    let sd = join
    (bit_12 * 4096 + bit_11 * 2048 + high * 32) (low * 2) 5 (bit_12 * 128 + bit_11 * 64 + high) (omega arith) (omega arith) in
    rw (ea, eb, ec, ed, sb, sc, sd) refl

-- the pieces of a jump's offset
pub j_joined :
    (bit_20 high bit_11 low : ℕ) → bit_20 < 2 → high < 256 → bit_11 < 2 → low < 1024 →
    bit_or (bit_or (bit_or (bit_20 * 1048576 % 4294967296) (high * 4096 % 4294967296)) (bit_11 * 2048 % 4294967296)) (low * 2 % 4294967296)
    ≡ bit_20 * 1048576 + high * 4096 + bit_11 * 2048 + low * 2
j_joined bit_20 high bit_11 low a b c d =
    let ea = whole (bit_20 * 1048576) (omega arith) in
    let eb = whole (high * 4096) (omega arith) in
    let ec = whole (bit_11 * 2048) (omega arith) in
    let ed = whole (low * 2) (omega arith) in
    let sb = join (bit_20 * 1048576) (high * 4096) 20 bit_20 refl (omega arith) in
    let sc = join
    (bit_20 * 1048576 + high * 4096) (bit_11 * 2048) 12 (bit_20 * 256 + high) (omega arith) (omega arith) in
    let sd = join
    (bit_20 * 1048576 + high * 4096 + bit_11 * 2048) (low * 2) 11 (bit_20 * 512 + high * 2 + bit_11) (omega arith) (omega arith) in
    rw (ea, eb, ec, ed, sb, sc, sd) refl

-- a jump's immediate as it stands in the word
pub j_placed :
    (bit_20 low bit_11 high : ℕ) → bit_20 < 2 → low < 1024 → bit_11 < 2 → high < 256 →
    bit_or (bit_or (bit_or (bit_20 * 524288 % 4294967296) (low * 512 % 4294967296)) (bit_11 * 256 % 4294967296)) high
    ≡ bit_20 * 524288 + low * 512 + bit_11 * 256 + high
j_placed bit_20 low bit_11 high a b c d =
    let ea = whole (bit_20 * 524288) (omega arith) in
    let eb = whole (low * 512) (omega arith) in
    let ec = whole (bit_11 * 256) (omega arith) in
    let sb = join (bit_20 * 524288) (low * 512) 19 bit_20 refl (omega arith) in
    let sc = join (bit_20 * 524288 + low * 512) (bit_11 * 256) 9 (bit_20 * 1024 + low) (omega arith) (omega arith) in
    let sd = join
    (bit_20 * 524288 + low * 512 + bit_11 * 256) high 8 (bit_20 * 2048 + low * 2 + bit_11) (omega arith) d in
    rw (ea, eb, ec, sb, sc, sd) refl

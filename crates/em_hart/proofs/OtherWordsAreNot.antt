-- Each word that is listed is the word of an instruction that fits, so a word that no instruction has is not listed.
use Rattle.std.proofs.Common.{◌≡◌, ℕ, ◌+◌, ◌-◌, ◌*◌, ◌/◌, ◌%◌, ◌^◌, ◌<◌, Bool, true, false, ℤ, pos, negsuc, Option, Some, None, List, [], ◌∷◌, refl, sym, ap, ◌∙◌, inl, inr, zero-add, arith}
use Rattle.std.specs.Prelude.{IsTrue}
use Rattle.std.specs.Bool.{MatchBool, OnTrue}
use Rattle.std.proofs.lemmas.Bool.{eqb-true, and_parts, cases_Bool, cases_lt, cond-false, false≢true}
use Rattle.em_isa.specs.declared.instructions.Instr.{Instr}
use Rattle.em_isa.specs.declared.instructions.Instr.TheVariants.{Lui, Auipc, Jal, Jalr, Branch, Load, Store, OpImm, Op, Fence, Ecall, Ebreak}
use Rattle.em_isa.specs.Encoding.{Fits, word_of, is_one_of, is_shift, IsWithin, IsOffset, twos_complement, operation_kind, shift_kind, r_format, i_format, s_format, b_format, u_format, j_format}
use Rattle.em_hart.specs.Fields.{opcode, rd, funct3, rs1, rs2, funct7}
use Rattle.em_hart.specs.InstructionTable.{Mnemonic, Pattern, by_opcode, by_funct3, by_funct7, by_word, is_of, Row, instruction_table, first_row, mnemonic}

-- the word of an instruction that fits
pub record IsWord (w : ℕ) : Type 0 where
  pub instr : Instr
  pub fits : Fits instr
  pub is : word_of instr ≡ w

none_of : (o : Option Mnemonic) → ((name : Mnemonic) → o ≡ Some name → ⊥) → o ≡ None
none_of None n = refl
none_of (Some name) n = absurd (n name refl)

-- ---- a signed number of so many bits

signed_12 : (n : ℕ) → n < 4096 → (z : ℤ) × (twos_complement 12 z ≡ n) × IsWithin 2048 z
signed_12 n h = elim (cases_lt n 2048) [ inl l ↦ (pos n, refl, l) | inr g ↦ (negsuc (4095 - n), omega arith, omega arith) ]

signed_13 : (n : ℕ) → n < 8192 → n % 2 ≡ 0 → (z : ℤ) × (twos_complement 13 z ≡ n) × IsOffset 4096 z
signed_13 n h e = elim (cases_lt n 4096) [ inl l ↦ (pos n, refl, (l, e)) | inr g ↦ (negsuc (8191 - n), omega arith, (omega arith, omega arith)) ]

signed_21 : (n : ℕ) → n < 2097152 → n % 2 ≡ 0 → (z : ℤ) × (twos_complement 21 z ≡ n) × IsOffset 1048576 z
signed_21 n h e = elim (cases_lt n 1048576) [ inl l ↦ (pos n, refl, (l, e)) | inr g ↦ (negsuc (2097151 - n), omega arith, (omega arith, omega arith)) ]

even_bits : (g d : ℕ) → g < 128 → d < 32 → (z : ℤ) × (twos_complement 13 z ≡ g / 64 * 4096 + d % 2 * 2048 + g % 64 * 32 + d / 2 * 2) × IsOffset 4096 z
even_bits g d h k = signed_13 (g / 64 * 4096 + d % 2 * 2048 + g % 64 * 32 + d / 2 * 2) (omega arith) (omega arith)

jump_bits : (n : ℕ) → n < 1048576 → (z : ℤ) × (twos_complement 21 z ≡ n / 524288 * 1048576 + n % 256 * 4096 + n / 256 % 2 * 2048 + n / 512 % 1024 * 2) × IsOffset 1048576 z
jump_bits n h = signed_21 (n / 524288 * 1048576 + n % 256 * 4096 + n / 256 % 2 * 2048 + n / 512 % 1024 * 2) (omega arith) (omega arith)

-- ---- a word is put together from its fields

r_whole : (w : ℕ) → w < 2 ^ 32 → r_format (funct7 w) (rs2 w) (rs1 w) (funct3 w) (rd w) (opcode w) ≡ w
r_whole w h = omega arith

i_whole : (w : ℕ) → w < 2 ^ 32 → i_format (w / 2 ^ 20) (rs1 w) (funct3 w) (rd w) (opcode w) ≡ w
i_whole w h = omega arith

u_whole : (w : ℕ) → u_format (w / 2 ^ 12) (rd w) (opcode w) ≡ w
u_whole w = omega arith

s_whole : (g t s f d o : ℕ) → g < 128 → d < 32 → s_format (g * 32 + d) t s f o ≡ r_format g t s f d o
s_whole g t s f d o h k = omega arith

b_whole : (g t s f d o : ℕ) → g < 128 → d < 32 → b_format (g / 64 * 4096 + d % 2 * 2048 + g % 64 * 32 + d / 2 * 2) t s f o ≡ r_format g t s f d o
b_whole g t s f d o h k = omega arith

j_whole : (n d o : ℕ) → n < 1048576 → j_format (n / 524288 * 1048576 + n % 256 * 4096 + n / 256 % 2 * 2048 + n / 512 % 1024 * 2) d o ≡ u_format n d o
j_whole n d o h = omega arith

-- ---- the patterns

abbrev OfPattern : ℕ → Pattern → Type 0
OfPattern w p = is_of p (opcode w) (funct3 w) (funct7 w) w ≡ true

fields_two : (w o f : ℕ) → OfPattern w (by_funct3 o f) → (opcode w ≡ o) × (funct3 w ≡ f)
fields_two w o f e =
    let p = and_parts _ _ e in
    (eqb-true _ _ p.0, eqb-true _ _ p.1)

fields_three : (w o f g : ℕ) → OfPattern w (by_funct7 o f g) → (opcode w ≡ o) × (funct3 w ≡ f) × (funct7 w ≡ g)
fields_three w o f g e =
    let p = and_parts _ _ e in
    let q = and_parts _ _ p.0 in
    (eqb-true _ _ q.0, eqb-true _ _ q.1, eqb-true _ _ p.1)

-- ---- the groups

word_lui : (w : ℕ) → w < 2 ^ 32 → OfPattern w (by_opcode 0b0110111) → IsWord w
word_lui w h e =
    let o = eqb-true _ _ e in
    record { instr = Lui (rd w) (w / 2 ^ 12); fits = (omega arith, omega arith); is = ap (u_format (w / 2 ^ 12) (rd w)) (sym o) ∙ u_whole w }

word_auipc : (w : ℕ) → w < 2 ^ 32 → OfPattern w (by_opcode 0b0010111) → IsWord w
word_auipc w h e =
    let o = eqb-true _ _ e in
    record { instr = Auipc (rd w) (w / 2 ^ 12); fits = (omega arith, omega arith); is = ap (u_format (w / 2 ^ 12) (rd w)) (sym o) ∙ u_whole w }

word_jal : (w : ℕ) → w < 2 ^ 32 → OfPattern w (by_opcode 0b1101111) → IsWord w
word_jal w h e =
    let o : opcode w ≡ 0b1101111 = eqb-true _ _ e in
    let top : w / 4096 < 1048576 = omega arith in
    let s = jump_bits (w / 4096) top in
    record {
      instr = Jal (rd w) s.0;
      fits = (omega arith, s.2);
      is = ap (λ (x : ℕ). j_format x (rd w) 0b1101111) s.1 ∙ j_whole (w / 4096) (rd w) 0b1101111 top ∙ ap (u_format (w / 4096) (rd w)) (sym o) ∙ u_whole w;
    }

i_is : (w n s f d o : ℕ) → w < 2 ^ 32 → n ≡ w / 2 ^ 20 → s ≡ rs1 w → funct3 w ≡ f → d ≡ rd w → opcode w ≡ o → i_format n s f d o ≡ w
i_is w n s f d o h a b c x y =
    ap (λ (k : ℕ). i_format k s f d o) a ∙ ap (λ (k : ℕ). i_format (w / 2 ^ 20) k f d o) b ∙ ap (λ (k : ℕ). i_format (w / 2 ^ 20) (rs1 w) k d o) (sym c)
    ∙ ap (λ (k : ℕ). i_format (w / 2 ^ 20) (rs1 w) (funct3 w) k o) x ∙ ap (i_format (w / 2 ^ 20) (rs1 w) (funct3 w) (rd w)) (sym y) ∙ i_whole w h

r_is : (w g f o : ℕ) → w < 2 ^ 32 → funct7 w ≡ g → funct3 w ≡ f → opcode w ≡ o → r_format g (rs2 w) (rs1 w) f (rd w) o ≡ w
r_is w g f o h a b c =
    ap (λ (k : ℕ). r_format k (rs2 w) (rs1 w) f (rd w) o) (sym a) ∙ ap (λ (k : ℕ). r_format (funct7 w) (rs2 w) (rs1 w) k (rd w) o) (sym b)
    ∙ ap (r_format (funct7 w) (rs2 w) (rs1 w) (funct3 w) (rd w)) (sym c) ∙ r_whole w h

word_jalr : (w : ℕ) → w < 2 ^ 32 → OfPattern w (by_funct3 0b1100111 0) → IsWord w
word_jalr w h e =
    let p = fields_two w _ _ e in
    let s = signed_12 (w / 2 ^ 20) (omega arith) in
    record { instr = Jalr (rd w) (rs1 w) s.0; fits = (omega arith, omega arith, s.2); is = i_is w _ (rs1 w) 0 (rd w) 0b1100111 h s.1 refl p.1 refl p.0 }

word_fence : (w : ℕ) → w < 2 ^ 32 → OfPattern w (by_funct3 0b0001111 0) → IsWord w
word_fence w h e =
    let p = fields_two w _ _ e in
    let s = signed_12 (w / 2 ^ 20) (omega arith) in
    record { instr = Fence (rd w) (rs1 w) s.0; fits = (omega arith, omega arith, s.2); is = i_is w _ (rs1 w) 0 (rd w) 0b0001111 h s.1 refl p.1 refl p.0 }

word_load : (w : ℕ) → w < 2 ^ 32 → (op : ℕ) → IsTrue (is_one_of op (0 ∷ 1 ∷ 2 ∷ 4 ∷ 5 ∷ [])) → OfPattern w (by_funct3 0b0000011 op) → IsWord w
word_load w h op k e =
    let p = fields_two w _ _ e in
    let s = signed_12 (w / 2 ^ 20) (omega arith) in
    record { instr = Load op (rd w) (rs1 w) s.0; fits = (k, omega arith, omega arith, s.2); is = i_is w _ (rs1 w) op (rd w) 0b0000011 h s.1 refl p.1 refl p.0 }

at_true : (b : Bool) (P Q : Type 0) → b ≡ true → P → MatchBool b P Q
at_true true P Q e p = p
at_true false P Q e p = absurd (false≢true e)

at_false : (b : Bool) (P Q : Type 0) → b ≡ false → Q → MatchBool b P Q
at_false false P Q e q = q
at_false true P Q e q = absurd (false≢true (sym e))

word_imm : (w : ℕ) → w < 2 ^ 32 → (op : ℕ) → is_shift op ≡ false → op < 8 → OfPattern w (by_funct3 0b0010011 op) → IsWord w
word_imm w h op k l e =
    let p = fields_two w _ _ e in
    let s = signed_12 (w / 2 ^ 20) (omega arith) in
    record {
      instr = OpImm op false (rd w) (rs1 w) s.0;
      fits = (l, tt, omega arith, omega arith, at_false _ _ _ k s.2);
      is = i_is w _ (rs1 w) op (rd w) 0b0010011 h (zero-add _ ∙ s.1) refl p.1 refl p.0;
    }

word_shift : (w : ℕ) → w < 2 ^ 32 → (op g : ℕ) (alt : Bool) → is_shift op ≡ true → op < 8 → OnTrue alt (op ≡ 5) → shift_kind alt ≡ g * 32 → OfPattern w (by_funct7 0b0010011 op g) → IsWord w
word_shift w h op g alt k l m n e =
    let p = fields_three w _ _ _ e in
    let amount : ℕ = w / 2 ^ 20 % 32 in
    let small : amount < 32 = omega arith in
    let all : shift_kind alt + amount ≡ w / 2 ^ 20 = omega (arith, p.2, n) in
    record {
      instr = OpImm op alt (rd w) (rs1 w) (pos amount);
      fits = (l, m, omega arith, omega arith, at_true _ _ _ k small);
      is = i_is w _ (rs1 w) op (rd w) 0b0010011 h all refl p.1 refl p.0;
    }

word_op : (w : ℕ) → w < 2 ^ 32 → (op : ℕ) (alt : Bool) → op < 8 → OnTrue alt (IsTrue (is_one_of op (0 ∷ 5 ∷ []))) → OfPattern w (by_funct7 0b0110011 op (operation_kind alt)) → IsWord w
word_op w h op alt l m e =
    let p = fields_three w _ _ _ e in
    record { instr = Op op alt (rd w) (rs1 w) (rs2 w); fits = (l, m, omega arith, omega arith, omega arith); is = r_is w (operation_kind alt) op 0b0110011 h p.2 p.1 p.0 }

word_store : (w : ℕ) → w < 2 ^ 32 → (op : ℕ) → IsTrue (is_one_of op (0 ∷ 1 ∷ 2 ∷ [])) → OfPattern w (by_funct3 0b0100011 op) → IsWord w
word_store w h op k e =
    let p = fields_two w _ _ e in
    let s = signed_12 (funct7 w * 32 + rd w) (omega arith) in
    record {
      instr = Store op (rs1 w) (rs2 w) s.0;
      fits = (k, omega arith, omega arith, s.2);
      is = ap (λ (x : ℕ). s_format x (rs2 w) (rs1 w) op 0b0100011) s.1 ∙ s_whole (funct7 w) (rs2 w) (rs1 w) op (rd w) 0b0100011 (omega arith) (omega arith) ∙ r_is w (funct7 w) op 0b0100011 h refl p.1 p.0;
    }

word_branch : (w : ℕ) → w < 2 ^ 32 → (op : ℕ) → IsTrue (is_one_of op (0 ∷ 1 ∷ 4 ∷ 5 ∷ 6 ∷ 7 ∷ [])) → OfPattern w (by_funct3 0b1100011 op) → IsWord w
word_branch w h op k e =
    let p = fields_two w _ _ e in
    let g = funct7 w in
    let d = rd w in
    let gs : g < 128 = omega arith in
    let ds : d < 32 = omega arith in
    let s = even_bits g d gs ds in
    record {
      instr = Branch op (rs1 w) (rs2 w) s.0;
      fits = (k, omega arith, omega arith, s.2);
      is = ap (λ (x : ℕ). b_format x (rs2 w) (rs1 w) op 0b1100011) s.1 ∙ b_whole g (rs2 w) (rs1 w) op d 0b1100011 gs ds ∙ r_is w g op 0b1100011 h refl p.1 p.0;
    }

word_ecall : (w : ℕ) → OfPattern w (by_word 0x00000073) → IsWord w
word_ecall w e = record { instr = Ecall; fits = tt; is = sym (eqb-true _ _ e) }

word_ebreak : (w : ℕ) → OfPattern w (by_word 0x00100073) → IsWord w
word_ebreak w e = record { instr = Ebreak; fits = tt; is = sym (eqb-true _ _ e) }

-- ---- all rows

-- a fact of each row
data EachRow (P : Row → Type 0) : List Row → Type 0 where
  no_rows : EachRow P []
  one_more : {r : Row} {rows : List Row} → P r → EachRow P rows → EachRow P (r ∷ rows)

infixr 30 ◌▸◌
◌▸◌ : {P : Row → Type 0} {r : Row} {rows : List Row} → P r → EachRow P rows → EachRow P (r ∷ rows)
p ▸ q = one_more p q

row_found : (o f g w : ℕ) (A : Type 0) (rows : List Row) (name : Mnemonic) → EachRow (λ r. is_of r.pattern o f g w ≡ true → A) rows → first_row rows o f g w ≡ Some name → A
unfolding first_row
row_found o f g w A [] name h e = absurd (cc)
row_found o f g w A (r ∷ rows) name (one_more p q) e =
    elim (cases_Bool (is_of r.pattern o f g w)) [
      | inl t ↦ p t
      | inr n ↦ row_found o f g w A rows name q (sym (cond-false (is_of r.pattern o f g w) (Some r.named) (first_row rows o f g w) n) ∙ e)
    ]

each_listed : (w : ℕ) → w < 2 ^ 32 → EachRow (λ r. OfPattern w r.pattern → IsWord w) instruction_table
unfolding instruction_table
each_listed w h =
    word_lui w h
    ▸ word_auipc w h
    ▸ word_jal w h
    ▸ word_jalr w h
    ▸ word_branch w h 0 refl
    ▸ word_branch w h 1 refl
    ▸ word_branch w h 4 refl
    ▸ word_branch w h 5 refl
    ▸ word_branch w h 6 refl
    ▸ word_branch w h 7 refl
    ▸ word_load w h 0 refl
    ▸ word_load w h 1 refl
    ▸ word_load w h 2 refl
    ▸ word_load w h 4 refl
    ▸ word_load w h 5 refl
    ▸ word_store w h 0 refl
    ▸ word_store w h 1 refl
    ▸ word_store w h 2 refl
    ▸ word_imm w h 0 refl (omega arith)
    ▸ word_imm w h 2 refl (omega arith)
    ▸ word_imm w h 3 refl (omega arith)
    ▸ word_imm w h 4 refl (omega arith)
    ▸ word_imm w h 6 refl (omega arith)
    ▸ word_imm w h 7 refl (omega arith)
    ▸ word_shift w h 1 0 false refl (omega arith) tt refl
    ▸ word_shift w h 5 0 false refl (omega arith) tt refl
    ▸ word_shift w h 5 32 true refl (omega arith) refl refl
    ▸ word_op w h 0 false (omega arith) tt
    ▸ word_op w h 0 true (omega arith) refl
    ▸ word_op w h 1 false (omega arith) tt
    ▸ word_op w h 2 false (omega arith) tt
    ▸ word_op w h 3 false (omega arith) tt
    ▸ word_op w h 4 false (omega arith) tt
    ▸ word_op w h 5 false (omega arith) tt
    ▸ word_op w h 5 true (omega arith) refl
    ▸ word_op w h 6 false (omega arith) tt
    ▸ word_op w h 7 false (omega arith) tt
    ▸ word_fence w h
    ▸ word_ecall w
    ▸ word_ebreak w
    ▸ no_rows

-- what is listed is the word of an instruction that fits
pub word_from_listed : (w : ℕ) → w < 2 ^ 32 → (name : Mnemonic) → mnemonic w ≡ Some name → IsWord w
unfolding mnemonic
word_from_listed w h name e = row_found (opcode w) (funct3 w) (funct7 w) w (IsWord w) instruction_table name (each_listed w h) e

-- a word that no instruction has is not listed
pub none_listed : (w : ℕ) → w < 2 ^ 32 → (IsWord w → ⊥) → mnemonic w ≡ None
none_listed w h n = none_of (mnemonic w) (λ name e. n (word_from_listed w h name e))

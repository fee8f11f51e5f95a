-- For each word an instruction is found that has it, or there is none: a search through the values of each field.
use Rattle.std.proofs.Common.{◌≡◌, ℕ, zero, suc, ◌%◌, ◌^◌, ◌<◌, ◌⊎◌, Bool, true, false, [], ◌∷◌, ◌∙◌, inl, inr, sym, subst, arith}
use Rattle.std.proofs.lemmas.Bool.{cases_lt, cases_eq, cases_Bool, false≢true}
use Rattle.std.proofs.lemmas.Bool.Decides.{nat_tests}
use Rattle.std.specs.Bool.{MatchBool, OnTrue}
use Rattle.std.specs.Prelude.{ℤ, pos, negsuc, unsigned_abs, IsTrue}
use Rattle.em_isa.specs.declared.instructions.Instr.{Instr}
use Rattle.em_isa.specs.declared.instructions.Instr.TheVariants.{Lui, Auipc, Jal, Jalr, Branch, Load, Store, OpImm, Op, Fence, Ecall, Ebreak}
use Rattle.em_isa.specs.Encoding.{Fits, IsImmediate, IsOffset, IsShiftAmount, IsWithin, is_one_of, is_shift, word_of}

-- ---- searches: something is found, or a claim holds of each value of a field

-- of each number below m
each_below : (Found : Type 0) (Claim : ℕ → Type 0) (m : ℕ) → ((n : ℕ) → n < m → Found ⊎ Claim n)
    → Found ⊎ ((n : ℕ) → n < m → Claim n)
each_below Found Claim zero look = inr (λ n h. absurd (omega arith))
each_below Found Claim (suc m) look =
    elim (look m (omega arith)) [
      | inl found ↦ inl found
      | inr here ↦ elim (each_below Found Claim m (λ n h. look n (omega arith))) [
        | inl found ↦ inl found
        | inr below ↦ inr (λ n h. elim (cases_lt n m) [
          | inl less ↦ below n less
          | inr least ↦ let e : m ≡ n = omega arith in subst Claim e here
        ])
      ]
    ]

within_both : (Claim : ℤ → Type 0) (half : ℕ) → ((n : ℕ) → n < half → Claim (pos n)) → ((n : ℕ) → n < half → Claim (negsuc n))
    → (z : ℤ) → IsWithin half z → Claim z
within_both Claim half above below (pos n) h = above n h
within_both Claim half above below (negsuc n) h = below n (omega arith)

-- of each number from -half to half - 1
each_within : (Found : Type 0) (Claim : ℤ → Type 0) (half : ℕ) → ((z : ℤ) → IsWithin half z → Found ⊎ Claim z)
    → Found ⊎ ((z : ℤ) → IsWithin half z → Claim z)
each_within Found Claim half look =
    elim (each_below Found (λ n. Claim (pos n)) half (λ n h. look (pos n) h)) [
      | inl found ↦ inl found
      | inr above ↦ elim (each_below Found (λ n. Claim (negsuc n)) half (λ n h. look (negsuc n) (omega arith))) [
        | inl found ↦ inl found
        | inr below ↦ inr (within_both Claim half above below)
      ]
    ]

flag_both : (Claim : Bool → Type 0) → Claim true → Claim false → (flag : Bool) → Claim flag
flag_both Claim holds fails true = holds
flag_both Claim holds fails false = fails

-- of both flags
each_flag : (Found : Type 0) (Claim : Bool → Type 0) → ((flag : Bool) → Found ⊎ Claim flag) → Found ⊎ ((flag : Bool) → Claim flag)
each_flag Found Claim look =
    elim (look true) [
      | inl found ↦ inl found
      | inr holds ↦ elim (look false) [ inl found ↦ inl found | inr fails ↦ inr (flag_both Claim holds fails) ]
    ]

-- ---- whether the fields fit

abbrev IsDecided : Type 0 → Type 0
IsDecided A = A ⊎ (A → ⊥)

decided_both : {A B : Type 0} → IsDecided A → IsDecided B → IsDecided (A × B)
decided_both {A} {B} one other =
    elim one [
      | inl a ↦ elim other [ inl b ↦ inl (a, b) | inr fails ↦ inr (λ h. fails h.1) ]
      | inr fails ↦ inr (λ h. fails h.0)
    ]

decided_test : (test : Bool) → IsDecided (IsTrue test)
decided_test test = elim (cases_Bool test) [ inl holds ↦ inl holds | inr fails ↦ inr (λ holds. false≢true (sym fails ∙ holds)) ]

offset_decided : (half : ℕ) (z : ℤ) → IsWithin half z → IsDecided (IsOffset half z)
offset_decided half z w =
    elim (cases_eq (unsigned_abs z % 2) 0) [ inl even ↦ inl (w, even) | inr odd ↦ inr (λ h. odd h.1) ]

kind_decided : (alt : Bool) (P : Type 0) → IsDecided P → IsDecided (OnTrue alt P)
kind_decided true P d = d
kind_decided false P d = inl tt

amount_decided : (z : ℤ) → IsDecided (IsShiftAmount z)
amount_decided (pos n) = elim (cases_lt n 32) [ inl h ↦ inl h | inr h ↦ inr (λ k. omega arith) ]
amount_decided (negsuc n) = inr (λ h. h)

operand_decided : (shift : Bool) (z : ℤ) → IsWithin 2048 z → IsDecided (MatchBool shift (IsShiftAmount z) (IsImmediate z))
operand_decided true z w = amount_decided z
operand_decided false z w = inl w

jal_decided : (rd : ℕ) (z : ℤ) → rd < 32 → IsWithin 1048576 z → IsDecided (Fits (Jal rd z))
jal_decided rd z h w = decided_both (inl h) (offset_decided 1048576 z w)

branch_decided : (op a b : ℕ) (z : ℤ) → op < 8 → a < 32 → b < 32 → IsWithin 4096 z → IsDecided (Fits (Branch op a b z))
branch_decided op a b z _ h k w =
    elim (decided_both (decided_test (is_one_of op (0 ∷ 1 ∷ 4 ∷ 5 ∷ 6 ∷ 7 ∷ []))) (offset_decided 4096 z w)) [
      | inl f ↦ inl (f.0, h, k, f.1)
      | inr fails ↦ inr (λ f. fails (f.0, f.3))
    ]

load_decided : (op a b : ℕ) (z : ℤ) → op < 8 → a < 32 → b < 32 → IsWithin 2048 z → IsDecided (Fits (Load op a b z))
load_decided op a b z _ h k w =
    elim (decided_test (is_one_of op (0 ∷ 1 ∷ 2 ∷ 4 ∷ 5 ∷ []))) [ inl f ↦ inl (f, h, k, w) | inr fails ↦ inr (λ f. fails f.0) ]

store_decided : (op a b : ℕ) (z : ℤ) → op < 8 → a < 32 → b < 32 → IsWithin 2048 z → IsDecided (Fits (Store op a b z))
store_decided op a b z _ h k w =
    elim (decided_test (is_one_of op (0 ∷ 1 ∷ 2 ∷ []))) [ inl f ↦ inl (f, h, k, w) | inr fails ↦ inr (λ f. fails f.0) ]

immediate_decided : (op : ℕ) (alt : Bool) (a b : ℕ) (z : ℤ) → op < 8 → a < 32 → b < 32 → IsWithin 2048 z
    → IsDecided (Fits (OpImm op alt a b z))
immediate_decided op alt a b z o h k w =
    elim (decided_both (kind_decided alt (op ≡ 5) (cases_eq op 5)) (operand_decided (is_shift op) z w)) [
      | inl f ↦ inl (o, f.0, h, k, f.1)
      | inr fails ↦ inr (λ f. fails (f.1, f.4))
    ]

operation_decided : (op : ℕ) (alt : Bool) (a b c : ℕ) → op < 8 → a < 32 → b < 32 → c < 32
    → IsDecided (Fits (Op op alt a b c))
operation_decided op alt a b c o h k l =
    elim (kind_decided alt (IsTrue (is_one_of op (0 ∷ 5 ∷ []))) (decided_test (is_one_of op (0 ∷ 5 ∷ [])))) [
      | inl f ↦ inl (o, f, h, k, l)
      | inr fails ↦ inr (λ f. fails f.1)
    ]

-- ---- one instruction

abbrev HasWord : ℕ → Type 0
HasWord word = (i : Instr) × Fits i × (word_of i ≡ word)

abbrev IsOther : ℕ → Instr → Type 0
IsOther word i = Fits i → word_of i ≡ word → ⊥

look_at : (word : ℕ) (i : Instr) → IsDecided (Fits i) → HasWord word ⊎ IsOther word i
look_at word i fits =
    elim fits [
      | inl h ↦ elim (cases_eq (word_of i) word) [ inl e ↦ inl (i, h, e) | inr fails ↦ inr (λ _ e. fails e) ]
      | inr fails ↦ inr (λ h _. fails h)
    ]

-- ---- the shapes of an instruction's fields

-- an integer
abbrev AreOther₁ : ℕ → ℕ → (ℤ → Instr) → Type 0
AreOther₁ word half form = (z : ℤ) → IsWithin half z → IsOther word (form z)

look_1 : (word half : ℕ) (form : ℤ → Instr) → ((z : ℤ) → IsWithin half z → IsDecided (Fits (form z)))
    → HasWord word ⊎ AreOther₁ word half form
look_1 word half form fits =
    each_within (HasWord word) (λ z. IsOther word (form z)) half (λ z w. look_at word (form z) (fits z w))

-- a register and an integer
abbrev AreOther₂ : ℕ → ℕ → (ℕ → ℤ → Instr) → Type 0
AreOther₂ word half form = (a : ℕ) → a < 32 → AreOther₁ word half (form a)

look_2 : (word half : ℕ) (form : ℕ → ℤ → Instr)
    → ((a : ℕ) (z : ℤ) → a < 32 → IsWithin half z → IsDecided (Fits (form a z)))
    → HasWord word ⊎ AreOther₂ word half form
look_2 word half form fits =
    each_below (HasWord word) (λ a. AreOther₁ word half (form a)) 32 (λ a h. look_1 word half (form a) (λ z. fits a z h))

-- two registers and an integer
abbrev AreOther₃ : ℕ → ℕ → (ℕ → ℕ → ℤ → Instr) → Type 0
AreOther₃ word half form = (a : ℕ) → a < 32 → AreOther₂ word half (form a)

look_3 : (word half : ℕ) (form : ℕ → ℕ → ℤ → Instr)
    → ((a b : ℕ) (z : ℤ) → a < 32 → b < 32 → IsWithin half z → IsDecided (Fits (form a b z)))
    → HasWord word ⊎ AreOther₃ word half form
look_3 word half form fits =
    each_below (HasWord word) (λ a. AreOther₂ word half (form a)) 32 (λ a h. look_2 word half (form a) (λ b z. fits a b z h))

-- an operation, two registers and an integer
abbrev AreOther₄ : ℕ → ℕ → (ℕ → ℕ → ℕ → ℤ → Instr) → Type 0
AreOther₄ word half form = (op : ℕ) → op < 8 → AreOther₃ word half (form op)

look_4 : (word half : ℕ) (form : ℕ → ℕ → ℕ → ℤ → Instr)
    → ((op a b : ℕ) (z : ℤ) → op < 8 → a < 32 → b < 32 → IsWithin half z → IsDecided (Fits (form op a b z)))
    → HasWord word ⊎ AreOther₄ word half form
look_4 word half form fits =
    each_below (HasWord word) (λ op. AreOther₃ word half (form op)) 8 (λ op h. look_3 word half (form op) (λ a b z. fits op a b z h))

-- a register and an upper immediate
abbrev AreOtherUpper : ℕ → (ℕ → ℕ → Instr) → Type 0
AreOtherUpper word form = (rd : ℕ) → rd < 32 → (imm : ℕ) → imm < 2 ^ 20 → IsOther word (form rd imm)

look_upper : (word : ℕ) (form : ℕ → ℕ → Instr) → ((rd imm : ℕ) → rd < 32 → imm < 2 ^ 20 → Fits (form rd imm))
    → HasWord word ⊎ AreOtherUpper word form
look_upper word form fits =
    each_below (HasWord word) (λ rd. (imm : ℕ) → imm < 2 ^ 20 → IsOther word (form rd imm)) 32 (λ rd h.
    each_below (HasWord word) (λ imm. IsOther word (form rd imm)) (2 ^ 20) (λ imm k.
    look_at word (form rd imm) (inl (fits rd imm h k))))

-- an operation of either kind, two registers and an immediate
abbrev AreOtherImmediate : ℕ → Type 0
AreOtherImmediate word = (op : ℕ) → op < 8 → (alt : Bool) → AreOther₃ word 2048 (OpImm op alt)

look_immediate : (word : ℕ) → HasWord word ⊎ AreOtherImmediate word
look_immediate word =
    each_below (HasWord word) (λ op. (alt : Bool) → AreOther₃ word 2048 (OpImm op alt)) 8 (λ op h.
    each_flag (HasWord word) (λ alt. AreOther₃ word 2048 (OpImm op alt)) (λ alt.
    look_3 word 2048 (OpImm op alt) (λ a b z k l w. immediate_decided op alt a b z h k l w)))

-- an operation of either kind and three registers
abbrev AreOtherRegisters : ℕ → Type 0
AreOtherRegisters word =
    (op : ℕ) → op < 8 → (alt : Bool) (rd : ℕ) → rd < 32 → (rs1 : ℕ) → rs1 < 32 → (rs2 : ℕ) → rs2 < 32
    → IsOther word (Op op alt rd rs1 rs2)

look_registers : (word : ℕ) → HasWord word ⊎ AreOtherRegisters word
look_registers word =
    each_below (HasWord word) (λ op. (alt : Bool) (rd : ℕ) → rd < 32 → (rs1 : ℕ) → rs1 < 32 → (rs2 : ℕ) → rs2 < 32 → IsOther word (Op op alt rd rs1 rs2)) 8 (λ op h.
    each_flag (HasWord word) (λ alt. (rd : ℕ) → rd < 32 → (rs1 : ℕ) → rs1 < 32 → (rs2 : ℕ) → rs2 < 32 → IsOther word (Op op alt rd rs1 rs2)) (λ alt.
    each_below (HasWord word) (λ rd. (rs1 : ℕ) → rs1 < 32 → (rs2 : ℕ) → rs2 < 32 → IsOther word (Op op alt rd rs1 rs2)) 32 (λ rd k.
    each_below (HasWord word) (λ rs1. (rs2 : ℕ) → rs2 < 32 → IsOther word (Op op alt rd rs1 rs2)) 32 (λ rs1 l.
    each_below (HasWord word) (λ rs2. IsOther word (Op op alt rd rs1 rs2)) 32 (λ rs2 m.
    look_at word (Op op alt rd rs1 rs2) (operation_decided op alt rd rs1 rs2 h k l m))))))

-- ---- all

-- the operations of branches, loads and stores are below 8
pub branch_op : (op : ℕ) → IsTrue (is_one_of op (0 ∷ 1 ∷ 4 ∷ 5 ∷ 6 ∷ 7 ∷ [])) → op < 8
branch_op op h = grind (arith, nat_tests)

pub load_op : (op : ℕ) → IsTrue (is_one_of op (0 ∷ 1 ∷ 2 ∷ 4 ∷ 5 ∷ [])) → op < 8
load_op op h = grind (arith, nat_tests)

pub store_op : (op : ℕ) → IsTrue (is_one_of op (0 ∷ 1 ∷ 2 ∷ [])) → op < 8
store_op op h = grind (arith, nat_tests)

operand_within : (shift : Bool) (z : ℤ) → MatchBool shift (IsShiftAmount z) (IsImmediate z) → IsWithin 2048 z
operand_within true (pos n) h = omega arith
operand_within true (negsuc n) h = absurd h
operand_within false z h = h

-- none of the instructions has the word
record AreAllOther (word : ℕ) : Type 0 where
  luis : AreOtherUpper word Lui
  auipcs : AreOtherUpper word Auipc
  jals : AreOther₂ word 1048576 Jal
  jalrs : AreOther₃ word 2048 Jalr
  branches : AreOther₄ word 4096 Branch
  loads : AreOther₄ word 2048 Load
  stores : AreOther₄ word 2048 Store
  immediates : AreOtherImmediate word
  registers : AreOtherRegisters word
  fences : AreOther₃ word 2048 Fence
  ecall : IsOther word Ecall
  ebreak : IsOther word Ebreak

none_has : (word : ℕ) → AreAllOther word → (i : Instr) → Fits i → word_of i ≡ word → ⊥
none_has word other (Lui rd imm) h e = other.luis rd h.0 imm h.1 h e
none_has word other (Auipc rd imm) h e = other.auipcs rd h.0 imm h.1 h e
none_has word other (Jal rd z) h e = other.jals rd h.0 z h.1.0 h e
none_has word other (Jalr rd rs1 z) h e = other.jalrs rd h.0 rs1 h.1 z h.2 h e
none_has word other (Branch op rs1 rs2 z) h e = other.branches op (branch_op op h.0) rs1 h.1 rs2 h.2 z h.3.0 h e
none_has word other (Load op rd rs1 z) h e = other.loads op (load_op op h.0) rd h.1 rs1 h.2 z h.3 h e
none_has word other (Store op rs1 rs2 z) h e = other.stores op (store_op op h.0) rs1 h.1 rs2 h.2 z h.3 h e
none_has word other (OpImm op alt rd rs1 z) h e =
    other.immediates op h.0 alt rd h.2 rs1 h.3 z (operand_within (is_shift op) z h.4) h e
none_has word other (Op op alt rd rs1 rs2) h e = other.registers op h.0 alt rd h.2 rs1 h.3 rs2 h.4 h e
none_has word other (Fence rd rs1 z) h e = other.fences rd h.0 rs1 h.1 z h.2 h e
none_has word other Ecall h e = other.ecall h e
none_has word other Ebreak h e = other.ebreak h e

-- something is found, or one claim holds and what follows is looked at
or_else : {Found Claim Rest : Type 0} → Found ⊎ Claim → (Claim → Found ⊎ Rest) → Found ⊎ Rest
or_else {Found} {Claim} {Rest} first next = elim first [ inl found ↦ inl found | inr claim ↦ next claim ]

look_all : (word : ℕ) → HasWord word ⊎ AreAllOther word
look_all word =
    or_else (look_upper word Lui (λ rd imm h k. (h, k))) (λ luis.
    or_else (look_upper word Auipc (λ rd imm h k. (h, k))) (λ auipcs.
    or_else (look_2 word 1048576 Jal jal_decided) (λ jals.
    or_else (look_3 word 2048 Jalr (λ a b z h k w. inl (h, k, w))) (λ jalrs.
    or_else (look_4 word 4096 Branch branch_decided) (λ branches.
    or_else (look_4 word 2048 Load load_decided) (λ loads.
    or_else (look_4 word 2048 Store store_decided) (λ stores.
    or_else (look_immediate word) (λ immediates.
    or_else (look_registers word) (λ registers.
    or_else (look_3 word 2048 Fence (λ a b z h k w. inl (h, k, w))) (λ fences.
    or_else (look_at word Ecall (inl tt)) (λ ecall.
    or_else (look_at word Ebreak (inl tt)) (λ ebreak.
    inr (record {
      luis = luis;
      auipcs = auipcs;
      jals = jals;
      jalrs = jalrs;
      branches = branches;
      loads = loads;
      stores = stores;
      immediates = immediates;
      registers = registers;
      fences = fences;
      ecall = ecall;
      ebreak = ebreak;
    })))))))))))))

-- each word is that of an instruction, or of none
pub decided : (word : ℕ) → HasWord word ⊎ ((i : Instr) → Fits i → word_of i ≡ word → ⊥)
decided word = or_else (look_all word) (λ other. inr (none_has word other))

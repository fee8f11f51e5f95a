-- What is written of an instruction or a word reads back as that.
use Rattle.std.proofs.Common.{◌≡◌, ℕ, ◌^◌, ◌<◌, ℤ, pos, negsuc, ◌≤ℤ◌, Bool, true, false, ◌&&◌, nat_eq, List, [], ◌∷◌, ◌++◌, Some, None, Result, Ok, inl, inr, refl, sym, ap, subst, ◌∙◌, arith, codes, if◌then◌else◌}
use Rattle.std.proofs.lemmas.Bool.Decides.{nat_tests}
use Rattle.std.proofs.lemmas.Int.{ints}
use Rattle.std.specs.Fmt.{decimal, signed_decimal}
use Rattle.std.specs.Prelude.{slice_index, unsigned_abs, ◌%◌}
use Rattle.std.specs.Bool.{MatchBool}
use Rattle.em_isa.specs.declared.instructions.Instr.{Instr}
use Rattle.em_isa.specs.declared.instructions.Instr.TheVariants.{Lui, Auipc, Jal, Jalr, Branch, Load, Store, OpImm, Op, Fence, Ecall, Ebreak}
use Rattle.em_isa.specs.Encoding.{Fits, IsImmediate, IsOffset, IsShiftAmount, is_shift, twos_complement, word_of}
use Rattle.em_asm_read.specs.declared.faults.Fault.{Fault}
use Rattle.em_asm_read.specs.declared.faults.Fault.TheVariants.{Mnemonic as BadMnemonic}
use Rattle.em_asm_read.specs.declared.items.Item.{Item}
use Rattle.em_asm_read.specs.declared.items.Item.TheVariants.{One, Branch as BranchTo, Jal as JalTo, Raw}
use Rattle.em_asm_read.specs.declared.items.Target.TheVariants.{Offset}
use Rattle.em_asm_read.specs.declared.mnemonics.Mnemonic.{Mnemonic}
use Rattle.em_asm_read.specs.declared.mnemonics.Mnemonic.TheVariants.{Operation, Immediate, Load as LoadBy, Store as StoreBy, Branch as BranchBy, Jal as JalBy, Jalr as JalrBy, Lui as LuiBy, Auipc as AuipcBy, Fence as FenceBy, Ecall as EcallBy, Ebreak as EbreakBy, Code}
use Rattle.em_asm_read.specs.Faults.{found_or, then_read}
use Rattle.em_asm_read.specs.Grammar.{Words, HasParts}
use Rattle.em_asm_read.specs.Mnemonics.{mnemonic_of}
use Rattle.em_asm_read.specs.Operands.{address_operand, number_operand, register_operand, target_operand}
use Rattle.em_asm_read.specs.Statements.{one, immediate_operand, statement, upper}
use Rattle.em_base.proofs.Trimming.{both, both_are}
use Rattle.std.specs.List.{list_all}
use Rattle.em_show.specs.Back.{ReadsBack, one_word}
use Rattle.em_show.specs.Listing.{IsTextOf}
use Rattle.em_show.specs.Show.{address_text, branch_names, hexadecimal, immediate_name, is_whole_fence, load_names, name_at, operation_name, raw_text, register_text, statement_text, store_names, text_of}
use Rattle.em_show.proofs.NamesAreMnemonics.{IsNamed, IsPlainFirst, operation-named, immediate-named, branch-named, load-named, store-named, jal-named, jalr-named, lui-named, auipc-named, fence-named, ecall-named, ebreak-named, code-named}
use Rattle.em_show.proofs.NumbersReadBack.{IsSmall, address-back, address-token, hexadecimal-back, hexadecimal-token, number-back, number-token, register-back, register-token, target-back}
use Rattle.em_show.proofs.TokensArePlain.{is_token, parts-alone, parts-statement_text}

-- ---- a statement reads back

-- a line with these words, which say this
said-back : (text : List ℕ) (words : Words) (mnemonic : Mnemonic) (item : Item) (word : ℕ) → HasParts text (record { label = None; statement = Some words })
    → mnemonic_of words.mnemonic ≡ Some mnemonic → statement mnemonic words.operands ≡ Ok item → one_word item ≡ Some word → ReadsBack text word
said-back text words mnemonic item word parts named says is =
    record {
      line = record { label = None; item = item };
      read = (
        record { label = None; statement = Some words },
        parts,
        ap (λ o. then_read (then_read (found_or BadMnemonic o) (λ m. statement m words.operands)) (λ i. Ok (record { label = None; item = i }))) named
            ∙ ap (λ r. then_read r (λ i. Ok (record { label = None; item = i }))) says,
      );
      unlabelled = refl;
      word_is = is;
    }

-- a mnemonic with operands
statement_text-back : (name operand : List ℕ) (operands : List (List ℕ)) (mnemonic : Mnemonic) (item : Item) (word : ℕ) → IsNamed name mnemonic → is_token operand ≡ true → list_all is_token operands ≡ true
    → statement mnemonic (operand ∷ operands) ≡ Ok item → one_word item ≡ Some word → ReadsBack (statement_text name (operand ∷ operands)) word
statement_text-back name operand operands mnemonic item word named first more says is =
    said-back (statement_text name (operand ∷ operands)) (record { mnemonic = name; operands = operand ∷ operands }) mnemonic item word (parts-statement_text name operand operands named.0 first more) named.1 says is

-- a mnemonic alone
alone-back : (name : List ℕ) (mnemonic : Mnemonic) (item : Item) (word : ℕ) → IsNamed name mnemonic → statement mnemonic [] ≡ Ok item → one_word item ≡ Some word → ReadsBack name word
alone-back name mnemonic item word named says is = said-back name (record { mnemonic = name; operands = [] }) mnemonic item word (parts-alone name named.0) named.1 says is

one-token : (a : List ℕ) → is_token a ≡ true → list_all is_token (a ∷ []) ≡ true
one-token a h = both_are (is_token a) true h refl

tokens : (a b : List ℕ) → is_token a ≡ true → is_token b ≡ true → list_all is_token (a ∷ b ∷ []) ≡ true
tokens a b h k = both_are (is_token a) (list_all is_token (b ∷ [])) h (one-token b k)

-- what follows a value that was read
follows : {X Y : Type 0} (found : Result X Fault) (x : X) (next : X → Result Y Fault) → found ≡ Ok x → then_read found next ≡ next x
follows {X} {Y} found x next e = ap (λ r. then_read r next) e

reads-two : {X Y R : Type 0} (f : X → Y → Result R Fault) (first : Result X Fault) (second : Result Y Fault) (x : X) (y : Y) → first ≡ Ok x → second ≡ Ok y → then_read first (λ a. then_read second (f a)) ≡ f x y
reads-two {X} {Y} {R} f first second x y a b = follows first x (λ x. then_read second (f x)) a ∙ follows second y (f x) b

reads-three : {X Y Z R : Type 0} (f : X → Y → Z → Result R Fault) (first : Result X Fault) (second : Result Y Fault) (third : Result Z Fault) (x : X) (y : Y) (z : Z)
    → first ≡ Ok x → second ≡ Ok y → third ≡ Ok z → then_read first (λ a. then_read second (λ b. then_read third (f a b))) ≡ f x y z
reads-three {X} {Y} {Z} {R} f first second third x y z a b c =
    follows first x (λ x. then_read second (λ y. then_read third (f x y))) a ∙ reads-two (f x) second third y z b c

-- ---- ranges

record InRange (low high z : ℤ) : Type 0 where
  small : IsSmall z
  least : low ≤ℤ z
  most : z ≤ℤ high

immediate-range : (z : ℤ) → IsImmediate z → InRange (negsuc 2047) (pos 2047) z
immediate-range (pos n) h = record { small = omega arith; least = omega (arith, ints); most = omega (arith, ints) }
immediate-range (negsuc n) h = record { small = omega arith; least = omega (arith, ints); most = omega (arith, ints) }

shift-range : (z : ℤ) → IsShiftAmount z → InRange (pos 0) (pos 31) z
shift-range (pos n) h = record { small = omega arith; least = omega (arith, ints); most = omega (arith, ints) }
shift-range (negsuc n) h = absurd h

branch-range : (z : ℤ) → IsOffset 4096 z → InRange (negsuc 4095) (pos 4094) z
branch-range (pos n) h = let e : n % 2 ≡ 0 = h.1 in record { small = omega arith; least = omega (arith, ints); most = omega (arith, ints) }
branch-range (negsuc n) h = record { small = omega arith; least = omega (arith, ints); most = omega (arith, ints) }

jump-range : (z : ℤ) → IsOffset 1048576 z → InRange (negsuc 1048575) (pos 1048574) z
jump-range (pos n) h = let e : n % 2 ≡ 0 = h.1 in record { small = omega arith; least = omega (arith, ints); most = omega (arith, ints) }
jump-range (negsuc n) h = record { small = omega arith; least = omega (arith, ints); most = omega (arith, ints) }

upper-range : (n : ℕ) → n < 2 ^ 20 → InRange (pos 0) (pos 1048575) (pos n)
upper-range n h = record { small = omega arith; least = omega (arith, ints); most = omega (arith, ints) }

-- ---- operands of each form

-- rd, rs1, rs2
operation-back : (op : ℕ) (alt : Bool) (rd rs1 rs2 : ℕ) → Fits (Op op alt rd rs1 rs2) → ReadsBack (text_of (Op op alt rd rs1 rs2)) (word_of (Op op alt rd rs1 rs2))
operation-back op alt rd rs1 rs2 (o, k, d, a, b) =
    let says = ap one (reads-three (λ d a b. Ok (Op op alt d a b)) (register_operand (register_text rd)) (register_operand (register_text rs1)) (register_operand (register_text rs2)) rd rs1 rs2 (register-back rd d) (register-back rs1 a) (register-back rs2 b)) in
    statement_text-back (operation_name op alt) (register_text rd) (register_text rs1 ∷ register_text rs2 ∷ []) (Operation op alt) (One (Op op alt rd rs1 rs2)) (word_of (Op op alt rd rs1 rs2))
    (operation-named op alt o k) (register-token rd d) (tokens (register_text rs1) (register_text rs2) (register-token rs1 a) (register-token rs2 b)) says refl

-- rd, rs1, imm
immediate-operand-back : (op : ℕ) (imm : ℤ) → MatchBool (is_shift op) (IsShiftAmount imm) (IsImmediate imm) → (immediate_operand op (signed_decimal imm) ≡ Ok imm) × IsSmall imm
immediate-operand-back op imm h = by-kind (is_shift op) h
  where
    by-kind : (b : Bool) → MatchBool b (IsShiftAmount imm) (IsImmediate imm)
        → ((if b then number_operand (pos 0) (pos 31) (signed_decimal imm) else number_operand (negsuc 2047) (pos 2047) (signed_decimal imm)) ≡ Ok imm) × IsSmall imm
    by-kind true k = let r = shift-range imm k in (number-back (pos 0) (pos 31) imm r.small r.least r.most, r.small)
    by-kind false k = let r = immediate-range imm k in (number-back (negsuc 2047) (pos 2047) imm r.small r.least r.most, r.small)

immediate-back : (op : ℕ) (alt : Bool) (rd rs1 : ℕ) (imm : ℤ) → Fits (OpImm op alt rd rs1 imm) → ReadsBack (text_of (OpImm op alt rd rs1 imm)) (word_of (OpImm op alt rd rs1 imm))
immediate-back op alt rd rs1 imm (o, k, d, a, i) =
    let number = immediate-operand-back op imm i in
    let says = ap one (reads-three (λ d a i. Ok (OpImm op alt d a i)) (register_operand (register_text rd)) (register_operand (register_text rs1)) (immediate_operand op (signed_decimal imm)) rd rs1 imm (register-back rd d) (register-back rs1 a) number.0) in
    statement_text-back (immediate_name op alt) (register_text rd) (register_text rs1 ∷ signed_decimal imm ∷ []) (Immediate op alt) (One (OpImm op alt rd rs1 imm)) (word_of (OpImm op alt rd rs1 imm))
    (immediate-named op alt o k) (register-token rd d) (tokens (register_text rs1) (signed_decimal imm) (register-token rs1 a) (number-token imm number.1)) says refl

-- a register, imm(rs1)
record Placed (imm : ℤ) (rs1 : ℕ) : Type 0 where
  token : list_all is_token (address_text imm rs1 ∷ []) ≡ true
  found : address_operand (address_text imm rs1) ≡ Ok (imm, rs1)

placed : (imm : ℤ) (rs1 : ℕ) → IsImmediate imm → rs1 < 32 → Placed imm rs1
placed imm rs1 i a =
    let r = immediate-range imm i in
    record { token = one-token (address_text imm rs1) (address-token imm rs1 r.small a); found = address-back imm rs1 r.small r.least r.most a }

load-back : (op rd rs1 : ℕ) (imm : ℤ) → Fits (Load op rd rs1 imm) → ReadsBack (text_of (Load op rd rs1 imm)) (word_of (Load op rd rs1 imm))
load-back op rd rs1 imm (o, d, a, i) =
    let p = placed imm rs1 i a in
    let says = ap one (reads-two (λ d a. Ok (Load op d a.1 a.0)) (register_operand (register_text rd)) (address_operand (address_text imm rs1)) rd (imm, rs1) (register-back rd d) p.found) in
    statement_text-back (name_at load_names op) (register_text rd) (address_text imm rs1 ∷ []) (LoadBy op) (One (Load op rd rs1 imm)) (word_of (Load op rd rs1 imm)) (load-named op o) (register-token rd d) p.token says refl

store-back : (op rs1 rs2 : ℕ) (imm : ℤ) → Fits (Store op rs1 rs2 imm) → ReadsBack (text_of (Store op rs1 rs2 imm)) (word_of (Store op rs1 rs2 imm))
store-back op rs1 rs2 imm (o, a, b, i) =
    let p = placed imm rs1 i a in
    let says = ap one (reads-two (λ b a. Ok (Store op a.1 b a.0)) (register_operand (register_text rs2)) (address_operand (address_text imm rs1)) rs2 (imm, rs1) (register-back rs2 b) p.found) in
    statement_text-back (name_at store_names op) (register_text rs2) (address_text imm rs1 ∷ []) (StoreBy op) (One (Store op rs1 rs2 imm)) (word_of (Store op rs1 rs2 imm)) (store-named op o) (register-token rs2 b) p.token says refl

jump-register-back : (rd rs1 : ℕ) (imm : ℤ) → Fits (Jalr rd rs1 imm) → ReadsBack (text_of (Jalr rd rs1 imm)) (word_of (Jalr rd rs1 imm))
jump-register-back rd rs1 imm (d, a, i) =
    let p = placed imm rs1 i a in
    let says = ap one (reads-two (λ d a. Ok (Jalr d a.1 a.0)) (register_operand (register_text rd)) (address_operand (address_text imm rs1)) rd (imm, rs1) (register-back rd d) p.found) in
    statement_text-back (codes "jalr") (register_text rd) (address_text imm rs1 ∷ []) JalrBy (One (Jalr rd rs1 imm)) (word_of (Jalr rd rs1 imm)) jalr-named (register-token rd d) p.token says refl

-- rd, n
upper-back : (rd n : ℕ) → rd < 32 → n < 2 ^ 20 → (upper (register_text rd ∷ decimal n ∷ []) ≡ Ok (rd, n)) × (list_all is_token (decimal n ∷ []) ≡ true)
upper-back rd n d k =
    let r = upper-range n k in (
      reads-two (λ d i. Ok (d, unsigned_abs i)) (register_operand (register_text rd)) (number_operand (pos 0) (pos 1048575) (signed_decimal (pos n))) rd (pos n) (register-back rd d) (number-back (pos 0) (pos 1048575) (pos n) r.small r.least r.most),
      one-token (decimal n) (number-token (pos n) r.small),
    )

load-upper-back : (rd n : ℕ) → Fits (Lui rd n) → ReadsBack (text_of (Lui rd n)) (word_of (Lui rd n))
load-upper-back rd n (d, k) =
    let u = upper-back rd n d k in
    statement_text-back (codes "lui") (register_text rd) (decimal n ∷ []) LuiBy (One (Lui rd n)) (word_of (Lui rd n)) lui-named (register-token rd d) u.1
    (ap (λ r. one (then_read r (λ u. Ok (Lui u.0 u.1)))) u.0) refl

add-upper-back : (rd n : ℕ) → Fits (Auipc rd n) → ReadsBack (text_of (Auipc rd n)) (word_of (Auipc rd n))
add-upper-back rd n (d, k) =
    let u = upper-back rd n d k in
    statement_text-back (codes "auipc") (register_text rd) (decimal n ∷ []) AuipcBy (One (Auipc rd n)) (word_of (Auipc rd n)) auipc-named (register-token rd d) u.1
    (ap (λ r. one (then_read r (λ u. Ok (Auipc u.0 u.1)))) u.0) refl

-- targets
branch-back : (op rs1 rs2 : ℕ) (offset : ℤ) → Fits (Branch op rs1 rs2 offset) → ReadsBack (text_of (Branch op rs1 rs2 offset)) (word_of (Branch op rs1 rs2 offset))
branch-back op rs1 rs2 offset (o, a, b, f) =
    let r = branch-range offset f in
    let says = reads-three (λ a b t. Ok (BranchTo op a b t)) (register_operand (register_text rs1)) (register_operand (register_text rs2)) (target_operand (negsuc 4095) (pos 4094) (signed_decimal offset)) rs1 rs2 (Offset offset)
    (register-back rs1 a) (register-back rs2 b) (target-back (negsuc 4095) (pos 4094) offset r.small r.least r.most f.1) in
    statement_text-back (name_at branch_names op) (register_text rs1) (register_text rs2 ∷ signed_decimal offset ∷ []) (BranchBy op) (BranchTo op rs1 rs2 (Offset offset)) (word_of (Branch op rs1 rs2 offset))
    (branch-named op o) (register-token rs1 a) (tokens (register_text rs2) (signed_decimal offset) (register-token rs2 b) (number-token offset r.small)) says refl

jump-back : (rd : ℕ) (offset : ℤ) → Fits (Jal rd offset) → ReadsBack (text_of (Jal rd offset)) (word_of (Jal rd offset))
jump-back rd offset (d, f) =
    let r = jump-range offset f in
    let says = reads-two (λ d t. Ok (JalTo d t)) (register_operand (register_text rd)) (target_operand (negsuc 1048575) (pos 1048574) (signed_decimal offset)) rd (Offset offset) (register-back rd d)
    (target-back (negsuc 1048575) (pos 1048574) offset r.small r.least r.most f.1) in
    statement_text-back (codes "jal") (register_text rd) (signed_decimal offset ∷ []) JalBy (JalTo rd (Offset offset)) (word_of (Jal rd offset)) jal-named (register-token rd d) (one-token (signed_decimal offset) (number-token offset r.small)) says refl

-- ---- fences and words

-- a word that is written as a number reads back
pub raw-back : (word : ℕ) → word < 2 ^ 32 → ReadsBack (raw_text word) word
raw-back word h =
    let text = codes "0x" ++ hexadecimal word in
    let says = ap (λ r. then_read (then_read r (λ n. Ok (unsigned_abs n))) (λ w. Ok (Raw w))) (hexadecimal-back word h) in
    statement_text-back (codes ".code") text [] Code (Raw word) word code-named (hexadecimal-token word h) refl says refl

twelve-bits : (z : ℤ) → IsImmediate z → twos_complement 12 z < 4096
twelve-bits (pos n) h = omega (arith, h)
twelve-bits (negsuc n) h = omega (arith, h)

fence-word : (rd rs1 : ℕ) (imm : ℤ) → Fits (Fence rd rs1 imm) → word_of (Fence rd rs1 imm) < 2 ^ 32
fence-word rd rs1 imm (d, a, i) = omega (arith, twelve-bits imm i)

whole : (rd rs1 : ℕ) (imm : ℤ) → is_whole_fence rd rs1 imm ≡ true → Fence 0 0 (pos 255) ≡ Fence rd rs1 imm
whole rd rs1 (negsuc imm) h = absurd (cc)
whole rd rs1 (pos imm) h =
    let b = both (nat_eq rd 0 && nat_eq rs1 0) (nat_eq imm 255) h in
    let registers = both (nat_eq rd 0) (nat_eq rs1 0) b.0 in
    let r : 0 ≡ rd = grind (arith, nat_tests, registers.0) in
    let s : 0 ≡ rs1 = grind (arith, nat_tests, registers.1) in
    let f : 255 ≡ imm = grind (arith, nat_tests, b.1) in
    ap (λ r. Fence r 0 (pos 255)) r ∙ ap (λ s. Fence rd s (pos 255)) s ∙ ap (λ f. Fence rd rs1 (pos f)) f

fence-back : (rd rs1 : ℕ) (imm : ℤ) → Fits (Fence rd rs1 imm) → ReadsBack (text_of (Fence rd rs1 imm)) (word_of (Fence rd rs1 imm))
fence-back rd rs1 imm fits = by-kind (is_whole_fence rd rs1 imm) refl
  where
    by-kind : (b : Bool) → is_whole_fence rd rs1 imm ≡ b → ReadsBack (if b then codes "fence" else raw_text (word_of (Fence rd rs1 imm))) (word_of (Fence rd rs1 imm))
    by-kind true e = subst (λ i. ReadsBack (codes "fence") (word_of i)) (whole rd rs1 imm e) (alone-back (codes "fence") FenceBy (One (Fence 0 0 (pos 255))) (word_of (Fence 0 0 (pos 255))) fence-named refl refl)
    by-kind false e = raw-back (word_of (Fence rd rs1 imm)) (fence-word rd rs1 imm fits)

-- ---- all instructions

-- the text of an instruction reads back
pub instruction-back : (i : Instr) → Fits i → ReadsBack (text_of i) (word_of i)
instruction-back (Lui rd imm) h = load-upper-back rd imm h
instruction-back (Auipc rd imm) h = add-upper-back rd imm h
instruction-back (Jal rd offset) h = jump-back rd offset h
instruction-back (Jalr rd rs1 imm) h = jump-register-back rd rs1 imm h
instruction-back (Branch op rs1 rs2 offset) h = branch-back op rs1 rs2 offset h
instruction-back (Load op rd rs1 imm) h = load-back op rd rs1 imm h
instruction-back (Store op rs1 rs2 imm) h = store-back op rs1 rs2 imm h
instruction-back (OpImm op alt rd rs1 imm) h = immediate-back op alt rd rs1 imm h
instruction-back (Op op alt rd rs1 rs2) h = operation-back op alt rd rs1 rs2 h
instruction-back (Fence rd rs1 imm) h = fence-back rd rs1 imm h
instruction-back Ecall h = alone-back (codes "ecall") EcallBy (One Ecall) (word_of Ecall) ecall-named refl refl
instruction-back Ebreak h = alone-back (codes "ebreak") EbreakBy (One Ebreak) (word_of Ebreak) ebreak-named refl refl

-- the text of a word in a listing
pub text-back : (word : ℕ) (text : List ℕ) → word < 2 ^ 32 → IsTextOf word text → ReadsBack text word
text-back word text h (inl (i, fits, is, same)) = subst (λ t. ReadsBack t word) (sym same) (subst (λ w. ReadsBack (text_of i) w) is (instruction-back i fits))
text-back word text h (inr (none, same)) = subst (λ t. ReadsBack t word) (sym same) (raw-back word h)

-- ---- no text begins with a percent sign

statement_text-first : (name : List ℕ) (mnemonic : Mnemonic) (operands : List (List ℕ)) → IsNamed name mnemonic → IsPlainFirst (statement_text name operands)
statement_text-first [] mnemonic operands h = absurd (cc)
statement_text-first (c ∷ cs) mnemonic operands h = h.2

first-of : (i : Instr) → Fits i → IsPlainFirst (text_of i)
first-of (Lui rd imm) h = refl
first-of (Auipc rd imm) h = refl
first-of (Jal rd offset) h = refl
first-of (Jalr rd rs1 imm) h = refl
first-of (Branch op rs1 rs2 offset) h = statement_text-first (name_at branch_names op) (BranchBy op) (register_text rs1 ∷ register_text rs2 ∷ signed_decimal offset ∷ []) (branch-named op h.0)
first-of (Load op rd rs1 imm) h = statement_text-first (name_at load_names op) (LoadBy op) (register_text rd ∷ address_text imm rs1 ∷ []) (load-named op h.0)
first-of (Store op rs1 rs2 imm) h = statement_text-first (name_at store_names op) (StoreBy op) (register_text rs2 ∷ address_text imm rs1 ∷ []) (store-named op h.0)
first-of (OpImm op alt rd rs1 imm) h = statement_text-first (immediate_name op alt) (Immediate op alt) (register_text rd ∷ register_text rs1 ∷ signed_decimal imm ∷ []) (immediate-named op alt h.0 h.1)
first-of (Op op alt rd rs1 rs2) h = statement_text-first (operation_name op alt) (Operation op alt) (register_text rd ∷ register_text rs1 ∷ register_text rs2 ∷ []) (operation-named op alt h.0 h.1)
first-of (Fence rd rs1 imm) h = by-kind (is_whole_fence rd rs1 imm)
  where
    by-kind : (b : Bool) → IsPlainFirst (if b then codes "fence" else raw_text (word_of (Fence rd rs1 imm)))
    by-kind true = refl
    by-kind false = refl
first-of Ecall h = refl
first-of Ebreak h = refl

other-than : (byte : ℕ) → nat_eq byte 37 ≡ false → byte ≡ 37 → ⊥
other-than byte h e = grind (arith, nat_tests, h, e)

-- the text of a word begins with no percent sign
pub text-first : (word : ℕ) (text : List ℕ) → IsTextOf word text → slice_index text 0 ≡ 37 → ⊥
text-first word text (inl (i, fits, is, same)) = other-than (slice_index text 0) (subst IsPlainFirst (sym same) (first-of i fits))
text-first word text (inr (none, same)) = other-than (slice_index text 0) (subst IsPlainFirst (sym same) refl)

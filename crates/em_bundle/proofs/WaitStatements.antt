-- A statement that is a `waitjob` has the word `waitjob` as its mnemonic.
use mathlib.Core.Bool.{◌||◌}
use Rattle.std.proofs.Common.{pos, negsuc, ◌≡◌, ◌∙◌, ℕ, Bool, true, false, not, List, [], ◌∷◌, codes, Some, Result, Ok, Err, refl, sym, ap, if◌then◌else◌}
use Rattle.std.proofs.lemmas.Slice.Eq.{bytes_eq-Decides}
use Rattle.std.specs.List.{list_all}
use Rattle.std.specs.Str.{bytes_eq}
use Rattle.em_base.proofs.Trimming.{both}
use Rattle.em_asm_read.specs.declared.faults.Fault.{Fault}
use Rattle.em_asm_read.specs.declared.items.Item.{Item}
use Rattle.em_asm_read.specs.declared.items.Item.TheVariants.{One, Branch as BranchTo, Jal as JalTo, Li as LiOf, Wait, Word as WordOf, Raw}
use Rattle.em_asm_read.specs.declared.mnemonics.Mnemonic.{Mnemonic}
use Rattle.em_asm_read.specs.declared.mnemonics.Mnemonic.TheVariants.{Operation, Immediate, Load, Store, Branch, Jal, Jalr, Lui, Auipc, Fence, Ecall, Ebreak, Nop, Mv, J, Ret, Li, WaitJob, Code, Word}
use Rattle.em_asm_read.specs.Faults.{then_read}
use Rattle.em_asm_read.specs.Mnemonics.{among, mnemonic_of, mnemonics}
use Rattle.em_asm_read.specs.Operands.{register_operand, target_operand}
use Rattle.em_asm_read.specs.Statements.{add_upper, branch, copy, immediate, jump, jump_register, load, load_number, load_upper, operation, plain_jump, raw, shared_word, statement, store, word_operand, unsigned_operand}

-- whether a statement is a `waitjob`
abbrev pub is_wait : Item → Bool
is_wait (Wait hint) = true
is_wait _ = false

-- whether what was read is a `waitjob`
abbrev pub waits : Result Item Fault → Bool
waits (Ok item) = is_wait item
waits (Err fault) = false

-- whether the mnemonic is that of `waitjob`
abbrev is_wait_job : Mnemonic → Bool
is_wait_job WaitJob = true
is_wait_job _ = false

-- ---- the mnemonic of what is read

-- what goes on to no `waitjob` is none
goes-on : {X : Type 0} (found : Result X Fault) (next : X → Result Item Fault) → ((x : X) → waits (next x) ≡ false) → waits (then_read found next) ≡ false
goes-on (Ok x) next h = h x
goes-on (Err fault) next h = refl

branch-waits : (op : ℕ) (operands : List (List ℕ)) → waits (branch op operands) ≡ false
branch-waits op [] = refl
branch-waits op (rs1 ∷ []) = refl
branch-waits op (rs1 ∷ rs2 ∷ []) = refl
branch-waits op (rs1 ∷ rs2 ∷ target ∷ []) =
    goes-on (register_operand rs1) _ (λ a. goes-on (register_operand rs2) _ (λ b. goes-on (target_operand (negsuc 4095) (pos 4094) target) (λ t. Ok (BranchTo op a b t)) (λ t. refl)))
branch-waits op (rs1 ∷ rs2 ∷ target ∷ other ∷ more) = refl

jump-waits : (operands : List (List ℕ)) → waits (jump operands) ≡ false
jump-waits [] = refl
jump-waits (rd ∷ []) = refl
jump-waits (rd ∷ target ∷ []) =
    goes-on (register_operand rd) _ (λ d. goes-on (target_operand (negsuc 1048575) (pos 1048574) target) (λ t. Ok (JalTo d t)) (λ t. refl))
jump-waits (rd ∷ target ∷ other ∷ more) = refl

plain_jump-waits : (operands : List (List ℕ)) → waits (plain_jump operands) ≡ false
plain_jump-waits [] = refl
plain_jump-waits (target ∷ []) = goes-on (target_operand (negsuc 1048575) (pos 1048574) target) (λ t. Ok (JalTo 0 t)) (λ t. refl)
plain_jump-waits (target ∷ other ∷ more) = refl

load_number-waits : (operands : List (List ℕ)) → waits (load_number operands) ≡ false
load_number-waits [] = refl
load_number-waits (rd ∷ []) = refl
load_number-waits (rd ∷ n ∷ []) = goes-on (register_operand rd) _ (λ d. goes-on (word_operand n) (λ value. Ok (LiOf d value)) (λ value. refl))
load_number-waits (rd ∷ n ∷ other ∷ more) = refl

raw-waits : (operands : List (List ℕ)) → waits (raw operands) ≡ false
raw-waits [] = refl
raw-waits (n ∷ []) = goes-on (unsigned_operand n) (λ word. Ok (Raw word)) (λ word. refl)
raw-waits (n ∷ other ∷ more) = refl

shared-waits : (operands : List (List ℕ)) → waits (shared_word operands) ≡ false
shared-waits [] = refl
shared-waits (n ∷ []) = goes-on (word_operand n) (λ word. Ok (WordOf word)) (λ word. refl)
shared-waits (n ∷ other ∷ more) = refl

differ : (b : Bool) → b ≡ false → b ≡ true → ⊥
differ b e f = absurd (cc)

-- a statement that is read as a `waitjob` has its mnemonic
pub statement-waits : (m : Mnemonic) (operands : List (List ℕ)) → waits (statement m operands) ≡ true → m ≡ WaitJob
statement-waits (Operation op alt) operands e = absurd (differ _ (goes-on (operation op alt operands) (λ i. Ok (One i)) (λ i. refl)) e)
statement-waits (Immediate op alt) operands e = absurd (differ _ (goes-on (immediate op alt operands) (λ i. Ok (One i)) (λ i. refl)) e)
statement-waits (Load op) operands e = absurd (differ _ (goes-on (load op operands) (λ i. Ok (One i)) (λ i. refl)) e)
statement-waits (Store op) operands e = absurd (differ _ (goes-on (store op operands) (λ i. Ok (One i)) (λ i. refl)) e)
statement-waits (Branch op) operands e = absurd (differ _ (branch-waits op operands) e)
statement-waits Jal operands e = absurd (differ _ (jump-waits operands) e)
statement-waits Jalr operands e = absurd (differ _ (goes-on (jump_register operands) (λ i. Ok (One i)) (λ i. refl)) e)
statement-waits Lui operands e = absurd (differ _ (goes-on (load_upper operands) (λ i. Ok (One i)) (λ i. refl)) e)
statement-waits Auipc operands e = absurd (differ _ (goes-on (add_upper operands) (λ i. Ok (One i)) (λ i. refl)) e)
statement-waits Fence [] e = absurd (cc)
statement-waits Fence (operand ∷ more) e = absurd (cc)
statement-waits Ecall [] e = absurd (cc)
statement-waits Ecall (operand ∷ more) e = absurd (cc)
statement-waits Ebreak [] e = absurd (cc)
statement-waits Ebreak (operand ∷ more) e = absurd (cc)
statement-waits Nop [] e = absurd (cc)
statement-waits Nop (operand ∷ more) e = absurd (cc)
statement-waits Mv operands e = absurd (differ _ (goes-on (copy operands) (λ i. Ok (One i)) (λ i. refl)) e)
statement-waits J operands e = absurd (differ _ (plain_jump-waits operands) e)
statement-waits Ret [] e = absurd (cc)
statement-waits Ret (operand ∷ more) e = absurd (cc)
statement-waits Li operands e = absurd (differ _ (load_number-waits operands) e)
statement-waits WaitJob operands e = refl
statement-waits Code operands e = absurd (differ _ (raw-waits operands) e)
statement-waits Word operands e = absurd (differ _ (shared-waits operands) e)

-- ---- the word of the mnemonic

-- a row of `waitjob` has that word
abbrev is_named : List ℕ × Mnemonic → Bool
is_named row = not (is_wait_job row.1) || bytes_eq row.0 (codes "waitjob")

-- a text that is the mnemonic of `waitjob` among rows in which that word alone is
among-waits : (text : List ℕ) (rows : List (List ℕ × Mnemonic)) → list_all is_named rows ≡ true → among text rows ≡ Some WaitJob → text ≡ codes "waitjob"
unfolding among
among-waits text [] named e = absurd (cc)
among-waits text (row ∷ rows) named e =
    let k = both (is_named row) (list_all is_named rows) named in
    by_test (bytes_eq row.0 text) refl k.0 e (among-waits text rows k.1)
  where
    by_test : (b : Bool) → bytes_eq row.0 text ≡ b → is_named row ≡ true → (if b then Some row.1 else among text rows) ≡ Some WaitJob
        → (among text rows ≡ Some WaitJob → text ≡ codes "waitjob") → text ≡ codes "waitjob"
    by_test true here name e rest =
        let same : row.1 ≡ WaitJob = cc in
        let word : bytes_eq row.0 (codes "waitjob") ≡ true = sym (ap (λ m. not (is_wait_job m) || bytes_eq row.0 (codes "waitjob")) same) ∙ name in
        sym ((bytes_eq-Decides row.0 text).0 here) ∙ (bytes_eq-Decides row.0 (codes "waitjob")).0 word
    by_test false here name e rest = rest e

-- the text whose mnemonic that is
pub wait-word : (text : List ℕ) → mnemonic_of text ≡ Some WaitJob → text ≡ codes "waitjob"
wait-word text e = among-waits text mnemonics refl e

-- What an answer reports, by the ways in which instructions end.
use Rattle.std.proofs.Common.{◌≡◌, ℕ, ◌%◌, Bool, true, false, not, eqb, cond, Ok, Err, refl, sym, ap, subst, ◌∙◌}
use Rattle.em_hart.specs.declared.answers.Class.{Class}
use Rattle.em_hart.specs.declared.answers.Class.TheVariants.{Plain, Memory as MemoryClass}
use Rattle.em_hart.specs.declared.answers.Stepped.{Stepped}
use Rattle.em_hart.specs.declared.answers.Stepped.TheVariants.{Ran as RanStep}
use Rattle.em_hart.specs.Hart.{Registers, Memory, with_register, has_bytes, window_number, after_store}
use Rattle.em_hart.specs.Effect.{writes, branches, loads, stores, passes}
use Rattle.em_hart.specs.Instruction.{Outcome, Ran, Fault, effect_outcome, next_registers, transfer_outcome, load_value, outside_windows, misaligned_data}
use Rattle.em_hart.specs.Decoded.{read_of}
use Rattle.em_hart.specs.Steps.{Reports, IsUnchanged}

-- nothing has changed where all is as before
pub unchanged : (r : Registers) (o m : Memory) → IsUnchanged r o m r o m
unchanged r o m = record { same_registers = refl; same_own = refl; same_shared = refl }

-- the report of an equal outcome
pub along : (s : Stepped) (a b : Outcome) (r r' : Registers) (o m o' m' : Memory) → a ≡ b → Reports s b r o m r' o' m' → Reports s a r o m r' o' m'
along s a b r r' o m o' m' e h = subst (λ (x : Outcome). Reports s x r o m r' o' m') (sym e) h

-- the report of an instruction that was carried out
pub ran : (s : Stepped) (class : Class) (a : Outcome) (r r' : Registers) (o m o' m' : Memory) → s ≡ RanStep class → a ≡ Ran class r' o' m' → Reports s a r o m r' o' m'
ran s class a r r' o m o' m' e h = subst (λ (x : Stepped). Reports x a r o m r' o' m') (sym e) h

-- the report where a value was written, and the program went on
pub write_reported : (s : Stepped) (v w d : ℕ) (r r' : Registers) (o m : Memory) → s ≡ RanStep Plain → r' ≡ next_registers (with_register r d w) → w ≡ v
    → Reports s (effect_outcome (writes v) d r o m) r o m r' o m
unfolding effect_outcome
write_reported s v w d r r' o m e h same =
    ran s Plain _ r r' o m o m e
    (sym (ap (λ (x : Registers). Ran Plain x o m) (h ∙ ap (λ (x : ℕ). next_registers (with_register r d x)) same)))

-- the report where the program only went on
pub next_reported : (s : Stepped) (d : ℕ) (r r' : Registers) (o m : Memory) → s ≡ RanStep Plain → r' ≡ next_registers r → Reports s (effect_outcome passes d r o m) r o m r' o m
unfolding effect_outcome
next_reported s d r r' o m e h = ran s Plain _ r r' o m o m e (sym (ap (λ (x : Registers). Ran Plain x o m) h))

-- the report of a branch whose condition fails
pub branch_not_taken : (s : Stepped) (b : Bool) (t d : ℕ) (r r' : Registers) (o m : Memory) → b ≡ false → s ≡ RanStep Plain → r' ≡ next_registers r
    → Reports s (effect_outcome (branches b t) d r o m) r o m r' o m
unfolding effect_outcome
branch_not_taken s b t d r r' o m f e h =
    along s _ (Ran Plain (next_registers r) o m) r r' o m o m (ap (λ (x : Bool). effect_outcome (branches x t) d r o m) f)
    (ran s Plain _ r r' o m o m e (sym (ap (λ (x : Registers). Ran Plain x o m) h)))

-- the report of a branch whose condition holds is that of its transfer
pub branch_taken : (s : Stepped) (b : Bool) (t d : ℕ) (r r' : Registers) (o m : Memory) → b ≡ true → Reports s (transfer_outcome t r o m) r o m r' o m
    → Reports s (effect_outcome (branches b t) d r o m) r o m r' o m
unfolding effect_outcome
branch_taken s b t d r r' o m f h = along s _ (transfer_outcome t r o m) r r' o m o m (ap (λ (x : Bool). effect_outcome (branches x t) d r o m) f) h

-- ---- loads

-- a refusal and a number of `read_of`, as `effect_outcome` has them
chosen : (x y z : Bool) (g : ℕ → Outcome) (v u e f c : ℕ) → cond (not x) (Err f) (cond y (Ok v) (cond z (Ok u) (Err e))) ≡ Err c
    → cond (not x) (Fault f) (cond y (g v) (cond z (g u) (Fault e))) ≡ Fault c
chosen true true z g v u e f c h = cc
chosen true false true g v u e f c h = cc
chosen true false false g v u e f c h = cc
chosen false y z g v u e f c h = cc

given : (x y z : Bool) (g : ℕ → Outcome) (v u e f c : ℕ) → cond (not x) (Err f) (cond y (Ok v) (cond z (Ok u) (Err e))) ≡ Ok c
    → cond (not x) (Fault f) (cond y (g v) (cond z (g u) (Fault e))) ≡ g c
given true true z g v u e f c h = cc
given true false true g v u e f c h = cc
given true false false g v u e f c h = cc
given false y z g v u e f c h = cc

abbrev load_outcome : Bool → ℕ → ℕ → Registers → Memory → Memory → ℕ → Outcome
load_outcome signed n d r o m v = Ran MemoryClass (next_registers (with_register r d (load_value signed n v))) o m

-- a load that has read a number puts it into its destination
pub load_ran : (signed : Bool) (n a d c : ℕ) (r : Registers) (o m : Memory) → read_of o m n a ≡ Ok c
    → effect_outcome (loads signed n a) d r o m ≡ Ran MemoryClass (next_registers (with_register r d (load_value signed n c))) o m
unfolding effect_outcome read_of
load_ran signed n a d c r o m h =
    given (eqb (a % n) 0) (has_bytes o n a) (has_bytes m n a) (load_outcome signed n d r o m) (window_number o n a) (window_number m n a) outside_windows misaligned_data c h

-- a load that has read none faults with the cause
pub load_refused : (signed : Bool) (n a d c : ℕ) (r : Registers) (o m : Memory) → read_of o m n a ≡ Err c → effect_outcome (loads signed n a) d r o m ≡ Fault c
unfolding effect_outcome read_of
load_refused signed n a d c r o m h =
    chosen (eqb (a % n) 0) (has_bytes o n a) (has_bytes m n a) (load_outcome signed n d r o m) (window_number o n a) (window_number m n a) outside_windows misaligned_data c h

-- ---- stores

-- a store at an address that is not aligned faults
pub store_misaligned : (n a v d : ℕ) (r : Registers) (o m : Memory) → eqb (a % n) 0 ≡ false → effect_outcome (stores n a v) d r o m ≡ Fault misaligned_data
unfolding effect_outcome
store_misaligned n a v d r o m h = simp h

-- a store inside the own window changes that
pub store_own : (n a v d : ℕ) (r : Registers) (o m : Memory) → eqb (a % n) 0 ≡ true → has_bytes o n a ≡ true
    → effect_outcome (stores n a v) d r o m ≡ Ran MemoryClass (next_registers r) (after_store o n a v) m
unfolding effect_outcome
store_own n a v d r o m h k = simp (h, k)

-- a store inside the shared window changes that
pub store_shared : (n a v d : ℕ) (r : Registers) (o m : Memory) → eqb (a % n) 0 ≡ true → has_bytes o n a ≡ false → has_bytes m n a ≡ true
    → effect_outcome (stores n a v) d r o m ≡ Ran MemoryClass (next_registers r) o (after_store m n a v)
unfolding effect_outcome
store_shared n a v d r o m h k l = simp (h, k, l)

-- a store inside neither window faults
pub store_outside : (n a v d : ℕ) (r : Registers) (o m : Memory) → eqb (a % n) 0 ≡ true → has_bytes o n a ≡ false → has_bytes m n a ≡ false
    → effect_outcome (stores n a v) d r o m ≡ Fault outside_windows
unfolding effect_outcome
store_outside n a v d r o m h k l = simp (h, k, l)

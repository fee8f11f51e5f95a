-- A branch goes on at one of its sides, and at the end of a way stands the acquire.
use Rattle.std.proofs.Common.{◌≡◌, ◌⊎◌, ◌==◌, ◌&&◌, ◌%◌, ℕ, Bool, true, false, is_some, if◌then◌else◌, List, Option, Some, None, refl, ap, inl, inr, arith}
use Rattle.std.specs.Prelude.{nat_lt}
use Rattle.std.proofs.lemmas.Bool.Decides.{nat_tests}
use Rattle.em_base.specs.declared.ids.SemId.{SemId}
use Rattle.em_isa.specs.declared.instructions.Instr.{Instr}
use Rattle.em_isa.specs.declared.instructions.Instr.TheVariants.{Lui, Auipc, Jal, Jalr, Branch, Load, Store, OpImm, Op, Fence, Ecall, Ebreak}
use Rattle.em_hart.specs.declared.answers.Class.TheVariants.{Plain}
use Rattle.em_hart.specs.Hart.{Memory, Registers, register, with_pc}
use Rattle.em_hart.specs.Effect.{sum}
use Rattle.em_hart.specs.Decoded.{branch_condition, exec_instr, modulo, width_of}
use Rattle.em_hart.specs.Instruction.{Call, Ran, effect_outcome, is_aligned, next_registers, transfer_outcome}
use Rattle.em_hart.specs.Widths.{bytes_in}
use Rattle.em_scan.specs.declared.next.Next.TheVariants.{Takes, Stops, Goes, Forks}
use Rattle.em_scan.specs.Known.{Known, known_of}
use Rattle.em_scan.specs.Private.{acquire, is_ahead, is_inside_own, learned_by, next_by, value_known}
use Rattle.em_scan.specs.Computed.{learned_of, next_of}
use Rattle.em_scan.proofs.Agreed.{Agrees}
use Rattle.em_scan.proofs.Taken.{IsTaken, agrees_at, ahead_aligned, forks_if, no_forks, transfer_taken}

-- ---- two ways to go on

acquire_forks : (sems : ℕ) (number s : Option ℕ) (y z : ℕ) → acquire sems number s ≡ Forks y z → ⊥
acquire_forks sems (Some number) (Some s) y z e = by_test (number == 2 && nat_lt s sems) e
  where
    by_test : (b : Bool) → (if b then Takes (record { 0 = s }) else Stops) ≡ Forks y z → ⊥
    by_test true e = cc
    by_test false e = cc
acquire_forks sems (Some number) None y z e = cc
acquire_forks sems None s y z e = cc

-- a branch goes on at its target or behind it
branched : (condition : Bool) (target y z : ℕ) (known : Known) (registers : Registers) (own shared : Memory) → (target % 4 == 0) ≡ true → sum registers.pc 4 ≡ y
    → target ≡ z → Agrees known registers
    → let outcome = if condition then transfer_outcome target registers own shared else Ran Plain (next_registers registers) own shared in
    IsTaken outcome own shared known y ⊎ IsTaken outcome own shared known z
branched true target y z known registers own shared aligned e f a = inr (record {
  class = Plain;
  after = with_pc registers target;
  ran = transfer_taken target registers own shared aligned;
  there = f;
  agrees = agrees_at known registers target a;
})
branched false target y z known registers own shared aligned e f a = inl (record {
  class = Plain;
  after = next_registers registers;
  ran = refl;
  there = e;
  agrees = agrees_at known registers (sum registers.pc 4) a;
})

-- the instruction of a way that goes on to y or to z
pub goes_either : (code : List ℕ) (sems own : ℕ) (known : Known) (i : Instr) (registers : Registers) (memory shared : Memory) → Agrees known registers
    → (y z : ℕ) → next_of code sems own known registers.pc i ≡ Forks y z
    → let outcome = exec_instr i registers memory shared in
    IsTaken outcome memory shared (learned_of known registers.pc i) y ⊎ IsTaken outcome memory shared (learned_of known registers.pc i) z
unfolding next_by learned_by effect_outcome
goes_either code sems own known (Lui d imm) registers memory shared a y z e = absurd (cc)
goes_either code sems own known (Auipc d imm) registers memory shared a y z e = absurd (cc)
goes_either code sems own known (Jal d offset) registers memory shared a y z e =
    let target = sum registers.pc (modulo offset) in absurd (no_forks (is_ahead code registers.pc target) target y z e)
goes_either code sems own known (Jalr d s imm) registers memory shared a y z e = absurd (cc)
goes_either code sems own known (Branch op s t offset) registers memory shared a y z e =
    let target = sum registers.pc (modulo offset) in
    let test = forks_if (is_ahead code registers.pc target) (sum registers.pc 4) target y z e in
    branched (branch_condition op (register registers s) (register registers t)) target y z known registers memory shared
    (ahead_aligned code registers.pc target test.0) test.1 test.2 a
goes_either code sems own known (Load op d s imm) registers memory shared a y z e =
    let taken = sum (value_known known s) (modulo imm) in
    absurd (no_forks (is_some (known_of known s) && is_aligned (bytes_in (width_of op)) taken && is_inside_own own (bytes_in (width_of op)) taken) (sum registers.pc 4) y z e)
goes_either code sems own known (Store op s t imm) registers memory shared a y z e = absurd (cc)
goes_either code sems own known (OpImm op alt d s imm) registers memory shared a y z e = absurd (cc)
goes_either code sems own known (Op op alt d s t) registers memory shared a y z e = absurd (cc)
goes_either code sems own known (Fence d s imm) registers memory shared a y z e = absurd (cc)
goes_either code sems own known Ecall registers memory shared a y z e = absurd (acquire_forks sems (known_of known 17) (known_of known 10) y z e)
goes_either code sems own known Ebreak registers memory shared a y z e = absurd (cc)

-- ---- the end

-- what is known of a7 and a0 at an acquire
record IsAcquire (number s : Option ℕ) (t : SemId) : Type 0 where
  pub called : number ≡ Some 2
  pub named : s ≡ Some t.0

acquired : (sems : ℕ) (number s : Option ℕ) (t : SemId) → acquire sems number s ≡ Takes t → IsAcquire number s t
acquired sems (Some number) (Some s) t e = by_test (number == 2) (nat_lt s sems) refl e
  where
    number_of : (a b : SemId) → Takes a ≡ Takes b → a.0 ≡ b.0
    number_of a b e = cc

    is_two : (number == 2) ≡ true → number ≡ 2
    is_two h = grind (arith, nat_tests)

    by_test : (b c : Bool) → (number == 2) ≡ b → (if b && c then Takes (record { 0 = s }) else Stops) ≡ Takes t → IsAcquire (Some number) (Some s) t
    by_test true true h e = record { called = ap Some (is_two h); named = ap Some (number_of (record { 0 = s }) t e) }
    by_test true false h e = absurd (cc)
    by_test false c h e = absurd (cc)
acquired sems (Some number) None t e = absurd (cc)
acquired sems None s t e = absurd (cc)

goes_if_takes : (b : Bool) (a : ℕ) (t : SemId) → (if b then Goes a else Stops) ≡ Takes t → ⊥
goes_if_takes true a t e = cc
goes_if_takes false a t e = cc

forks_if_takes : (b : Bool) (a c : ℕ) (t : SemId) → (if b then Forks a c else Stops) ≡ Takes t → ⊥
forks_if_takes true a c t e = cc
forks_if_takes false a c t e = cc

-- the instruction at the end of a walk is a call, and its registers ask for the acquire of s
pub record IsCalled (i : Instr) (registers : Registers) (memory shared : Memory) (s : SemId) : Type 0 where
  pub calls : exec_instr i registers memory shared ≡ Call
  pub number : register registers 17 ≡ 2
  pub semaphore : register registers 10 ≡ s.0

pub ends_there : (code : List ℕ) (sems own : ℕ) (known : Known) (i : Instr) (registers : Registers) (memory shared : Memory) → Agrees known registers
    → (s : SemId) → next_of code sems own known registers.pc i ≡ Takes s → IsCalled i registers memory shared s
unfolding next_by effect_outcome
ends_there code sems own known (Lui d imm) registers memory shared a s e = absurd (cc)
ends_there code sems own known (Auipc d imm) registers memory shared a s e = absurd (cc)
ends_there code sems own known (Jal d offset) registers memory shared a s e =
    let target = sum registers.pc (modulo offset) in absurd (goes_if_takes (is_ahead code registers.pc target) target s e)
ends_there code sems own known (Jalr d r imm) registers memory shared a s e = absurd (cc)
ends_there code sems own known (Branch op r t offset) registers memory shared a s e =
    let target = sum registers.pc (modulo offset) in absurd (forks_if_takes (is_ahead code registers.pc target) (sum registers.pc 4) target s e)
ends_there code sems own known (Load op d r imm) registers memory shared a s e =
    let taken = sum (value_known known r) (modulo imm) in
    absurd (goes_if_takes (is_some (known_of known r) && is_aligned (bytes_in (width_of op)) taken && is_inside_own own (bytes_in (width_of op)) taken) (sum registers.pc 4) s e)
ends_there code sems own known (Store op r t imm) registers memory shared a s e = absurd (cc)
ends_there code sems own known (OpImm op alt d r imm) registers memory shared a s e = absurd (cc)
ends_there code sems own known (Op op alt d r t) registers memory shared a s e = absurd (cc)
ends_there code sems own known (Fence d r imm) registers memory shared a s e = absurd (cc)
ends_there code sems own known Ecall registers memory shared a s e =
    let is = acquired sems (known_of known 17) (known_of known 10) s e in
    record { calls = refl; number = a.each 17 2 is.called; semaphore = a.each 10 s.0 is.named }
ends_there code sems own known Ebreak registers memory shared a s e = absurd (cc)

-- A private instruction, by its fields, is carried out as the walk says.
use Rattle.std.proofs.Common.{◌≡◌, ◌∙◌, ◌+◌, ◌*◌, ◌^◌, ◌==◌, ◌&&◌, not, ℕ, Bool, true, false, is_some, if◌then◌else◌, List, length, Option, Some, None, refl, sym, ap, ap₂, subst}
use Rattle.std.specs.Prelude.{nat_le, nat_lt}
use Rattle.em_isa.specs.declared.instructions.Instr.{Instr}
use Rattle.em_isa.specs.declared.instructions.Instr.TheVariants.{Lui, Auipc, Jal, Jalr, Branch, Load, Store, OpImm, Op, Fence, Ecall, Ebreak}
use Rattle.em_isa.specs.Encoding.{Fits}
use Rattle.em_hart.specs.declared.answers.Class.TheVariants.{Plain, Memory as MemoryClass}
use Rattle.em_hart.specs.Hart.{Memory, Registers, has_bytes, own_base, register, with_pc, with_register}
use Rattle.em_hart.specs.Effect.{loads, sum}
use Rattle.em_hart.specs.Decoded.{exec_instr, is_signed, modulo, operation_value, width_of}
use Rattle.em_hart.specs.Instruction.{Ran, Fault, after_load, effect_outcome, is_aligned, load_value, misaligned_data, next_registers, outside_windows}
use Rattle.em_hart.specs.Widths.{bytes_in}
use Rattle.em_hart.specs.Hart.{window_number}
use Rattle.em_scan.specs.declared.next.Next.TheVariants.{Takes, Stops, Goes}
use Rattle.em_scan.specs.Known.{Known, known_of, with_known}
use Rattle.em_scan.specs.Private.{acquire, is_ahead, is_inside_own, learned_by, next_by, value_known}
use Rattle.em_scan.specs.Computed.{learned_of, next_of}
use Rattle.em_scan.proofs.Agreed.{Agrees, agrees_written}
use Rattle.em_scan.proofs.Taken.{IsTaken, agrees_at, ahead_aligned, goes_if, if_known, no_goes, none_some, one_next, one_some, transfer_taken, value_is, written}

-- ---- tests

both_true : (a b : Bool) → (a && b) ≡ true → (a ≡ true) × (b ≡ true)
both_true true b h = (refl, h)
both_true false b h = absurd (cc)

-- an own window of a task has these bytes
abbrev pub IsOwn : ℕ → Memory → Type 0
IsOwn own memory = (memory.base ≡ own_base) × (length memory.bytes ≡ own)

own_bytes : (own n address : ℕ) (memory : Memory) → IsOwn own memory → is_inside_own own n address ≡ true → has_bytes memory n address ≡ true
own_bytes own n address memory is h =
    ap (λ base. nat_le base address && nat_le (address + n) (base + length memory.bytes)) is.0
    ∙ ap (λ len. nat_le own_base address && nat_le (address + n) (own_base + len)) is.1 ∙ h

-- a load from the own window is carried out
load_taken : (signed : Bool) (n address d : ℕ) (registers : Registers) (own shared : Memory) → is_aligned n address ≡ true → has_bytes own n address ≡ true
    → effect_outcome (loads signed n address) d registers own shared ≡ Ran MemoryClass (after_load signed n address d own registers) own shared
unfolding effect_outcome
load_taken signed n address d registers own shared aligned inside =
    ap (λ b. if not b then Fault misaligned_data
    else if has_bytes own n address then Ran MemoryClass (after_load signed n address d own registers) own shared
    else if has_bytes shared n address then Ran MemoryClass (after_load signed n address d shared registers) own shared
    else Fault outside_windows) aligned
    ∙ ap (λ b. if b then Ran MemoryClass (after_load signed n address d own registers) own shared
    else if has_bytes shared n address then Ran MemoryClass (after_load signed n address d shared registers) own shared
    else Fault outside_windows) inside

-- ---- one way to go on

acquire_goes : (sems : ℕ) (number s : Option ℕ) (y : ℕ) → acquire sems number s ≡ Goes y → ⊥
acquire_goes sems (Some number) (Some s) y e = by_test (number == 2 && nat_lt s sems) e
  where
    by_test : (b : Bool) → (if b then Takes (record { 0 = s }) else Stops) ≡ Goes y → ⊥
    by_test true e = cc
    by_test false e = cc
acquire_goes sems (Some number) None y e = cc
acquire_goes sems None s y e = cc

-- the instruction of a way that goes on to y
pub goes_there : (code : List ℕ) (sems own : ℕ) (known : Known) (i : Instr) → Fits i → (registers : Registers) (memory shared : Memory) → IsOwn own memory
    → Agrees known registers → (y : ℕ) → next_of code sems own known registers.pc i ≡ Goes y
    → IsTaken (exec_instr i registers memory shared) memory shared (learned_of known registers.pc i) y
unfolding next_by learned_by effect_outcome
goes_there code sems own known (Lui d imm) fits registers memory shared is a y e =
    subst (IsTaken _ memory shared (with_known known d (Some (imm * 2 ^ 12)))) (one_next (sum registers.pc 4) y e)
    (written known registers memory shared d (imm * 2 ^ 12) (Some (imm * 2 ^ 12)) Plain fits.0 a (λ w. one_some (imm * 2 ^ 12) w))
goes_there code sems own known (Auipc d imm) fits registers memory shared is a y e =
    let v = sum registers.pc (imm * 2 ^ 12) in
    subst (IsTaken _ memory shared (with_known known d (Some v))) (one_next (sum registers.pc 4) y e)
    (written known registers memory shared d v (Some v) Plain fits.0 a (λ w. one_some v w))
goes_there code sems own known (Jal d z) fits registers memory shared is a y e =
    let target = sum registers.pc (modulo z) in
    let v = sum registers.pc 4 in
    let test = goes_if (is_ahead code registers.pc target) target y e in
    let after = with_register registers d v in
    record {
      class = Plain;
      after = with_pc after target;
      ran = transfer_taken target after memory shared (ahead_aligned code registers.pc target test.0);
      there = test.1;
      agrees = agrees_at (with_known known d (Some v)) after target (agrees_written known registers d v (Some v) fits.0 a (λ w. one_some v w));
    }
goes_there code sems own known (Jalr d s imm) fits registers memory shared is a y e = absurd (cc)
goes_there code sems own known (Branch op s t z) fits registers memory shared is a y e =
    absurd (no_goes (is_ahead code registers.pc (sum registers.pc (modulo z))) (sum registers.pc 4) (sum registers.pc (modulo z)) y e)
goes_there code sems own known (Load op d s imm) fits registers memory shared is a y e =
    let n = bytes_in (width_of op) in
    let taken = sum (value_known known s) (modulo imm) in
    let address = sum (register registers s) (modulo imm) in
    let test = goes_if (is_some (known_of known s) && is_aligned n taken && is_inside_own own n taken) (sum registers.pc 4) y e in
    let outer = both_true (is_some (known_of known s) && is_aligned n taken) (is_inside_own own n taken) test.0 in
    let inner = both_true (is_some (known_of known s)) (is_aligned n taken) outer.0 in
    let same : address ≡ taken = ap (λ v. sum v (modulo imm)) (value_is known registers s (known_of known s) refl inner.0 a) in
    let aligned : is_aligned n address ≡ true = ap (is_aligned n) same ∙ inner.1 in
    let inside : has_bytes memory n address ≡ true = own_bytes own n address memory is (ap (is_inside_own own n) same ∙ outer.1) in
    let value = load_value (is_signed op) n (window_number memory n address) in
    let after = written known registers memory shared d value None MemoryClass fits.1 a (λ w. none_some w value) in
    subst (IsTaken _ memory shared (with_known known d None)) test.1
    (subst (λ o. IsTaken o memory shared (with_known known d None) (sum registers.pc 4)) (sym (load_taken (is_signed op) n address d registers memory shared aligned inside)) after)
goes_there code sems own known (Store op s t imm) fits registers memory shared is a y e = absurd (cc)
goes_there code sems own known (OpImm op alt d s imm) fits registers memory shared is a y e =
    let taken = operation_value op alt (value_known known s) (modulo imm) in
    let v = operation_value op alt (register registers s) (modulo imm) in
    let sources = is_some (known_of known s) in
    let same : sources ≡ true → v ≡ taken = λ h. ap (λ x. operation_value op alt x (modulo imm)) (value_is known registers s (known_of known s) refl h a) in
    let value = if sources then Some taken else None in
    subst (IsTaken _ memory shared (with_known known d value)) (one_next (sum registers.pc 4) y e)
    (written known registers memory shared d v value Plain fits.2 a (λ w. if_known sources taken v w same))
goes_there code sems own known (Op op alt d s t) fits registers memory shared is a y e =
    let taken = operation_value op alt (value_known known s) (value_known known t) in
    let v = operation_value op alt (register registers s) (register registers t) in
    let sources = is_some (known_of known s) && is_some (known_of known t) in
    let same : sources ≡ true → v ≡ taken = λ h.
    (let two = both_true (is_some (known_of known s)) (is_some (known_of known t)) h in
    ap₂ (operation_value op alt) (value_is known registers s (known_of known s) refl two.0 a) (value_is known registers t (known_of known t) refl two.1 a)) in
    let value = if sources then Some taken else None in
    subst (IsTaken _ memory shared (with_known known d value)) (one_next (sum registers.pc 4) y e)
    (written known registers memory shared d v value Plain fits.2 a (λ w. if_known sources taken v w same))
goes_there code sems own known (Fence d s imm) fits registers memory shared is a y e =
    record {
      class = Plain;
      after = next_registers registers;
      ran = refl;
      there = one_next (sum registers.pc 4) y e;
      agrees = agrees_at known registers (sum registers.pc 4) a;
    }
goes_there code sems own known Ecall fits registers memory shared is a y e = absurd (acquire_goes sems (known_of known 17) (known_of known 10) y e)
goes_there code sems own known Ebreak fits registers memory shared is a y e = absurd (cc)

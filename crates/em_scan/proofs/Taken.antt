-- A private instruction, carried out, changes registers alone, comes to an address that is next, and what is learned of registers is so.
use Rattle.std.proofs.Common.{◌≡◌, ◌∙◌, ◌<◌, ◌*◌, ◌%◌, ◌==◌, ◌&&◌, ℕ, zero, suc, Bool, true, false, is_some, if◌then◌else◌, List, length, Option, Some, None, refl, sym, ap}
use Rattle.std.specs.Prelude.{nat_lt}
use Rattle.std.specs.Option.{unwrap_or}
use Rattle.em_hart.specs.declared.answers.Class.{Class}
use Rattle.em_hart.specs.declared.answers.Class.TheVariants.{Plain}
use Rattle.em_hart.specs.Hart.{Memory, Registers, register, with_pc, with_register}
use Rattle.em_hart.specs.Effect.{sum}
use Rattle.em_hart.specs.Instruction.{Outcome, Ran, Fault, is_inside_code, misaligned_target, next_registers, transfer_outcome}
use Rattle.em_scan.specs.declared.next.Next.{Next}
use Rattle.em_scan.specs.declared.next.Next.TheVariants.{Takes, Stops, Goes, Forks}
use Rattle.em_scan.specs.Known.{Known, known_of, with_known}
use Rattle.em_scan.specs.Private.{acquire, is_ahead, value_known}
use Rattle.em_scan.proofs.Agreed.{Agrees, agrees_written, with_register_is}

-- an outcome is this: it was carried out, changed registers alone, is at an address, and what is known of the registers is so
pub record IsTaken (outcome : Outcome) (own shared : Memory) (known : Known) (at : ℕ) : Type 0 where
  pub class : Class
  pub after : Registers
  pub ran : outcome ≡ Ran class after own shared
  pub there : after.pc ≡ at
  pub agrees : Agrees known after

-- registers with another program counter agree with the same
pub agrees_at : (known : Known) (registers : Registers) (pc : ℕ) → Agrees known registers → Agrees known (with_pc registers pc)
agrees_at known registers pc a = record { each = a.each; count = a.count; kept = a.kept }

-- a register that is known has the value that is taken for it
pub value_is : (known : Known) (registers : Registers) (r : ℕ) (found : Option ℕ) → known_of known r ≡ found → is_some found ≡ true → Agrees known registers
    → register registers r ≡ value_known known r
value_is known registers r None e h a = absurd (cc)
value_is known registers r (Some v) e h a = a.each r v e ∙ sym (ap (λ o. unwrap_or o 0) e)

pc_written : (registers : Registers) (d v : ℕ) → (with_register registers d v).pc ≡ registers.pc
pc_written registers zero v = refl
pc_written registers (suc d) v = ap (λ r. r.pc) (with_register_is registers d v)

-- the next registers after a write of a value that is known so or isn't
pub written : (known : Known) (registers : Registers) (own shared : Memory) (d v : ℕ) (value : Option ℕ) (class : Class) → d < 32 → Agrees known registers
    → ((w : ℕ) → value ≡ Some w → w ≡ v)
    → IsTaken (Ran class (next_registers (with_register registers d v)) own shared) own shared (with_known known d value) (sum registers.pc 4)
written known registers own shared d v value class small a is =
    let after = with_register registers d v in
    record {
      class = class;
      after = next_registers after;
      ran = refl;
      there = ap (λ pc. sum pc 4) (pc_written registers d v);
      agrees = agrees_at (with_known known d value) after (sum after.pc 4) (agrees_written known registers d v value small a is);
    }

pub one_some : (a b : ℕ) → Some a ≡ Some b → b ≡ a
one_some a b e = cc

pub none_some : (w v : ℕ) → None ≡ Some w → w ≡ v
none_some w v e = absurd (cc)

-- where a value is known if its sources are, which then have the values that are taken for them
pub if_known : (sources : Bool) (taken v w : ℕ) → (sources ≡ true → v ≡ taken) → (if sources then Some taken else None) ≡ Some w → w ≡ v
if_known true taken v w same e = one_some taken w e ∙ sym (same refl)
if_known false taken v w same e = absurd (cc)

-- ---- what comes next, by the tests that it passes

pub one_next : (a b : ℕ) → Goes a ≡ Goes b → a ≡ b
one_next a b e = cc

-- a choice of an address or none
pub goes_if : (b : Bool) (a y : ℕ) → (if b then Goes a else Stops) ≡ Goes y → (b ≡ true) × (a ≡ y)
goes_if true a y e = (refl, one_next a y e)
goes_if false a y e = absurd (cc)

pub forks_if : (b : Bool) (a c y z : ℕ) → (if b then Forks a c else Stops) ≡ Forks y z → (b ≡ true) × (a ≡ y) × (c ≡ z)
forks_if true a c y z e = let p = both a c y z e in (refl, p.0, p.1)
  where
    both : (a c y z : ℕ) → Forks a c ≡ Forks y z → (a ≡ y) × (c ≡ z)
    both a c y z e = (cc, cc)
forks_if false a c y z e = absurd (cc)

-- no choice of these is the other kind
pub no_goes : (b : Bool) (a c y : ℕ) → (if b then Forks a c else Stops) ≡ Goes y → ⊥
no_goes true a c y e = cc
no_goes false a c y e = cc

pub no_forks : (b : Bool) (a y z : ℕ) → (if b then Goes a else Stops) ≡ Forks y z → ⊥
no_forks true a y z e = cc
no_forks false a y z e = cc

not_acquire : (sems : ℕ) (number s : Option ℕ) (n : Next) → acquire sems number s ≡ n → ((t : ℕ) → n ≡ Takes (record { 0 = t }) → ⊥) → n ≡ Stops
not_acquire sems (Some number) (Some s) n e none = by_test (number == 2 && nat_lt s sems) e
  where
    by_test : (b : Bool) → (if b then Takes (record { 0 = s }) else Stops) ≡ n → n ≡ Stops
    by_test true e = absurd (none s (sym e))
    by_test false e = sym e
not_acquire sems (Some number) None n e none = sym e
not_acquire sems None s n e none = sym e

-- a target ahead is a multiple of 4
pub ahead_aligned : (code : List ℕ) (x target : ℕ) → is_ahead code x target ≡ true → (target % 4 == 0) ≡ true
ahead_aligned code x target h = first (target % 4 == 0) (nat_lt target (4 * length code)) (second (nat_lt x target) (is_inside_code code target) h)
  where
    first : (a b : Bool) → (a && b) ≡ true → a ≡ true
    first true b h = refl
    first false b h = absurd (cc)

    second : (a b : Bool) → (a && b) ≡ true → b ≡ true
    second true b h = h
    second false b h = absurd (cc)

-- a transfer to it is taken
pub transfer_taken : (target : ℕ) (registers : Registers) (own shared : Memory) → (target % 4 == 0) ≡ true
    → transfer_outcome target registers own shared ≡ Ran Plain (with_pc registers target) own shared
transfer_taken target registers own shared h =
    ap (λ b. if b then Ran Plain (with_pc registers target) own shared else Fault misaligned_target) h

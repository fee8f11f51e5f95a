-- A task behind a call with a hint comes to the acquire, whichever way it goes.
use Rattle.std.proofs.Common.{◌≡◌, ◌∙◌, ◌<◌, ◌≤◌, ◌*◌, ◌/◌, ◌%◌, ◌^◌, ◌==◌, ◌&&◌, ℕ, zero, suc, Bool, true, false, if◌then◌else◌, List, [], ◌∷◌, length, slice_index_or, replicate, All, Option, Some, None, refl, sym, ap, subst, inl, inr, arith}
use Rattle.std.specs.Prelude.{nat_lt, slice_index}
use Rattle.std.proofs.lemmas.Bool.Decides.{nat_tests}
use Rattle.std.proofs.lemmas.List.{length-replicate}
use Rattle.em_base.specs.declared.ids.SemId.{SemId}
use Rattle.em_isa.specs.declared.instructions.Instr.{Instr}
use Rattle.em_isa.specs.Encoding.{Fits, word_of}
use Rattle.em_hart.specs.Hart.{Memory, Registers, register}
use Rattle.em_hart.specs.Decoded.{exec_instr}
use Rattle.em_hart.specs.Instruction.{Fault, exec, is_inside_code, outside_code, word_outcome}
use Rattle.em_hart.specs.InstructionTable.{Mnemonic, mnemonic}
use Rattle.em_hart.proofs.OtherWordsAreNot.{word_from_listed}
use Rattle.em_hart.proofs.OutcomeOfWord.{outcome_of_word}
use Rattle.em_scan.specs.declared.next.Next.{Next}
use Rattle.em_scan.specs.declared.next.Next.TheVariants.{Takes, Stops, Goes, Forks}
use Rattle.em_scan.specs.Followed.{IsAtAcquire, RunsTo}
use Rattle.em_scan.specs.Hint.{IsHint, most_branches, most_members}
use Rattle.em_scan.specs.Known.{Known, known_of, nothing_known}
use Rattle.em_scan.specs.Private.{learned, next, next_of_word}
use Rattle.em_scan.specs.Computed.{learned_of}
use Rattle.em_scan.specs.Ways.{AllTake, forks_at}
use Rattle.em_scan.proofs.Agreed.{Agrees, known_is}
use Rattle.em_scan.proofs.Back.{all_on, some_way, stops, way_on}
use Rattle.em_scan.proofs.Looks.{learned_at, next_at, next_inside, next_outside}
use Rattle.em_scan.proofs.Taken.{IsTaken}
use Rattle.em_scan.proofs.TakenBranch.{ends_there, goes_either}
use Rattle.em_scan.proofs.TakenInstr.{IsOwn, goes_there}

-- ---- the instruction at an address where a way doesn't stop

pub record HasInstr (code : List ℕ) (x : ℕ) : Type 0 where
  pub instr : Instr
  pub inside : is_inside_code code x ≡ true
  pub fits : Fits instr
  pub is : word_of instr ≡ slice_index code (x / 4)

-- the words of the code have 32 bits
abbrev pub AreWords : List ℕ → Type 0
AreWords code = All (λ word. word < 2 ^ 32) code

word_small : (code : List ℕ) (x : ℕ) → AreWords code → is_inside_code code x ≡ true → slice_index code (x / 4) < 2 ^ 32
word_small code x words inside = words (x / 4) 0 (below (x % 4 == 0) inside)
  where
    below : (b : Bool) → (b && nat_lt x (4 * length code)) ≡ true → x / 4 < length code
    below b h = let less : x < 4 * length code = grind (arith, nat_tests) in omega (arith, less)

pub has_instr : (code : List ℕ) (sems own x : ℕ) (known : Known) → AreWords code → (next code sems own x known ≡ Stops → ⊥) → HasInstr code x
unfolding next_of_word
has_instr code sems own x known words goes = by_place (is_inside_code code x) refl
  where
    by_name : is_inside_code code x ≡ true → (name : Option Mnemonic) → mnemonic (slice_index code (x / 4)) ≡ name → HasInstr code x
    by_name inside None e =
        absurd (goes (next_inside code sems own x known inside ∙ ap (next_of_word code sems own known x (slice_index code (x / 4))) e))
    by_name inside (Some name) e =
        let found = word_from_listed (slice_index code (x / 4)) (word_small code x words inside) name e in
        record { instr = found.instr; inside = inside; fits = found.fits; is = found.is }

    by_place : (b : Bool) → is_inside_code code x ≡ b → HasInstr code x
    by_place true e = by_name e (mnemonic (slice_index code (x / 4))) refl
    by_place false e = absurd (goes (next_outside code sems own x known e))

-- what the machine makes of it
exec_at : (code : List ℕ) (registers : Registers) (own shared : Memory) (h : HasInstr code registers.pc)
    → exec registers own shared code ≡ exec_instr h.instr registers own shared
unfolding exec
exec_at code registers own shared h =
    let word = slice_index code (registers.pc / 4) in
    ap (λ b. if b then word_outcome word registers own shared else Fault outside_code) h.inside
    ∙ outcome_of_word h.instr h.fits word h.is registers own shared

-- ---- the way that is taken

-- a task comes to the acquire by at most so many instructions, which change its registers alone
abbrev pub Comes : List ℕ → Memory → Memory → SemId → ℕ → Registers → Type 0
Comes code own shared s left registers =
    (n : ℕ) × (last : Registers) × (n ≤ left) × RunsTo n code own shared registers last × IsAtAcquire code own shared s last

-- one instruction more
comes_on : (code : List ℕ) (own shared : Memory) (s : SemId) (left : ℕ) (registers : Registers) (h : HasInstr code registers.pc) (known : Known) (y : ℕ)
    → (t : IsTaken (exec_instr h.instr registers own shared) own shared known y) → Comes code own shared s left t.after → Comes code own shared s (suc left) registers
comes_on code own shared s left registers h known y t c =
    (suc c.0, c.1, omega (arith, c.2), (t.class, t.after, exec_at code registers own shared h ∙ t.ran, c.3), c.4)

-- at the end of a way
comes_here : (code : List ℕ) (sems own : ℕ) (s : SemId) (memory shared : Memory) → AreWords code → (left : ℕ) (known : Known) (registers : Registers)
    → Agrees known registers → next code sems own registers.pc known ≡ Takes s → Comes code memory shared s left registers
comes_here code sems own s memory shared words left known registers a e =
    let h = has_instr code sems own registers.pc known words (λ stop. absurd (cc)) in
    let c = ends_there code sems own known h.instr registers memory shared a s (sym (next_at code sems own registers.pc known h.instr h.inside h.fits h.is) ∙ e) in
    (0, registers, omega arith, refl, record { calls = exec_at code registers memory shared h ∙ c.calls; number = c.number; semaphore = c.semaphore })

-- all ways from an address, after what the instruction before it made known
abbrev AllFrom : List ℕ → ℕ → ℕ → SemId → ℕ → ℕ → ℕ → Known → Type 0
AllFrom code sems own s left most x known = AllTake (next code sems own) (learned code) left most x known s

-- where a task comes to the acquire from each place that all ways agree on
abbrev ComesFrom : List ℕ → ℕ → ℕ → SemId → Memory → Memory → ℕ → Type 0
ComesFrom code sems own s memory shared left =
    (most : ℕ) (known : Known) (registers : Registers) → Agrees known registers → AllFrom code sems own s left most registers.pc known
    → Comes code memory shared s left registers

-- an instruction was taken on the way
comes_past : (code : List ℕ) (sems own : ℕ) (s : SemId) (memory shared : Memory) (left most : ℕ) (known : Known) (registers : Registers)
    (h : HasInstr code registers.pc) (y : ℕ) → IsTaken (exec_instr h.instr registers memory shared) memory shared (learned_of known registers.pc h.instr) y
    → AllFrom code sems own s left most y (learned code registers.pc known) → ComesFrom code sems own s memory shared left
    → Comes code memory shared s (suc left) registers
comes_past code sems own s memory shared left most known registers h y t all from =
    let after = learned code registers.pc known in
    let same : learned_of known registers.pc h.instr ≡ after = sym (learned_at code registers.pc known h.instr h.inside h.fits h.is) in
    comes_on code memory shared s left registers h (learned_of known registers.pc h.instr) y t
    (from most after t.after (subst (λ k. Agrees k t.after) same t.agrees) (subst (λ x. AllFrom code sems own s left most x after) (sym t.there) all))

-- one member of a way more
go : (code : List ℕ) (sems own : ℕ) (s : SemId) (memory shared : Memory) → AreWords code → IsOwn own memory → (left most : ℕ) (known : Known) (registers : Registers)
    → Agrees known registers → ComesFrom code sems own s memory shared left → (n : Next) → next code sems own registers.pc known ≡ n
    → AllFrom code sems own s (suc left) most registers.pc known → Comes code memory shared s (suc left) registers
go code sems own s memory shared words is left most known registers a from (Takes t) e all =
    comes_here code sems own s memory shared words (suc left) known registers a
    (all [] (stops (next code sems own) (learned code) (suc left) registers.pc known (Takes t) e tt)).ends
go code sems own s memory shared words is left most known registers a from Stops e all =
    comes_here code sems own s memory shared words (suc left) known registers a
    (all [] (stops (next code sems own) (learned code) (suc left) registers.pc known Stops e tt)).ends
go code sems own s memory shared words is left most known registers a from (Goes y) e all =
    let h = has_instr code sems own registers.pc known words (λ stop. absurd (cc)) in
    let there = sym (next_at code sems own registers.pc known h.instr h.inside h.fits h.is) ∙ e in
    let t = goes_there code sems own known h.instr h.fits registers memory shared is a y there in
    comes_past code sems own s memory shared left most known registers h y t
    (all_on (next code sems own) (learned code) left most most registers.pc y known s (Goes y) e refl (omega arith) all) from
go code sems own s memory shared words is left zero known registers a from (Forks y z) e all =
    let w = some_way (next code sems own) (learned code) left y (learned code registers.pc known) in
    let walk = all (y ∷ w.0) (way_on (next code sems own) (learned code) left registers.pc y known (Forks y z) w.0 e (inl refl) w.1) in
    let one : forks_at (next code sems own registers.pc known) ≡ 1 = ap forks_at e in
    absurd (omega (arith, walk.few, one))
go code sems own s memory shared words is left (suc most) known registers a from (Forks y z) e all =
    let h = has_instr code sems own registers.pc known words (λ stop. absurd (cc)) in
    let there = sym (next_at code sems own registers.pc known h.instr h.inside h.fits h.is) ∙ e in
    elim (goes_either code sems own known h.instr registers memory shared a y z there) [
      | inl t ↦ comes_past code sems own s memory shared left most known registers h y t
          (all_on (next code sems own) (learned code) left (suc most) most registers.pc y known s (Forks y z) e (inl refl) (omega arith) all) from
      | inr t ↦ comes_past code sems own s memory shared left most known registers h z t
          (all_on (next code sems own) (learned code) left (suc most) most registers.pc z known s (Forks y z) e (inr refl) (omega arith) all) from
    ]

-- a task comes to the acquire on which all ways agree
pub follows : (code : List ℕ) (sems own : ℕ) (s : SemId) (memory shared : Memory) → AreWords code → IsOwn own memory → (left most : ℕ) (known : Known)
    (registers : Registers) → Agrees known registers → AllTake (next code sems own) (learned code) left most registers.pc known s
    → Comes code memory shared s left registers
follows code sems own s memory shared words is zero most known registers a all =
    comes_here code sems own s memory shared words zero known registers a (all [] (inl refl)).ends
follows code sems own s memory shared words is (suc left) most known registers a all =
    go code sems own s memory shared words is left most known registers a
    (λ most known registers. follows code sems own s memory shared words is left most known registers)
    (next code sems own registers.pc known) refl all

nothing_there : (m n : ℕ) → let unknown : Known = replicate m None in slice_index_or unknown n None ≡ None
nothing_there zero n = refl
nothing_there (suc m) zero = refl
nothing_there (suc m) (suc n) = nothing_there m n

-- nothing is known at first, which agrees with any registers
pub nothing_agrees : (registers : Registers) → length registers.values ≡ 32 → Agrees nothing_known registers
nothing_agrees registers count = record { each = each; count = count; kept = length-replicate {A = Option ℕ} 32 None }
  where
    zero_is : (v : ℕ) → Some 0 ≡ Some v → 0 ≡ v
    zero_is v e = cc

    none_is : (v : ℕ) → None ≡ Some v → ⊥
    none_is v e = cc

    each : (r v : ℕ) → known_of nothing_known r ≡ Some v → register registers r ≡ v
    each zero v e = zero_is v e
    each (suc r) v e = absurd (none_is v (sym (known_is nothing_known r ∙ nothing_there 32 (suc r)) ∙ e))

-- so a task behind a call with a hint comes to its acquire
pub hint_is_followed : (code : List ℕ) (after sems own : ℕ) (s : SemId) → IsHint code after sems own s → AreWords code
    → (registers : Registers) (memory shared : Memory) → registers.pc ≡ after → length registers.values ≡ 32 → IsOwn own memory
    → Comes code memory shared s most_members registers
hint_is_followed code after sems own s all words registers memory shared there count is =
    follows code sems own s memory shared words is most_members most_branches nothing_known registers (nothing_agrees registers count)
    (subst (λ x. AllTake (next code sems own) (learned code) most_members most_branches x nothing_known s) (sym there) all)

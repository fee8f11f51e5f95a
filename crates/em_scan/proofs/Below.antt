-- A hint is one of the semaphores that there are.
use Rattle.std.proofs.Common.{◌≡◌, ◌<◌, ◌/◌, ◌==◌, ◌&&◌, ℕ, Bool, true, false, is_some, nat_lt, if◌then◌else◌, List, [], ◌∷◌, Option, Some, None, refl, arith}
use Rattle.std.specs.Prelude.{slice_index}
use Rattle.std.proofs.lemmas.Bool.Decides.{nat_tests}
use Rattle.em_base.specs.declared.ids.SemId.{SemId}
use Rattle.em_hart.specs.Effect.{Effect, writes, jumps, jumps_by_register, branches, loads, stores, passes, calls, breaks, sum}
use Rattle.em_hart.specs.Instruction.{is_aligned, is_inside_code}
use Rattle.em_hart.specs.InstructionTable.{Mnemonic, mnemonic}
use Rattle.em_hart.specs.Fields.{rs1}
use Rattle.em_scan.specs.declared.next.Next.{Next}
use Rattle.em_scan.specs.declared.next.Next.TheVariants.{Takes, Stops, Goes, Forks}
use Rattle.em_scan.specs.Hint.{IsHint, most_members}
use Rattle.em_scan.specs.Known.{Known, known_of, nothing_known}
use Rattle.em_scan.specs.Private.{acquire, effect_known, is_ahead, is_inside_own, learned, next, next_by, next_of_word}
use Rattle.em_scan.specs.Ways.{end_of_way}
use Rattle.em_scan.proofs.Back.{some_way}

-- a choice between two that aren't an acquire is none
neither : (b : Bool) (m n : Next) (s : SemId) → (m ≡ Takes s → ⊥) → (n ≡ Takes s → ⊥) → (if b then m else n) ≡ Takes s → ⊥
neither true m n s h k e = h e
neither false m n s h k e = k e

taken_below : (sems : ℕ) (number s : Option ℕ) (t : SemId) → acquire sems number s ≡ Takes t → t.0 < sems
taken_below sems (Some number) (Some s) t e = by_tests (number == 2 && nat_lt s sems) refl e
  where
    by_tests : (b : Bool) → (number == 2 && nat_lt s sems) ≡ b → (if b then Takes (record { 0 = s }) else Stops) ≡ Takes t → t.0 < sems
    by_tests true h e = let same : s ≡ t.0 = number_of (record { 0 = s }) t e in omega (arith, same, below (number == 2) s sems h)
      where
        number_of : (a b : SemId) → Takes a ≡ Takes b → a.0 ≡ b.0
        number_of a b e = cc

        below : (b : Bool) (s sems : ℕ) → (b && nat_lt s sems) ≡ true → s < sems
        below b s sems h = grind (arith, nat_tests)
    by_tests false h e = absurd (cc)
taken_below sems (Some number) None t e = absurd (cc)
taken_below sems None s t e = absurd (cc)

effect_below : (code : List ℕ) (sems own : ℕ) (known : Known) (x : ℕ) (first : Option ℕ) (effect : Effect) (s : SemId)
    → next_by code sems own known x first effect ≡ Takes s → s.0 < sems
unfolding next_by
effect_below code sems own known x first (writes value) s e = absurd (cc)
effect_below code sems own known x first (jumps value target) s e =
    absurd (neither (is_ahead code x target) (Goes target) Stops s (λ h. absurd (cc)) (λ h. absurd (cc)) e)
effect_below code sems own known x first (jumps_by_register value target) s e = absurd (cc)
effect_below code sems own known x first (branches condition target) s e =
    absurd (neither (is_ahead code x target) (Forks (sum x 4) target) Stops s (λ h. absurd (cc)) (λ h. absurd (cc)) e)
effect_below code sems own known x first (loads signed n address) s e =
    absurd (neither (is_some first && is_aligned n address && is_inside_own own n address) (Goes (sum x 4)) Stops s (λ h. absurd (cc)) (λ h. absurd (cc)) e)
effect_below code sems own known x first (stores n address value) s e = absurd (cc)
effect_below code sems own known x first passes s e = absurd (cc)
effect_below code sems own known x first calls s e = taken_below sems (known_of known 17) (known_of known 10) s e
effect_below code sems own known x first breaks s e = absurd (cc)

word_below : (code : List ℕ) (sems own : ℕ) (known : Known) (x word : ℕ) (name : Option Mnemonic) (s : SemId)
    → next_of_word code sems own known x word name ≡ Takes s → s.0 < sems
unfolding next_of_word
word_below code sems own known x word None s e = absurd (cc)
word_below code sems own known x word (Some name) s e = effect_below code sems own known x (known_of known (rs1 word)) (effect_known known x word name) s e

-- an acquire that comes is that of a semaphore below their number
pub next_below : (code : List ℕ) (sems own x : ℕ) (known : Known) (s : SemId) → next code sems own x known ≡ Takes s → s.0 < sems
unfolding next
next_below code sems own x known s e = by_place (is_inside_code code x) e
  where
    by_place : (b : Bool) → (if b then next_of_word code sems own known x (slice_index code (x / 4)) (mnemonic (slice_index code (x / 4))) else Stops) ≡ Takes s
        → s.0 < sems
    by_place true e = word_below code sems own known x (slice_index code (x / 4)) (mnemonic (slice_index code (x / 4))) s e
    by_place false e = absurd (cc)

end_below : (code : List ℕ) (sems own x : ℕ) (known : Known) (rest : List ℕ) (s : SemId)
    → end_of_way (next code sems own) (learned code) x known rest ≡ Takes s → s.0 < sems
end_below code sems own x known [] s e = next_below code sems own x known s e
end_below code sems own x known (y ∷ rest) s e = end_below code sems own y (learned code x known) rest s e

-- a hint is below the number of semaphores
pub hint_below : (code : List ℕ) (after sems own : ℕ) (s : SemId) → IsHint code after sems own s → s.0 < sems
hint_below code after sems own s all =
    let way = some_way (next code sems own) (learned code) most_members after nothing_known in
    end_below code sems own after nothing_known way.0 s (all way.0 way.1).ends

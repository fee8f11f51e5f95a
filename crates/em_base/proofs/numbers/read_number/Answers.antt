use Rattle.std.proofs.Common.{◌≡◌, ℕ, ℤ, ◌<◌, ◌^◌, List, ◌++◌, Some, None, pos, neg_ℤ, inl, inr, subst, sym, ◌∙◌, arith, codes}
use Rattle.std.proofs.lemmas.Int.{ints}
use Rattle.std.proofs.lemmas.Grind.{common_steps}
use Rattle.std.specs.Int.{w128}
use Rattle.std.specs.Prelude.{FitsSigned}
use Rattle.em_base.specs.Number.{IsMagnitude, IsNumber}
use Rattle.em_base.proofs.numbers.read_number.Goals as goal

-- a magnitude has no sign
unsigned : (text rest : List ℕ) (n : ℕ) → text ≡ codes "-" ++ rest → IsMagnitude text n → ⊥
unsigned text rest n e h = elim h [ inl p ↦ grind (arith, common_steps) | inr p ↦ grind (arith, common_steps) ]

small : (n : ℕ) (z : ℤ) → z ≡ pos n → FitsSigned w128 z → n < 2 ^ 128
small n z e h = omega (arith, ints)

small_below_zero : (n : ℕ) (z : ℤ) → z ≡ neg_ℤ (pos n) → FitsSigned w128 z → n < 2 ^ 128
small_below_zero n z e h = omega (arith, ints)

-- no such magnitude
abbrev Lacks : List ℕ → Type 0
Lacks text = (n : ℕ) → IsMagnitude text n → n < 2 ^ 128 → None ≡ Some n

missing : (n : ℕ) → None ≡ Some n → ⊥
missing n e = cc

behind : (front a b : List ℕ) → codes "-" ++ a ≡ codes "-" ++ b → a ≡ b
behind front a b e = cc

no_number_after_minus : (text rest : List ℕ) (z : ℤ) → text ≡ codes "-" ++ rest → Lacks rest → IsNumber text z → FitsSigned w128 z → ⊥
no_number_after_minus text rest z e lacks spelled fits = elim spelled [
  | inl p ↦ unsigned text rest p.0 e p.1
  | inr p ↦ missing p.0 (lacks p.0 (subst (λ t. IsMagnitude t p.0) (behind text p.1 rest (sym p.2 ∙ e)) p.3) (small_below_zero p.0 z p.4 fits))
]

no_number : (text : List ℕ) (z : ℤ) → ((rest : List ℕ) → text ≡ codes "-" ++ rest → ⊥) → Lacks text → IsNumber text z → FitsSigned w128 z → ⊥
no_number text z plain lacks spelled fits = elim spelled [
  | inl p ↦ missing p.0 (lacks p.0 p.1 (small p.0 z p.2 fits))
  | inr p ↦ plain p.1 p.2
]

pub returns-in-None-magnitude-clause-exact : goal.returns-in-None-magnitude-clause-exact
returns-in-None-magnitude-clause-exact c =
    λ z spelled fits. absurd (no_number_after_minus c.args.text.now c.in-Some.rest.now z c.in-Some.ensures c.in-None-magnitude.ensures.exact spelled fits)

pub returns-in-None-magnitude-2-clause-exact : goal.returns-in-None-magnitude-2-clause-exact
returns-in-None-magnitude-2-clause-exact c =
    λ z spelled fits. absurd (no_number c.args.text.now z c.in-None.ensures c.in-None-magnitude-2.ensures.exact spelled fits)

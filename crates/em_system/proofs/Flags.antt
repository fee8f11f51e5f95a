-- Sets of semaphores by flags.
use Rattle.std.proofs.Common.{◌≡◌, ◌∙◌, ◌≢◌, ℕ, zero, suc, ◌<◌, ◌==◌, ◌⊎◌, inl, inr, Bool, true, false, ◌&&◌, ◌||◌, ◌+◌, nat_lt, replicate, slice_set, sym, ap, refl, arith}
use Rattle.std.proofs.lemmas.Bool.Decides.{eqb_tells, nat_tests}
use Rattle.std.proofs.lemmas.List.{get_or-set_same, get_or-set_other, length-replicate}
use Rattle.em_system.specs.Held.{has_flag}

-- no flag is set
pub no_flag : (n r : ℕ) → has_flag (replicate n false) r ≡ false
no_flag zero r = refl
no_flag (suc n) zero = refl
no_flag (suc n) (suc r) = no_flag n r

-- no number is below 0
pub none_below_zero : (r : ℕ) → nat_lt r 0 ≡ false
none_below_zero r = grind (arith, nat_tests)

-- one flag is set
pub one_flag : (n s : ℕ) → s < n → (r : ℕ) → has_flag (slice_set (replicate n false) s true) r ≡ (r == s)
one_flag n s h r = by_case (eqb_tells r s)
  where
    by_case : ((r == s ≡ true) × (r ≡ s)) ⊎ ((r == s ≡ false) × (r ≢ s)) → has_flag (slice_set (replicate n false) s true) r ≡ (r == s)
    by_case (inl e) =
        ap (λ k. has_flag (slice_set (replicate n false) s true) k) e.1
        ∙ get_or-set_same (replicate n false) s true false (omega (arith, h, length-replicate n false)) ∙ sym e.0
    by_case (inr e) = get_or-set_other (replicate n false) s r true false e.1 ∙ no_flag n r ∙ sym e.0

-- one member more of a set that is told up to a place
pub more_members : (here there : Bool) (r p : ℕ) → (r ≡ p → here ≡ there)
    → ((here && (r == p)) || (nat_lt r p && there)) ≡ (nat_lt r (p + 1) && there)
more_members here there r p same = by_case (eqb_tells r p)
  where
    here_is : (b : Bool) → ((b && true) || (false && there)) ≡ b
    here_is true = refl
    here_is false = refl

    not_here : (b c : Bool) → ((b && false) || c) ≡ c
    not_here true c = refl
    not_here false c = refl

    by_case : ((r == p ≡ true) × (r ≡ p)) ⊎ ((r == p ≡ false) × (r ≢ p)) → ((here && (r == p)) || (nat_lt r p && there)) ≡ (nat_lt r (p + 1) && there)
    by_case (inl e) =
        let before : nat_lt r p ≡ false = grind (arith, nat_tests, e.1) in
        let after : nat_lt r (p + 1) ≡ true = grind (arith, nat_tests, e.1) in
        ap (λ b. (here && b) || (nat_lt r p && there)) e.0
        ∙ ap (λ b. (here && true) || (b && there)) before
        ∙ here_is here
        ∙ same e.1
        ∙ ap (λ b. b && there) (sym after)
    by_case (inr e) =
        let within : nat_lt r p ≡ nat_lt r (p + 1) = grind (arith, nat_tests, e.1) in
        ap (λ b. (here && b) || (nat_lt r p && there)) e.0
        ∙ not_here here (nat_lt r p && there)
        ∙ ap (λ b. b && there) within

-- The order of keys.
use Rattle.std.proofs.Common.{◌≡◌, ◌≢◌, true, false, arith}
use Rattle.std.proofs.lemmas.Bool.Decides.{nat_tests}
use Rattle.em_base.specs.declared.jobs.Key.{Key}
use Rattle.em_base.specs.Keys.{key_lt}

-- what isn't less than b isn't less than a, where b isn't
pub not_lt_trans : (a b c : Key) → key_lt b a ≡ false → key_lt c b ≡ false → key_lt c a ≡ false
not_lt_trans a b c p q = grind (arith, nat_tests)

-- of two keys one alone is less
pub lt_not_lt : (a b : Key) → key_lt a b ≡ true → key_lt b a ≡ false
lt_not_lt a b p = grind (arith, nat_tests)

-- no key is less than itself
pub not_lt_self : (a : Key) → key_lt a a ≡ false
not_lt_self a = grind (arith, nat_tests)

-- of keys of two tasks one is less
pub lt_from_apart : (a b : Key) → a.id ≢ b.id → key_lt b a ≡ false → key_lt a b ≡ true
lt_from_apart a b n p = grind (arith, nat_tests)

-- a key that isn't greater than a is less than what a is less than
pub lt_along : (a b c : Key) → key_lt a b ≡ false → key_lt a c ≡ true → key_lt b c ≡ true
lt_along a b c p q = grind (arith, nat_tests)

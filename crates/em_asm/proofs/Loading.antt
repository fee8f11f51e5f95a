-- The two parts of a value make it up.
use Rattle.std.proofs.Common.{◌≡◌, ℕ, ◌+◌, ◌*◌, ◌%◌, ◌^◌, ◌<◌, arith}
use Rattle.std.proofs.lemmas.Bool.Decides.{nat_tests}
use Rattle.std.proofs.lemmas.Int.{ints}
use Rattle.em_isa.specs.Encoding.{twos_complement}
use Rattle.em_asm.specs.Code.{high_part, low_part}

pub parts-load : (value : ℕ) → value < 2 ^ 32 → (high_part value * 2 ^ 12 + twos_complement 32 (low_part value)) % 2 ^ 32 ≡ value
parts-load value h = grind (arith, nat_tests, ints)

-- What the library writes of a number in 8 hexadecimal digits.
use Rattle.std.proofs.Common.{◌≡◌, ℕ, ◌-◌, ◌^◌, false, List, [], ◌++◌, length, replicate, Option, Some, subst, ap, ◌∙◌, append-nil, arith}
use Rattle.std.specs.Fmt.{AppendsText, char_count, digits, padded_integral, format_spec}
use Rattle.em_show.specs.Show.{hexadecimal}

-- eight digits with zeros in front are the hexadecimal text
pub padded-digits : (n : ℕ) → padded_integral (format_spec 32 0 4 8 (2 ^ 64 - 1)) false [] (digits 16 false n) ≡ hexadecimal n
unfolding padded_integral char_count
padded-digits n =
    let count : 8 - length (digits 16 false n) - 0 - 0 ≡ 8 - length (digits 16 false n) = omega arith in
    ap (λ k. replicate k 48 ++ (digits 16 false n ++ [])) count ∙ ap (λ t. replicate (8 - length (digits 16 false n)) 48 ++ t) (append-nil (digits 16 false n))

-- what a write appends, where it is known
pub appended : (old new bs : List ℕ) (o : Option (List ℕ)) → o ≡ Some bs → AppendsText old new o → new ≡ old ++ bs
appended old new bs o e h = let k : AppendsText old new (Some bs) = subst (AppendsText old new) e h in k

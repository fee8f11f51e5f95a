use Rattle.std.proofs.Common.{◌≡◌, ap, lit<, List, ℕ, MatchOption, None, Option, Some}
use Rattle.std.proofs.lemmas.Str.Pattern.{strip_suffix_char}
use Rattle.std.specs.Option.{unwrap_or}
use denote.Ref.{Bor}
use Rattle.em_bundle.proofs.TextLines.{strip-found}
use Rattle.em_bundle.proofs.texts.without_return.Goals as goal

-- the text in an option, or the other
chosen : (found : Option (Bor (List ℕ))) (line result : Bor (List ℕ)) → result ≡ unwrap_or found line → MatchOption found (result.now ≡ line.now) (λ x. result.now ≡ x.now)
chosen None line result e = ap (λ b. b.now) e
chosen (Some x) line result e = ap (λ b. b.now) e

pub returns : goal.returns
returns c =
    let found = strip_suffix_char 13 c.args.line.now c.strip_suffix.result c.strip_suffix.ensures.cases (lit< tt) in
    strip-found c.args.line.now c.strip_suffix.result c.unwrap_or.result.now found (chosen c.strip_suffix.result c.args.line c.unwrap_or.result c.unwrap_or.ensures)

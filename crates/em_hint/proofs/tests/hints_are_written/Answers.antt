-- The statements of the text stand where the image says: computed.
use Rattle.std.proofs.Common.{◌≡◌, ℕ, List, [], ◌∷◌, ◌∙◌, Option, Some, None, refl, rules, subst, sym, map, nat_eq, lit<, lit≤}
use Rattle.std.proofs.lemmas.List.Elements.{All-from_recursion}
use Rattle.std.specs.List.{IsDistinct}
use Rattle.std.specs.Str.Lines.{lines}
use Rattle.em_base.specs.declared.images.Wait.{Wait}
use Rattle.em_hint.specs.Lines.{HasWaitLine, HaveWaitLines}
use Rattle.em_hint.specs.declared.tests.TheConstants.{TEXT}
use Rattle.em_hint.proofs.tests.hints_are_written.Goals as goal

abbrev wait : ℕ → ℕ → Option ℕ → Wait
wait address line hint = record { address = address; line = line; hint = hint }

abbrev waits : List Wait
waits = wait 8 6 None ∷ wait 16 7 None ∷ wait 24 8 (Some 3) ∷ wait 32 9 None ∷ wait 40 10 None ∷ wait 48 12 None ∷ []

same_six : (a b c d e f a' b' c' d' e' f' : Wait) → a ≡ a' → b ≡ b' → c ≡ c' → d ≡ d' → e ≡ e' → f ≡ f' → a ∷ b ∷ c ∷ d ∷ e ∷ f ∷ [] ≡ a' ∷ b' ∷ c' ∷ d' ∷ e' ∷ f' ∷ []
same_six a b c d e f a' b' c' d' e' f' ea eb ec ed ee ef = cc

apart : IsDistinct nat_eq (map (λ wait. wait.line) waits)
unfolding IsDistinct
apart = search rules

stand : HaveWaitLines 5 (lines TEXT.now) waits
stand = record {
  lines = All-from_recursion (HasWaitLine 5 (lines TEXT.now)) waits ((lit≤ tt, lit< tt, (_, refl, refl)), ((lit≤ tt, lit< tt, (_, refl, refl)), ((lit≤ tt, lit< tt, (_, refl, refl)), ((lit≤ tt, lit< tt, (_, refl, refl)), ((lit≤ tt, lit< tt, (_, refl, refl)), ((lit≤ tt, lit< tt, (_, refl, refl)), tt))))));
  distinct = apart;
}

pub hinted_text-requires-clause-lines : goal.hinted_text-requires-clause-lines
hinted_text-requires-clause-lines g c =
    let same : c.from_vec.result ≡ waits = c.from_vec.ensures ∙ c.in_ok-waits.ensures.items ∙ same_six _ _ _ _ _ _ _ _ _ _ _ _ c.wait.ensures c.wait-2.ensures c.wait-3.ensures c.wait-4.ensures c.wait-5.ensures c.wait-6.ensures in
    subst (HaveWaitLines 5 (lines TEXT.now)) (sym same) stand

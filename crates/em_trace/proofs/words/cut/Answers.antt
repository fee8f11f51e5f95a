use Rattle.std.proofs.Common.{◌≡◌, ℕ, List, [], ◌∷◌, Option, Some, None, MatchOption, nat_eq, false, ap₂, sym, ◌∙◌, lit<, arith}
use Rattle.std.proofs.lemmas.Bool.Decides.{nat_tests}
use Rattle.std.proofs.lemmas.List.Elements.{All-from_get_or}
use Rattle.std.proofs.lemmas.List.Splits.{slice_split_first, slice_split_none}
use Rattle.std.proofs.lemmas.Str.Pattern.{IsSplitOnceResult, split_once_first, split_parts}
use denote.Ref.{Bor}
use Rattle.em_trace.specs.Words.{words_of}
use Rattle.em_trace.proofs.words.cut.Goals as goal

-- the words by the parts round the first space
cut-words : (text : List ℕ) (parts : Option (Bor (List ℕ) × Bor (List ℕ))) → IsSplitOnceResult 32 text parts
    → MatchOption parts (words_of text ≡ text ∷ []) (λ p. words_of text ≡ p.0.now ∷ words_of p.1.now)
cut-words text None h =
    let none = split_parts 32 text None h (lit< tt) in
    slice_split_none (λ byte. nat_eq byte 32) text (All-from_get_or (λ byte. nat_eq byte 32 ≡ false) text 0 (λ i within. grind (arith, nat_tests, none i within)))
cut-words text (Some p) h =
    let first = split_once_first 32 text (Some p) h (lit< tt) in
    slice_split_first (λ byte. nat_eq byte 32) text 0 first.0 ∙ ap₂ (λ word rest. word ∷ words_of rest) (sym first.1) (sym first.2)

pub returns : goal.returns
returns c = cut-words c.args.text.now c.split_once.result c.split_once.ensures.cases

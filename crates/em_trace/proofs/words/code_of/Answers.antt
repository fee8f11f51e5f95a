use Rattle.std.proofs.Common.{◌≡◌, ℕ, Bool, true, false, List, [], ◌∷◌, None, nat_eq, refl, sym, ap, ◌∙◌, lit<, arith}
use Rattle.std.proofs.Common.{if◌then◌else◌}
use Rattle.std.proofs.lemmas.Bool.Decides.{nat_tests}
use Rattle.std.proofs.lemmas.Str.Pattern.{strip_prefix_char}
use Rattle.em_trace.specs.Words.{code_of, count_of, negative}
use Rattle.em_trace.proofs.words.code_of.Goals as goal

-- a text without a minus sign is no code
code-none : (text : List ℕ) → ((rest : List ℕ) → text ≡ 45 ∷ rest → ⊥) → code_of text ≡ None
unfolding code_of
code-none [] none = refl
code-none (sign ∷ digits) none = by_sign (nat_eq sign 45) refl
  where
    by_sign : (b : Bool) → nat_eq sign 45 ≡ b → (if b then negative (count_of digits) else None) ≡ None
    by_sign false e = refl
    by_sign true e =
        let minus : sign ≡ 45 = grind (arith, nat_tests) in
        absurd (none digits (ap (λ s. s ∷ digits) minus))

-- a minus sign and digits
code-some : (text digits : List ℕ) → text ≡ 45 ∷ digits → code_of text ≡ negative (count_of digits)
unfolding code_of
code-some text digits e = ap code_of e

pub returns-in_err-strip_prefix : goal.returns-in_err-strip_prefix
returns-in_err-strip_prefix c =
    let parts = strip_prefix_char 45 c.args.text.now c.strip_prefix.result c.strip_prefix.ensures.cases (lit< tt) in
    let none = rw c.in_err-strip_prefix.was at parts in
    c.from_residual.ensures ∙ sym (code-none c.args.text.now none)

pub returns-in_err-count_of : goal.returns-in_err-count_of
returns-in_err-count_of c =
    let digits = c.in_ok-strip_prefix.field-0.now in
    let parts = strip_prefix_char 45 c.args.text.now c.strip_prefix.result c.strip_prefix.ensures.cases (lit< tt) in
    let front = rw c.in_ok-strip_prefix.was at parts in
    c.from_residual-in_err-count_of.ensures ∙ sym (code-some c.args.text.now digits front ∙ ap negative (sym c.in_err-count_of.ensures))

pub returns : goal.returns
returns c =
    let digits = c.in_ok-strip_prefix.field-0.now in
    let parts = strip_prefix_char 45 c.args.text.now c.strip_prefix.result c.strip_prefix.ensures.cases (lit< tt) in
    let front = rw c.in_ok-strip_prefix.was at parts in
    c.negative.ensures ∙ sym (code-some c.args.text.now digits front ∙ ap negative (sym c.in_ok-count_of.ensures))

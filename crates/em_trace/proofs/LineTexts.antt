-- A text spells one line at most, and the text of a line spells that line.
use Rattle.std.proofs.Common.{◌≡◌, ℕ, ◌<◌, All, true, false, nat_eq, nat_lt, List, [], ◌∷◌, length, Some, None, refl, sym, ap, subst, ◌∙◌, arith}
use Rattle.std.proofs.lemmas.Bool.Decides.{nat_tests}
use Rattle.std.proofs.lemmas.List.Elements.{All-weaker}
use Rattle.std.proofs.lemmas.List.Splits.{join_with_byte-slice_split, length-slice_split, slice_split_at, slice_split_none}
use Rattle.std.proofs.lemmas.List.Sums.{AllPass-from_list_all}
use Rattle.std.specs.List.{AllByRecursion, join_with_byte, list_all}
use Rattle.em_base.proofs.Trimming.{list_all-joined, list_all-weaker}
use Rattle.em_trace.specs.declared.lines.Line.{Line}
use Rattle.em_trace.proofs.LineKinds.{words-find, words-plain, words-spelled}
use Rattle.em_trace.proofs.LineWords.{IsPlain}
use Rattle.em_trace.specs.Printed.{IsLine, line_text, line_words}
use Rattle.em_trace.specs.Reading.{IsNoLine}
use Rattle.em_trace.specs.Words.{line_of, line_of_words, words_of}

-- ---- the words of a text

-- a word without a space is not split
no-space : (word : List ℕ) → IsPlain word → All (λ byte. nat_eq byte 32 ≡ false) word
no-space word h =
    All-weaker (λ byte. nat_lt 32 byte ≡ true) (λ byte. nat_eq byte 32 ≡ false) (λ byte above. grind (arith, nat_tests)) word
    (AllPass-from_list_all (λ byte. nat_lt 32 byte) word h)

-- words with a space between them are found again
pub words-joined : (word : List ℕ) (rest : List (List ℕ)) → IsPlain word → AllByRecursion IsPlain rest → words_of (join_with_byte 32 (word ∷ rest)) ≡ word ∷ rest
words-joined word [] h t = slice_split_none (λ byte. nat_eq byte 32) word (no-space word h)
words-joined word (next ∷ rest) h t =
    slice_split_at (λ byte. nat_eq byte 32) word 32 (join_with_byte 32 (next ∷ rest)) (no-space word h) refl
    ∙ ap (λ ws. word ∷ ws) (words-joined next rest t.0 t.1)

joined : (words : List (List ℕ)) (line : Line) → AllByRecursion IsPlain words → line_of_words words ≡ Some line → words_of (join_with_byte 32 words) ≡ words
joined [] line h e = absurd (cc)
joined (word ∷ rest) line h e = words-joined word rest h.0 h.1

-- five words and more are no line
pub too_many : (name a b c d text : List ℕ) → line_of_words (name ∷ a ∷ b ∷ c ∷ d ∷ words_of text) ≡ None
too_many name a b c d text = by_words (words_of text) (omega (arith, length-slice_split (λ byte. nat_eq byte 32) text))
  where
    by_words : (words : List (List ℕ)) → 0 < length words → line_of_words (name ∷ a ∷ b ∷ c ∷ d ∷ words) ≡ None
    by_words [] some = absurd (omega arith)
    by_words (word ∷ more) some = refl

-- ---- lines

-- a line that a text gives is spelled by it
pub line-tells : (text : List ℕ) (line : Line) → line_of text ≡ Some line → IsLine line × (line_text line ≡ text)
line-tells text line e =
    let s = words-spelled (words_of text) line e in
    (s.is_line, ap (join_with_byte 32) s.spelled ∙ join_with_byte-slice_split 32 text)

-- a line is found by its text
pub line-finds : (line : Line) → IsLine line → line_of (line_text line) ≡ Some line
line-finds line h =
    let found = words-find line h in
    ap line_of_words (joined (line_words line) line (words-plain line h) found) ∙ found

-- a text that gives no line is that of none
pub line-none : (text : List ℕ) → line_of text ≡ None → IsNoLine text
line-none text none line h e =
    let found : line_of text ≡ Some line = subst (λ t. line_of t ≡ Some line) e (line-finds line h) in
    absurd (cc)

-- two lines of one text are one
pub same-line : (one other : Line) → IsLine one → IsLine other → line_text one ≡ line_text other → one ≡ other
same-line one other h k e =
    let same : Some one ≡ Some other = sym (line-finds one h) ∙ ap line_of e ∙ line-finds other k in
    cc

-- ---- the bytes of a line

-- each byte is a space or above
abbrev pub IsPrinted : List ℕ → Type 0
IsPrinted text = list_all (λ byte. nat_lt 31 byte) text ≡ true

plain-printed : (word : List ℕ) → IsPlain word → IsPrinted word
plain-printed word h = list_all-weaker (λ byte. nat_lt 32 byte) (λ byte. nat_lt 31 byte) word (λ byte above. grind (arith, nat_tests)) h

-- nor of words with a space between them
pub joined-printed : (words : List (List ℕ)) → AllByRecursion IsPlain words → IsPrinted (join_with_byte 32 words)
joined-printed [] h = refl
joined-printed (word ∷ []) h = plain-printed word h.0
joined-printed (word ∷ next ∷ rest) h =
    list_all-joined (λ byte. nat_lt 31 byte) word (32 ∷ join_with_byte 32 (next ∷ rest)) (plain-printed word h.0) (joined-printed (next ∷ rest) h.1)

pub line-printed : (line : Line) → IsLine line → IsPrinted (line_text line)
line-printed line h = joined-printed (line_words line) (words-plain line h)

-- The text of lines has these lines and no others.
use Rattle.std.proofs.Common.{◌≡◌, ℕ, ◌-◌, ◌<◌, All, Bool, true, false, cond, nat_eq, nat_lt, List, [], ◌∷◌, ◌++◌, length, map, take, get_or, refl, sym, ap, ◌∙◌, append_assoc, arith}
use Rattle.std.proofs.lemmas.Bool.Decides.{nat_tests}
use Rattle.std.proofs.lemmas.List.Elements.{All-get_or, All-head, All-tail, All-weaker}
use Rattle.std.proofs.lemmas.List.Splits.{length-slice_split, slice_split_at}
use Rattle.std.proofs.lemmas.List.Sums.{AllPass-from_list_all}
use Rattle.std.specs.List.{slice_split}
use Rattle.std.specs.Str.Lines.{lines, lines_of_parts, strip_carriage_return}
use Rattle.em_trace.specs.declared.lines.Line.{Line}
use Rattle.em_trace.proofs.LineTexts.{IsPrinted, line-printed}
use Rattle.em_trace.proofs.TraceTexts.{one_list}
use Rattle.em_trace.specs.Printed.{IsLine, line_text, trace_text}
use Rattle.em_trace.specs.Reading.{IsTraceOf}

abbrev is_feed : ℕ → Bool
is_feed byte = nat_eq byte 10

no-feed : (text : List ℕ) → IsPrinted text → All (λ byte. is_feed byte ≡ false) text
no-feed text h =
    All-weaker (λ byte. nat_lt 31 byte ≡ true) (λ byte. is_feed byte ≡ false) (λ byte above. grind (arith, nat_tests)) text
    (AllPass-from_list_all (λ byte. nat_lt 31 byte) text h)

-- a text that is printed has no carriage return at its end
no-return : (text : List ℕ) → IsPrinted text → strip_carriage_return text ≡ text
no-return [] h = refl
no-return (x ∷ xs) h =
    let place = length (x ∷ xs) - 1 in
    let above : nat_lt 31 (get_or (x ∷ xs) place 0) ≡ true =
    All-get_or (λ byte. nat_lt 31 byte ≡ true) (x ∷ xs) place 0 (omega arith) (AllPass-from_list_all (λ byte. nat_lt 31 byte) (x ∷ xs) h) in
    let other : nat_eq (get_or (x ∷ xs) place 0) 13 ≡ false = grind (arith, nat_tests) in
    ap (λ b. cond b (take place (x ∷ xs)) (x ∷ xs)) other

parted : (line : List ℕ) (parts : List (List ℕ)) → 0 < length parts → lines_of_parts (line ∷ parts) ≡ strip_carriage_return line ∷ lines_of_parts parts
parted line [] h = absurd (omega arith)
parted line (part ∷ parts) h = refl

-- a printed line with its line feed, and the lines of what follows
pub lines-printed : (line rest : List ℕ) → IsPrinted line → lines (line ++ 10 ∷ rest) ≡ line ∷ lines rest
lines-printed line rest h =
    let some : 0 < length (slice_split is_feed rest) = omega (arith, length-slice_split is_feed rest) in
    ap lines_of_parts (slice_split_at is_feed line 10 rest (no-feed line h) refl) ∙ parted line (slice_split is_feed rest) some
    ∙ ap (λ l. l ∷ lines rest) (no-return line h)

lines-back : (found : List Line) → All IsLine found → lines (trace_text found) ≡ map line_text found
lines-back [] h = refl
lines-back (line ∷ more) h =
    ap lines (append_assoc (line_text line) (10 ∷ []) (trace_text more))
    ∙ lines-printed (line_text line) (trace_text more) (line-printed line (All-head IsLine line more h))
    ∙ ap (λ ts. line_text line ∷ ts) (lines-back more (All-tail IsLine line more h))

-- the text of lines is a trace of these lines
pub back : (found : List Line) → All IsLine found → IsTraceOf (trace_text found) found
back found h = record { spelled = sym (lines-back found h); valid = h }

-- and of no others
pub back_only : (found other : List Line) → All IsLine found → IsTraceOf (trace_text found) other → other ≡ found
back_only found other h a = one_list (trace_text found) other found a (back found h)

-- The place behind a word in a line.
use Rattle.std.proofs.Common.{◌≡◌, ℕ, ◌+◌, ◌-◌, ◌<◌, true, List, [], ◌∷◌, ◌++◌, length, drop, get_or, sym, ap, ◌∙◌, arith, ◌||◌, subst, length-append, length-drop, codes}
use Rattle.std.proofs.lemmas.Bool.{eqb-true}
use Rattle.std.proofs.lemmas.List.{get_or-append-add, get_or-drop}
use Rattle.std.specs.List.{prefix_len}
use Rattle.std.specs.Str.{IsCharBoundary}
use Rattle.em_base.specs.Text.{is_hash, is_space, unindented}
use Rattle.em_hint.specs.Lines.{IsWaitLine, hint_place, is_word_end, label_size, statement_place}

-- a byte at which a word ends is a character of its own
narrow : (byte : ℕ) → (is_space byte || is_hash byte) ≡ true → byte < 128
narrow byte e = grind (arith, eqb-true)

-- what a word's end says of the byte there
ended_narrow : (rest : List ℕ) → is_word_end rest ≡ true → 0 < length rest → get_or rest 0 0 < 128
ended_narrow [] e some = absurd (omega arith)
ended_narrow (byte ∷ rest) e some = narrow byte (grind arith)

-- the byte behind a word in a line
read_behind : (line word rest : List ℕ) (at : ℕ) → drop at line ≡ word ++ rest → get_or line (at + length word) 0 ≡ get_or rest 0 0
read_behind line word rest at split =
    sym (get_or-drop at line (length word) 0) ∙ ap (λ t. get_or t (length word) 0) split ∙ ap (λ n. get_or (word ++ rest) n 0) (omega arith) ∙ get_or-append-add word rest 0 0

-- a line may be cut behind a word that ends there
boundary_behind : (line word rest : List ℕ) (at : ℕ) → 0 < length word → drop at line ≡ word ++ rest → is_word_end rest ≡ true → IsCharBoundary line (at + length word)
boundary_behind line word rest at some split ended =
    let counted : length line - at ≡ length word + length rest = sym (length-drop at line) ∙ ap length split ∙ length-append word rest in
    let read = read_behind line word rest at split in
    (omega arith, λ within wide. absurd (omega (arith, ended_narrow rest ended (omega arith))))

-- a line with the word `waitjob` may be cut behind it
wait_boundary : (line : List ℕ) → IsWaitLine line → IsCharBoundary line (hint_place line)
wait_boundary line w = boundary_behind line (codes "waitjob") w.0 (statement_place line) (omega arith) w.1 w.2

-- a place by what is left behind it
place_from_end : (line rest : List ℕ) (a b : ℕ) → rest ≡ drop b (drop a line) → 0 < length line - (a + b) → a + b ≡ length line - length rest
place_from_end line rest a b e some = omega (arith, ap length e, length-drop b (drop a line), length-drop a line)

-- the same, at the place that is counted from the end
pub place_boundary : (line statement : List ℕ) → IsWaitLine line → statement ≡ unindented (drop (label_size line) line) → IsCharBoundary line (length line - length statement + length (codes "waitjob"))
place_boundary line statement w e =
    let counted : length line - statement_place line ≡ length (codes "waitjob") + length w.0 = sym (length-drop (statement_place line) line) ∙ ap length w.1 ∙ length-append (codes "waitjob") w.0 in
    let place = place_from_end line statement (label_size line) (prefix_len is_space (drop (label_size line) line)) e (omega arith) in
    subst (λ n. IsCharBoundary line (n + length (codes "waitjob"))) place (wait_boundary line w)

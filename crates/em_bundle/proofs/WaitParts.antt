-- The parts of a text that says a `waitjob`: what stands around its statement, and where that word ends.
use mathlib.Core.Bool.{◌&&◌, ◌||◌}
use Rattle.std.proofs.Common.{◌≡◌, ◌∙◌, ℕ, Bool, true, false, nat_eq, List, [], ◌∷◌, ◌++◌, length, take, ◌-◌, codes, Option, Some, None, Result, Ok, Err, is_some, refl, sym, ap, append_assoc, if◌then◌else◌}
use Rattle.em_asm_read.specs.declared.faults.Fault.{Fault}
use Rattle.em_asm_read.specs.declared.faults.Fault.TheVariants.{Mnemonic as BadMnemonic, Label as BadLabel}
use Rattle.em_asm_read.specs.declared.items.Line.{Line}
use Rattle.em_asm_read.specs.declared.mnemonics.Mnemonic.{Mnemonic}
use Rattle.em_asm_read.specs.Faults.{found_or, then_read}
use Rattle.em_asm_read.specs.Grammar.{Parts, StopsAt, Words}
use Rattle.em_asm_read.specs.Lines.{is_misspelled, is_word, meaning_of, statement_meaning}
use Rattle.em_asm_read.specs.Mnemonics.{mnemonic_of}
use Rattle.em_asm_read.specs.Statements.{statement}
use Rattle.em_base.proofs.Trimming.{both, cut, cut_back, drop-front, take-back}
use Rattle.em_base.specs.Text.{is_hash, is_space, trimmed, unindented}
use Rattle.std.specs.List.{list_all, suffix_len}
use Rattle.em_hint.specs.Lines.{is_word_end}
use Rattle.em_bundle.proofs.WaitStatements.{is_wait, statement-waits, wait-word, waits}

-- ---- the statement

-- a statement that says a `waitjob` is that word and operands
pub record IsWaitStatement (said : Option Words) : Type 0 where
  pub words : Words
  pub here : said ≡ Some words
  pub word : words.mnemonic ≡ codes "waitjob"

-- what was read is a `waitjob`, of this mnemonic
from-mnemonic : (labelled : Bool) (words : Words) (found : Option Mnemonic) → mnemonic_of words.mnemonic ≡ found
    → waits (then_read (found_or BadMnemonic found) (λ mnemonic. if labelled && is_word mnemonic then Err BadLabel else statement mnemonic words.operands)) ≡ true
    → words.mnemonic ≡ codes "waitjob"
from-mnemonic labelled words None e w = absurd (cc)
from-mnemonic labelled words (Some m) e w = by_label (labelled && is_word m) w
  where
    by_label : (b : Bool) → waits (if b then Err BadLabel else statement m words.operands) ≡ true → words.mnemonic ≡ codes "waitjob"
    by_label true w = absurd (cc)
    by_label false w = wait-word words.mnemonic (e ∙ ap Some (statement-waits m words.operands w))

from-statement : (labelled : Bool) (said : Option Words) → waits (statement_meaning labelled said) ≡ true → IsWaitStatement said
from-statement labelled None w = absurd (cc)
from-statement labelled (Some words) w = record {
  words = words;
  here = refl;
  word = from-mnemonic labelled words (mnemonic_of words.mnemonic) refl w;
}

-- parts that mean a line with a `waitjob`
pub from-meaning : (parts : Parts) (line : Line) → meaning_of parts ≡ Ok line → is_wait line.item ≡ true → IsWaitStatement parts.statement
from-meaning parts line e w = by_label (is_misspelled parts.label) e
  where
    by_item : (r : Result _ Fault) → then_read r (λ item. Ok (record { label = parts.label; item = item })) ≡ Ok line → waits r ≡ true
    by_item (Ok item) k =
        let same : line.item ≡ item = cc in
        ap is_wait (sym same) ∙ w
    by_item (Err fault) k = absurd (cc)

    by_label : (b : Bool) → (if b then Err BadLabel else then_read (statement_meaning (is_some parts.label) parts.statement) (λ item. Ok (record { label = parts.label; item = item }))) ≡ Ok line → IsWaitStatement parts.statement
    by_label true k = absurd (cc)
    by_label false k = from-statement (is_some parts.label) parts.statement (by_item (statement_meaning (is_some parts.label) parts.statement) k)

-- ---- a text and the spaces and tabs around it

pub record IsTrimmed (text core : List ℕ) : Type 0 where
  pub before : List ℕ
  pub after : List ℕ
  pub blank_before : list_all is_space before ≡ true
  pub blank_after : list_all is_space after ≡ true
  pub split : text ≡ before ++ core ++ after

pub trims : (text : List ℕ) → IsTrimmed text (trimmed text)
trims text =
    let c = cut is_space text in
    let b = cut_back is_space c.rest in
    let inner : unindented text ≡ c.rest = ap unindented c.split ∙ drop-front is_space c.front c.rest c.passes c.stops in
    let core : trimmed text ≡ b.core = ap unended (inner ∙ b.split) ∙ take-back is_space b.core b.back b.passes b.stops in
    record {
      before = c.front;
      after = b.back;
      blank_before = c.passes;
      blank_after = b.passes;
      split = c.split ∙ ap (λ t. c.front ++ t) (b.split ∙ ap (λ t. t ++ b.back) (sym core)) ∙ sym (append_assoc c.front (trimmed text) b.back);
    }
  where
    unended : List ℕ → List ℕ
    unended t = take (length t - suffix_len is_space t) t

-- ---- where a word ends

-- a byte that ends a word
space-ends : (b : ℕ) (text : List ℕ) → is_space b ≡ true → is_word_end (b ∷ text) ≡ true
space-ends b text e = middle (nat_eq (length (b ∷ text)) 0) (is_space b) (is_hash b) e
  where
    middle : (f g h : Bool) → g ≡ true → (f || g || h) ≡ true
    middle true g h e = refl
    middle false true h e = refl
    middle false false h e = absurd (cc)

hash-ends : (b : ℕ) (text : List ℕ) → is_hash b ≡ true → is_word_end (b ∷ text) ≡ true
hash-ends b text e = last (nat_eq (length (b ∷ text)) 0) (is_space b) (is_hash b) e
  where
    last : (f g h : Bool) → h ≡ true → (f || g || h) ≡ true
    last true g h e = refl
    last false true h e = refl
    last false false h e = e

-- a comment, blanks, and operands behind blanks, each end a word
comment-ends : (comment : List ℕ) → StopsAt is_hash comment → is_word_end comment ≡ true
comment-ends [] h = refl
comment-ends (b ∷ comment) h = hash-ends b comment h

blanks-end : (blanks comment : List ℕ) → list_all is_space blanks ≡ true → StopsAt is_hash comment → is_word_end (blanks ++ comment) ≡ true
blanks-end [] comment h k = comment-ends comment k
blanks-end (b ∷ blanks) comment h k = space-ends b (blanks ++ comment) (both (is_space b) (list_all is_space blanks) h).0

pub operands-end : (operands blanks comment : List ℕ) → StopsAt is_space operands → list_all is_space blanks ≡ true → StopsAt is_hash comment → is_word_end (operands ++ (blanks ++ comment)) ≡ true
operands-end [] blanks comment s h k = blanks-end blanks comment h k
operands-end (b ∷ operands) blanks comment s h k = space-ends b (operands ++ (blanks ++ comment)) s

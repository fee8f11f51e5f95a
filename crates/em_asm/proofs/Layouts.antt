-- The labels and counts of lines, one line more.
use Rattle.std.proofs.Common.{◌≡◌, ℕ, ◌+◌, ◌*◌, ◌<◌, List, ◌++◌, length, take, Option, Some, None, sym, ap, ap₂, ◌∙◌, length-append}
use Rattle.std.proofs.lemmas.Option.{slice_get-get_or}
use Rattle.em_base.specs.declared.refusals.Refusal.{Refusal}
use Rattle.em_base.specs.FirstFault.{AreClear, NamesFirst, by_test}
use Rattle.em_base.proofs.FirstFaults.{clear_past, none_found}
use Rattle.em_asm_read.specs.declared.items.Item.TheVariants.{Nothing}
use Rattle.em_asm_read.specs.declared.items.Line.{Line}
use Rattle.em_asm.specs.declared.faults.Fault.{Fault}
use Rattle.em_base.specs.Images.{Labels}
use Rattle.em_asm.specs.Code.{size_of}
use Rattle.em_asm.specs.Image.{code_of, code_size, label_at, labels_of, layout_fault, room_fault, shared_word, shared_words}
use Rattle.em_asm.proofs.Gathered.{gather-next, line_at, size-next, shared-next}

-- what stands before a line
pub record Stands (lines : List Line) (i : ℕ) (found : Labels) (words others : ℕ) : Type 0 where
  pub labels : found ≡ labels_of (take i lines)
  pub code : words ≡ code_size (take i lines)
  pub shared : others ≡ length (shared_words (take i lines))

same_fault : (a b : Labels) (c d e f : ℕ) (line other : Line) → a ≡ b → c ≡ d → e ≡ f → line ≡ other → room_fault a c e line ≡ room_fault b d f other
same_fault a b c d e f line other p q r s = cc

pub fault-here : (lines : List Line) (i : ℕ) (labels : Labels) (code shared : ℕ) (line : Line) (fault : Option Fault)
    → Stands lines i labels code shared → line ≡ line_at lines i → fault ≡ room_fault labels code shared line → layout_fault (take i lines) (line_at lines i) ≡ fault
fault-here lines i labels code shared line fault s here e =
    sym (e ∙ same_fault labels (labels_of (take i lines)) code (code_size (take i lines)) shared (length (shared_words (take i lines))) line (line_at lines i) s.labels s.code s.shared here)

pub stands-next : (lines : List Line) (i : ℕ) (labels after : Labels) (code more shared further : ℕ) (line : Line)
    → i < length lines → Stands lines i labels code shared → line ≡ line_at lines i
    → after ≡ labels ++ label_at (4 * code) line.label → more ≡ code + size_of line.item → further ≡ shared + length (shared_word line.item)
    → Stands lines (i + 1) after more further
stands-next lines i labels after code more shared further line h s here a m f = record {
  labels =
      a ∙ ap₂ (λ ls c. ls ++ label_at (4 * c) line.label) s.labels s.code
      ∙ ap (λ l. labels_of (take i lines) ++ label_at (4 * code_size (take i lines)) l.label) here
      ∙ sym (gather-next (λ place at l. label_at at l.label) lines i h);
  code = m ∙ ap₂ (λ c l. c + size_of l.item) s.code here ∙ sym (size-next lines i h);
  shared =
      f ∙ ap₂ (λ n l. n + length (shared_word l.item)) s.shared here
      ∙ sym (ap length (shared-next lines i h) ∙ length-append (shared_words (take i lines)) (shared_word (line_at lines i).item));
}

-- what a test answers at a line of clear lines
pub none-at : (test : List Line → Line → Option Fault) (lines : List Line) (n i : ℕ) → AreClear (by_test test) lines n → i < n → i < length lines
    → test (take i lines) (line_at lines i) ≡ None
none-at test lines n i clear before within = none_found test lines n i (line_at lines i) clear before (slice_get-get_or lines i (record { label = None; item = Nothing }) within)

-- where the test answers nothing, one line more is clear
pub clear-next : (test : List Line → Line → Option Fault) (lines : List Line) (i : ℕ) → i < length lines → AreClear (by_test test) lines i
    → test (take i lines) (line_at lines i) ≡ None → AreClear (by_test test) lines (i + 1)
clear-next test lines i within clear none = clear_past test lines i (line_at lines i) clear (slice_get-get_or lines i (record { label = None; item = Nothing }) within) none

-- where it answers a fault, the refusal names it
pub first-fault : (test : List Line → Line → Option Fault) (lines : List Line) (number : ℕ → ℕ) (i : ℕ) (fault : Fault) (refusal : Refusal)
    → i < length lines → AreClear (by_test test) lines i → test (take i lines) (line_at lines i) ≡ Some fault
    → refusal ≡ (let r : Refusal = record { code = code_of fault; line = number i } in r) → NamesFirst (by_test test) code_of number lines refusal
first-fault test lines number i fault refusal within clear faulty e = record {
  place = i;
  fault = fault;
  first = record { item = line_at lines i; here = slice_get-get_or lines i (record { label = None; item = Nothing }) within; faulty = faulty; before = clear };
  coded = ap (λ r. r.code) e;
  placed = ap (λ r. r.line) e;
}

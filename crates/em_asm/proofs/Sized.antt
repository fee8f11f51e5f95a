-- Code words are as many as their item has, and stand at its address.
use Rattle.std.proofs.Common.{◌≡◌, ℕ, suc, zero, ◌+◌, ◌*◌, ◌<◌, ◌≤◌, ℤ, Bool, true, false, nat_lt, List, [], ◌∷◌, ◌++◌, length, map, take, Some, None, Result, Ok, Err, refl, sym, ap, ap₂, subst, ◌∙◌, arith, add-one, length-append, if◌then◌else◌}
use Rattle.std.proofs.lemmas.Bool.Decides.{nat_tests}
use Rattle.std.proofs.lemmas.List.{length-map}
use Rattle.std.specs.Option.{unwrap_or}
use Rattle.std.specs.Result.{result_ok, result_err}
use Rattle.em_isa.specs.Encoding.{word_of}
use Rattle.em_asm_read.specs.declared.items.Item.{Item}
use Rattle.em_asm_read.specs.declared.items.Item.TheVariants.{Nothing, One, Branch, Jal, Li, Wait, Word, Raw}
use Rattle.em_asm_read.specs.declared.items.Line.{Line}
use Rattle.em_asm.specs.declared.faults.Fault.{Fault}
use Rattle.em_asm.specs.declared.faults.Fault.TheVariants.{LabelTwice, TooMuchCode, TooMuchShared}
use Rattle.em_asm.specs.declared.words.Words.{Words}
use Rattle.em_base.specs.Images.{Labels}
use Rattle.em_asm.specs.Code.{aim, words_of_item, loads, size_of, then_code, waits}
use Rattle.em_base.specs.Images.{most_words}
use Rattle.em_asm.specs.Image.{code_size, is_known, layout_fault, labels_of, room_fault, shared_word, shared_words, target_fault, code_words_of}
use Rattle.em_asm.specs.Coding.{word_list}
use Rattle.em_base.specs.FirstFault.{AreClear, by_test}
use Rattle.em_asm.proofs.Gathered.{gather-next, line_at, shared-next, size-next}
use Rattle.em_asm.proofs.Layouts.{none-at}

-- ---- how many words

same_length : (ws vs : List ℕ) → (let r : Result (List ℕ) Fault = Ok vs in r) ≡ Ok ws → length ws ≡ length vs
same_length ws vs e = let same : ws ≡ vs = cc in ap length same

one_word : (r : Result ℤ Fault) (f : ℤ → ℕ) (ws : List ℕ) → then_code r (λ offset. f offset ∷ []) ≡ Ok ws → length ws ≡ 1
one_word (Ok offset) f ws e = same_length ws (f offset ∷ []) e
one_word (Err fault) f ws e = absurd (cc)

pub code-length : (labels : Labels) (at : ℕ) (item : Item) (ws : List ℕ) → words_of_item labels at item ≡ Ok ws → length ws ≡ size_of item
code-length labels at Nothing ws e = same_length ws [] e
code-length labels at (One instruction) ws e = same_length ws (word_of instruction ∷ []) e
code-length labels at (Branch op rs1 rs2 target) ws e = one_word (aim labels 4096 at target) _ ws e
code-length labels at (Jal rd target) ws e = one_word (aim labels 1048576 at target) _ ws e
code-length labels at (Li rd value) ws e = same_length ws (map word_of (loads rd value)) e ∙ length-map (loads rd value) word_of
code-length labels at (Wait hint) ws e = same_length ws (map word_of waits) e
code-length labels at (Word word) ws e = same_length ws [] e
code-length labels at (Raw word) ws e = same_length ws (word ∷ []) e

-- ---- room

room-none : (labels : Labels) (code shared : ℕ) (line : Line) → room_fault labels code shared line ≡ None → code + size_of line.item ≤ most_words
room-none labels code shared line e = by_tests (is_known labels line.label) (nat_lt most_words (code + size_of line.item)) refl e
  where
    by_tests : (known past : Bool) → nat_lt most_words (code + size_of line.item) ≡ past
        → (if known then Some LabelTwice else if past then Some TooMuchCode else if nat_lt most_words (shared + length (shared_word line.item)) then Some TooMuchShared else None) ≡ None
        → code + size_of line.item ≤ most_words
    by_tests true past t k = absurd (cc)
    by_tests false true t k = absurd (cc)
    by_tests false false t k = grind (arith, nat_tests)

-- the lines before a place have room, where none is refused
pub sizes-small : (lines : List Line) (i : ℕ) → AreClear (by_test layout_fault) lines (length lines) → i ≤ length lines → code_size (take i lines) ≤ most_words
sizes-small lines zero clear h = omega arith
sizes-small lines (suc i) clear h =
    let room = room-none (labels_of (take i lines)) (code_size (take i lines)) (length (shared_words (take i lines))) (line_at lines i) (none-at layout_fault lines (length lines) i clear (omega arith) (omega arith)) in
    subst (λ n. code_size (take n lines) ≤ most_words) (add-one i) (omega (arith, size-next lines i (omega arith), room))

-- ---- one line more

pub record WordsNext (labels : Labels) (lines : List Line) (i : ℕ) (found : List ℕ) : Type 0 where
  pub words : found ≡ code_words_of labels (take (i + 1) lines)
  pub count : length found ≡ code_size (take (i + 1) lines)
  pub clear : target_fault labels (take i lines) (line_at lines i) ≡ None

pub words-next : (labels : Labels) (lines : List Line) (i : ℕ) (words after : List ℕ) (code : Words) (line : Line)
    → i < length lines → line ≡ line_at lines i
    → words ≡ code_words_of labels (take i lines) → length words ≡ code_size (take i lines)
    → Ok (word_list code) ≡ words_of_item labels (4 * length words) line.item → after ≡ words ++ word_list code → WordsNext labels lines i after
words-next labels lines i words after code line h here w n c a =
    let said : words_of_item labels (4 * code_size (take i lines)) (line_at lines i).item ≡ Ok (word_list code) = sym (c ∙ ap₂ (λ m l. words_of_item labels (4 * m) l.item) n here) in
    let size : length (word_list code) ≡ size_of (line_at lines i).item = code-length labels (4 * code_size (take i lines)) (line_at lines i).item (word_list code) said in
    record {
      words =
          a ∙ ap (λ ws. ws ++ word_list code) w
          ∙ ap (λ r. code_words_of labels (take i lines) ++ unwrap_or (result_ok r) []) (sym said)
          ∙ sym (gather-next (λ place at l. unwrap_or (result_ok (words_of_item labels at l.item)) []) lines i h);
      count = omega (arith, ap length a, length-append words (word_list code), n, size, size-next lines i h);
      clear = ap result_err said;
    }

pub target-fault : (labels : Labels) (lines : List Line) (i : ℕ) (words : List ℕ) (fault : Fault) (line : Line)
    → line ≡ line_at lines i → length words ≡ code_size (take i lines) → Err fault ≡ words_of_item labels (4 * length words) line.item
    → target_fault labels (take i lines) (line_at lines i) ≡ Some fault
target-fault labels lines i words fault line here n e = ap result_err (sym (e ∙ ap₂ (λ m l. words_of_item labels (4 * m) l.item) n here))

-- the shared words before a place have room too
shared-room : (labels : Labels) (code shared : ℕ) (line : Line) → room_fault labels code shared line ≡ None → shared + length (shared_word line.item) ≤ most_words
shared-room labels code shared line e = by_tests (is_known labels line.label) (nat_lt most_words (code + size_of line.item)) (nat_lt most_words (shared + length (shared_word line.item))) refl e
  where
    by_tests : (known past over : Bool) → nat_lt most_words (shared + length (shared_word line.item)) ≡ over
        → (if known then Some LabelTwice else if past then Some TooMuchCode else if over then Some TooMuchShared else None) ≡ None
        → shared + length (shared_word line.item) ≤ most_words
    by_tests true past over t k = absurd (cc)
    by_tests false true over t k = absurd (cc)
    by_tests false false true t k = absurd (cc)
    by_tests false false false t k = grind (arith, nat_tests)

pub shared-small : (lines : List Line) (i : ℕ) → AreClear (by_test layout_fault) lines (length lines) → i ≤ length lines → length (shared_words (take i lines)) ≤ most_words
shared-small lines zero clear h = omega arith
shared-small lines (suc i) clear h =
    let room = shared-room (labels_of (take i lines)) (code_size (take i lines)) (length (shared_words (take i lines))) (line_at lines i) (none-at layout_fault lines (length lines) i clear (omega arith) (omega arith)) in
    let more = ap length (shared-next lines i (omega arith)) ∙ length-append (shared_words (take i lines)) (shared_word (line_at lines i).item) in
    subst (λ n. length (shared_words (take n lines)) ≤ most_words) (add-one i) (omega (arith, more, room))

-- A listing assembled again gives the same words.
use Rattle.std.proofs.Common.{◌≡◌, ℕ, zero, suc, ◌+◌, ◌*◌, ◌^◌, ◌<◌, ◌≤◌, Bool, false, nat_lt, List, [], ◌∷◌, ◌++◌, length, take, Some, None, Ok, refl, sym, ap, ap₂, subst, ◌∙◌, arith, cond, if◌then◌else◌, true, get_or, Option, is_some, ◌||◌, not}
use Rattle.std.proofs.lemmas.Bool.Decides.{nat_tests}
use Rattle.std.proofs.lemmas.List.{length-take-le}
use Rattle.std.proofs.lemmas.List.Sums.{sum_by-cons}
use Rattle.std.proofs.lemmas.Option.{get_or_from_slice_get}
use Rattle.std.specs.List.{All}
use Rattle.std.specs.Option.{unwrap_or}
use Rattle.std.specs.Prelude.{slice_index}
use Rattle.std.specs.Result.{result_ok, result_err}
use Rattle.em_isa.specs.declared.instructions.Instr.TheVariants.{Branch as BranchBy, Jal as JalBy}
use Rattle.em_isa.specs.Encoding.{word_of}
use Rattle.em_base.specs.declared.images.Image.{Image}
use Rattle.em_base.specs.FirstFault.{AreClear, by_test}
use Rattle.em_base.specs.Images.{Labels, most_words}
use Rattle.em_asm_read.specs.declared.items.Item.{Item}
use Rattle.em_asm_read.specs.declared.items.Item.TheVariants.{Nothing, One, Branch, Jal, Li, Wait, Word, Raw}
use Rattle.em_asm_read.specs.declared.items.Line.{Line}
use Rattle.em_asm_read.specs.declared.items.Target.TheVariants.{Label, Offset}
use Rattle.em_asm.specs.declared.faults.Fault.{Fault}
use Rattle.em_asm.specs.declared.faults.Fault.TheVariants.{LabelTwice, TooMuchCode, TooMuchShared}
use Rattle.em_asm.specs.Code.{words_of_item, size_of}
use Rattle.em_asm.specs.Image.{IsImageOf, code_size, gather, is_known, label_at, labels_of, layout_fault, room_fault, shared_word, shared_words, target_fault, wait_at, waits_of}
use Rattle.em_show.specs.Back.{ReadsBack, one_word}
use Rattle.em_show.specs.Listing.{AreTextsOf, IsTextOf}
use Rattle.em_bundle.specs.Code.{AllSay, IsCodeOf, is_nothing, lines_in, number_in, speaks, statements_of}
use Rattle.em_bundle.specs.Parts.{headers_in, is_header}

-- ---- a line of one word

-- what a statement comes to that is this one word
record GivesOne (item : Item) (word : ℕ) : Type 0 where
  size : size_of item ≡ 1
  shared : shared_word item ≡ []
  waits : (number at : ℕ) → wait_at number at item ≡ []
  code : (labels : Labels) (at : ℕ) → words_of_item labels at item ≡ Ok (word ∷ [])

same-word : (a b : ℕ) → Some a ≡ Some b → a ≡ b
same-word a b e = cc

gives-one : (item : Item) (word : ℕ) → one_word item ≡ Some word → GivesOne item word
gives-one Nothing word e = absurd (cc)
gives-one (One instruction) word e = record {
  size = refl;
  shared = refl;
  waits = λ number at. refl;
  code = λ labels at. ap (λ w. Ok (w ∷ [])) (same-word (word_of instruction) word e);
}
gives-one (Branch op rs1 rs2 (Offset offset)) word e = record {
  size = refl;
  shared = refl;
  waits = λ number at. refl;
  code = λ labels at. ap (λ w. Ok (w ∷ [])) (same-word (word_of (BranchBy op rs1 rs2 offset)) word e);
}
gives-one (Branch op rs1 rs2 (Label name)) word e = absurd (cc)
gives-one (Jal rd (Offset offset)) word e = record {
  size = refl;
  shared = refl;
  waits = λ number at. refl;
  code = λ labels at. ap (λ w. Ok (w ∷ [])) (same-word (word_of (JalBy rd offset)) word e);
}
gives-one (Jal rd (Label name)) word e = absurd (cc)
gives-one (Li rd value) word e = absurd (cc)
gives-one (Wait hint) word e = absurd (cc)
gives-one (Word other) word e = absurd (cc)
gives-one (Raw other) word e = record {
  size = refl;
  shared = refl;
  waits = λ number at. refl;
  code = λ labels at. ap (λ w. Ok (w ∷ [])) (same-word other word e);
}

-- the line has no label, and its statement is this one word
record IsAlone (line : Line) (word : ℕ) : Type 0 where
  unlabelled : line.label ≡ None
  gives : GivesOne line.item word

-- each line has the one word at its place
abbrev AreAlone : List Line → List ℕ → Type 0
AreAlone [] words = words ≡ []
AreAlone (line ∷ lines) words = (word : ℕ) × (rest : List ℕ) × (words ≡ word ∷ rest) × IsAlone line word × AreAlone lines rest

-- ---- what such lines give

same-length : (lines : List Line) (words : List ℕ) → AreAlone lines words → length lines ≡ length words
same-length [] words a = sym (ap length a)
same-length (line ∷ lines) words a = ap suc (same-length lines a.1 a.4) ∙ sym (ap length a.2)

-- such lines give nothing that none of them gives
gather-none : {A : Type 0} (give : ℕ → ℕ → Line → List A) (none : (p at : ℕ) (line : Line) (word : ℕ) → IsAlone line word → give p at line ≡ [])
    (p at : ℕ) (lines : List Line) (words : List ℕ) → AreAlone lines words → gather give p at lines ≡ []
unfolding gather
gather-none give none p at [] words a = refl
gather-none give none p at (line ∷ lines) words a =
    ap₂ (λ x y. x ++ y) (none p at line a.0 a.3) (gather-none give none (suc p) (at + 4 * size_of line.item) lines a.1 a.4)

gather-words : (labels : Labels) (p at : ℕ) (lines : List Line) (words : List ℕ) → AreAlone lines words
    → gather (λ place at line. unwrap_or (result_ok (words_of_item labels at line.item)) []) p at lines ≡ words
unfolding gather
gather-words labels p at [] words a = sym a
gather-words labels p at (line ∷ lines) words a =
    ap₂ (λ r ws. unwrap_or (result_ok r) [] ++ ws) (a.3.gives.code labels at) (gather-words labels (suc p) (at + 4 * size_of line.item) lines a.1 a.4) ∙ sym a.2

no-labels : (lines : List Line) (words : List ℕ) → AreAlone lines words → labels_of lines ≡ []
no-labels = gather-none (λ place at line. label_at at line.label) (λ p at line word a. ap (label_at at) a.unlabelled) 0 0

no-waits : (number : ℕ → ℕ) (lines : List Line) (words : List ℕ) → AreAlone lines words → waits_of number lines ≡ []
no-waits number = gather-none (λ place at line. wait_at (number place) at line.item) (λ p at line word a. a.gives.waits (number p) at) 0 0

no-shared : (lines : List Line) (words : List ℕ) → AreAlone lines words → shared_words lines ≡ []
no-shared [] words a = refl
no-shared (line ∷ lines) words a = ap₂ (λ x y. x ++ y) a.3.gives.shared (no-shared lines a.1 a.4)

code-count : (lines : List Line) (words : List ℕ) → AreAlone lines words → code_size lines ≡ length lines
code-count [] words a = refl
code-count (line ∷ lines) words a = omega (arith, sum_by-cons (λ (l : Line). size_of l.item) line lines, a.3.gives.size, code-count lines a.1 a.4)

-- ---- the lines before a place, and the line there

-- the line at a place, counted from 0
abbrev line_at : List Line → ℕ → Line
line_at lines place = get_or lines place (record { label = None; item = Nothing })

-- lines are clear where the test finds nothing at each place
clear-from : (test : List Line → Line → Option Fault) (lines : List Line) → ((i : ℕ) → i < length lines → test (take i lines) (line_at lines i) ≡ None)
    → AreClear (by_test test) lines (length lines)
clear-from test lines none = λ i h item fault here found.
    let same : line_at lines i ≡ item = get_or_from_slice_get lines i item (record { label = None; item = Nothing }) here in
    absurd (cc (none i h, found, ap (test (take i lines)) same))

alone-before : (lines : List Line) (words : List ℕ) (i : ℕ) → AreAlone lines words → AreAlone (take i lines) (take i words)
alone-before lines words zero a = refl
alone-before [] words (suc i) a = ap (take (suc i)) a
alone-before (line ∷ lines) words (suc i) a = (a.0, take i a.1, ap (take (suc i)) a.2, a.3, alone-before lines a.1 i a.4)

alone-at : (lines : List Line) (words : List ℕ) (i : ℕ) → AreAlone lines words → i < length lines → (word : ℕ) × IsAlone (line_at lines i) word
alone-at [] words i a h = absurd (omega arith)
alone-at (line ∷ lines) words zero a h = (a.0, a.3)
alone-at (line ∷ lines) words (suc i) a h = alone-at lines a.1 i a.4 (omega arith)

has-room : (labels : Labels) (code shared : ℕ) (line : Line) → line.label ≡ None → code + size_of line.item ≤ most_words
    → shared + length (shared_word line.item) ≤ most_words → room_fault labels code shared line ≡ None
has-room labels code shared line l c s =
    let known : is_known labels line.label ≡ false = ap (is_known labels) l in
    let past : nat_lt most_words (code + size_of line.item) ≡ false = grind (arith, nat_tests, c) in
    let over : nat_lt most_words (shared + length (shared_word line.item)) ≡ false = grind (arith, nat_tests, s) in
    none _ _ _ known past over
  where
    none : (known past over : Bool) → known ≡ false → past ≡ false → over ≡ false
        → (if known then Some LabelTwice else if past then Some TooMuchCode else if over then Some TooMuchShared else None) ≡ None
    none known past over k p o = cc

clear-layout : (lines : List Line) (words : List ℕ) → AreAlone lines words → length words ≤ most_words → AreClear (by_test layout_fault) lines (length lines)
clear-layout lines words a few = clear-from layout_fault lines (λ i h.
    let here = (alone-at lines words i a h).1 in
    let before = alone-before lines words i a in
    let count : code_size (take i lines) ≡ i = code-count (take i lines) (take i words) before ∙ length-take-le i lines (omega arith) in
    let own : length (shared_word (line_at lines i).item) ≡ 0 = ap length here.gives.shared in
    let earlier : length (shared_words (take i lines)) ≡ 0 = ap length (no-shared (take i lines) (take i words) before) in
    has-room (labels_of (take i lines)) (code_size (take i lines)) (length (shared_words (take i lines))) (line_at lines i) here.unlabelled
    (omega (arith, count, here.gives.size, same-length lines words a)) (omega (arith, own, earlier)))

clear-targets : (labels : Labels) (lines : List Line) (words : List ℕ) → AreAlone lines words → AreClear (by_test (target_fault labels)) lines (length lines)
clear-targets labels lines words a =
    clear-from (target_fault labels) lines (λ i h. ap result_err ((alone-at lines words i a h).1.gives.code labels (4 * code_size (take i lines))))

-- ---- the image

-- the image of code words, and of nothing else
abbrev code_alone : List ℕ → Image
code_alone words = record { words = words; shared = []; waits = []; labels = [] }

image-alone : (number : ℕ → ℕ) (lines : List Line) (words : List ℕ) → AreAlone lines words → length words ≤ most_words → IsImageOf number lines (code_alone words)
image-alone number lines words a few = record {
  laid_out = clear-layout lines words a few;
  aimed = clear-targets (labels_of lines) lines words a;
  words = sym (gather-words (labels_of lines) 0 0 lines words a);
  shared = sym (no-shared lines words a);
  waits = sym (no-waits number lines words a);
  labels = sym (no-labels lines words a);
}

-- ---- each such line says something

says-word : (item : Item) → size_of item ≡ 1 → is_nothing item ≡ false
says-word Nothing e = absurd (omega (arith, e))
says-word (One instruction) e = refl
says-word (Branch op rs1 rs2 target) e = refl
says-word (Jal rd target) e = refl
says-word (Li rd value) e = refl
says-word (Wait hint) e = refl
says-word (Word word) e = refl
says-word (Raw word) e = refl

says : (label : Option (List ℕ)) (item : Item) → label ≡ None → size_of item ≡ 1 → speaks (let l : Line = record { label = label; item = item } in l) ≡ true
says label item l e = ap₂ (λ a b. is_some a || not b) l (says-word item e)

all-say : (first : ℕ) (lines : List Line) (words : List ℕ) → AreAlone lines words → lines_in (statements_of first lines) ≡ lines
all-say first [] words a = refl
all-say first (line ∷ lines) words a =
    ap (λ b. lines_in (cond b ((first, line) ∷ statements_of (first + 1) lines) (statements_of (first + 1) lines))) (says line.label line.item a.3.unlabelled a.3.gives.size)
    ∙ ap (λ ls. line ∷ ls) (all-say (first + 1) lines a.1 a.4)

-- ---- texts

-- what is known of the text of a word
pub record Laws : Type 0 where
  pub word : (word : ℕ) (text : List ℕ) → word < 2 ^ 32 → IsTextOf word text → ReadsBack text word
  pub no_header : (word : ℕ) (text : List ℕ) → IsTextOf word text → slice_index text 0 ≡ 37 → ⊥

record Read (texts : List (List ℕ)) (words : List ℕ) : Type 0 where
  lines : List Line
  statements : AllSay texts lines
  alone : AreAlone lines words

read-all : Laws → (words : List ℕ) (texts : List (List ℕ)) → All (λ word. word < 2 ^ 32) words → AreTextsOf words texts → Read texts words
read-all laws [] texts small t = record { lines = []; statements = subst (λ ts. AllSay ts []) (sym t) refl; alone = refl }
read-all laws (word ∷ words) texts small t =
    let back = laws.word word t.0 (small 0 0 (omega arith)) t.3 in
    let rest = read-all laws words t.1 (λ k d h. small (suc k) d (omega arith)) t.4 in
    record {
      lines = back.line ∷ rest.lines;
      statements = subst (λ ts. AllSay ts (back.line ∷ rest.lines)) (sym t.2) (back.line, rest.lines, refl, back.read, rest.statements);
      alone = (word, words, refl, record { unlabelled = back.unlabelled; gives = gives-one back.line.item word back.word_is }, rest.alone);
    }

not-header : Laws → (word : ℕ) (text : List ℕ) → IsTextOf word text → is_header text ≡ false
not-header laws word text t = let other = laws.no_header word text t in grind (arith, nat_tests, other)

pub no-headers : Laws → (words : List ℕ) (texts : List (List ℕ)) → AreTextsOf words texts → headers_in texts ≡ []
no-headers laws [] texts t = ap headers_in t
no-headers laws (word ∷ words) texts t =
    ap headers_in t.2 ∙ (ap (λ b. cond b (t.0 ∷ headers_in t.1) (headers_in t.1)) (not-header laws word t.0 t.3) ∙ no-headers laws words t.1 t.4)

pub assembles-again : Laws → (first : ℕ) (words : List ℕ) (texts : List (List ℕ)) → length words ≤ most_words → All (λ word. word < 2 ^ 32) words → AreTextsOf words texts
    → IsCodeOf first texts (code_alone words)
assembles-again laws first words texts few small t =
    let read = read-all laws words texts small t in
    record {
      items = read.lines;
      read = read.statements;
      assembled =
          subst (λ lines. IsImageOf (number_in (statements_of first read.lines)) lines (code_alone words)) (sym (all-say first read.lines words read.alone))
          (image-alone (number_in (statements_of first read.lines)) read.lines words read.alone few);
    }

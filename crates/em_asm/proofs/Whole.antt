-- The waits of lines rise, and their labels stand once.
use Rattle.std.proofs.Common.{◌≡◌, ℕ, suc, zero, ◌+◌, ◌*◌, ◌<◌, ◌≤◌, Bool, true, false, is_some, cond, List, [], ◌∷◌, ◌++◌, length, take, get_or, Option, Some, None, inl, inr, ◌⊎◌, refl, sym, ap, ap₂, subst, ◌∙◌, arith, add-one, length-append, append-nil, if◌then◌else◌}
use Rattle.std.proofs.lemmas.Bool.{cases_lt}
use Rattle.std.proofs.lemmas.Grind.{common_steps}
use Rattle.std.specs.Str.{bytes_eq}
use Rattle.em_base.specs.Images.{AreOnce, AreRising, IsWhole, most_words}
use Rattle.em_base.specs.declared.images.Image.{Image}
use Rattle.em_base.specs.declared.images.Wait.{Wait as WaitAt}
use Rattle.em_asm_read.specs.declared.items.Item.{Item}
use Rattle.em_asm_read.specs.declared.items.Item.TheVariants.{Nothing, One, Branch, Jal, Li, Wait, Word, Raw}
use Rattle.em_asm_read.specs.declared.items.Line.{Line}
use Rattle.em_asm.specs.declared.faults.Fault.{Fault}
use Rattle.em_asm.specs.declared.faults.Fault.TheVariants.{LabelTwice}
use Rattle.em_base.specs.Images.{Labels, address_of}
use Rattle.em_asm.specs.Code.{size_of}
use Rattle.em_asm.specs.Image.{code_size, gather, is_known, label_at, labels_of, layout_fault, room_fault, shared_words, wait_at, waits_of}
use Rattle.em_base.specs.FirstFault.{AreClear, by_test}
use Rattle.em_asm.proofs.Gathered.{all-taken, gather-next, gather-nil, line_at}
use Rattle.em_asm.proofs.Layouts.{none-at}
use Rattle.em_asm.proofs.Sized.{shared-small}

-- ---- waits

lower : (low at : ℕ) (waits : List WaitAt) → low ≤ at → AreRising at waits → AreRising low waits
lower low at [] h r = tt
lower low at (wait ∷ waits) h r = (omega (arith, r.0), r.1)

rising-more : (number : ℕ → ℕ) (p at low : ℕ) (item : Item) (rest : List WaitAt) → low ≤ at → AreRising (at + 4 * size_of item) rest → AreRising low (wait_at (number p) at item ++ rest)
rising-more number p at low Nothing rest h r = lower low (at + 4 * 0) rest (omega arith) r
rising-more number p at low (One instruction) rest h r = lower low (at + 4 * 1) rest (omega arith) r
rising-more number p at low (Branch op rs1 rs2 target) rest h r = lower low (at + 4 * 1) rest (omega arith) r
rising-more number p at low (Jal rd target) rest h r = lower low (at + 4 * 1) rest (omega arith) r
rising-more number p at low (Li rd value) rest h r = lower low (at + 4 * size_of (Li rd value)) rest (omega arith) r
rising-more number p at low (Wait hint) rest h r = (omega arith, lower (at + 4 + 1) (at + 4 * 2) rest (omega arith) r)
rising-more number p at low (Word word) rest h r = lower low (at + 4 * 0) rest (omega arith) r
rising-more number p at low (Raw word) rest h r = lower low (at + 4 * 1) rest (omega arith) r

rising-from : (number : ℕ → ℕ) (lines : List Line) (p at : ℕ) → AreRising at (gather (λ place at line. wait_at (number place) at line.item) p at lines)
unfolding gather
rising-from number [] p at = tt
rising-from number (line ∷ lines) p at =
    rising-more number p at at line.item (gather (λ place at line. wait_at (number place) at line.item) (suc p) (at + 4 * size_of line.item) lines) (omega arith) (rising-from number lines (suc p) (at + 4 * size_of line.item))

pub rising-waits : (number : ℕ → ℕ) (lines : List Line) (found : List WaitAt) → found ≡ waits_of number lines → AreRising 0 found
rising-waits number lines found e = subst (AreRising 0) (sym e) (rising-from number lines 0 0)

-- ---- labels

-- no label of another name is found before
not-found : (labels : Labels) (name : List ℕ) → address_of labels name ≡ None → (i : ℕ) → i < length labels → bytes_eq name (get_or labels i ([], 0)).0 ≡ false
not-found [] name none i h = absurd (omega arith)
not-found (label ∷ labels) name none zero h = by_test (bytes_eq name label.0) (address_of labels name) none
  where
    by_test : (b : Bool) (o : Option ℕ) → cond b (Some label.1) o ≡ None → b ≡ false
    by_test true o e = absurd (cc)
    by_test false o e = refl
not-found (label ∷ labels) name none (suc i) h = not-found labels name (by_test (bytes_eq name label.0) (address_of labels name) none) i (omega arith)
  where
    by_test : (b : Bool) (o : Option ℕ) → cond b (Some label.1) o ≡ None → o ≡ None
    by_test true o e = absurd (cc)
    by_test false o e = e

once-push : (labels : Labels) (name : List ℕ) (address : ℕ) → AreOnce labels → address_of labels name ≡ None → AreOnce (labels ++ (name, address) ∷ [])
once-push labels name address once none = λ i j before within. by_place i j before (omega (arith, within, length-append labels ((name, address) ∷ []))) (cases_lt j (length labels))
  where
    front : (k : ℕ) → k < length labels → get_or (labels ++ (name, address) ∷ []) k ([], 0) ≡ get_or labels k ([], 0)
    front k h = grind (arith, common_steps)

    last : (k : ℕ) → k ≡ length labels → get_or (labels ++ (name, address) ∷ []) k ([], 0) ≡ (name, address)
    last k h = grind (arith, common_steps)

    by_place : (i j : ℕ) → i < j → j ≤ length labels → (j < length labels) ⊎ (length labels ≤ j) → bytes_eq (get_or (labels ++ (name, address) ∷ []) j ([], 0)).0 (get_or (labels ++ (name, address) ∷ []) i ([], 0)).0 ≡ false
    by_place i j before within (inl h) = ap₂ (λ (a b : List ℕ × ℕ). bytes_eq a.0 b.0) (front j h) (front i (omega arith)) ∙ once i j before h
    by_place i j before within (inr h) = ap₂ (λ (a b : List ℕ × ℕ). bytes_eq a.0 b.0) (last j (omega arith)) (front i (omega arith)) ∙ not-found labels name none i (omega arith)

unknown : (known : Bool) (rest : Option Fault) → (if known then Some LabelTwice else rest) ≡ None → known ≡ false
unknown true rest e = absurd (cc)
unknown false rest e = refl

room-new : (labels : Labels) (code shared : ℕ) (line : Line) → room_fault labels code shared line ≡ None → is_known labels line.label ≡ false
room-new labels code shared line e = unknown (is_known labels line.label) _ e

nothing : (o : Option ℕ) → is_some o ≡ false → o ≡ None
nothing None e = refl
nothing (Some n) e = absurd (cc)

once-line : (labels : Labels) (label : Option (List ℕ)) (at : ℕ) → AreOnce labels → is_known labels label ≡ false → AreOnce (labels ++ label_at at label)
once-line labels None at once new = subst AreOnce (sym (append-nil labels)) once
once-line labels (Some name) at once new = once-push labels name at once (nothing (address_of labels name) new)

pub once-labels : (lines : List Line) (i : ℕ) → AreClear (by_test layout_fault) lines (length lines) → i ≤ length lines → AreOnce (labels_of (take i lines))
once-labels lines zero clear h = subst AreOnce (sym (gather-nil (λ place at line. label_at at line.label) 0 0)) (λ i j before within. absurd (omega arith))
once-labels lines (suc i) clear h =
    let new = room-new (labels_of (take i lines)) (code_size (take i lines)) (length (shared_words (take i lines))) (line_at lines i) (none-at layout_fault lines (length lines) i clear (omega arith) (omega arith)) in
    let more = once-line (labels_of (take i lines)) (line_at lines i).label (4 * code_size (take i lines)) (once-labels lines i clear (omega arith)) new in
    let next = gather-next (λ place at line. label_at at line.label) lines i (omega arith) in
    subst (λ n. AreOnce (labels_of (take n lines))) (add-one i) (subst AreOnce (sym next) more)

pub whole-image : (number : ℕ → ℕ) (lines : List Line) (image : Image) → AreClear (by_test layout_fault) lines (length lines) → length image.words ≤ most_words
    → image.shared ≡ shared_words lines → image.waits ≡ waits_of number lines → image.labels ≡ labels_of lines → IsWhole image
whole-image number lines image clear few shared waits labels =
    let all = all-taken lines (length lines) (omega arith) in
    record {
      code = few;
      shared_words = subst (λ ls. length ls ≤ most_words) (ap shared_words all ∙ sym shared) (shared-small lines (length lines) clear (omega arith));
      rising = rising-waits number lines image.waits waits;
      once = subst AreOnce (ap labels_of all ∙ sym labels) (once-labels lines (length lines) clear (omega arith));
    }

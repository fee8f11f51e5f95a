-- Lines have one image or one refusal.
use Rattle.std.proofs.Common.{◌≡◌, ◌⊎◌, ℕ, List, length, inl, inr, refl, sym, ap₂, ◌∙◌}
use Rattle.em_base.specs.declared.images.Image.{Image}
use Rattle.em_base.specs.declared.refusals.Refusal.{Refusal}
use Rattle.em_base.specs.FirstFault.{by_test}
use Rattle.em_base.proofs.FirstFaults.{clear_or_first, clear_or_refused, found_or_none, one_found, one_refusal}
use Rattle.em_asm_read.specs.declared.items.Line.{Line}
use Rattle.em_asm.specs.Image.{IsImageOf, IsAssemblyRefused, code_of, code_words_of, labels_of, layout_fault, shared_words, target_fault, waits_of}

-- ---- at most one

pub refusal-once : (number : ℕ → ℕ) (lines : List Line) (one other : Refusal) → IsAssemblyRefused number lines one → IsAssemblyRefused number lines other → one ≡ other
refusal-once number lines one other (inl a) (inl b) = one_refusal (by_test layout_fault) code_of number lines one other (one_found layout_fault) a b
refusal-once number lines one other (inl a) (inr b) = absurd (clear_or_refused (by_test layout_fault) code_of number lines one b.0 a)
refusal-once number lines one other (inr a) (inl b) = absurd (clear_or_refused (by_test layout_fault) code_of number lines other a.0 b)
refusal-once number lines one other (inr a) (inr b) =
    one_refusal (by_test (target_fault (labels_of lines))) code_of number lines one other (one_found (target_fault (labels_of lines))) a.1 b.1

pub never-both : (number : ℕ → ℕ) (lines : List Line) (image : Image) (refusal : Refusal) → IsImageOf number lines image → IsAssemblyRefused number lines refusal → ⊥
never-both number lines image refusal i (inl a) = clear_or_refused (by_test layout_fault) code_of number lines refusal i.laid_out a
never-both number lines image refusal i (inr a) = clear_or_refused (by_test (target_fault (labels_of lines))) code_of number lines refusal i.aimed a.1

same-image : (a b : Image) → a.words ≡ b.words → a.shared ≡ b.shared → a.waits ≡ b.waits → a.labels ≡ b.labels → a ≡ b
same-image a b e f g h =
    let w = ap₂ (λ c d. let i : Image = record { words = c; shared = d; waits = a.waits; labels = a.labels } in i) e f in
    w ∙ ap₂ (λ c d. let i : Image = record { words = b.words; shared = b.shared; waits = c; labels = d } in i) g h

pub image-once : (number : ℕ → ℕ) (lines : List Line) (one other : Image) → IsImageOf number lines one → IsImageOf number lines other → one ≡ other
image-once number lines one other a b =
    same-image one other (a.words ∙ sym b.words) (a.shared ∙ sym b.shared) (a.waits ∙ sym b.waits) (a.labels ∙ sym b.labels)

-- ---- at least one

pub image-or_refusal : (number : ℕ → ℕ) (lines : List Line) → ((image : Image) × IsImageOf number lines image) ⊎ ((refusal : Refusal) × IsAssemblyRefused number lines refusal)
image-or_refusal number lines = elim (clear_or_first (by_test layout_fault) lines (length lines) (found_or_none layout_fault)) [
  | inr found ↦ inr (record { code = code_of found.1; line = number found.0 }, inl record { place = found.0; fault = found.1; first = found.2; coded = refl; placed = refl })
  | inl room ↦ elim (clear_or_first (by_test (target_fault (labels_of lines))) lines (length lines) (found_or_none (target_fault (labels_of lines)))) [
    | inr found ↦ inr (record { code = code_of found.1; line = number found.0 }, inr (room, record { place = found.0; fault = found.1; first = found.2; coded = refl; placed = refl }))
    | inl clear ↦ inl (
      record { words = code_words_of (labels_of lines) lines; shared = shared_words lines; waits = waits_of number lines; labels = labels_of lines },
      record { laid_out = room; aimed = clear; words = refl; shared = refl; waits = refl; labels = refl },
    )
  ]
]

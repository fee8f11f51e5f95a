-- Code words have a listing, and one alone.
use Rattle.std.proofs.Common.{◌≡◌, ℕ, ◌⊎◌, List, [], ◌∷◌, ◌∙◌, inl, inr, refl, sym, ap}
use Rattle.em_isa.specs.declared.instructions.Instr.{Instr}
use Rattle.em_isa.specs.Encoding.{Fits, word_of}
use Rattle.em_show.specs.Listing.{AreTextsOf, IsListing, IsTextOf, listed_lines}
use Rattle.em_show.specs.Show.{raw_text, text_of}

-- each word is that of an instruction, or of none
abbrev pub AreDecided : Type 0
AreDecided = (word : ℕ) → ((i : Instr) × Fits i × (word_of i ≡ word)) ⊎ ((i : Instr) → Fits i → word_of i ≡ word → ⊥)

-- two instructions have two words
abbrev pub HaveOwnWords : Type 0
HaveOwnWords = (one other : Instr) → Fits one → Fits other → word_of one ≡ word_of other → one ≡ other

-- ---- there is one

some-text : AreDecided → (word : ℕ) → (text : List ℕ) × IsTextOf word text
some-text decided word =
    elim (decided word) [
      | inl (i, fits, is) ↦ (text_of i, inl (i, fits, is, refl))
      | inr none ↦ (raw_text word, inr (none, refl))
    ]

some-texts : AreDecided → (words : List ℕ) → (texts : List (List ℕ)) × AreTextsOf words texts
some-texts decided [] = ([], refl)
some-texts decided (word ∷ words) =
    let first = some-text decided word in
    let rest = some-texts decided words in
    (first.0 ∷ rest.0, (first.0, rest.0, refl, first.1, rest.1))

-- code words have a listing
pub some-listing : AreDecided → (words : List ℕ) → (text : List ℕ) × IsListing words text
some-listing decided words =
    let texts = some-texts decided words in
    (listed_lines 0 words texts.0, (texts.0, texts.1, refl))

-- ---- there is no other

-- a word has one text
pub one-text : HaveOwnWords → (word : ℕ) (one other : List ℕ) → IsTextOf word one → IsTextOf word other → one ≡ other
one-text same word one other (inl (i, fits, is, text)) (inl (j, fits', is', text')) =
    text ∙ ap text_of (same i j fits fits' (is ∙ sym is')) ∙ sym text'
one-text same word one other (inl (i, fits, is, text)) (inr (none, text')) = absurd (none i fits is)
one-text same word one other (inr (none, text)) (inl (j, fits', is', text')) = absurd (none j fits' is')
one-text same word one other (inr (none, text)) (inr (none', text')) = text ∙ sym text'

one-texts : HaveOwnWords → (words : List ℕ) (one other : List (List ℕ)) → AreTextsOf words one → AreTextsOf words other → one ≡ other
one-texts same [] one other h k = h ∙ sym k
one-texts same (word ∷ words) one other (t, ts, e, is, are) (t', ts', e', is', are') =
    e ∙ ap (λ x. x ∷ ts) (one-text same word t t' is is') ∙ ap (λ x. t' ∷ x) (one-texts same words ts ts' are are') ∙ sym e'

-- code words have one listing
pub one-listing : HaveOwnWords → (words one other : List ℕ) → IsListing words one → IsListing words other → one ≡ other
one-listing same words one other h k =
    h.2 ∙ ap (λ texts. listed_lines 0 words texts) (one-texts same words h.0 k.0 h.1 k.1) ∙ sym k.2

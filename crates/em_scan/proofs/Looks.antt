-- What comes after an address, and what is known then, by the instruction there.
use Rattle.std.proofs.Common.{◌≡◌, ◌/◌, ◌<◌, ◌^◌, ℕ, Bool, true, false, if◌then◌else◌, List, None, ap, ◌∙◌}
use Rattle.std.specs.Prelude.{slice_index}
use Rattle.em_isa.specs.declared.instructions.Instr.{Instr}
use Rattle.em_isa.specs.Encoding.{Fits, word_of}
use Rattle.em_hart.specs.Instruction.{is_inside_code}
use Rattle.em_hart.specs.InstructionTable.{mnemonic}
use Rattle.em_hart.proofs.OtherWordsAreNot.{IsWord, none_listed}
use Rattle.em_scan.specs.declared.next.Next.TheVariants.{Stops}
use Rattle.em_scan.specs.Known.{Known}
use Rattle.em_scan.specs.Private.{learned, learned_of_word, next, next_of_word}
use Rattle.em_scan.specs.Computed.{learned_of, next_of}
use Rattle.em_scan.proofs.OfWord.{next_of_instruction}
use Rattle.em_scan.proofs.LearnedOfWord.{learned_of_instruction}

-- ---- outside the code

-- nothing comes next
pub next_outside : (code : List ℕ) (sems own x : ℕ) (known : Known) → is_inside_code code x ≡ false → next code sems own x known ≡ Stops
unfolding next
next_outside code sems own x known e =
    let word = slice_index code (x / 4) in
    ap (λ (b : Bool). if b then next_of_word code sems own known x word (mnemonic word) else Stops) e

-- and nothing more is known
pub learned_outside : (code : List ℕ) (x : ℕ) (known : Known) → is_inside_code code x ≡ false → learned code x known ≡ known
unfolding learned
learned_outside code x known e =
    let word = slice_index code (x / 4) in
    ap (λ (b : Bool). if b then learned_of_word known x word (mnemonic word) else known) e

-- ---- at a word

pub next_inside : (code : List ℕ) (sems own x : ℕ) (known : Known) → is_inside_code code x ≡ true
    → let word = slice_index code (x / 4) in next code sems own x known ≡ next_of_word code sems own known x word (mnemonic word)
unfolding next
next_inside code sems own x known e =
    let word = slice_index code (x / 4) in
    ap (λ (b : Bool). if b then next_of_word code sems own known x word (mnemonic word) else Stops) e

-- of an instruction, what comes after it
pub next_at : (code : List ℕ) (sems own x : ℕ) (known : Known) (i : Instr) → is_inside_code code x ≡ true → Fits i
    → word_of i ≡ slice_index code (x / 4) → next code sems own x known ≡ next_of code sems own known x i
next_at code sems own x known i inside fits e =
    next_inside code sems own x known inside ∙ next_of_instruction code sems own known x i fits (slice_index code (x / 4)) e

learned_inside : (code : List ℕ) (x : ℕ) (known : Known) → is_inside_code code x ≡ true
    → let word = slice_index code (x / 4) in learned code x known ≡ learned_of_word known x word (mnemonic word)
unfolding learned
learned_inside code x known e =
    let word = slice_index code (x / 4) in
    ap (λ (b : Bool). if b then learned_of_word known x word (mnemonic word) else known) e

-- and what it makes known
pub learned_at : (code : List ℕ) (x : ℕ) (known : Known) (i : Instr) → is_inside_code code x ≡ true → Fits i → word_of i ≡ slice_index code (x / 4)
    → learned code x known ≡ learned_of known x i
learned_at code x known i inside fits e = learned_inside code x known inside ∙ learned_of_instruction known x i fits (slice_index code (x / 4)) e

-- a word that is no instruction's has no mnemonic
unlisted : (w : ℕ) → w < 2 ^ 32 → ((i : Instr) → Fits i → word_of i ≡ w → ⊥) → mnemonic w ≡ None
unlisted w small none = none_listed w small (λ (h : IsWord w). none h.instr h.fits h.is)

-- nothing comes after it
pub next_at_none : (code : List ℕ) (sems own x : ℕ) (known : Known) → slice_index code (x / 4) < 2 ^ 32
    → ((i : Instr) → Fits i → word_of i ≡ slice_index code (x / 4) → ⊥) → is_inside_code code x ≡ true
    → next code sems own x known ≡ Stops
unfolding next_of_word
next_at_none code sems own x known small none inside =
    let word = slice_index code (x / 4) in
    next_inside code sems own x known inside ∙ ap (next_of_word code sems own known x word) (unlisted word small none)

-- and it makes nothing known
pub learned_at_none : (code : List ℕ) (x : ℕ) (known : Known) → slice_index code (x / 4) < 2 ^ 32
    → ((i : Instr) → Fits i → word_of i ≡ slice_index code (x / 4) → ⊥) → is_inside_code code x ≡ true
    → learned code x known ≡ known
unfolding learned_of_word
learned_at_none code x known small none inside =
    let word = slice_index code (x / 4) in
    learned_inside code x known inside ∙ ap (learned_of_word known x word) (unlisted word small none)

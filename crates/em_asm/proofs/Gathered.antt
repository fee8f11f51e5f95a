-- What lines give, one line more.
use Rattle.std.proofs.Common.{◌≡◌, ℕ, suc, ◌+◌, ◌*◌, ◌<◌, ◌≤◌, List, [], ◌∷◌, ◌++◌, length, take, get_or, None, refl, sym, ap, ap₂, ◌∙◌, arith, add-one, append_assoc, append-nil}
use Rattle.std.proofs.Math.Seq.{take-suc}
use Rattle.std.proofs.lemmas.List.{take_all, length-take-le}
use Rattle.std.proofs.lemmas.List.Sums.{sum_by-cons, sum_by_push}
use Rattle.std.proofs.lemmas.Grind.{common_steps, flat_map-append}
use Rattle.em_asm_read.specs.declared.items.Item.TheVariants.{Nothing}
use Rattle.em_asm_read.specs.declared.items.Line.{Line}
use Rattle.em_asm.specs.Code.{size_of}
use Rattle.em_asm.specs.Image.{code_size, gather, shared_word, shared_words}

gather-here : {A : Type 0} (give : ℕ → ℕ → Line → List A) (p at : ℕ) (y : Line) → give p at y ++ [] ≡ give (p + 0) (at + 4 * 0) y
gather-here give p at y =
    let place : p ≡ p + 0 = omega arith in
    let address : at ≡ at + 4 * 0 = omega arith in
    append-nil (give p at y) ∙ ap₂ (λ i j. give i j y) place address

-- the line at a place, counted from 0
abbrev pub line_at : List Line → ℕ → Line
line_at lines place = get_or lines place (record { label = None; item = Nothing })

pub gather-nil : {A : Type 0} (give : ℕ → ℕ → Line → List A) (p at : ℕ) → gather give p at [] ≡ []
unfolding gather
gather-nil give p at = refl

pub gather-push : {A : Type 0} (give : ℕ → ℕ → Line → List A) (p at : ℕ) (xs : List Line) (y : Line)
    → gather give p at (xs ++ y ∷ []) ≡ gather give p at xs ++ give (p + length xs) (at + 4 * code_size xs) y
unfolding gather
gather-push give p at [] y = gather-here give p at y
gather-push give p at (x ∷ xs) y =
    let place : suc p + length xs ≡ p + length (x ∷ xs) = omega arith in
    let address : at + 4 * size_of x.item + 4 * code_size xs ≡ at + 4 * code_size (x ∷ xs) = omega (arith, sum_by-cons (λ (line : Line). size_of line.item) x xs) in
    ap (λ t. give p at x ++ t) (gather-push give (suc p) (at + 4 * size_of x.item) xs y)
    ∙ sym (append_assoc (give p at x) (gather give (suc p) (at + 4 * size_of x.item) xs) (give (suc p + length xs) (at + 4 * size_of x.item + 4 * code_size xs) y))
    ∙ ap₂ (λ i j. give p at x ++ gather give (suc p) (at + 4 * size_of x.item) xs ++ give i j y) place address

-- ---- over the lines before a place

one-more : (lines : List Line) (i : ℕ) → i < length lines → take (i + 1) lines ≡ take i lines ++ line_at lines i ∷ []
one-more lines i h = ap (λ n. take n lines) (add-one i) ∙ take-suc lines i (record { label = None; item = Nothing }) h

pub gather-next : {A : Type 0} (give : ℕ → ℕ → Line → List A) (lines : List Line) (i : ℕ) → i < length lines
    → gather give 0 0 (take (i + 1) lines) ≡ gather give 0 0 (take i lines) ++ give i (4 * code_size (take i lines)) (line_at lines i)
gather-next give lines i h =
    let count : length (take i lines) ≡ i = length-take-le i lines (omega arith) in
    let place : 0 + length (take i lines) ≡ i = omega (arith, count) in
    let address : 0 + 4 * code_size (take i lines) ≡ 4 * code_size (take i lines) = omega arith in
    ap (gather give 0 0) (one-more lines i h)
    ∙ gather-push give 0 0 (take i lines) (line_at lines i)
    ∙ ap₂ (λ j a. gather give 0 0 (take i lines) ++ give j a (line_at lines i)) place address

pub size-next : (lines : List Line) (i : ℕ) → i < length lines → code_size (take (i + 1) lines) ≡ code_size (take i lines) + size_of (line_at lines i).item
size-next lines i h = ap code_size (one-more lines i h) ∙ sum_by_push (λ (line : Line). size_of line.item) (take i lines) (line_at lines i)

pub shared-next : (lines : List Line) (i : ℕ) → i < length lines → shared_words (take (i + 1) lines) ≡ shared_words (take i lines) ++ shared_word (line_at lines i).item
shared-next lines i h =
    ap shared_words (one-more lines i h)
    ∙ flat_map-append (λ (line : Line). shared_word line.item) (take i lines) (line_at lines i ∷ [])
    ∙ ap (λ t. shared_words (take i lines) ++ t) (append-nil (shared_word (line_at lines i).item))

pub all-taken : (lines : List Line) (i : ℕ) → length lines ≤ i → take i lines ≡ lines
all-taken lines i h = take_all i lines h

-- the element at a place is the line there
pub line-here : (lines : List Line) (i : ℕ) (line : Line) → i < length lines → line ≡ get_or lines i line → line ≡ line_at lines i
line-here lines i line h e = grind (arith, common_steps)

-- What holds of each image: this project's own.
use Rattle.std.specs.Prelude.{ℕ, ◌+◌, ◌<◌, ◌≤◌, false, ◌≡◌, ⊤, List, [], ◌∷◌, length, slice_index_or, Option}
use Rattle.std.specs.Map.{lookup}
use Rattle.std.specs.Str.{bytes_eq}
use Rattle.em_base.specs.declared.images.Image.{Image}
use Rattle.em_base.specs.declared.images.Wait.{Wait}

-- at most this many code words, and as many shared words
abbrev pub most_words : ℕ
most_words = 16384

-- the addresses rise, from the lowest that there may be
abbrev pub AreRising : ℕ → List Wait → Type 0
AreRising lowest [] = ⊤
AreRising lowest (wait ∷ waits) = (lowest ≤ wait.address) × AreRising (wait.address + 1) waits

-- labels, each with its address
abbrev pub Labels : Type 0
Labels = List (List ℕ × ℕ)

-- the address of the label of this name
abbrev pub address_of : Labels → List ℕ → Option ℕ
address_of labels name = lookup (λ other. bytes_eq name other) labels

-- no name stands twice
abbrev pub AreOnce : Labels → Type 0
AreOnce labels =
    (i j : ℕ) → i < j → j < length labels → bytes_eq (slice_index_or labels j ([], 0)).0 (slice_index_or labels i ([], 0)).0 ≡ false

-- there are not too many words, the waits stand in rising order, and each label stands once
pub record IsWhole (image : Image) : Type 0 where
  pub code : length image.words ≤ most_words
  pub shared_words : length image.shared ≤ most_words
  pub rising : AreRising 0 image.waits
  pub once : AreOnce image.labels

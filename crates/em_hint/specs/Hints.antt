-- The hints of an image, and the first that is written wrong: this project's own.
use Rattle.std.specs.Prelude.{◌≡◌, ℕ, ⊤, List, [], ◌∷◌, ◌++◌, length, slice_index_or, All, Option, None, Some}
use Rattle.em_base.specs.declared.apps.HintMap.{HintMap}
use Rattle.em_base.specs.declared.ids.SemId.{SemId}
use Rattle.em_base.specs.declared.images.Image.{Image}
use Rattle.em_base.specs.declared.images.Wait.{Wait}
use Rattle.em_base.specs.declared.refusals.Fail.{Fail}
use Rattle.em_base.specs.declared.refusals.Fail.TheVariants.{Refused, NoMemory}
use Rattle.em_base.specs.declared.refusals.Refusal.{Refusal}
use Rattle.em_base.specs.FirstFault.{AreClear, NamesFirst}
use Rattle.em_base.specs.Hints.{hint_at}
use Rattle.em_hart.specs.Effect.{sum}
use Rattle.em_scan.specs.Hint.{IsHint, IsHintOf}

-- ---- the hints

-- this is the hint of a `waitjob`, where it has one: that of the call at its address
abbrev pub IsWaitHint : List ℕ → ℕ → ℕ → Wait → Option SemId → Type 0
IsWaitHint code sems own wait found = IsHintOf code (sum wait.address 4) sems own found

-- a hint with its address, where there is one
abbrev pub entry : ℕ → Option SemId → List (ℕ × SemId)
entry address None = []
entry address (Some s) = (address, s) ∷ []

-- these are the hints of the `waitjob` statements, in their order
abbrev pub AreHintsOf : List ℕ → ℕ → ℕ → List Wait → List (ℕ × SemId) → Type 0
AreHintsOf code sems own [] hints = hints ≡ []
AreHintsOf code sems own (wait ∷ waits) hints =
    (found : Option SemId) × (rest : List (ℕ × SemId)) × IsWaitHint code sems own wait found
    × (hints ≡ entry wait.address found ++ rest) × AreHintsOf code sems own waits rest

-- the map has the hint of each `waitjob`, at its address
abbrev pub HasEach : List ℕ → ℕ → ℕ → List Wait → HintMap → Type 0
HasEach code sems own waits map = All (λ wait. IsWaitHint code sems own wait (hint_at map wait.address)) waits

-- ---- what is written

-- a number is written beside a `waitjob` that isn't its hint
abbrev pub HasWrongHint : List ℕ → ℕ → ℕ → List Wait → Wait → ℕ → Type 0
HasWrongHint code sems own before wait written =
    (wait.hint ≡ Some written) × (IsHint code (sum wait.address 4) sems own (record { 0 = written }) → ⊥)

-- no number is
abbrev pub AreRight : List ℕ → ℕ → ℕ → List Wait → Type 0
AreRight code sems own waits = AreClear (HasWrongHint code sems own) waits (length waits)

-- the line of the `waitjob` at a place, counted from 0
abbrev pub line_of_wait : List Wait → ℕ → ℕ
line_of_wait waits place = (slice_index_or waits place (record { address = 0; line = 0; hint = None })).line

-- the code of a hint that is written wrong
abbrev pub wrong_hint : ℕ
wrong_hint = 11

-- the refusal names the first `waitjob` with such a number, by its line
abbrev pub IsMishinted : List ℕ → ℕ → ℕ → List Wait → Refusal → Type 0
IsMishinted code sems own waits refusal =
    NamesFirst (HasWrongHint code sems own) (λ written. wrong_hint) (line_of_wait waits) waits refusal

-- ---- of an image

-- the map is that of the image
abbrev pub AreImageHints : Image → ℕ → ℕ → HintMap → Type 0
AreImageHints image sems own map = AreHintsOf image.words sems own image.waits map.hints

-- `NoMemory` may be answered at any time
abbrev pub IsHintFail : Image → ℕ → ℕ → Fail → Type 0
IsHintFail image sems own (Refused refusal) = IsMishinted image.words sems own image.waits refusal
IsHintFail image sems own NoMemory = ⊤

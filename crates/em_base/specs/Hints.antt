-- The hints of an image: the semaphore that a task takes next after a `waitjob`. What holds of each map of them is this project's own.
use Rattle.std.specs.Prelude.{ℕ, ◌+◌, ◌<◌, ◌≤◌, ◌==◌, ⊤, List, [], ◌∷◌, map, Option, All, Contains}
use Rattle.std.specs.Map.{lookup}
use Rattle.em_base.specs.declared.apps.HintMap.{HintMap}
use Rattle.em_base.specs.declared.ids.SemId.{SemId}
use Rattle.em_base.specs.declared.images.Wait.{Wait}

-- the hint at an address
abbrev pub hint_at : HintMap → ℕ → Option SemId
hint_at hints address = lookup (λ other. other == address) hints.hints

-- the addresses of hints rise, from the lowest that there may be
abbrev pub AreHintsRising : ℕ → List (ℕ × SemId) → Type 0
AreHintsRising lowest [] = ⊤
AreHintsRising lowest (hint ∷ hints) = (lowest ≤ hint.0) × AreHintsRising (hint.0 + 1) hints

-- a semaphore below so many, at the address of one of the `waitjob` statements
abbrev pub IsHintFor : ℕ → List Wait → ℕ × SemId → Type 0
IsHintFor semaphores waits hint = Contains (map (λ wait. wait.address) waits) hint.0 × (hint.1.0 < semaphores)

-- hints of some of the `waitjob` statements, in rising order of address
pub record AreHints (semaphores : ℕ) (waits : List Wait) (hints : HintMap) : Type 0 where
  pub rising : AreHintsRising 0 hints.hints
  pub possible : All (IsHintFor semaphores waits) hints.hints

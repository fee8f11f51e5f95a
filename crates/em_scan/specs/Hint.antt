-- The hint of a call: the semaphore that a task takes next, whichever way it goes. This project's own.
use Rattle.std.specs.Prelude.{◌≡◌, ◌↔◌, ℕ, List, Option, Some}
use Rattle.em_base.specs.declared.ids.SemId.{SemId}
use Rattle.em_scan.specs.Known.{nothing_known}
use Rattle.em_scan.specs.Ways.{AllTake}
use Rattle.em_scan.specs.Private.{next, learned}

-- the most instructions of a walk before its acquire, and the most branches among them
abbrev pub most_members : ℕ
most_members = 32

abbrev pub most_branches : ℕ
most_branches = 6

-- every way from an address is a private walk that ends with the acquire of s, among so many semaphores and with an own window of so
-- many bytes; nothing is known of the registers at first but x0
abbrev pub IsHint : List ℕ → ℕ → ℕ → ℕ → SemId → Type 0
IsHint code after sems own s =
    AllTake (next code sems own) (learned code) most_members most_branches after nothing_known s

-- this is the hint, where there is one
abbrev pub IsHintOf : List ℕ → ℕ → ℕ → ℕ → Option SemId → Type 0
IsHintOf code after sems own found = (s : SemId) → (found ≡ Some s) ↔ IsHint code after sems own s

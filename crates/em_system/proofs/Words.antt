-- Words in an own window.
use Rattle.std.proofs.Common.{◌≡◌, ℕ, ◌+◌, ◌*◌, ◌%◌, ◌<◌, ◌≤◌, List, length, Bool, true, false, ◌&&◌, ◌==◌, nat_le, All, sym, subst, refl, arith}
use Rattle.std.proofs.lemmas.Bool.Decides.{nat_tests}
use Rattle.std.proofs.lemmas.List.Elements.{All-set}
use Rattle.em_hart.specs.Hart.{own_base}
use Rattle.em_gate.specs.Calls.{is_in_own}
use Rattle.em_threads.specs.Threads.{Thread, thread_at, changed, with_core}
use Rattle.em_gate.specs.State.{Core}
use Rattle.em_system.specs.Held.{Held, selected_of, tasks_of}
use Rattle.em_system.specs.Sound.{IsSound}
use Rattle.em_system.proofs.Parts.{worked_selects}
use Rattle.em_system.proofs.Sound.{same_jobs, sound_anywhere}
use Rattle.em_system.proofs.Scenes.{task_here}
use Rattle.em_system.proofs.Stands.{tasks_changed}

-- what the words of an address ask
pub record AreInside (own words at : ℕ) : Type 0 where
  pub aligned : at % 4 ≡ 0
  pub from : own_base ≤ at
  pub to : at + 4 * words ≤ own_base + own

all_three : (a b c : Bool) → (a && b && c) ≡ true → (a ≡ true) × (b ≡ true) × (c ≡ true)
all_three true true c e = (refl, refl, e)
all_three true false c e = cc
all_three false b c e = cc

aligned_is : (n : ℕ) → (n == 0) ≡ true → n ≡ 0
aligned_is n e = grind (arith, nat_tests, e)

le_is : (a b : ℕ) → nat_le a b ≡ true → a ≤ b
le_is a b e = grind (arith, nat_tests, e)

-- words that are inside an own window
pub are_inside : (own words at : ℕ) → is_in_own own words at ≡ true → AreInside own words at
are_inside own words at e =
    let each = all_three (at % 4 == 0) (nat_le own_base at) (nat_le (at + 4 * words) (own_base + own)) e in
    record {
      aligned = aligned_is (at % 4) each.0;
      from = le_is own_base at each.1;
      to = le_is (at + 4 * words) (own_base + own) each.2;
    }

-- ---- a change of a core

-- a core is changed: the selection stays
pub core_selects : (held : Held) (core : Core) (t : ℕ) → t < length held.threads
    → selected_of (record held { threads = changed (with_core core) t held.threads }) ≡ selected_of held
core_selects held core t h = worked_selects held (record held { threads = changed (with_core core) t held.threads }) core held.shared t refl h

-- a core is changed: the tasks stay sound
pub core_sound : (n : ℕ) (core : Core) (t : ℕ) (threads : List Thread) → All (IsSound n) (tasks_of threads)
    → All (IsSound n) (tasks_of (changed (with_core core) t threads))
core_sound n core t threads s =
    subst (All (IsSound n)) (sym (tasks_changed (with_core core) t threads))
    (All-set (IsSound n) (tasks_of threads) t (with_core core (thread_at threads t)).task
    (same_jobs n core (thread_at threads t).task (subst (IsSound n) (task_here threads t) (sound_anywhere n (tasks_of threads) t s))) s)

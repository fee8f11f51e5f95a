-- The state before a step of a run comes of the one before it; a step that ends the run leaves its state.
use Rattle.std.proofs.Common.{◌≡◌, ℕ, zero, suc, if◌then◌else◌, nat_le, Bool, true, false, List, [], ◌∷◌, length, Option, None, Some, sym, ap, refl}
use Rattle.std.proofs.lemmas.Bool.{false≢true}
use Rattle.em_base.specs.declared.apps.App.{App}
use Rattle.em_base.specs.declared.events.Timed.{Timed}
use Rattle.em_base.specs.declared.ids.TaskId.{TaskId}
use Rattle.em_gate.specs.Selecting.{counted_selected}
use Rattle.em_gate.specs.State.{Counted, most_lines}
use Rattle.em_kernel.specs.declared.did.End.TheVariants.{Horizon, Lines}
use Rattle.em_kernel.specs.Moves.{Move, Acts, StartsWrite, TakesWord, EndsWrite, StartsRead, PutsWord, EndsRead, Lapses, move_of}
use Rattle.em_kernel.specs.Run.{is_end, state_from}
use Rattle.em_kernel.specs.Step.{Step, chosen, delivered, ended, next, step, stepped_by, waited}

-- a step that ends the run leaves its state as it is
abbrev IsStill : Counted → Step → Type 0
IsStill c s = is_end s.did.what ≡ true → s.state ≡ c

waited_still : (c : Counted) (left : List Timed) → IsStill c (waited c left)
waited_still c [] e = refl
waited_still c (event ∷ rest) e = absurd (false≢true e)

moved_still : (app : App) (c : Counted) (t : TaskId) (move : Move) → IsStill c (stepped_by app c t move)
moved_still app c t (Acts o) e = absurd (false≢true e)
moved_still app c t (StartsWrite m at) e = absurd (false≢true e)
moved_still app c t (TakesWord m at i) e = absurd (false≢true e)
moved_still app c t (EndsWrite m at i) e = absurd (false≢true e)
moved_still app c t (StartsRead m at) e = absurd (false≢true e)
moved_still app c t (PutsWord m at noted i) e = absurd (false≢true e)
moved_still app c t (EndsRead m at noted i) e = absurd (false≢true e)
moved_still app c t (Lapses m noted) e = refl

chosen_still : (app : App) (c : Counted) (selected : Option ℕ) → IsStill c (chosen app c selected)
chosen_still app c (Some t) = moved_still app c (record { 0 = t }) (move_of app c t)
chosen_still app c None = waited_still c c.left

next_still : (app : App) (c : Counted) (left : List Timed) → IsStill c (next app c left)
next_still app c [] = chosen_still app c (counted_selected app.table.tasks c)
next_still app c (event ∷ rest) = by_due (nat_le event.time c.clock)
  where
    by_due : (b : Bool) → IsStill c (if b then delivered app c event.event rest else chosen app c (counted_selected app.table.tasks c))
    by_due true e = absurd (false≢true e)
    by_due false e = chosen_still app c (counted_selected app.table.tasks c) e

still : (app : App) (c : Counted) → IsStill c (step app c)
still app c = by_tests (nat_le app.table.horizon c.clock) (nat_le most_lines (length c.plain.lines))
  where
    by_tests : (over full : Bool) → IsStill c (if over then ended c Horizon else if full then ended c Lines else next app c c.left)
    by_tests true full e = refl
    by_tests false true e = refl
    by_tests false false e = next_still app c c.left e

-- the state after one step more is that of a step from the state before, also where the run has ended
pub state_next : (app : App) (n : ℕ) (c : Counted) → state_from app (suc n) c ≡ (step app (state_from app n c)).state
unfolding state_from
state_next app zero c = same (is_end (step app c).did.what)
  where
    same : (b : Bool) → (if b then (step app c).state else (step app c).state) ≡ (step app c).state
    same true = refl
    same false = refl
state_next app (suc n) c = by_end (state_next app n (step app c).state) (is_end (step app c).did.what) refl
  where
    after : Counted
    after = (step app c).state

    by_end : state_from app (suc n) after ≡ (step app (state_from app n after)).state → (b : Bool) → is_end (step app c).did.what ≡ b
        → (if b then after else state_from app (suc n) after) ≡ (step app (if b then after else state_from app n after)).state
    by_end more true e = ap (λ s. (step app s).state) (sym (still app c e))
    by_end more false e = more

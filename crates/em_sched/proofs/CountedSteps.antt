-- A step of the counted machine, by its cases, is a turn of it.
use Rattle.std.specs.Bool.{⊤}
use Rattle.std.proofs.Common.{◌≡◌, ℕ, ◌++◌, if◌then◌else◌, nat_le, Bool, true, false, List, [], ◌∷◌, length, Option, None, Some, sym, ap, refl}
use Rattle.em_base.specs.declared.apps.App.{App}
use Rattle.em_base.specs.declared.events.Event.{Event}
use Rattle.em_base.specs.declared.events.Timed.{Timed}
use Rattle.em_base.specs.declared.ids.TaskId.{TaskId}
use Rattle.em_trace.specs.declared.lines.Line.{Line}
use Rattle.em_gate.specs.Effects.{option_list}
use Rattle.em_gate.specs.Selecting.{counted_selected}
use Rattle.em_gate.specs.State.{Counted, most_lines}
use Rattle.em_kernel.specs.declared.did.End.{End}
use Rattle.em_kernel.specs.declared.did.End.TheVariants.{Horizon, Lines, Quiet}
use Rattle.em_kernel.specs.declared.did.What.{What}
use Rattle.em_kernel.specs.declared.did.What.TheVariants.{Delivered, Stepped, Idled, Ended}
use Rattle.em_kernel.specs.Run.{is_end}
use Rattle.em_kernel.specs.Moves.{Move, Acts, StartsWrite, TakesWord, EndsWrite, StartsRead, PutsWord, EndsRead, Lapses, after_move, move_line, move_of, published}
use Rattle.em_kernel.specs.Step.{Step, chosen, delivered, ended, kind_of, lapsed, next, step, stepped, stepped_by, waited}
use Rattle.em_kernel.proofs.Settling.{lines_of_step}
use Rattle.em_sched.specs.Traces.{events_in}
use Rattle.em_sched.proofs.Levels.{Fits, IsAfter}

-- the event that a step delivers
abbrev pub came : What → List Event
came (Delivered event) = event ∷ []
came (Stepped t kind) = []
came Idled = []
came (Ended cause) = []

-- the line of a step of a task
abbrev pub Says : App → Counted → What → Option Line → Type 0
Says app c (Delivered event) line = ⊤
Says app c (Stepped t kind) line = line ≡ move_line app (move_of app c t.0) t c.plain
Says app c Idled line = ⊤
Says app c (Ended cause) line = ⊤

-- a step is a turn: it did what it can do there, and the state after it is that after a turn, but for the clock; it isn't taken where the trace
-- is full, unless it ends the run; it delivers the next event or none; and its line stands behind the others
pub record IsTurn (app : App) (c : Counted) (s : Step) : Type 0 where
  pub fits : Fits app c s.did.what
  pub after : IsAfter app c s.did.what s.state
  pub room : is_end s.did.what ≡ false → nat_le most_lines (length c.plain.lines) ≡ false
  pub left : events_in c.left ≡ came s.did.what ++ events_in s.state.left
  pub says : Says app c s.did.what s.did.line
  pub lines : s.state.plain.lines ≡ c.plain.lines ++ option_list s.did.line

no_line : {A : Type 0} (xs : List A) → xs ≡ xs ++ []
no_line [] = refl
no_line (x ∷ xs) = ap (λ ys. x ∷ ys) (no_line xs)

true_false : true ≡ false → ⊥
true_false e = cc

ended_turn : (app : App) (c : Counted) (cause : End) → IsTurn app c (ended c cause)
ended_turn app c cause = record {
  fits = tt;
  after = record { plain = refl; promises = refl; copies = refl };
  room = λ e. absurd (true_false e);
  left = refl;
  says = tt;
  lines = no_line c.plain.lines;
}

waited_turn : (app : App) (c : Counted) (left : List Timed) → nat_le most_lines (length c.plain.lines) ≡ false → IsTurn app c (waited c left)
waited_turn app c [] not_full = ended_turn app c Quiet
waited_turn app c (event ∷ rest) not_full = record {
  fits = tt;
  after = record { plain = refl; promises = refl; copies = refl };
  room = λ e. not_full;
  left = refl;
  says = tt;
  lines = no_line c.plain.lines;
}

-- a step of a task takes no event
move_left : (app : App) (c : Counted) (t : TaskId) (move : Move) → (after_move app move t c).left ≡ c.left
unfolding after_move
move_left app c t (Acts o) = refl
move_left app c t (StartsWrite m at) = refl
move_left app c t (TakesWord m at i) = refl
move_left app c t (EndsWrite m at i) = refl
move_left app c t (StartsRead m at) = refl
move_left app c t (PutsWord m at noted i) = refl
move_left app c t (EndsRead m at noted i) = refl
move_left app c t (Lapses m noted) = refl

-- the line of a step of a task stands behind the others
move_lines : (app : App) (c : Counted) (t : TaskId) (move : Move)
    → (after_move app move t c).plain.lines ≡ c.plain.lines ++ option_list (move_line app move t c.plain)
unfolding after_move move_line
move_lines app c t (Acts o) = sym (lines_of_step o t c.plain)
move_lines app c t (StartsWrite m at) = no_line c.plain.lines
move_lines app c t (TakesWord m at i) = no_line c.plain.lines
move_lines app c t (EndsWrite m at i) = sym (lines_of_step (published app.table m at) t c.plain)
move_lines app c t (StartsRead m at) = refl
move_lines app c t (PutsWord m at noted i) = no_line c.plain.lines
move_lines app c t (EndsRead m at noted i) = no_line c.plain.lines
move_lines app c t (Lapses m noted) = no_line c.plain.lines

stepped_turn : (app : App) (c : Counted) (t : ℕ) (move : Move) → counted_selected app.table.tasks c ≡ Some t → move_of app c t ≡ move
    → nat_le most_lines (length c.plain.lines) ≡ false → IsTurn app c (stepped app c (record { 0 = t }) move)
stepped_turn app c t move e is not_full =
    let same = ap (λ m. after_move app m (record { 0 = t }) c) (sym is) in
    record {
      fits = (e, ap kind_of (sym is));
      after = record {
        plain = ap (λ (s : Counted). s.plain) same;
        promises = ap (λ (s : Counted). s.promises) same;
        copies = ap (λ (s : Counted). s.copies) same;
      };
      room = λ e. not_full;
      left = ap events_in (sym (move_left app c (record { 0 = t }) move));
      says = ap (λ m. move_line app m (record { 0 = t }) c.plain) (sym is);
      lines = move_lines app c (record { 0 = t }) move;
    }

moved_turn : (app : App) (c : Counted) (t : ℕ) (move : Move) → counted_selected app.table.tasks c ≡ Some t → move_of app c t ≡ move
    → nat_le most_lines (length c.plain.lines) ≡ false → IsTurn app c (stepped_by app c (record { 0 = t }) move)
moved_turn app c t (Acts o) e is not_full = stepped_turn app c t (Acts o) e is not_full
moved_turn app c t (StartsWrite m at) e is not_full = stepped_turn app c t (StartsWrite m at) e is not_full
moved_turn app c t (TakesWord m at i) e is not_full = stepped_turn app c t (TakesWord m at i) e is not_full
moved_turn app c t (EndsWrite m at i) e is not_full = stepped_turn app c t (EndsWrite m at i) e is not_full
moved_turn app c t (StartsRead m at) e is not_full = stepped_turn app c t (StartsRead m at) e is not_full
moved_turn app c t (PutsWord m at noted i) e is not_full = stepped_turn app c t (PutsWord m at noted i) e is not_full
moved_turn app c t (EndsRead m at noted i) e is not_full = stepped_turn app c t (EndsRead m at noted i) e is not_full
moved_turn app c t (Lapses m noted) e is not_full = ended_turn app c (lapsed c m noted)

chosen_turn : (app : App) (c : Counted) (selected : Option ℕ) → counted_selected app.table.tasks c ≡ selected
    → nat_le most_lines (length c.plain.lines) ≡ false
    → IsTurn app c (chosen app c selected)
chosen_turn app c (Some t) e not_full = moved_turn app c t (move_of app c t) e refl not_full
chosen_turn app c None e not_full = waited_turn app c c.left not_full

due_turn : (app : App) (c : Counted) (event : Timed) (rest : List Timed) (due : Bool) → c.left ≡ event ∷ rest
    → nat_le most_lines (length c.plain.lines) ≡ false
    → IsTurn app c (if due then delivered app c event.event rest else chosen app c (counted_selected app.table.tasks c))
due_turn app c event rest true e not_full = record {
  fits = tt;
  after = record { plain = refl; promises = refl; copies = refl };
  room = λ e. not_full;
  left = ap events_in e;
  says = tt;
  lines = refl;
}
due_turn app c event rest false e not_full = chosen_turn app c (counted_selected app.table.tasks c) refl not_full

next_turn : (app : App) (c : Counted) (left : List Timed) → c.left ≡ left → nat_le most_lines (length c.plain.lines) ≡ false
    → IsTurn app c (next app c left)
next_turn app c [] e not_full = chosen_turn app c (counted_selected app.table.tasks c) refl not_full
next_turn app c (event ∷ rest) e not_full = due_turn app c event rest (nat_le event.time c.clock) e not_full

-- each step of the counted machine is one
pub step_turn : (app : App) (c : Counted) → IsTurn app c (step app c)
step_turn app c = by_tests (nat_le app.table.horizon c.clock) (nat_le most_lines (length c.plain.lines)) refl
  where
    by_tests : (over full : Bool) → nat_le most_lines (length c.plain.lines) ≡ full
        → IsTurn app c (if over then ended c Horizon else if full then ended c Lines else next app c c.left)
    by_tests true full e = ended_turn app c Horizon
    by_tests false true e = ended_turn app c Lines
    by_tests false false e = next_turn app c c.left refl e

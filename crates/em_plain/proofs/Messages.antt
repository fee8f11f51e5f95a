-- A message is written or read: what is held, the boards, and the line.
use Rattle.std.proofs.Common.{◌≡◌, ◌∙◌, ℕ, ◌+◌, ◌<◌, List, [], ◌∷◌, ◌++◌, length, slice_index_or, slice_set, Option, Some, sym, ap, subst, refl, arith}
use Rattle.em_base.specs.declared.ids.MsgId.{MsgId}
use Rattle.em_base.specs.declared.ids.SemId.{SemId}
use Rattle.em_base.specs.declared.ids.TaskId.{TaskId}
use Rattle.em_trace.specs.declared.lines.Line.TheVariants.{Put, Get}
use Rattle.em_gate.specs.Effects.{after_outcome, frees, gives, line_by, newest, newest_value, own_after, owners_after, shared_after, values_after, words_at}
use Rattle.em_gate.specs.Outcome.{Publishes, Fetches}
use Rattle.em_gate.specs.State.{Plain, Task, Value, task_at, values_at}
use Rattle.em_plain.specs.Boards.{AreBoards, IsBoard, Posted, posted, posted_at}
use Rattle.em_plain.specs.Words.{given_words, held_words_put}
use Rattle.em_plain.proofs.Boarding.{boards_posted}
use Rattle.em_system.specs.Held.{Held, Holds, answered, held_answered, promises_of, tasks_of}
use Rattle.em_system.specs.Windows.{core_in}
use Rattle.em_system.proofs.Changes.{changed_again}
use Rattle.em_system.proofs.Stands.{own_step, promises_same}
use Rattle.em_threads.specs.Threads.{changed, with_task}

-- ---- what is held

-- after a write
pub holds_written : (held : Held) (p : Plain) (promises : List (Option SemId)) (t : TaskId) (m at count : ℕ)
    → t.0 < length held.threads → Holds held p promises
    → Holds (held_answered t.0 0 held) (after_outcome (Publishes m at count) t p) promises
unfolding frees own_after owners_after shared_after gives
holds_written held p promises t m at count h s = record {
  tasks = own_step (Publishes m at count) t.0 p (answered 0) held.threads s.tasks h (λ r. refl) (λ task. refl);
  promised = promises_same (answered 0) t.0 held.threads h ∙ s.promised;
  owners = s.owners;
  shared = s.shared;
}

holds_value : (held : Held) (p : Plain) (promises : List (Option SemId)) (t : TaskId) (m at : ℕ) → t.0 < length held.threads → Holds held p promises
    → Holds (held_answered t.0 0 (held_words_put t.0 at (newest_value p.values m) held)) (after_outcome (Fetches m at) t p) promises
unfolding frees own_after owners_after shared_after gives
holds_value held p promises t m at h s =
    let value = newest_value p.values m in
    let given : (Task → Task) = λ task. answered 0 (given_words at value task) in
    let once : changed (with_task (answered 0)) t.0 (changed (with_task (given_words at value)) t.0 held.threads) ≡ changed (with_task given) t.0 held.threads =
    changed_again (with_task (given_words at value)) (with_task (answered 0)) (with_task given) t.0 held.threads h refl in
    record {
      tasks = ap tasks_of once ∙ own_step (Fetches m at) t.0 p given held.threads s.tasks h (λ r. refl) (λ task. refl);
      promised = ap promises_of once ∙ promises_same given t.0 held.threads h ∙ s.promised;
      owners = s.owners;
      shared = s.shared;
    }

-- after a read of what the board shows
pub holds_read : (held : Held) (p : Plain) (promises : List (Option SemId)) (t : TaskId) (m at : ℕ) (words : Value)
    → words ≡ newest_value p.values m → t.0 < length held.threads → Holds held p promises
    → Holds (held_answered t.0 0 (held_words_put t.0 at words held)) (after_outcome (Fetches m at) t p) promises
holds_read held p promises t m at words e h s =
    subst (λ ws. Holds (held_answered t.0 0 (held_words_put t.0 at ws held)) (after_outcome (Fetches m at) t p) promises) (sym e)
    (holds_value held p promises t m at h s)

-- ---- the boards

-- after a write
pub boards_written : (held : Held) (p : Plain) (promises : List (Option SemId)) (boards : List Posted) (t : TaskId) (m at count : ℕ)
    → Holds held p promises → AreBoards boards p.values → m < length boards
    → AreBoards (slice_set boards m (posted (words_at (core_in held.threads t.0).own at count) (posted_at boards m))) (after_outcome (Publishes m at count) t p).values
unfolding gives values_after
boards_written held p promises boards t m at count s are h =
    subst (λ tasks. AreBoards (slice_set boards m (posted (words_at (core_in held.threads t.0).own at count) (posted_at boards m)))
    (slice_set p.values m (values_at p.values m ++ words_at (task_at tasks t.0).core.own at count ∷ []))) s.tasks
    (boards_posted boards p.values m (words_at (core_in held.threads t.0).own at count) are h)

-- a read leaves them
pub boards_read : (p : Plain) (boards : List Posted) (t : TaskId) (m at : ℕ) → AreBoards boards p.values → AreBoards boards (after_outcome (Fetches m at) t p).values
unfolding gives values_after
boards_read p boards t m at are = are

board_is : (p : Plain) (boards : List Posted) (m : ℕ) → AreBoards boards p.values → m < length boards → IsBoard (posted_at boards m) (values_at p.values m)
board_is p boards m are h = are.each m (subst (λ n. m < n) are.all h)

-- a board shows the newest value
pub shows_newest : (p : Plain) (boards : List Posted) (m : ℕ) → AreBoards boards p.values → m < length boards → (posted_at boards m).words ≡ newest_value p.values m
shows_newest p boards m are h =
    let is = board_is p boards m are h in
    let same : (posted_at boards m).number ≡ newest p.values m = omega (arith, is.number) in
    is.words ∙ ap (λ k. slice_index_or (values_at p.values m) k []) same

-- ---- the lines

pub written_line : (p : Plain) (boards : List Posted) (t : TaskId) (m : MsgId) (at count number : ℕ) → AreBoards boards p.values → m.0 < length boards
    → number ≡ (posted_at boards m.0).number + 1 → Some (Put t m number) ≡ line_by (Publishes m.0 at count) t (task_at p.tasks t.0) p
unfolding line_by
written_line p boards t m at count number are h e =
    let is = board_is p boards m.0 are h in
    ap (λ n. Some (Put t m n)) (e ∙ is.number)

pub read_line : (p : Plain) (boards : List Posted) (t : TaskId) (m : MsgId) (at number : ℕ) → AreBoards boards p.values → m.0 < length boards
    → number ≡ (posted_at boards m.0).number → Some (Get t m number) ≡ line_by (Fetches m.0 at) t (task_at p.tasks t.0) p
unfolding line_by
read_line p boards t m at number are h e =
    let is = board_is p boards m.0 are h in
    let same : number ≡ newest p.values m.0 = omega (arith, e, is.number) in
    ap (λ n. Some (Get t m n)) same

-- How many tasks there are after a step or an event: as many as before.
use Rattle.std.proofs.Common.{◌≡◌, ◌∙◌, if◌then◌else◌, Bool, true, false, List, [], length, slice_set, Option, sym, ap, refl}
use Rattle.std.proofs.lemmas.List.{length-map, length-set}
use Rattle.em_base.specs.declared.events.Event.{Event}
use Rattle.em_base.specs.declared.events.Event.TheVariants.{Release, Unplug}
use Rattle.em_base.specs.declared.ids.SemId.{SemId}
use Rattle.em_base.specs.declared.ids.TaskId.{TaskId}
use Rattle.em_gate.specs.Effects.{after_outcome, frees, gives, own_after, woken}
use Rattle.em_gate.specs.Events.{after_event}
use Rattle.em_gate.specs.Outcome.{Outcome, Works, Falls, Refuses, Ends, Gets, Blocks, Frees, Puts, Publishes, Fetches, Signals, Leaves}
use Rattle.em_gate.specs.State.{Plain, Task, task_at}
use Rattle.em_gate.specs.Tasks.{after_take}
use Rattle.em_ports.specs.Ports.{Places}
use Rattle.em_system.specs.Asked.{after_asking, is_transfer}
use Rattle.em_system.specs.Held.{Held, Holds, promises_of, tasks_of}

-- a step gives no task more
gift_count : (o : Outcome) (p : Plain) → length (gives o p).tasks ≡ length p.tasks
unfolding gives
gift_count (Works class core shared) p = refl
gift_count (Falls cause) p = refl
gift_count (Refuses code) p = refl
gift_count Ends p = refl
gift_count (Gets s) p = refl
gift_count (Blocks s) p = refl
gift_count (Frees s) p = refl
gift_count (Puts port word) p = refl
gift_count (Publishes m at count) p = refl
gift_count (Fetches m at) p = refl
gift_count (Signals u word) p = length-set p.tasks u (after_take 0 word (task_at p.tasks u))
gift_count Leaves p = refl

pub step_count : (o : Outcome) (t : TaskId) (p : Plain) → length (after_outcome o t p).tasks ≡ length p.tasks
step_count o t p =
    gift_count o _
    ∙ length-map (slice_set p.tasks t.0 (own_after o p (task_at p.tasks t.0))) (woken (frees o t.0 p.owners))
    ∙ length-set p.tasks t.0 (own_after o p (task_at p.tasks t.0))

-- nor does an event
pub event_count : (event : Event) (p : Plain) → length (after_event event p).tasks ≡ length p.tasks
event_count (Release t time word) p = length-set p.tasks t.0 (after_take time word (task_at p.tasks t.0))
event_count (Unplug port) p = refl

-- ---- threads

-- a state for which what is held stands, with these ports
abbrev pub state_of : Held → Places → Plain
state_of held places = record {
  tasks = tasks_of held.threads;
  lasts = [];
  arrivals = [];
  owners = held.owners;
  values = [];
  ports = places;
  shared = held.shared;
  lines = [];
}

pub holds_state : (held : Held) (places : Places) → Holds held (state_of held places) (promises_of held.threads)
holds_state held places = record { tasks = refl; promised = refl; owners = refl; shared = refl }

asked_count : (o : Outcome) (t : TaskId) (p : Plain) → length (after_asking o t p).tasks ≡ length p.tasks
asked_count o t p = by_transfer (is_transfer o)
  where
    by_transfer : (b : Bool) → length (if b then p else after_outcome o t p).tasks ≡ length p.tasks
    by_transfer true = refl
    by_transfer false = step_count o t p

threads_are : (held held' : Held) (places : Places) (p : Plain) (promises : List (Option SemId)) → Holds held' p promises → length p.tasks ≡ length (tasks_of held.threads)
    → length held'.threads ≡ length held.threads
threads_are held held' places p promises h e =
    sym (length-map held'.threads (λ thread. thread.task)) ∙ ap (λ (tasks : List Task). length tasks) h.tasks ∙ e ∙ length-map held.threads (λ thread. thread.task)

-- there are as many after a step
pub threads_count : (held held' : Held) (places : Places) (o : Outcome) (t : TaskId) (promises : List (Option SemId))
    → Holds held' (after_asking o t (state_of held places)) promises → length held'.threads ≡ length held.threads
threads_count held held' places o t promises h =
    threads_are held held' places (after_asking o t (state_of held places)) promises h (asked_count o t (state_of held places))

-- and after an event
pub threads_event : (held held' : Held) (places : Places) (event : Event) (promises : List (Option SemId))
    → Holds held' (after_event event (state_of held places)) promises → length held'.threads ≡ length held.threads
threads_event held held' places event promises h =
    threads_are held held' places (after_event event (state_of held places)) promises h (event_count event (state_of held places))

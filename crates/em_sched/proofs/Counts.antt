-- How many tasks, semaphores and values there are after a step or an event: as many as before.
use Rattle.std.proofs.Common.{◌≡◌, ◌∙◌, ℕ, List, length, slice_set, Option, None, Some, ap, refl}
use Rattle.std.proofs.lemmas.List.{length-map, length-set}
use Rattle.em_base.specs.declared.events.Event.{Event}
use Rattle.em_base.specs.declared.events.Event.TheVariants.{Release, Unplug}
use Rattle.em_base.specs.declared.ids.TaskId.{TaskId}
use Rattle.em_gate.specs.Effects.{after_outcome, frees, gives, own_after, owners_after, values_after, without, woken, words_at}
use Rattle.em_gate.specs.Events.{after_event}
use Rattle.em_gate.specs.Outcome.{Outcome, Works, Falls, Refuses, Ends, Gets, Blocks, Frees, Puts, Publishes, Fetches, Signals, Leaves}
use Rattle.em_gate.specs.State.{Plain, task_at}
use Rattle.em_gate.specs.Tasks.{after_take}
use Rattle.em_kernel.specs.Moves.{Acts, first_move}
use Rattle.em_sched.proofs.Published.{with_value}

gift_owners : (o : Outcome) (p : Plain) → (gives o p).owners ≡ p.owners
unfolding gives
gift_owners (Works class core shared) p = refl
gift_owners (Falls cause) p = refl
gift_owners (Refuses code) p = refl
gift_owners Ends p = refl
gift_owners (Gets s) p = refl
gift_owners (Blocks s) p = refl
gift_owners (Frees s) p = refl
gift_owners (Puts port word) p = refl
gift_owners (Publishes m at count) p = refl
gift_owners (Fetches m at) p = refl
gift_owners (Signals u word) p = refl
gift_owners Leaves p = refl

many_owners : (o : Outcome) (t : ℕ) (owners : List (Option TaskId)) → length (owners_after o t owners) ≡ length owners
unfolding owners_after
many_owners (Works class core shared) t owners = refl
many_owners (Falls cause) t owners = length-map owners (without t)
many_owners (Refuses code) t owners = refl
many_owners Ends t owners = refl
many_owners (Gets s) t owners = length-set owners s (Some (record { 0 = t }))
many_owners (Blocks s) t owners = refl
many_owners (Frees s) t owners = length-set owners s None
many_owners (Puts port word) t owners = refl
many_owners (Publishes m at count) t owners = refl
many_owners (Fetches m at) t owners = refl
many_owners (Signals u word) t owners = refl
many_owners Leaves t owners = refl

pub step_owners : (o : Outcome) (t : TaskId) (p : Plain) → length (after_outcome o t p).owners ≡ length p.owners
step_owners o t p = ap length (gift_owners o _) ∙ many_owners o t.0 p.owners

pub event_owners : (event : Event) (p : Plain) → (after_event event p).owners ≡ p.owners
event_owners (Release t time word) p = refl
event_owners (Unplug port) p = refl

-- ---- values

pub event_values : (event : Event) (p : Plain) → (after_event event p).values ≡ p.values
event_values (Release t time word) p = refl
event_values (Unplug port) p = refl

-- a step that begins no copy publishes nothing
pub acts_values : (o : Outcome) (t : TaskId) (p : Plain) → first_move o ≡ Acts o → (after_outcome o t p).values ≡ p.values
unfolding gives values_after
acts_values (Works class core shared) t p e = refl
acts_values (Falls cause) t p e = refl
acts_values (Refuses code) t p e = refl
acts_values Ends t p e = refl
acts_values (Gets s) t p e = refl
acts_values (Blocks s) t p e = refl
acts_values (Frees s) t p e = refl
acts_values (Puts port word) t p e = refl
acts_values (Publishes m at count) t p e = absurd (cc)
acts_values (Fetches m at) t p e = absurd (cc)
acts_values (Signals u word) t p e = refl
acts_values Leaves t p e = refl

-- and one that publishes puts a value behind the others of its message
pub publish_values : (m at count : ℕ) (t : TaskId) (p : Plain)
    → (after_outcome (Publishes m at count) t p).values ≡ with_value p.values m (words_at (task_at p.tasks t.0).core.own at count)
unfolding gives values_after
publish_values m at count t p = refl

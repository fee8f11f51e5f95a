-- The plain machine's image of a counted run: what the plain machine comes to beside it, and the schedule that this gives. The image takes each
-- event that is delivered, and a step of its own for each step of a task that isn't part of a copy and that it hasn't taken before. It goes
-- ahead where its selected task is one that a promise stops: by then the counted machine runs another task. This project's own.
use Rattle.std.specs.Prelude.{ℕ, zero, suc, not, ◌==◌, Bool, true, false, ◌&&◌, ◌||◌, is_some, List, [], ◌∷◌, ◌++◌, slice_index_or, Option, None, Some, if◌then◌else◌}
use Rattle.em_base.specs.declared.apps.App.{App}
use Rattle.em_base.specs.declared.events.Event.{Event}
use Rattle.em_base.specs.declared.events.Schedule.{Schedule}
use Rattle.em_base.specs.declared.ids.SemId.{SemId}
use Rattle.em_base.specs.Selection.{is_awake, stopped_by_promise}
use Rattle.em_ports.specs.Ports.{Places}
use Rattle.em_gate.specs.Boot.{boot}
use Rattle.em_gate.specs.Effects.{after_step}
use Rattle.em_gate.specs.Events.{after_event}
use Rattle.em_gate.specs.Selecting.{plain_selected}
use Rattle.em_gate.specs.State.{Counted, Plain, task_at}
use Rattle.em_kernel.specs.declared.did.StepKind.{StepKind}
use Rattle.em_kernel.specs.declared.did.StepKind.TheVariants.{Instr, Call, BeginWrite, BeginRead, Copy, Publish, Fault}
use Rattle.em_kernel.specs.declared.did.What.{What}
use Rattle.em_kernel.specs.declared.did.What.TheVariants.{Delivered, Stepped, Idled, Ended}
use Rattle.em_kernel.specs.Run.{counted_boot, fuel, is_end}
use Rattle.em_kernel.specs.Step.{step}

-- the image: a plain state, how many steps it took to come there, and the events that were put down, each with the steps before it
pub record Image : Type 0 where
  pub plain : Plain
  pub count : ℕ
  pub events : List (ℕ × Event)

-- before anything has happened
abbrev pub image_boot : App → Places → Image
image_boot app ports = record { plain = boot app ports; count = 0; events = [] }

-- ---- what it takes

-- an event, which is put down with the steps so far
abbrev pub put_down : Event → Image → Image
put_down event image = record {
  plain = after_event event image.plain;
  count = image.count;
  events = image.events ++ (image.count, event) ∷ [];
}

-- a step of a task
abbrev pub stepped_on : App → ℕ → Image → Image
stepped_on app t image = record {
  plain = after_step app.table app.image.words (record { 0 = t }) image.plain;
  count = suc image.count;
  events = image.events;
}

-- a step of its selected task, where there is one
abbrev pub by_selected : App → Image → Option ℕ → Image
by_selected app image None = image
by_selected app image (Some t) = stepped_on app t image

abbrev pub one_step : App → Image → Image
one_step app image = by_selected app image (plain_selected app.table.tasks image.plain)

-- ---- beside a step of the counted machine

-- the promise of a task
abbrev pub promise_at : List (Option SemId) → ℕ → Option SemId
promise_at promises t = slice_index_or promises t None

-- the address of a task's next instruction
abbrev pub pc_at : Plain → ℕ → ℕ
pc_at p t = (task_at p.tasks t).core.registers.pc

-- the image has gone ahead of a task: the task has a promise, and is at another instruction
abbrev pub is_ahead : Counted → ℕ → Plain → Bool
is_ahead c t p = is_some (promise_at c.promises t) && not (pc_at p t == pc_at c.plain t)

-- a step that is none of the plain machine's: the beginning of a write, or a copied word that doesn't publish
abbrev pub is_copying : StepKind → Bool
is_copying Instr = false
is_copying Call = false
is_copying BeginWrite = true
is_copying BeginRead = false
is_copying Copy = true
is_copying Publish = false
is_copying Fault = false

-- the image after a step of the counted machine that did this from a state on, before it catches up
abbrev pub moved : App → Counted → What → Image → Image
moved app c (Delivered event) image = put_down event image
moved app c (Stepped t kind) image = if is_copying kind || is_ahead c t.0 image.plain then image else one_step app image
moved app c Idled image = image
moved app c (Ended cause) image = image

-- a task of the counted machine that its promise stops
abbrev pub is_held : Counted → ℕ → Bool
is_held c t =
    is_awake (task_at c.plain.tasks t).status && is_some (stopped_by_promise c.plain.owners t (promise_at c.promises t))

-- such a task is selected by the plain machine
abbrev pub selects_held : Counted → Option ℕ → Bool
selects_held c None = false
selects_held c (Some t) = is_held c t

-- the most steps with which the image catches up: the longest private walk, and its acquire
abbrev pub most_ahead : ℕ
most_ahead = 33

-- while its selected task is one that its promise stops, the image takes a step, at most so many
unfoldable pub caught_up : App → ℕ → Counted → Image → Image
caught_up app zero c image = image
caught_up app (suc n) c image =
    if selects_held c (plain_selected app.table.tasks image.plain) then caught_up app n c (one_step app image) else image

-- the image after a step that did this, from a state and to another
abbrev pub image_after : App → Counted → Counted → What → Image → Image
image_after app c c' what image = caught_up app most_ahead c' (moved app c what image)

-- ---- beside a run

-- the image beside the steps from a state to the one that ends the run, at most so many
unfoldable pub image_from : App → ℕ → Counted → Image → Image
image_from app zero c image = image
image_from app (suc n) c image =
    if is_end (step app c).did.what then image_after app c (step app c).state (step app c).did.what image
    else image_from app n (step app c).state (image_after app c (step app c).state (step app c).did.what image)

-- the image beside the first so many steps of the run of an application with these ports
abbrev pub image_beside : App → Places → ℕ → Image
image_beside app ports n = image_from app n (counted_boot app ports) (image_boot app ports)

-- the events that an image has put down, and its steps, as a schedule
abbrev pub scheduled : Image → Schedule
scheduled image = record { events = image.events; last = image.count }

-- the schedule of the run of an application with these ports
abbrev pub schedule_of : App → Places → Schedule
schedule_of app ports = scheduled (image_beside app ports (fuel app (counted_boot app ports)))

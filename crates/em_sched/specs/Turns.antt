-- The counted machine and the image of it, turn by turn, without a clock: an event comes whenever it may, and a turn of the tasks is a step of
-- the selected one. The clock only chooses which turn is next.
use Rattle.std.specs.Prelude.{ℕ, List, [], ◌∷◌, Option, None, Some}
use Rattle.em_base.specs.declared.apps.App.{App}
use Rattle.em_base.specs.declared.events.Event.{Event}
use Rattle.em_base.specs.declared.ids.TaskId.{TaskId}
use Rattle.em_ports.specs.Ports.{Places}
use Rattle.em_gate.specs.Events.{after_event}
use Rattle.em_gate.specs.Selecting.{counted_selected}
use Rattle.em_gate.specs.State.{Counted}
use Rattle.em_kernel.specs.declared.did.What.{What}
use Rattle.em_kernel.specs.declared.did.What.TheVariants.{Delivered, Stepped, Idled, Ended}
use Rattle.em_kernel.specs.Run.{counted_boot}
use Rattle.em_kernel.specs.Moves.{Lapses, Move, after_move, move_of}
use Rattle.em_kernel.specs.Step.{kind_of, lapsed}
use Rattle.em_system.specs.Promises.{promises_after_event}
use Rattle.em_sched.specs.Image.{Image, image_after, image_boot}

-- a turn: an event, or a step of the selected task
pub data Turn : Type 0 where
  Comes : Event → Turn
  Thread : Turn

-- what a step of the task t is: a copied word of a read that has lapsed ends the run
abbrev pub move_what : Counted → TaskId → Move → What
move_what c t (Lapses m noted) = Ended (lapsed c m noted)
move_what c t move = Stepped t (kind_of move)

-- what a step of a selected task is, where there is one
abbrev pub thread_what : App → Counted → Option ℕ → What
thread_what app c None = Idled
thread_what app c (Some t) = move_what c (record { 0 = t }) (move_of app c t)

-- what a turn is to the counted machine
abbrev pub what_of : App → Counted → Turn → What
what_of app c (Comes event) = Delivered event
what_of app c Thread = thread_what app c (counted_selected app.table.tasks c)

-- the counted machine after what it did, at the same clock and with the same events left
abbrev pub acted : App → Counted → What → Counted
acted app c (Delivered event) = record c {
  plain = after_event event c.plain;
  promises = promises_after_event app event c.plain c.promises;
}
acted app c (Stepped t kind) = after_move app (move_of app c t.0) t c
acted app c Idled = c
acted app c (Ended cause) = c

-- the counted machine, with the image of it
pub record Both : Type 0 where
  pub counted : Counted
  pub image : Image

-- before anything has happened
abbrev pub both_boot : App → Places → Both
both_boot app ports = record { counted = counted_boot app ports; image = image_boot app ports }

-- after it did this
abbrev pub both_after : App → Both → What → Both
both_after app both what = record {
  counted = acted app both.counted what;
  image = image_after app both.counted (acted app both.counted what) what both.image;
}

-- after these turns
abbrev pub both_run : App → Both → List Turn → Both
both_run app both [] = both
both_run app both (turn ∷ turns) = both_run app (both_after app both (what_of app both.counted turn)) turns

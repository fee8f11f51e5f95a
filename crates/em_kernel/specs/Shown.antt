-- What a kernel shows of a task.
use Rattle.std.specs.Prelude.{ℕ, is_some, slice_index_or, None}
use Rattle.em_base.specs.declared.apps.App.{App}
use Rattle.em_base.specs.Selection.{stopper_at}
use Rattle.em_gate.specs.State.{Counted, task_at}
use Rattle.em_gate.specs.Selecting.{scene_in, statuses_of}
use Rattle.em_kernel.specs.declared.did.View.{View}

-- the task t of a state: what it does, what it has promised, whether a semaphore stops it, its own key, and its program counter
abbrev pub view_of : App → Counted → ℕ → View
view_of app c t = record {
  status = (task_at c.plain.tasks t).status;
  promise = slice_index_or c.promises t None;
  stopped = is_some (stopper_at (statuses_of c.plain.tasks) c.promises c.plain.owners t);
  key = (scene_in app.table.tasks c.plain.tasks c.promises c.plain.owners).key t;
  pc = (task_at c.plain.tasks t).core.registers.pc;
}

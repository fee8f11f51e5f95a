-- The plain machine before anything has happened: this project's own.
use Rattle.std.specs.Prelude.{ℕ, ◌-◌, ◌*◌, max, List, [], ◌∷◌, ◌++◌, length, map, replicate, None}
use Rattle.std.specs.List.{flat_map}
use Rattle.std.specs.Option.{unwrap_or}
use Rattle.em_base.specs.declared.apps.App.{App}
use Rattle.em_base.specs.declared.jobs.Status.TheVariants.{Asleep}
use Rattle.em_base.specs.declared.tables.TaskRow.{TaskRow}
use Rattle.em_base.specs.Images.{Labels, address_of}
use Rattle.em_hart.specs.Hart.{Memory, bytes_of, own_base, shared_base}
use Rattle.em_ports.specs.Ports.{Places}
use Rattle.em_gate.specs.State.{Core, Task, Plain}

-- a window of so many bytes that begins with these words, and is zero behind them
abbrev pub window : ℕ → List ℕ → ℕ → Memory
window base words size =
    record { base = base; bytes = flat_map (bytes_of 4) words ++ replicate (size - 4 * length words) 0 }

-- the address at which a task starts: that of the label of its entry
abbrev pub entry_of : Labels → TaskRow → ℕ
entry_of labels row = unwrap_or (address_of labels row.entry) 0

-- a task at its entry, with every register 0 and an own window of so many bytes, all zero
abbrev pub first_core : ℕ → Labels → TaskRow → Core
first_core own labels row = record {
  registers = record { values = replicate 32 0; pc = entry_of labels row };
  own = window own_base [] own;
}

abbrev pub first_task : ℕ → Labels → TaskRow → Task
first_task own labels row = record { core = first_core own labels row; status = Asleep; job = None; pending = []; taken = 0 }

-- the length of the shared window in bytes: the table's, or that of the shared words where that is more
abbrev pub shared_length : App → ℕ
shared_length app = max app.table.shared (4 * length app.image.shared)

-- every task is Asleep at its entry, nothing is owned, value 0 of each message is all zero, the shared window begins with the shared words,
-- and the ports are as they are handed in
abbrev pub boot : App → Places → Plain
boot app ports = record {
  tasks = map (first_task app.table.own app.image.labels) app.table.tasks;
  lasts = replicate (length app.table.tasks) None;
  arrivals = replicate (length app.table.tasks) [];
  owners = replicate app.table.semaphores None;
  values = map (λ message. replicate message.words 0 ∷ []) app.table.messages;
  ports = ports;
  shared = window shared_base app.image.shared (shared_length app);
  lines = [];
}

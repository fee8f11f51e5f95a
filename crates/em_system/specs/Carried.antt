-- What the instruction of a task came to, and what is held after it.
use Rattle.std.specs.Prelude.{◌≡◌}
use Rattle.em_base.specs.declared.ids.TaskId.{TaskId}
use Rattle.em_hart.specs.declared.answers.Stepped.{Stepped}
use Rattle.em_hart.specs.declared.answers.Stepped.TheVariants.{Ran as RanStep, Call as CallStep, Fault as FaultStep}
use Rattle.em_hart.specs.Hart.{Memory}
use Rattle.em_gate.specs.State.{Core, Plain, task_at}
use Rattle.em_gate.specs.Outcome.{Falls, Works, call_outcome, known_at, outcome}
use Rattle.em_threads.specs.Threads.{changed, with_core}
use Rattle.em_system.specs.Held.{Held}

-- an instruction that was carried out; a call or a fault, which change nothing yet
abbrev pub IsCarried : Stepped → Held → Held → TaskId → Plain → Type 0
IsCarried (RanStep class) held held' t p =
    (core : Core) × (shared : Memory)
    × (outcome held.app.table held.app.image.words t.0 p ≡ Works class core shared)
    × (held' ≡ record held { threads = changed (with_core core) t.0 held.threads; shared = shared })
IsCarried CallStep held held' t p =
    (outcome held.app.table held.app.image.words t.0 p
    ≡ call_outcome held.app.table t.0 (known_at p t.0) p.owners (task_at p.tasks t.0).core)
    × (held' ≡ held)
IsCarried (FaultStep cause) held held' t p =
    (outcome held.app.table held.app.image.words t.0 p ≡ Falls cause) × (held' ≡ held)

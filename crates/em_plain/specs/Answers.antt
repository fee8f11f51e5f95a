-- What the answers of a plain run say.
use Rattle.std.specs.Prelude.{◌≡◌, ℕ, true, false, ⊤}
use Rattle.em_base.specs.declared.apps.App.{App}
use Rattle.em_base.specs.declared.events.Schedule.{Schedule}
use Rattle.em_ports.specs.Ports.{Places}
use Rattle.em_gate.specs.Boot.{boot}
use Rattle.em_plain.specs.declared.running.PlainFail.{PlainFail}
use Rattle.em_plain.specs.declared.running.PlainFail.TheVariants.{Misfit as MisfitFail, NoMemory}
use Rattle.em_plain.specs.declared.running.PlainRun.{PlainRun}
use Rattle.em_plain.specs.Runs.{Went, On, Full, Misfit, part_from, state_of}

-- a run that came to its last count, or to a full trace: its lines, how many steps there were, and whether the trace was full
abbrev pub IsRunOf : Went → PlainRun → Type 0
IsRunOf (On p count) run = (run.lines ≡ p.lines) × (run.count ≡ count) × (run.full ≡ false)
IsRunOf (Full p count) run = (run.lines ≡ p.lines) × (run.count ≡ count) × (run.full ≡ true)
IsRunOf (Misfit p count) run = ⊥

-- a run that asked for a step where no task is selected, after so many steps; running out of memory needs no cause
abbrev pub IsFailOf : Went → PlainFail → Type 0
IsFailOf went NoMemory = ⊤
IsFailOf (Misfit p count) (MisfitFail n) = n ≡ count
IsFailOf (On p count) (MisfitFail n) = ⊥
IsFailOf (Full p count) (MisfitFail n) = ⊥

-- the ports of a state that the run passes: after some of the events of its schedule, and some of the steps up to what comes next
abbrev pub ArePartWay : App → Schedule → Places → Places → Type 0
ArePartWay app schedule before after =
    (part : ℕ × ℕ) × (after ≡ (state_of (part_from app (boot app before) schedule part)).ports)

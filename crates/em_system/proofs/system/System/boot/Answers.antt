use Rattle.std.proofs.Common.{◌≡◌, replicate, length, All, None}
use Rattle.std.proofs.lemmas.Result.{IfOk-weaker}
use Rattle.em_gate.specs.Boot.{boot}
use Rattle.em_system.specs.Held.{Held, Holds, held_boot, selected_of, tasks_of}
use Rattle.em_system.specs.Sound.{IsSound}
use Rattle.em_system.proofs.Started.{held_first, idle_first, sound_first}
use Rattle.em_system.proofs.system.System.boot.Goals as goal

pub returns-clause-holds : goal.returns-clause-holds
returns-clause-holds c = λ places.
    let app = c.args.app.now in
    IfOk-weaker c.new.result (λ (system : Held). system ≡ held_boot app) (λ (system : Held). Holds system (boot app places) (replicate (length app.table.tasks) None))
    (λ system is. held_first app system places is) c.new.ensures

pub returns-clause-sound : goal.returns-clause-sound
returns-clause-sound c =
    let app = c.args.app.now in
    IfOk-weaker c.new.result (λ (system : Held). system ≡ held_boot app) (λ (system : Held). All (IsSound 0) (tasks_of system.threads))
    (λ system is. sound_first app system is) c.new.ensures

pub returns-clause-idle : goal.returns-clause-idle
returns-clause-idle c =
    let app = c.args.app.now in
    IfOk-weaker c.new.result (λ (system : Held). system ≡ held_boot app) (λ (system : Held). selected_of system ≡ None)
    (λ system is. idle_first app system is) c.new.ensures

use Rattle.std.proofs.Common.{◌∙◌, ◌+◌, ◌<◌, [], All, length, sym, ap, subst, arith}
use Rattle.em_gate.specs.State.{Plain, Task}
use Rattle.em_system.specs.Held.{promises_of, tasks_of}
use Rattle.em_system.specs.Possible.{IsPossible}
use Rattle.em_system.specs.Sound.{IsSound}
use Rattle.em_system.proofs.Owns.{own_at, own_given}
use Rattle.em_system.proofs.Parts.{plain_holds, plain_of}
use Rattle.em_system.proofs.Scenes.{task_here}
use Rattle.em_system.proofs.Sound.{sound_anywhere, sound_given}
use Rattle.em_system.proofs.Steps.{released}
use Rattle.em_system.proofs.system.System.happen.Goals as goal

pub release_job-requires-clause-exists : goal.release_job-requires-clause-exists
release_job-requires-clause-exists g c = (subst (IsPossible (length c.args.self.now.app.table.tasks)) c.in-Release.is c.requires.possible).0

pub release_job-requires-clause-few : goal.release_job-requires-clause-few
release_job-requires-clause-few g c =
    let threads = c.args.self.now.threads in
    let t = c.in-Release.task.0 in
    let few = (sound_anywhere c.requires.sound.0 (tasks_of threads) t c.requires.sound.2).few in
    subst (λ (task : Task). task.taken < 9223372036854775808) (task_here threads t) (omega (arith, few, c.requires.sound.1))

pub returns-in-Release-clause-step : goal.returns-in-Release-clause-step
returns-in-Release-clause-step g c = λ p promises s seen.
    let did = c.release_job.ensures.step p promises s in
    released c.args.self.now.app p promises c.in-Release.task c.in-Release.time c.in-Release.word c.in-Release.is did.0 seen did.1

pub returns-in-Release-clause-sound : goal.returns-in-Release-clause-sound
returns-in-Release-clause-sound g c = λ n sound.
    let held = c.args.self.now in
    let before : Plain = plain_of held [] in
    let did = c.release_job.ensures.step before (promises_of held.threads) (plain_holds held []) in
    let early = (subst (IsPossible (length held.app.table.tasks)) c.in-Release.is c.requires.possible).1 in
    subst (All (IsSound (n + 1))) (sym did.0.tasks) (sound_given c.in-Release.task.0 c.in-Release.time c.in-Release.word before n early sound)

pub returns-in-Release-clause-windows : goal.returns-in-Release-clause-windows
returns-in-Release-clause-windows g c = λ u.
    let held = c.args.self.now in
    let before : Plain = plain_of held [] in
    let did = c.release_job.ensures.step before (promises_of held.threads) (plain_holds held []) in
    ap (λ tasks. own_at tasks u) did.0.tasks ∙ own_given c.in-Release.task.0 c.in-Release.time c.in-Release.word before u

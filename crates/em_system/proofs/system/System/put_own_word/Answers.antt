use Rattle.std.proofs.Common.{◌∙◌, ◌*◌, ◌<◌, All, length, sym, ap, subst, arith}
use Rattle.em_gate.specs.State.{Core}
use Rattle.em_hart.specs.Hart.{with_number}
use Rattle.em_threads.specs.Threads.{thread_at}
use Rattle.em_system.specs.Held.{Held, selected_of, tasks_of}
use Rattle.em_system.specs.Sound.{IsSound}
use Rattle.em_system.proofs.Words.{core_selects, core_sound}
use Rattle.em_system.proofs.system.System.put_own_word.Goals as goal

pub returns-clause-same : goal.returns-clause-same
returns-clause-same c =
    let inside : Held = record { app = c.self.inside.app.now; threads = c.self.inside.threads; owners = c.self.inside.owners.items; shared = c.self.inside.shared } in
    let t = c.args.t.0 in
    let within : t < length inside.threads = omega (arith, c.requires.exists, ap (λ held. length held.threads) c.self.view_is) in
    let before : Core = (thread_at inside.threads t).task.core in
    let core : Core = record before { own = record before.own { bytes = with_number before.own.bytes 4 (4 * c.word_number-number.result) c.args.w } } in
    ap (λ threads. selected_of (record inside { threads = threads })) c.set_word.ensures.whole
    ∙ core_selects inside core t within ∙ ap (λ (held : Held). selected_of held) c.self.view_is

pub returns-clause-sound : goal.returns-clause-sound
returns-clause-sound c = λ n sound.
    let threads = c.self.inside.threads in
    let t = c.args.t.0 in
    let before : Core = (thread_at threads t).task.core in
    let core : Core = record before { own = record before.own { bytes = with_number before.own.bytes 4 (4 * c.word_number-number.result) c.args.w } } in
    subst (λ ts. All (IsSound n) (tasks_of ts)) (sym c.set_word.ensures.whole)
    (core_sound n core t threads (subst (λ (held : Held). All (IsSound n) (tasks_of held.threads)) (sym c.self.view_is) sound))

use Rattle.std.proofs.Common.{◌∙◌, All, sym, ap, subst}
use Rattle.em_gate.specs.Effects.{after_answer}
use Rattle.em_threads.specs.Threads.{thread_at}
use Rattle.em_system.specs.Held.{Held, selected_of, tasks_of}
use Rattle.em_system.specs.Sound.{IsSound}
use Rattle.em_system.proofs.Words.{core_selects, core_sound}
use Rattle.em_system.proofs.system.System.finish_call.Goals as goal

pub returns-clause-same : goal.returns-clause-same
returns-clause-same c =
    let held = c.args.self.now in
    let core = after_answer 0 (thread_at held.threads c.args.t.0).task.core in
    ap (λ (h : Held). selected_of h) c.answer.ensures ∙ core_selects held core c.args.t.0 c.requires.exists

pub returns-clause-sound : goal.returns-clause-sound
returns-clause-sound c = λ n sound.
    let held = c.args.self.now in
    let core = after_answer 0 (thread_at held.threads c.args.t.0).task.core in
    subst (λ (h : Held). All (IsSound n) (tasks_of h.threads)) (sym c.answer.ensures) (core_sound n core c.args.t.0 held.threads sound)

use Rattle.std.proofs.Common.{rules, ◌≡◌, ◌∙◌, ◌<◌, ◌+◌, ℕ, All, length, sym, ap, subst, arith}
use Rattle.std.proofs.lemmas.List.{take_at}
use Rattle.em_base.specs.Selection.{selected}
use Rattle.em_threads.specs.Threads.{thread_at}
use Rattle.em_gate.specs.Selecting.{scene_in}
use Rattle.em_system.specs.Held.{Held, tasks_of, promises_of}
use Rattle.em_system.specs.Sound.{IsSound}
use Rattle.em_system.proofs.Holding.{IsBare}
use Rattle.em_system.proofs.Parts.{bare_selects, early_threads}
use Rattle.em_system.specs.Standings.{rank_at, scene_from, standing_at, standing_of}
use Rattle.em_system.proofs.Scenes.{length_ranks, scene_is}
use Rattle.em_system.proofs.system.System.select.Goals as goal

pub look-requires-clause-ranked : goal.look-requires-clause-ranked
look-requires-clause-ranked c =
    ap (λ ranks. length ranks) (c.deref.ensures.value ∙ c.self.invariant.ranked) ∙ length_ranks c.self.inside.app.now.table.tasks ∙ sym c.self.invariant.all

pub returns-clause-selected : goal.returns-clause-selected
returns-clause-selected c =
    let rows = c.self.inside.app.now.table.tasks in
    let threads = c.self.inside.threads in
    let owners = c.self.inside.owners.items in
    let looked : c.deref-3.result.now ≡ c.look.new.standings = search (rules, take_at) in
    let seen : length c.look.new.standings ≡ length threads =
    c.look.ensures.count ∙ ap (λ s. length s) c.deref_mut.ensures.value ∙ c.self.invariant.seen ∙ sym c.self.invariant.all in
    let each : (t : ℕ) → t < length threads → standing_at c.look.new.standings t ≡ standing_of (rank_at c.deref.result.now t) owners t (thread_at threads t) =
    λ t h. c.look.ensures.each t h ∙ ap (λ os. standing_of (rank_at c.deref.result.now t) os t (thread_at threads t)) c.deref-2.ensures.value in
    let scene = scene_is rows threads owners c.look.new.standings c.deref.result.now (c.len.result + 1)
    (c.deref.ensures.value ∙ c.self.invariant.ranked) c.self.invariant.all seen (omega (arith, c.len.ensures)) each in
    c.task_of.ensures ∙ c.select.ensures ∙ ap (λ s. selected (scene_from (c.len.result + 1) s)) looked ∙ ap selected scene
    ∙ ap (λ held. selected (scene_in held.app.table.tasks (tasks_of held.threads) (promises_of held.threads) held.owners)) c.self.view_is

pub look-requires-clause-early : goal.look-requires-clause-early
look-requires-clause-early c =
    early_threads c.requires.sound.0 c.self.inside.threads
    (subst (λ (held : Held). All (IsSound c.requires.sound.0) (tasks_of held.threads)) (sym c.self.view_is) c.requires.sound.1)

pub returns-clause-plain : goal.returns-clause-plain
returns-clause-plain c = λ p promises s.
    let held = c.args.self.now in
    let bare = subst (λ (h : Held). All IsBare h.threads) c.self.view_is c.self.invariant.bare in
    returns-clause-selected c ∙ bare_selects held p promises bare s

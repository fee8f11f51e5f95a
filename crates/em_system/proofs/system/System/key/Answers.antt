use Rattle.std.proofs.Common.{IfSome, ◌≡◌, ◌∙◌, ◌<◌, ◌^◌, All, length, slice_index_or, sym, ap, subst, arith}
use Rattle.std.proofs.lemmas.List.{get_or_read}
use Rattle.em_base.specs.Selection.{no_key}
use Rattle.em_gate.specs.Selecting.{keys_of}
use Rattle.em_threads.specs.Threads.{thread_at}
use Rattle.em_system.specs.Held.{Held, tasks_of}
use Rattle.em_system.specs.Sound.{IsSound}
use Rattle.em_system.specs.Standings.{no_rank, rank_at, ranked_key, ranks_of}
use Rattle.em_system.proofs.Parts.{early_threads}
use Rattle.em_system.proofs.Scenes.{key_here, length_ranks}
use Rattle.em_system.proofs.system.System.key.Goals as goal

pub index-requires : goal.index-requires
index-requires c =
    let t = c.args.t.0 in
    let rows = c.self.inside.app.now.table.tasks in
    let inside : t < length rows = subst (λ (held : Held). t < length held.app.table.tasks) (sym c.self.view_is) c.requires.exists in
    let many : length c.self.inside.ranks.items ≡ length rows = ap (λ ranks. length ranks) c.self.invariant.ranked ∙ length_ranks rows in
    omega (arith, inside, many, c.from.ensures, c.self.inside.ranks.ok)

pub key-requires : goal.key-requires
key-requires c =
    let t = c.args.t.0 in
    let n = c.requires.sound.0 in
    let threads = c.self.inside.threads in
    let inside : t < length threads = subst (λ k. t < k) (sym c.self.invariant.all) (subst (λ (held : Held). t < length held.app.table.tasks) (sym c.self.view_is) c.requires.exists) in
    let early : IfSome (thread_at threads t).task.job (λ job. job.arrival < 2 ^ 63) =
    early_threads n threads (subst (λ (held : Held). All (IsSound n) (tasks_of held.threads)) (sym c.self.view_is) c.requires.sound.1) t inside in
    record { early = subst (λ job. IfSome job (λ j. j.arrival < 2 ^ 63)) (sym c.job.ensures) early }

pub returns : goal.returns
returns c = λ p promises s.
    let t = c.args.t.0 in
    let held = c.args.self.now in
    let rows = held.app.table.tasks in
    let ranked : c.self.inside.ranks.items ≡ ranks_of rows = c.self.invariant.ranked ∙ ap (λ k. ranks_of k.app.table.tasks) c.self.view_is in
    let count : length c.self.inside.ranks.items ≡ length rows = ap (λ ranks. length ranks) ranked ∙ length_ranks rows in
    let place : c.from.result ≡ t = c.from.ensures in
    let rank : c.index.result.now ≡ rank_at (ranks_of rows) t =
    get_or_read c.self.inside.ranks.items _ _ (omega (arith, c.requires.exists, count, place)) c.index.ensures no_rank
    ∙ ap (λ n. rank_at c.self.inside.ranks.items n) place ∙ ap (λ ranks. rank_at ranks t) ranked in
    let job : c.job.result ≡ (thread_at held.threads t).task.job = c.job.ensures ∙ ap (λ k. (thread_at k.threads t).task.job) c.self.view_is in
    c.key.ensures ∙ ap (λ r. ranked_key r t c.job.result) rank ∙ ap (λ j. ranked_key (rank_at (ranks_of rows) t) t j) job
    ∙ key_here rows held.threads t c.requires.exists
    ∙ ap (λ tasks. slice_index_or (keys_of rows tasks) t no_key) s.tasks

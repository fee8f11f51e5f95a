use Rattle.std.proofs.Common.{◌≡◌, ◌∙◌, ◌+◌, ◌-◌, ◌*◌, length, slice_set, true, sym, ap, subst}
use Rattle.std.specs.List.{range_with_len}
use Rattle.std.proofs.lemmas.List.{length-map}
use Rattle.std.proofs.lemmas.List.FromFn.{length-range_with_len}
use Rattle.em_gate.specs.Calls.{is_in_own, words_of}
use Rattle.em_gate.specs.Effects.{after_outcome, words_at}
use Rattle.em_gate.specs.Outcome.{Outcome, Publishes}
use Rattle.em_hart.specs.Hart.{Memory, number_in_bytes}
use Rattle.em_plain.specs.Boards.{AreBoards, AreReady, posted, posted_at}
use Rattle.em_system.specs.Held.{Held, Holds}
use Rattle.em_system.specs.Windows.{core_in}
use Rattle.em_plain.proofs.Boarding.{board_there, ready_posted, sized_at}
use Rattle.em_plain.proofs.Messages.{boards_written, holds_written, written_line}
use Rattle.em_plain.proofs.answering.write.Goals as goal

pub publish-number-requires-clause-inside : goal.publish-number-requires-clause-inside
publish-number-requires-clause-inside c =
    let table = c.args.system.now.app.table in
    subst (λ n. is_in_own table.own n c.args.at ≡ true) (sym (sized_at table c.requires.ready.0 c.args.boards.now c.args.msg.0 c.requires.ready.2)) c.requires.inside.inside

pub returns-clause-step : goal.returns-clause-step
returns-clause-step c = λ p promises s are.
    let held = c.args.system.now in
    let table = held.app.table in
    let boards = c.args.boards.now in
    let t = c.args.t in
    let m = c.args.msg.0 in
    let count = words_of table m in
    let o : Outcome = Publishes m c.args.at count in
    let own : Memory = (core_in held.threads t.0).own in
    let there = board_there table c.requires.ready.0 boards m c.requires.ready.2 c.requires.inside.exists in
    let sized = sized_at table c.requires.ready.0 boards m c.requires.ready.2 in
    let after = c.publish-number.ensures.whole ∙ ap (λ n. slice_set boards m (posted (words_at own c.args.at n) (posted_at boards m))) sized in (
      subst (λ (h : Held). Holds h (after_outcome o t p) promises) (sym c.finish_call.ensures.whole) (holds_written held p promises t m c.args.at count c.requires.exists s),
      subst (λ bs. AreBoards bs (after_outcome o t p).values) (sym after) (boards_written held p promises boards t m c.args.at count s are there),
      written_line p boards t c.args.msg c.args.at count c.publish-number.result are there c.publish-number.ensures.number,
    )

pub returns-clause-ready : goal.returns-clause-ready
returns-clause-ready c = λ n ready.
    let held = c.args.system.now in
    let boards = c.args.boards.now in
    let m = c.args.msg.0 in
    let own : Memory = (core_in held.threads c.args.t.0).own in
    let count = length (posted_at boards m).words in
    let there = board_there held.app.table n boards m ready c.requires.inside.exists in
    let same = length-map (range_with_len 0 count) (λ i. number_in_bytes own.bytes 4 (c.args.at - own.base + 4 * i)) ∙ length-range_with_len 0 count in
    subst (AreReady held.app.table (n + 1)) (sym c.publish-number.ensures.whole) (ready_posted held.app.table n boards m (words_at own c.args.at count) ready there same)

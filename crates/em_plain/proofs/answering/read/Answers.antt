use Rattle.std.proofs.Common.{◌≡◌, ◌∙◌, true, sym, ap, subst}
use Rattle.em_gate.specs.Calls.{is_in_own}
use Rattle.em_gate.specs.Effects.{after_outcome}
use Rattle.em_gate.specs.Outcome.{Outcome, Fetches}
use Rattle.em_plain.specs.Boards.{posted_at}
use Rattle.em_system.specs.Held.{Held, Holds, held_answered}
use Rattle.em_plain.proofs.Boarding.{board_there, sized_at}
use Rattle.em_plain.proofs.Messages.{boards_read, holds_read, read_line, shows_newest}
use Rattle.em_plain.proofs.answering.read.Goals as goal

pub fetch-number-requires-clause-inside : goal.fetch-number-requires-clause-inside
fetch-number-requires-clause-inside c =
    let table = c.args.system.now.app.table in
    subst (λ n. is_in_own table.own n c.args.at ≡ true) (sym (sized_at table c.requires.ready.0 c.args.boards.now c.args.msg.0 c.requires.ready.1)) c.requires.inside.inside

pub returns-clause-step : goal.returns-clause-step
returns-clause-step c = λ p promises s are.
    let held = c.args.system.now in
    let boards = c.args.boards.now in
    let t = c.args.t in
    let m = c.args.msg.0 in
    let o : Outcome = Fetches m c.args.at in
    let there = board_there held.app.table c.requires.ready.0 boards m c.requires.ready.1 c.requires.inside.exists in
    let words = (posted_at boards m).words in (
      subst (λ (h : Held). Holds h (after_outcome o t p) promises) (sym (c.finish_call.ensures.whole ∙ ap (λ (h : Held). held_answered t.0 0 h) c.fetch-number.ensures.whole))
          (holds_read held p promises t m c.args.at words (shows_newest p boards m are there) c.requires.exists s),
      boards_read p boards t m c.args.at are,
      read_line p boards t c.args.msg c.args.at c.fetch-number.result are there c.fetch-number.ensures.number,
    )

pub returns-clause-sound : goal.returns-clause-sound
returns-clause-sound c = λ n sound. c.finish_call.ensures.sound n (c.fetch-number.ensures.sound n sound)

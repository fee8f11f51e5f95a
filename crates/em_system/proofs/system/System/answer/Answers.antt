use Rattle.std.proofs.Common.{◌∙◌, ◌+◌, ◌%◌, ◌^◌, ◌<◌, List, length, ap, arith}
use Rattle.em_hart.specs.Hart.{Registers, with_pc}
use Rattle.em_threads.specs.Threads.{Thread, thread_at, changed, with_registers}
use Rattle.em_system.specs.Held.{Held, held_answered}
use Rattle.em_system.proofs.Changes.{answered_is}
use Rattle.em_system.proofs.system.System.answer.Goals as goal

pub returns : goal.returns
returns c =
    let first : List Thread = c.set.new.self in
    let within : c.args.t.0 < length c.self.inside.threads = omega (arith, c.requires.exists, ap (λ held. length held.threads) c.self.view_is) in
    let t = c.args.t.0 in
    let now : Registers = (thread_at first t).task.core.registers in
    let at_call = c.pc-pc.ensures ∙ ap (λ r. r.pc) c.regs.ensures in
    let moved = ap (λ pc. changed (with_registers (with_pc now ((pc + 4) % 2 ^ 32))) t first) at_call in
    let threads = c.jump.ensures.whole ∙ moved
    ∙ answered_is c.self.inside.threads t c.args.answer within first c.set.ensures.whole in
    let whole : Held = record { app = c.self.inside.app.now; threads = c.jump.new.self; owners = c.self.inside.owners.items; shared = c.self.inside.shared } in
    ap (λ ts. record whole { threads = ts }) threads ∙ ap (λ held. held_answered t c.args.answer held) c.self.view_is

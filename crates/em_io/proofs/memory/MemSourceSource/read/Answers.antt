use Rattle.std.proofs.Common.{ℕ, ◌+◌, ◌-◌, take, drop, Some, ap, sym, ◌∙◌, arith, length-take}
use Rattle.em_io.specs.Memory.{Supply}
use Rattle.em_io.proofs.ByteLemmas.{drop-copied}
use Rattle.em_io.proofs.memory.MemSourceSource.read.Goals as goal

pub returns-clause-gives : goal.returns-clause-gives
returns-clause-gives c =
    let at = c.self.inside.at in
    let bytes = c.self.inside.bytes.items in
    let count = c.min-count.result in
    ap (λ (supply : Supply). Some supply.left) (sym c.self.view_is)
    ∙ ap Some
    (drop-copied
    bytes
    c.args.buf.now
    c.copy_from_slice.new.self
    at
    count
    (omega (arith, c.copy_from_slice.ensures.len, length-take {A = ℕ}))
    (c.copy_from_slice.ensures.after ∙ ap (λ all. take (at + count - at) (drop at all)) c.deref-2.ensures.value))

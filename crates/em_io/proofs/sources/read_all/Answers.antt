use Rattle.std.proofs.Common.{◌≡◌, ℕ, ◌+◌, ◌≤◌, take, arith, length-take}
use Rattle.em_io.specs.Bytes.{input_limit}
use Rattle.em_io.proofs.ByteLemmas.{took_more}
use Rattle.em_io.proofs.sources.read_all.Goals as goal

pub returns-then-count-room-clause-too_long : goal.returns-then-count-room-clause-too_long
returns-then-count-room-clause-too_long g c = λ _.
    let count = c.in_ok-count.count in
    took_more (λ n. n ≡ input_limit + 1) c.loop-bytes.bytes.items (take count c.read.new.buf)
    (g.S.Source.left c.args.src.now) (g.S.Source.left c.loop-bytes.src) (g.S.Source.left c.read.new.self)
    c.loop-bytes.invariant.taken c.in_ok-count.ensures.gives
    (omega (arith, c.in_ok-count.ensures.count, length-take {A = ℕ}))

pub returns-in_err-extend_from_slice-clause-short : goal.returns-in_err-extend_from_slice-clause-short
returns-in_err-extend_from_slice-clause-short g c = λ _.
    let count = c.in_ok-count.count in
    took_more (λ n. n ≤ input_limit) c.loop-bytes.bytes.items (take count c.read.new.buf)
    (g.S.Source.left c.args.src.now) (g.S.Source.left c.loop-bytes.src) (g.S.Source.left c.read.new.self)
    c.loop-bytes.invariant.taken c.in_ok-count.ensures.gives
    (omega (arith, c.in_ok-count.ensures.count, length-take {A = ℕ}))

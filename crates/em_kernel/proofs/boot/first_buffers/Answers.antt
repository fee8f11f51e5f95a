use Rattle.em_kernel.proofs.Booted.{first_more}
use Rattle.em_kernel.proofs.boot.first_buffers.Goals as goal

pub loop-m-preserved : goal.loop-m-preserved
loop-m-preserved c =
    first_more c.args.table.now c.loop-m.m c.loop-m.buffers.items c.push.new.self.items c.in_ok-first_buffer.field-0 c.in_ok-push.ensures.items
    c.loop-m.invariant.0 c.loop-m.invariant.1 c.in_ok-first_buffer.ensures

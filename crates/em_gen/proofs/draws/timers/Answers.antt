use Rattle.em_gen.specs.Workload as spec
use Rattle.em_gen.proofs.DrawnTasks.{tasks-all, tasks-next}
use Rattle.em_gen.proofs.draws.timers.Goals as goal

pub loop-number-preserved : goal.loop-number-preserved
loop-number-preserved c =
    tasks-next (spec.timers c.args.n) c.loop-number.tasks.items c.push.new.self.items c.loop-number.number 15
    c.loop-number.numbers.last c.next.new.self.last c.next.result c.drawn_task.result c.loop-number-test.true
    c.next.ensures.last c.next.ensures.upper c.drawn_task.ensures c.in_ok-push.ensures.items
    c.loop-number.invariant

pub returns : goal.returns
returns c =
    tasks-all (spec.timers c.args.n) c.loop-number.tasks.items c.loop-number.number 15 c.loop-number.numbers.last
    c.loop-number-test.false c.loop-number.invariant

use Rattle.em_sched.proofs.Sights.{stands_more}
use Rattle.em_sched.proofs.counter.Counter.see.Goals as goal

pub returns-clause-stands : goal.returns-clause-stands
returns-clause-stands c = λ app steps stands. stands_more app c.args.self.now c.note.new.self steps c.args.did.now _ c.note.ensures.count c.note.ensures.events stands

use Rattle.std.proofs.Common.{refl}
use Rattle.em_sched.proofs.Sights.{stands_first}
use Rattle.em_sched.proofs.counter.Counter.new.Goals as goal

pub returns-clause-stands : goal.returns-clause-stands
returns-clause-stands c = stands_first c.args.app.now (record { count = 0; events = c.in_ok-with_capacity.field-0.items; places = c.most_events-places.result }) refl c.in_ok-with_capacity.ensures.items

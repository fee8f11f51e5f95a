use Rattle.em_script.proofs.EventsInOrder.{last-none, last-some}
use Rattle.em_script.proofs.events.last_time.Goals as goal

pub returns-in-Some : goal.returns-in-Some
returns-in-Some c = last-some c.args.events.now c.in-Some.event.now c.in-Some.ensures.value

pub returns-in-None : goal.returns-in-None
returns-in-None c = last-none c.args.events.now c.in-None.ensures.value

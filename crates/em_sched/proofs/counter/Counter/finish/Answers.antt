use Rattle.std.proofs.Common.{ap, ◌∙◌}
use Rattle.em_sched.specs.Seen.{Tally}
use Rattle.em_sched.proofs.Sights.{as_schedule, finishes}
use Rattle.em_sched.proofs.counter.Counter.finish.Goals as goal

pub returns-clause-schedule : goal.returns-clause-schedule
returns-clause-schedule c = λ app steps ports stands is none seen.
    ap (λ es. as_schedule es c.self.inside.count) c.from_vec.ensures
    ∙ ap (λ (t : Tally). as_schedule t.events t.count) c.self.view_is
    ∙ finishes app c.args.self steps ports stands is none seen

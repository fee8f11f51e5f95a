use Rattle.em_bundle.proofs.Loaded.{complete, refuses, scheduled, schedules, waits_found}
use Rattle.em_bundle.proofs.loading.load.Goals as goal

pub returns-clause-complete : goal.returns-clause-complete
returns-clause-complete c = λ app a.
    complete c.args.replay c.args.bytes.now c.load_bytes.result app (c.one_application.ensures.app c.args.replay c.args.bytes.now) (c.one_application.ensures.either c.args.replay c.args.bytes.now)
    c.load_bytes.ensures.app c.load_bytes.ensures.refused a

pub returns-clause-refuses : goal.returns-clause-refuses
returns-clause-refuses c = λ refusal r.
    refuses c.args.replay c.args.bytes.now c.load_bytes.result refusal (c.one_application.ensures.refusal c.args.replay c.args.bytes.now) (c.one_application.ensures.either c.args.replay c.args.bytes.now)
    c.load_bytes.ensures.app c.load_bytes.ensures.refused r

pub returns-clause-scheduled : goal.returns-clause-scheduled
returns-clause-scheduled c = scheduled c.args.replay c.args.bytes.now c.load_bytes.result c.load_bytes.ensures.app

pub returns-clause-schedule : goal.returns-clause-schedule
returns-clause-schedule c = schedules c.args.replay c.args.bytes.now c.load_bytes.result c.load_bytes.ensures.app

pub returns-clause-waits : goal.returns-clause-waits
returns-clause-waits c =
    waits_found c.args.replay c.args.bytes.now c.load_bytes.result (c.sound_application.ensures.waits c.args.replay c.args.bytes.now) c.load_bytes.ensures.app

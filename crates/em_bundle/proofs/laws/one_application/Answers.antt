use Rattle.em_bundle.proofs.OneApplication.{Laws, application_or_refused, one_application}
use Rattle.em_bundle.proofs.OneRefusal.{one_refusal}
use Rattle.em_bundle.proofs.SomeApplication.{some_application}
use Rattle.em_bundle.proofs.laws.one_application.Goals as goal

pub returns : goal.returns
returns c =
    let laws : Laws = record {
      line_or_fault = c.one_meaning.ensures.some;
      one_line = c.one_meaning.ensures.line;
      one_fault = c.one_meaning.ensures.fault;
      line_not_fault = c.one_meaning.ensures.either;
      image_or_refusal = c.one_image.ensures.some;
      one_image = c.one_image.ensures.image;
      one_image_refusal = c.one_image.ensures.refusal;
      image_not_refusal = c.one_image.ensures.either;
      some_hints = c.one_map.ensures.some;
      one_hints = c.one_map.ensures.same;
      right_or_refusal = c.one_map.ensures.decided;
      one_hint_refusal = c.one_map.ensures.refusal;
      right_not_refusal = c.one_map.ensures.either;
      script_or_refusal = c.one_script.ensures.some;
      one_script = c.one_script.ensures.events;
      one_script_refusal = c.one_script.ensures.refusal;
      script_not_refusal = c.one_script.ensures.either;
      schedule_or_refusal = c.one_schedule.ensures.some;
      one_schedule = c.one_schedule.ensures.schedule;
      one_schedule_refusal = c.one_schedule.ensures.refusal;
      schedule_not_refusal = c.one_schedule.ensures.either;
    } in
    record { some = some_application laws; app = one_application laws; refusal = one_refusal laws; either = application_or_refused laws }

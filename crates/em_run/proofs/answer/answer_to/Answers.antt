use Rattle.std.proofs.Common.{◌∙◌, subst, arith}
use Rattle.em_base.proofs.LineCounts.{length-lines}
use Rattle.em_run.proofs.Outputs.{app_due, has_schedule, refusal_due, stands_for, refused_for}
use Rattle.em_run.specs.Texts.{IsRefusalAnswer, text_bytes}
use Rattle.em_run.proofs.answer.answer_to.Goals as goal

pub load-requires : goal.load-requires
load-requires g c = omega (arith, length-lines c.args.bytes.now)

pub app_answer-requires-clause-schedule : goal.app_answer-requires-clause-schedule
app_answer-requires-clause-schedule g c = λ replay.
    has_schedule _ c.in-Ok.app.schedule (c.in-Ok.ensures.scheduled ∙ c.has_schedule.ensures ∙ replay) c.in-Ok.ensures.schedule

pub returns-in-Ok : goal.returns-in-Ok
returns-in-Ok g c =
    app_due _ _ _ _ _ _ _ (stands_for _ _ _ _ c.has_schedule.ensures c.in-Ok.ensures.app) c.app_answer.ensures

pub returns-in-Err-Refused : goal.returns-in-Err-Refused
returns-in-Err-Refused g c =
    refusal_due _ _ _ _ _ _ (refused_for _ _ _ _ _ c.has_schedule.ensures c.in-Err-Refused.field-0-is c.in-Err-Refused.ensures.refused) (subst (λ r. IsRefusalAnswer r c.refusal_answer.result.status (text_bytes c.refusal_answer.result.text)) c.in-Err-Refused.refusal-is c.refusal_answer.ensures)

use Rattle.std.proofs.Common.{IfOk, IfErr, length, ap, subst}
use Rattle.std.specs.Str.Lines.{lines}
use Rattle.em_trace.specs.Schedules.{IsScheduleOf}
use Rattle.em_trace.specs.ScheduleFaults.{IsScheduleFail}
use Rattle.em_trace.proofs.OneSchedule.{answers_refusal, answers_schedule}
use Rattle.em_trace.proofs.schedule_reading.read_schedule.Goals as goal

pub returns : goal.returns
returns c =
    let tasks = length c.args.table.now.tasks in
    let texts = lines c.args.text.now in
    let result = c.read_lines.result in
    let rows = ap length c.as_slice.ensures in
    let ok : IfOk result (IsScheduleOf tasks texts) = subst (λ n. IfOk result (IsScheduleOf n texts)) rows c.read_lines.ensures.schedule in
    let err : IfErr result (IsScheduleFail c.args.first tasks texts) = subst (λ n. IfErr result (IsScheduleFail c.args.first n texts)) rows c.read_lines.ensures.refused in
    record {
      schedule = ok;
      refused = err;
      complete = λ s a. answers_schedule c.args.first tasks texts s result ok err a;
      refuses = λ refusal r. answers_refusal c.args.first tasks texts refusal result ok err r;
    }

use Rattle.std.proofs.Common.{◌+◌, ◌++◌, length, sym, ap, subst, ◌∙◌, arith}
use Rattle.std.proofs.lemmas.Iterator.Consumers.{YieldsList-end, YieldsList-turn}
use Rattle.std.proofs.lemmas.Iterator.Splits.{YieldsList-from_lines}
use Rattle.std.proofs.lemmas.List.{length_push}
use Rattle.std.specs.Str.Lines.{lines}
use Rattle.em_trace.specs.ScheduleFaults.{AreRefused, refusal_at}
use Rattle.em_trace.specs.ScheduleWords.{events_in, last_in}
use Rattle.em_trace.specs.declared.schedule_faults.Fault.TheVariants.{Form}
use Rattle.em_trace.proofs.ScheduleSteps.{IsOpen, IsSoFar, so_far-fault, so_far-missing, so_far-next, so_far-start, so_far-whole}
use Rattle.em_trace.proofs.schedule_reading.read_lines.Goals as goal

pub loop-line-init : goal.loop-line-init
loop-line-init c = record {
  numbered = omega arith;
  so_far = subst (IsOpen c.args.tasks c.args.first (lines c.args.text.now) 0 0) (sym c.new-events.ensures) (so_far-start c.args.tasks c.args.first (lines c.args.text.now));
}

pub loop-line-preserved : goal.loop-line-preserved
loop-line-preserved c =
    let tasks = c.args.tasks in
    let first = c.args.first in
    let texts = lines c.args.text.now in
    let n = length c.loop-line.yielded in
    let next = c.in-Ok.next in
    let t =
    YieldsList-turn (YieldsList-from_lines c.args.text.now cc)
    c.loop-line.yielded _ c.loop-line.yielded_by _ _ c.in-Some.line c.in-Some.is c.next.ensures.steps in
    let more = length_push c.loop-line.yielded c.in-Some.line in
    let so =
    so_far-next tasks first texts n c.loop-line.least c.loop-line.last c.loop-line.events c.in-Some.line.now next
    c.loop-line.invariant.so_far t.0 t.1 (sym c.in-Ok.ensures) in
    record {
      numbered = omega (arith, c.loop-line.invariant.numbered, more);
      so_far =
          subst (λ k. IsSoFar tasks first texts k c.count_after-least.result c.last_in-last.result c.put_next.new.events) (sym more)
          (subst (IsSoFar tasks first texts (n + 1) c.count_after-least.result c.last_in-last.result) (sym c.in_ok-put_next-in-Ok.ensures)
          (subst (λ l. IsSoFar tasks first texts (n + 1) c.count_after-least.result l (c.loop-line.events ++ events_in next)) (sym c.last_in-last.ensures)
          (subst (λ k. IsSoFar tasks first texts (n + 1) k (last_in next) (c.loop-line.events ++ events_in next)) (sym c.count_after-least.ensures) so)));
    }

pub overflow_add-number : goal.overflow_add-number
overflow_add-number c =
    let t =
    YieldsList-turn (YieldsList-from_lines c.args.text.now cc)
    c.loop-line.yielded _ c.loop-line.yielded_by _ _ c.in-Some.line c.in-Some.is c.next.ensures.steps in
    omega (arith, t.0, c.loop-line.invariant.numbered, c.requires)

pub returns-in-Err-clause-refused : goal.returns-in-Err-clause-refused
returns-in-Err-clause-refused c =
    let texts = lines c.args.text.now in
    let n = length c.loop-line.yielded in
    let fault = c.in-Err.fault in
    let t =
    YieldsList-turn (YieldsList-from_lines c.args.text.now cc)
    c.loop-line.yielded _ c.loop-line.yielded_by _ _ c.in-Some.line c.in-Some.is c.next.ensures.steps in
    let refused =
    so_far-fault c.args.tasks c.args.first texts n c.loop-line.least c.loop-line.last c.loop-line.events c.in-Some.line.now fault
    c.loop-line.invariant.so_far t.0 t.1 (sym c.in-Err.ensures) in
    subst (AreRefused c.args.tasks c.args.first 0 texts) (sym (c.at.ensures ∙ ap (λ k. refusal_at k fault) c.loop-line.invariant.numbered)) refused

pub returns-in-Some-last-clause-schedule : goal.returns-in-Some-last-clause-schedule
returns-in-Some-last-clause-schedule c =
    let texts = lines c.args.text.now in
    let n = length c.loop-line.yielded in
    let end = YieldsList-end (YieldsList-from_lines c.args.text.now cc) c.loop-line.yielded _ c.loop-line.yielded_by _ _ c.in-None.is c.next.ensures.steps in
    let so = subst (λ l. IsSoFar c.args.tasks c.args.first texts n c.loop-line.least l c.loop-line.events) c.in-Some-last.is c.loop-line.invariant.so_far in
    let whole = so_far-whole c.args.tasks c.args.first texts n c.in-Some-last.last c.loop-line.events so end.1 in
    record { spelled = whole.spelled; valid = whole.valid }

pub returns-in-None-last-clause-refused : goal.returns-in-None-last-clause-refused
returns-in-None-last-clause-refused c =
    let texts = lines c.args.text.now in
    let n = length c.loop-line.yielded in
    let end = YieldsList-end (YieldsList-from_lines c.args.text.now cc) c.loop-line.yielded _ c.loop-line.yielded_by _ _ c.in-None.is c.next.ensures.steps in
    let so = subst (λ l. IsSoFar c.args.tasks c.args.first texts n c.loop-line.least l c.loop-line.events) c.in-None-last.is c.loop-line.invariant.so_far in
    let refused = so_far-missing c.args.tasks c.args.first texts n c.loop-line.least c.loop-line.events so end.1 in
    subst (AreRefused c.args.tasks c.args.first 0 texts) (sym (c.at-in-None-last.ensures ∙ ap (λ k. refusal_at k Form) c.loop-line.invariant.numbered)) refused

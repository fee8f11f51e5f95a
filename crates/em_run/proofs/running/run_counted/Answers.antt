use Rattle.std.proofs.Common.{◌<◌, ◌++◌, ◌∙◌, ◌+◌, ◌∷◌, [], length, sym, ap, arith}
use Rattle.em_gate.specs.State.{Counted}
use Rattle.em_gate.specs.Effects.{option_list}
use Rattle.em_kernel.specs.Run.{counted_boot, fuel, is_end}
use Rattle.em_kernel.specs.Step.{step}
use Rattle.em_run.specs.Runs.{cause_of}
use Rattle.em_run.proofs.Stepping.{at_end, counted_up, next_state, not_end, same_clock, same_fuel, state-none, told}
use Rattle.em_run.proofs.Counting.{counting_first, finish_is, goes_first, goes_on, counting_more, fuel_few, place_enough, seen_more, sight_of}
use Rattle.em_run.proofs.running.run_counted.Goals as goal

pub returns-in_err-counter-clause-part : goal.returns-in_err-counter-clause-part
returns-in_err-counter-clause-part g c = (0, sym (ap (λ (s : Counted). s.plain.ports) (state-none c.args.app.now (counted_boot c.args.app.now _))))

pub returns-in_err-kernel-clause-part : goal.returns-in_err-kernel-clause-part
returns-in_err-kernel-clause-part g c = (0, sym (ap (λ (s : Counted). s.plain.ports) (state-none c.args.app.now (counted_boot c.args.app.now _))))

pub steps-init : goal.steps-init
steps-init g c =
    let app = c.args.app.now in
    let kernel = c.in_ok-kernel.ensures in
    let counter = c.in_ok-counter.ensures in
    let left = ap length (kernel.stands []).left in
    let few = fuel_few c.in_ok-kernel.kernel app kernel.app c.requires.app kernel.few in (
      kernel.app,
      (
        counted_boot app _,
        kernel.stands _,
        goes_first app _ _ _ _ _ c.new-lines.ensures kernel.switches
            (counting_first app _ _ _ counter.stands counter.count counter.events (omega (arith, left, counter.places)) few),
      ),
    )

pub see-requires-clause-place : goal.see-requires-clause-place
see-requires-clause-place g c =
    let app = c.args.app.now in
    let (same, (t, stands, (come, counting))) = c.steps.invariant in
    let did = told _ _ _ app t _ same (c.step-did.ensures.step t stands) in
    place_enough app _ _ t _ _ come.count _ counting stands did.1

pub returns-in_err-put_line-clause-part : goal.returns-in_err-put_line-clause-part
returns-in_err-put_line-clause-part g c =
    let app = c.args.app.now in
    let (same, (t, stands, (come, counting))) = c.steps.invariant in
    let did = told _ _ _ app t _ same (c.step-did.ensures.step t stands) in
    (come.count + 1, did.0.ports ∙ sym (ap (λ (s : Counted). s.plain.ports) (next_state app _ _ _ t come)))

pub returns-in-Ended-clause-run : goal.returns-in-Ended-clause-run
returns-in-Ended-clause-run g c =
    let app = c.args.app.now in
    let (same, (t, stands, (come, counting))) = c.steps.invariant in
    let did = told _ _ _ app t _ same (c.step-did.ensures.step t stands) in
    let ended = ap (λ d. d.what) (sym did.1) ∙ c.in-Ended.is in
    let ends = at_end app _ c.steps.lines c.steps.kernel.switches t (ap is_end ended) come in
    record {
      schedule_is =
          finish_is app _ _ _ t come.count counting.sights (sight_of c.step-did.result c.step-did.new.self) _ counting.many
          (c.finish.ensures.schedule app (counting.sights ++ sight_of c.step-did.result c.step-did.new.self ∷ []) _ (c.see.ensures.stands app counting.sights counting.stands)
          c.requires.app.table c.requires.hints
          (seen_more app _ _ _ _ t come counting.sights c.step-did.result c.step-did.new.self counting.many counting.seen did.1 did.0))
          ends;
      lines_are = c.in_ok-put_line.ensures ∙ ap (λ d. c.steps.lines ++ option_list d.line) did.1 ∙ ends.lines_are;
      ends = ends.cause_is ∙ ap cause_of ended;
      clock_is = ap (λ d. d.clock) did.1 ∙ same_clock app t ∙ sym (ap (λ (s : Counted). s.clock) ends.state_is);
      switches_are = c.switches.ensures ∙ c.step-did.ensures.switches ∙ ap (λ d. counted_up d.switched c.steps.kernel.switches) did.1 ∙ ends.switches_are;
    }

pub returns-in-Ended-clause-ports : goal.returns-in-Ended-clause-ports
returns-in-Ended-clause-ports g c =
    let app = c.args.app.now in
    let (same, (t, stands, (come, counting))) = c.steps.invariant in
    let did = told _ _ _ app t _ same (c.step-did.ensures.step t stands) in
    let ended = ap (λ d. d.what) (sym did.1) ∙ c.in-Ended.is in
    let ends = at_end app _ c.steps.lines c.steps.kernel.switches t (ap is_end ended) come in
    did.0.ports ∙ sym (ap (λ (s : Counted). s.plain.ports) ends.state_is)

pub returns-in-Ended-clause-part : goal.returns-in-Ended-clause-part
returns-in-Ended-clause-part g c =
    let app = c.args.app.now in
    let (same, (t, stands, (come, counting))) = c.steps.invariant in
    let did = told _ _ _ app t _ same (c.step-did.ensures.step t stands) in
    (come.count + 1, did.0.ports ∙ sym (ap (λ (s : Counted). s.plain.ports) (next_state app _ _ _ t come)))

pub steps-preserved : goal.steps-preserved
steps-preserved g c =
    let app = c.args.app.now in
    let (same, (t, stands, (come, counting))) = c.steps.invariant in
    let did = told _ _ _ app t _ same (c.step-did.ensures.step t stands) in
    let same_after = c.step-did.ensures.app ∙ same in
    let unended = not_end c.step-did.result.what c.in_default.not-Ended in
    let falls = c.step-did.ensures.falls unended in
    let less : fuel app (step app t).state < fuel app t = omega (arith, falls, same_fuel _ _ app t same stands, same_fuel _ _ app (step app t).state same_after did.0) in
    let on = ap (λ d. is_end d.what) (sym did.1) ∙ unended in
    let lines = c.in_ok-put_line.ensures ∙ ap (λ d. c.steps.lines ++ option_list d.line) did.1 in
    let switches = c.step-did.ensures.switches ∙ ap (λ d. counted_up d.switched c.steps.kernel.switches) did.1 in
    let counts = counting_more app _ _ _ _ _ t come _ _ _ _ c.step-did.result counting stands did.0 did.1 (λ sights counted. c.see.ensures.stands app sights counted)
    c.see.ensures.count c.see.ensures.events c.see.ensures.places falls in
    (same_after, ((step app t).state, did.0, goes_on app _ _ _ _ _ t _ _ on less come lines switches counts))

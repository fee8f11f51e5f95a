use Rattle.std.proofs.Common.{rules, to_z, of_z, w8, ◌≡◌, ◌∙◌, sym, ap}
use Rattle.em_gate.specs.declared.calls.Call.{Call}
use Rattle.em_gate.specs.Calls.{call_of, known_by, refusal}
use Rattle.em_threads.specs.Threads.{thread_at}
use Rattle.em_system.specs.declared.stepping.Taken.TheVariants.{Called}
use Rattle.em_system.proofs.CallSteps.{accepted_step, refused_step, for_code}
use Rattle.em_system.proofs.Lines.{ports_of_refusal}
use Rattle.em_system.proofs.system.System.call.Goals as goal

pub accept-requires-clause-accepted : goal.accept-requires-clause-accepted
accept-requires-clause-accepted g c = (
  known_by c.facts-facts.result,
  ap (λ h. refusal c.read_call-call.result h.app.table c.args.t.0 (known_by c.facts-facts.result)) (sym c.self.view_is)
      ∙ sym c.refusal.ensures.first ∙ c.in-None.is,
)

pub returns-in-Some-clause-step : goal.returns-in-Some-clause-step
returns-in-Some-clause-step g c = λ p promises s seen.
    let held = c.args.self.now in
    let t = c.args.t in
    let call : Call = c.read_call-call.result in
    let facts = c.facts-facts.result in
    let is : call ≡ call_of (thread_at held.threads t.0).task.core.registers =
    c.read_call-call.ensures.call ∙ ap call_of c.regs.ensures
    ∙ ap (λ h. call_of (thread_at h.threads t.0).task.core.registers) c.self.view_is in
    let known = c.facts-facts.ensures p promises s seen in
    let table : refusal call held.app.table t.0 (known_by facts) ≡ refusal call c.self.inside.app.now.table t.0 (known_by facts) =
    ap (λ h. refusal call h.app.table t.0 (known_by facts)) (sym c.self.view_is) in
    let did = c.refused.ensures.step p promises s in
    let same : to_z w8 (of_z w8 c.in-Some.code) ≡ c.in-Some.code = search rules in
    refused_step held p promises t call facts c.in-Some.code s c.requires.exists is known (table ∙ sym c.refusal.ensures.first ∙ c.in-Some.is)
    (for_code held p promises t same (did.0, seen ∙ ports_of_refusal (to_z w8 (of_z w8 c.in-Some.code)) t p, ap Called did.1))

pub returns-in-None-clause-step : goal.returns-in-None-clause-step
returns-in-None-clause-step g c = λ p promises s seen.
    let held = c.args.self.now in
    let t = c.args.t in
    let call : Call = c.read_call-call.result in
    let facts = c.facts-facts.result in
    let is : call ≡ call_of (thread_at held.threads t.0).task.core.registers =
    c.read_call-call.ensures.call ∙ ap call_of c.regs.ensures
    ∙ ap (λ h. call_of (thread_at h.threads t.0).task.core.registers) c.self.view_is in
    let known = c.facts-facts.ensures p promises s seen in
    let table : refusal call held.app.table t.0 (known_by facts) ≡ refusal call c.self.inside.app.now.table t.0 (known_by facts) =
    ap (λ h. refusal call h.app.table t.0 (known_by facts)) (sym c.self.view_is) in
    accepted_step held p promises t call facts s c.requires.exists is known (table ∙ sym c.refusal.ensures.first ∙ c.in-None.is)
    (c.accept.ensures.step p promises s seen)

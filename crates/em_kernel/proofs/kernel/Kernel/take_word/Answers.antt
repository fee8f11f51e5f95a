-- What the kernel owes once a word of a write is taken.
use Rattle.std.proofs.Common.{◌≡◌, ◌∙◌, ◌<◌, ◌+◌, nat_lt, drop, length, slice_set, None, Some, false, true, sym, ap, subst, refl, arith}
use Rattle.std.proofs.lemmas.Bool.{ltb-true}
use Rattle.std.proofs.lemmas.Bool.Decides.{nat_tests}
use Rattle.std.proofs.lemmas.List.{get_or-set_same, set-set}
use Rattle.em_trace.specs.declared.lines.Line.TheVariants.{Put}
use Rattle.em_gate.specs.Calls.{words_of}
use Rattle.em_gate.specs.State.{Writes}
use Rattle.em_system.specs.Held.{Held, held_answered, selected_of}
use Rattle.em_kernel.specs.declared.did.StepKind.TheVariants.{Copy as CopyStep, Publish}
use Rattle.em_kernel.specs.declared.did.What.TheVariants.{Stepped}
use Rattle.em_kernel.specs.declared.meter.Meter.{Meter}
use Rattle.em_kernel.specs.Buffers.{AreBuffers, HasPublished, HasPut, IsTaken}
use Rattle.em_kernel.specs.Copyings.{copies_of}
use Rattle.em_kernel.specs.Kept.{Kept, Stands, buffer_at, held_by, no_buffer}
use Rattle.em_kernel.specs.Metered.{did_of}
use Rattle.em_kernel.specs.Moves.{EndsWrite, TakesWord, copy_at}
use Rattle.em_kernel.specs.Step.{stepped}
use Rattle.em_state.specs.Buffers.{Kept as Buffer}
use Rattle.em_system.specs.Windows.{core_in, own_word}
use Rattle.em_kernel.proofs.Copying.{answer_leaves, ended, taken, taken_more, words_after, write_of}
use Rattle.em_kernel.proofs.Passing.{Shows, by_more, passed_kernel, runner_inside, same_mail}
use Rattle.em_kernel.proofs.Settling.{by_app}
use Rattle.em_kernel.proofs.Steps.{Mail, keeps}
use Rattle.em_kernel.proofs.Transfers.{ends_write, mail_of, stood_by, takes_word}
use Rattle.em_kernel.proofs.kernel.Kernel.take_word.Goals as goal

pub invariant_of-self : goal.invariant_of-self
invariant_of-self c =
    let sys = c.self.inside.system in
    let k = c.self.invariant.0 in
    let b = c.self.invariant.1 in
    let buffers = c.self.inside.buffers.items in
    let copies = copies_of c.self.inside.copies.items in
    let meter = c.self.inside.meter in
    let runs : selected_of sys ≡ Some c.args.t.0 = subst (λ (kept : Kept). selected_of (held_by kept) ≡ Some c.args.t.0) (sym c.self.view_is) c.requires.selected in
    let within = runner_inside sys c.args.t.0 runs in
    let place : c.args.t.0 < length copies = omega (arith, within, b.tasks) in
    let early = subst (λ (kept : Kept). kept.clock < kept.app.table.horizon) (sym c.self.view_is) c.requires.early in
    let short = subst (λ (kept : Kept). kept.count < 1000000) (sym c.self.view_is) c.requires.short in
    let copy : copy_at copies c.args.t.0 ≡ Some (Writes c.args.msg c.args.at c.args.done) =
    subst (λ (kept : Kept). copy_at kept.copies c.args.t.0 ≡ Some (Writes c.args.msg c.args.at c.args.done)) (sym c.self.view_is) c.requires.copy in
    let w = write_of sys buffers copies meter.count c.args.t.0 c.args.msg c.args.at c.args.done copy b in
    let exists : c.args.msg.0 < length buffers = omega (arith, w.inside.exists, b.messages) in
    let made = b.made c.args.msg.0 exists in
    let after = c.put_word.ensures.0 in
    let put : HasPut (buffer_at buffers c.args.msg.0) after c.args.done (own_word (core_in sys.threads c.args.t.0) c.args.at c.args.done) =
    subst (HasPut (buffer_at buffers c.args.msg.0) after c.args.done) c.own_word-word.ensures c.put_word.ensures.2 in
    let wide = words_after sys buffers c.put_word.new.buffers.items c.deref.result.now copies meter.count c.args.msg after c.args.done _ c.deref.ensures.value c.put_word.ensures.1 exists put b in
    let tested : c.has_more.result ≡ nat_lt (c.args.done + 1) (words_of sys.app.table c.args.msg.0) = c.has_more.ensures ∙ ap (nat_lt (c.args.done + 1)) wide in
    let more = ltb-true (c.args.done + 1) (words_of sys.app.table c.args.msg.0) (sym tested ∙ c.if-has_more.true) in
    let are = taken sys buffers copies meter.count c.args.t.0 c.args.msg c.args.at c.args.done after place exists copy more put w b in
    let count : c.pass.new.self.count ≡ meter.count = ap (λ (m : Meter). m.count) c.pass.ensures in (
      passed_kernel sys sys c.self.inside.charges c.self.inside.events.items c.self.inside.at meter c.pass.new.self None 2
          k refl (omega arith) (omega arith) refl k.sound early short c.pass.ensures,
      subst (λ n. AreBuffers sys c.put_word.new.buffers.items (copies_of c.set_copy.new.copies.items) n) (sym count)
          (subst (λ (mail : Mail). AreBuffers sys mail.buffers mail.copies meter.count) (same_mail _ _ _ _ (sym c.put_word.ensures.1) (sym c.set_copy.ensures)) are),
    )

pub returns-then-has_more-clause-step : goal.returns-then-has_more-clause-step
returns-then-has_more-clause-step c = λ places s st.
    let sys = c.self.inside.system in
    let k = c.self.invariant.0 in
    let b = c.self.invariant.1 in
    let buffers = c.self.inside.buffers.items in
    let copies = copies_of c.self.inside.copies.items in
    let meter = c.self.inside.meter in
    let copy : copy_at copies c.args.t.0 ≡ Some (Writes c.args.msg c.args.at c.args.done) =
    subst (λ (kept : Kept). copy_at kept.copies c.args.t.0 ≡ Some (Writes c.args.msg c.args.at c.args.done)) (sym c.self.view_is) c.requires.copy in
    let w = write_of sys buffers copies meter.count c.args.t.0 c.args.msg c.args.at c.args.done copy b in
    let exists : c.args.msg.0 < length buffers = omega (arith, w.inside.exists, b.messages) in
    let made = b.made c.args.msg.0 exists in
    let after = c.put_word.ensures.0 in
    let put : HasPut (buffer_at buffers c.args.msg.0) after c.args.done (own_word (core_in sys.threads c.args.t.0) c.args.at c.args.done) =
    subst (HasPut (buffer_at buffers c.args.msg.0) after c.args.done) c.own_word-word.ensures c.put_word.ensures.2 in
    let wide = words_after sys buffers c.put_word.new.buffers.items c.deref.result.now copies meter.count c.args.msg after c.args.done _ c.deref.ensures.value c.put_word.ensures.1 exists put b in
    let tested : c.has_more.result ≡ nat_lt (c.args.done + 1) (words_of sys.app.table c.args.msg.0) = c.has_more.ensures ∙ ap (nat_lt (c.args.done + 1)) wide in
    let left = drop c.self.inside.at c.self.inside.events.items in
    let stood = stood_by sys.app sys (mail_of buffers copies) places s meter left (subst (λ (kept : Kept). Stands kept places s) (sym c.self.view_is) st) in
    let app_is = ap (λ (kept : Kept). kept.app) c.self.view_is in
    let told = takes_word sys.app sys.app sys buffers copies places s c.args.t c.args.msg c.args.at c.args.done after _ meter c.pass.new.self left
    refl c.pass.ensures k.runs stood k.selects exists put in
    let mailed = subst (λ (mail : Mail). Shows (keeps sys.app sys mail left c.pass.new.self) places (stepped sys.app s c.args.t (TakesWord c.args.msg c.args.at c.args.done))
    (did_of (Stepped c.args.t CopyStep) None 2 c.pass.new.self.clock false))
    (same_mail _ _ _ _ (sym c.put_word.ensures.1) (sym c.set_copy.ensures)) told in
    by_more _ places sys.app c.args.self.now.app s c.args.t c.args.msg c.args.at c.args.done true c.did.result app_is (sym tested ∙ c.if-has_more.true)
    (mailed.0, c.did.ensures ∙ mailed.1)

pub invariant_of-self-2 : goal.invariant_of-self-2
invariant_of-self-2 c =
    let sys = c.self.inside.system in
    let k = c.self.invariant.0 in
    let b = c.self.invariant.1 in
    let buffers = c.self.inside.buffers.items in
    let copies = copies_of c.self.inside.copies.items in
    let meter = c.self.inside.meter in
    let runs : selected_of sys ≡ Some c.args.t.0 = subst (λ (kept : Kept). selected_of (held_by kept) ≡ Some c.args.t.0) (sym c.self.view_is) c.requires.selected in
    let within = runner_inside sys c.args.t.0 runs in
    let place : c.args.t.0 < length copies = omega (arith, within, b.tasks) in
    let early = subst (λ (kept : Kept). kept.clock < kept.app.table.horizon) (sym c.self.view_is) c.requires.early in
    let short = subst (λ (kept : Kept). kept.count < 1000000) (sym c.self.view_is) c.requires.short in
    let copy : copy_at copies c.args.t.0 ≡ Some (Writes c.args.msg c.args.at c.args.done) =
    subst (λ (kept : Kept). copy_at kept.copies c.args.t.0 ≡ Some (Writes c.args.msg c.args.at c.args.done)) (sym c.self.view_is) c.requires.copy in
    let w = write_of sys buffers copies meter.count c.args.t.0 c.args.msg c.args.at c.args.done copy b in
    let exists : c.args.msg.0 < length buffers = omega (arith, w.inside.exists, b.messages) in
    let made = b.made c.args.msg.0 exists in
    let after = c.put_word.ensures.0 in
    let put : HasPut (buffer_at buffers c.args.msg.0) after c.args.done (own_word (core_in sys.threads c.args.t.0) c.args.at c.args.done) =
    subst (HasPut (buffer_at buffers c.args.msg.0) after c.args.done) c.own_word-word.ensures c.put_word.ensures.2 in
    let wide = words_after sys buffers c.put_word.new.buffers.items c.deref.result.now copies meter.count c.args.msg after c.args.done _ c.deref.ensures.value c.put_word.ensures.1 exists put b in
    let tested : c.has_more.result ≡ nat_lt (c.args.done + 1) (words_of sys.app.table c.args.msg.0) = c.has_more.ensures ∙ ap (nat_lt (c.args.done + 1)) wide in
    let mid = get_or-set_same buffers c.args.msg.0 after no_buffer exists in
    let here : buffer_at c.put_word.new.buffers.items c.args.msg.0 ≡ after = ap (λ bs. buffer_at bs c.args.msg.0) c.put_word.ensures.1 ∙ mid in
    let last = c.publish-number.ensures.0 in
    let out : HasPublished after last = subst (λ (x : Buffer). HasPublished x last) here c.publish-number.ensures.2 in
    let twice : c.publish-number.new.buffers.items ≡ slice_set buffers c.args.msg.0 last =
    c.publish-number.ensures.1 ∙ ap (λ bs. slice_set bs c.args.msg.0 last) c.put_word.ensures.1 ∙ set-set buffers c.args.msg.0 after last in
    let held = held_answered c.args.t.0 0 sys in
    let are = ended sys held buffers copies meter.count c.args.t.0 c.args.msg c.args.at c.args.done after last (answer_leaves sys c.args.t.0 0) place exists copy put out w b in
    let count : c.pass-2.new.self.count ≡ meter.count + 1 = ap (λ (m : Meter). m.count) c.pass-2.ensures in (
      passed_kernel sys c.finish_call.new.self c.self.inside.charges c.self.inside.events.items c.self.inside.at meter c.pass-2.new.self (Some (Put c.args.t c.args.msg c.publish-number.result)) 2
          k (ap (λ (h : Held). h.app) c.finish_call.ensures.whole) (omega arith) (omega arith) c.finish_call.ensures.same (c.finish_call.ensures.sound _ k.sound) early short c.pass-2.ensures,
      subst (λ n. AreBuffers c.finish_call.new.self c.publish-number.new.buffers.items (copies_of c.set_copy-2.new.copies.items) n) (sym count)
          (subst (λ (h : Held). AreBuffers h c.publish-number.new.buffers.items (copies_of c.set_copy-2.new.copies.items) (meter.count + 1)) (sym c.finish_call.ensures.whole)
          (subst (λ (mail : Mail). AreBuffers held mail.buffers mail.copies (meter.count + 1)) (same_mail _ _ _ _ (sym twice) (sym c.set_copy-2.ensures)) are)),
    )

pub returns-clause-step : goal.returns-clause-step
returns-clause-step c = λ places s st.
    let sys = c.self.inside.system in
    let k = c.self.invariant.0 in
    let b = c.self.invariant.1 in
    let buffers = c.self.inside.buffers.items in
    let copies = copies_of c.self.inside.copies.items in
    let meter = c.self.inside.meter in
    let runs : selected_of sys ≡ Some c.args.t.0 = subst (λ (kept : Kept). selected_of (held_by kept) ≡ Some c.args.t.0) (sym c.self.view_is) c.requires.selected in
    let within = runner_inside sys c.args.t.0 runs in
    let place : c.args.t.0 < length copies = omega (arith, within, b.tasks) in
    let copy : copy_at copies c.args.t.0 ≡ Some (Writes c.args.msg c.args.at c.args.done) =
    subst (λ (kept : Kept). copy_at kept.copies c.args.t.0 ≡ Some (Writes c.args.msg c.args.at c.args.done)) (sym c.self.view_is) c.requires.copy in
    let w = write_of sys buffers copies meter.count c.args.t.0 c.args.msg c.args.at c.args.done copy b in
    let exists : c.args.msg.0 < length buffers = omega (arith, w.inside.exists, b.messages) in
    let made = b.made c.args.msg.0 exists in
    let after = c.put_word.ensures.0 in
    let put : HasPut (buffer_at buffers c.args.msg.0) after c.args.done (own_word (core_in sys.threads c.args.t.0) c.args.at c.args.done) =
    subst (HasPut (buffer_at buffers c.args.msg.0) after c.args.done) c.own_word-word.ensures c.put_word.ensures.2 in
    let wide = words_after sys buffers c.put_word.new.buffers.items c.deref.result.now copies meter.count c.args.msg after c.args.done _ c.deref.ensures.value c.put_word.ensures.1 exists put b in
    let tested : c.has_more.result ≡ nat_lt (c.args.done + 1) (words_of sys.app.table c.args.msg.0) = c.has_more.ensures ∙ ap (nat_lt (c.args.done + 1)) wide in
    let mid = get_or-set_same buffers c.args.msg.0 after no_buffer exists in
    let here : buffer_at c.put_word.new.buffers.items c.args.msg.0 ≡ after = ap (λ bs. buffer_at bs c.args.msg.0) c.put_word.ensures.1 ∙ mid in
    let last = c.publish-number.ensures.0 in
    let out : HasPublished after last = subst (λ (x : Buffer). HasPublished x last) here c.publish-number.ensures.2 in
    let twice : c.publish-number.new.buffers.items ≡ slice_set buffers c.args.msg.0 last =
    c.publish-number.ensures.1 ∙ ap (λ bs. slice_set bs c.args.msg.0 last) c.put_word.ensures.1 ∙ set-set buffers c.args.msg.0 after last in
    let left = drop c.self.inside.at c.self.inside.events.items in
    let stood = stood_by sys.app sys (mail_of buffers copies) places s meter left (subst (λ (kept : Kept). Stands kept places s) (sym c.self.view_is) st) in
    let app_is = ap (λ (kept : Kept). kept.app) c.self.view_is in
    let words = words_of sys.app.table c.args.msg.0 in
    let test : nat_lt (c.args.done + 1) words ≡ false = sym tested ∙ c.if-has_more.false in
    let full : c.args.done + 1 ≡ words = grind (arith, nat_tests, test, w.more) in
    let own = core_in sys.threads c.args.t.0 in
    let whole : IsTaken own c.args.at words after =
    subst (λ n. IsTaken own c.args.at n after) full (taken_more own c.args.at c.args.done (buffer_at buffers c.args.msg.0) after (omega (arith, w.more, made.words)) put w.taken) in
    let app_same = ap (λ (h : Held). h.app) c.finish_call.ensures.whole in
    let told = ends_write sys.app c.finish_call.new.self.app sys c.finish_call.new.self buffers copies places s c.args.t c.args.msg c.args.at c.args.done after last _
    c.publish-number.result meter c.pass-2.new.self left
    app_same c.finish_call.ensures.whole c.pass-2.ensures k.runs stood (k.selects ∙ sym c.finish_call.ensures.same ∙ by_app c.finish_call.new.self sys.app app_same) exists within
    put (put.same.words ∙ made.words) whole out c.publish-number.ensures.3 in
    let mailed = subst (λ (mail : Mail). Shows (keeps c.finish_call.new.self.app c.finish_call.new.self mail left c.pass-2.new.self) places (stepped sys.app s c.args.t (EndsWrite c.args.msg c.args.at c.args.done))
    (did_of (Stepped c.args.t Publish) (Some (Put c.args.t c.args.msg c.publish-number.result)) 2 c.pass-2.new.self.clock false))
    (same_mail _ _ _ _ (sym twice) (sym c.set_copy-2.ensures)) told in
    by_more _ places sys.app c.args.self.now.app s c.args.t c.args.msg c.args.at c.args.done false c.did-2.result app_is test
    (mailed.0, c.did-2.ensures ∙ mailed.1)

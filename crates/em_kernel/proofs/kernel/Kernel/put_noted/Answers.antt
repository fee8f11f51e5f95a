-- What the kernel owes once a word of a read is put.
use Rattle.std.proofs.Common.{◌≡◌, ◌∙◌, ◌<◌, ◌+◌, nat_lt, List, drop, length, None, Some, false, true, sym, ap, subst, arith}
use Rattle.std.proofs.lemmas.Bool.{ltb-true}
use Rattle.em_gate.specs.Calls.{words_of}
use Rattle.em_gate.specs.State.{Reads}
use Rattle.em_system.specs.Held.{Held, held_answered, selected_of}
use Rattle.em_kernel.specs.declared.did.StepKind.TheVariants.{Copy as CopyStep}
use Rattle.em_kernel.specs.declared.did.What.TheVariants.{Stepped}
use Rattle.em_kernel.specs.declared.meter.Meter.{Meter}
use Rattle.em_kernel.specs.Buffers.{AreBuffers}
use Rattle.em_kernel.specs.Copyings.{copies_of}
use Rattle.em_kernel.specs.Kept.{Kept, Stands, buffer_at, held_by}
use Rattle.em_kernel.specs.Metered.{did_of}
use Rattle.em_kernel.specs.Moves.{EndsRead, PutsWord, copy_at, noted_word}
use Rattle.em_kernel.specs.Step.{stepped}
use Rattle.em_state.specs.Buffers.{StandsFor, word_of}
use Rattle.em_gate.specs.State.{Value, values_at}
use Rattle.em_system.specs.Windows.{held_word_put}
use Rattle.em_kernel.proofs.Copying.{answer_leaves, copied, leaves_again, put_leaves, read_of, read_written}
use Rattle.em_kernel.proofs.Passing.{Shows, by_rest, passed_kernel, runner_inside}
use Rattle.em_kernel.proofs.Settling.{by_app}
use Rattle.em_kernel.proofs.Steps.{keeps}
use Rattle.em_kernel.proofs.Transfers.{ends_read, mail_of, puts_word, stood_by}
use Rattle.em_kernel.proofs.kernel.Kernel.put_noted.Goals as goal

pub invariant_of-self : goal.invariant_of-self
invariant_of-self c =
    let sys = c.self.inside.system in
    let k = c.self.invariant.0 in
    let b = c.self.invariant.1 in
    let buffers = c.self.inside.buffers.items in
    let copies = copies_of c.self.inside.copies.items in
    let meter = c.self.inside.meter in
    let runs : selected_of sys ≡ Some c.args.t.0 = subst (λ (kept : Kept). selected_of (held_by kept) ≡ Some c.args.t.0) (sym c.self.view_is) c.requires.selected in
    let within = runner_inside sys c.args.t.0 runs in
    let place : c.args.t.0 < length copies = omega (arith, within, b.tasks) in
    let early = subst (λ (kept : Kept). kept.clock < kept.app.table.horizon) (sym c.self.view_is) c.requires.early in
    let short = subst (λ (kept : Kept). kept.count < 1000000) (sym c.self.view_is) c.requires.short in
    let copy : copy_at copies c.args.t.0 ≡ Some (Reads c.args.msg c.args.at c.args.noted c.args.done) =
    subst (λ (kept : Kept). copy_at kept.copies c.args.t.0 ≡ Some (Reads c.args.msg c.args.at c.args.noted c.args.done)) (sym c.self.view_is) c.requires.copy in
    let r = read_of sys buffers copies meter.count c.args.t.0 c.args.msg c.args.at c.args.noted c.args.done copy b in
    let exists : c.args.msg.0 < length buffers = omega (arith, r.inside.exists, b.messages) in
    let made = b.made c.args.msg.0 exists in
    let tested : c.has_more.result ≡ nat_lt (c.args.done + 1) (words_of sys.app.table c.args.msg.0) =
    c.has_more.ensures ∙ ap (λ bs. nat_lt (c.args.done + 1) (buffer_at bs c.args.msg.0).words) c.deref.ensures.value ∙ ap (nat_lt (c.args.done + 1)) made.words in
    let put = held_word_put c.args.t.0 c.args.at c.args.done c.args.word sys in
    let more = ltb-true (c.args.done + 1) (words_of sys.app.table c.args.msg.0) (sym tested ∙ c.if-has_more.true) in
    let next = Reads c.args.msg c.args.at c.args.noted (c.args.done + 1) in
    let are = copied sys put buffers copies meter.count meter.count c.args.t.0 (Some next) (put_leaves sys c.args.t.0 c.args.at c.args.done c.args.word) place
    (read_written copies c.args.t.0 c.args.msg c.args.at c.args.noted c.args.done copy) (record { inside = r.inside; more = more; published = r.published }) (omega arith) b in
    let count : c.pass.new.self.count ≡ meter.count = ap (λ (m : Meter). m.count) c.pass.ensures in
    let same = c.put_own_word.ensures.same in (
      passed_kernel sys c.put_own_word.new.self c.self.inside.charges c.self.inside.events.items c.self.inside.at meter c.pass.new.self None 2
          k (ap (λ (h : Held). h.app) c.put_own_word.ensures.whole) (omega arith) (omega arith) same (c.put_own_word.ensures.sound _ k.sound) early short c.pass.ensures,
      subst (λ n. AreBuffers c.put_own_word.new.self buffers (copies_of c.set_copy.new.copies.items) n) (sym count)
          (subst (λ (h : Held). AreBuffers h buffers (copies_of c.set_copy.new.copies.items) meter.count) (sym c.put_own_word.ensures.whole)
          (subst (λ cs. AreBuffers put buffers cs meter.count) (sym c.set_copy.ensures) are)),
    )

pub returns-then-has_more-clause-step : goal.returns-then-has_more-clause-step
returns-then-has_more-clause-step c = λ places s st.
    let sys = c.self.inside.system in
    let k = c.self.invariant.0 in
    let b = c.self.invariant.1 in
    let buffers = c.self.inside.buffers.items in
    let copies = copies_of c.self.inside.copies.items in
    let meter = c.self.inside.meter in
    let runs : selected_of sys ≡ Some c.args.t.0 = subst (λ (kept : Kept). selected_of (held_by kept) ≡ Some c.args.t.0) (sym c.self.view_is) c.requires.selected in
    let within = runner_inside sys c.args.t.0 runs in
    let place : c.args.t.0 < length copies = omega (arith, within, b.tasks) in
    let copy : copy_at copies c.args.t.0 ≡ Some (Reads c.args.msg c.args.at c.args.noted c.args.done) =
    subst (λ (kept : Kept). copy_at kept.copies c.args.t.0 ≡ Some (Reads c.args.msg c.args.at c.args.noted c.args.done)) (sym c.self.view_is) c.requires.copy in
    let r = read_of sys buffers copies meter.count c.args.t.0 c.args.msg c.args.at c.args.noted c.args.done copy b in
    let exists : c.args.msg.0 < length buffers = omega (arith, r.inside.exists, b.messages) in
    let made = b.made c.args.msg.0 exists in
    let tested : c.has_more.result ≡ nat_lt (c.args.done + 1) (words_of sys.app.table c.args.msg.0) =
    c.has_more.ensures ∙ ap (λ bs. nat_lt (c.args.done + 1) (buffer_at bs c.args.msg.0).words) c.deref.ensures.value ∙ ap (nat_lt (c.args.done + 1)) made.words in
    let put = held_word_put c.args.t.0 c.args.at c.args.done c.args.word sys in
    let left = drop c.self.inside.at c.self.inside.events.items in
    let stood = stood_by sys.app sys (mail_of buffers copies) places s meter left (subst (λ (kept : Kept). Stands kept places s) (sym c.self.view_is) st) in
    let app_is = ap (λ (kept : Kept). kept.app) c.self.view_is in
    let word : c.args.word ≡ noted_word s.plain.values c.args.msg.0 c.args.noted c.args.done =
    subst (λ (kept : Kept). (values : List Value) → StandsFor (buffer_at kept.buffers c.args.msg.0) values → c.args.word ≡ word_of values c.args.noted c.args.done) (sym c.self.view_is) c.requires.word
    (values_at s.plain.values c.args.msg.0) (stood.carries.values.stand c.args.msg.0 exists) in
    let held = c.put_own_word.new.self in
    let app_same = ap (λ (h : Held). h.app) c.put_own_word.ensures.whole in
    let told = puts_word sys.app held.app sys held buffers copies places s c.args.t c.args.msg c.args.at c.args.noted c.args.done c.args.word meter c.pass.new.self left
    app_same c.put_own_word.ensures.whole c.pass.ensures k.runs stood (k.selects ∙ sym c.put_own_word.ensures.same ∙ by_app held sys.app app_same) within word in
    let mailed = subst (λ cs. Shows (keeps held.app held (mail_of buffers cs) left c.pass.new.self) places (stepped sys.app s c.args.t (PutsWord c.args.msg c.args.at c.args.noted c.args.done))
    (did_of (Stepped c.args.t CopyStep) None 2 c.pass.new.self.clock false))
    (sym c.set_copy.ensures) told in
    by_rest _ places sys.app c.args.self.now.app s c.args.t c.args.msg c.args.at c.args.noted c.args.done true c.did.result app_is (sym tested ∙ c.if-has_more.true)
    (mailed.0, c.did.ensures ∙ mailed.1)

pub invariant_of-self-2 : goal.invariant_of-self-2
invariant_of-self-2 c =
    let sys = c.self.inside.system in
    let k = c.self.invariant.0 in
    let b = c.self.invariant.1 in
    let buffers = c.self.inside.buffers.items in
    let copies = copies_of c.self.inside.copies.items in
    let meter = c.self.inside.meter in
    let runs : selected_of sys ≡ Some c.args.t.0 = subst (λ (kept : Kept). selected_of (held_by kept) ≡ Some c.args.t.0) (sym c.self.view_is) c.requires.selected in
    let within = runner_inside sys c.args.t.0 runs in
    let place : c.args.t.0 < length copies = omega (arith, within, b.tasks) in
    let early = subst (λ (kept : Kept). kept.clock < kept.app.table.horizon) (sym c.self.view_is) c.requires.early in
    let short = subst (λ (kept : Kept). kept.count < 1000000) (sym c.self.view_is) c.requires.short in
    let copy : copy_at copies c.args.t.0 ≡ Some (Reads c.args.msg c.args.at c.args.noted c.args.done) =
    subst (λ (kept : Kept). copy_at kept.copies c.args.t.0 ≡ Some (Reads c.args.msg c.args.at c.args.noted c.args.done)) (sym c.self.view_is) c.requires.copy in
    let r = read_of sys buffers copies meter.count c.args.t.0 c.args.msg c.args.at c.args.noted c.args.done copy b in
    let exists : c.args.msg.0 < length buffers = omega (arith, r.inside.exists, b.messages) in
    let made = b.made c.args.msg.0 exists in
    let tested : c.has_more.result ≡ nat_lt (c.args.done + 1) (words_of sys.app.table c.args.msg.0) =
    c.has_more.ensures ∙ ap (λ bs. nat_lt (c.args.done + 1) (buffer_at bs c.args.msg.0).words) c.deref.ensures.value ∙ ap (nat_lt (c.args.done + 1)) made.words in
    let put = held_word_put c.args.t.0 c.args.at c.args.done c.args.word sys in
    let held = c.finish_call.new.self in
    let whole : held ≡ held_answered c.args.t.0 0 put = c.finish_call.ensures.whole ∙ ap (held_answered c.args.t.0 0) c.put_own_word.ensures.whole in
    let leaves = leaves_again sys put (held_answered c.args.t.0 0 put) c.args.t.0 (put_leaves sys c.args.t.0 c.args.at c.args.done c.args.word) (answer_leaves put c.args.t.0 0) in
    let are = copied sys (held_answered c.args.t.0 0 put) buffers copies meter.count meter.count c.args.t.0 None leaves place
    (read_written copies c.args.t.0 c.args.msg c.args.at c.args.noted c.args.done copy) tt (omega arith) b in
    let count : c.pass-2.new.self.count ≡ meter.count = ap (λ (m : Meter). m.count) c.pass-2.ensures in
    let same = c.finish_call.ensures.same ∙ c.put_own_word.ensures.same in (
      passed_kernel sys held c.self.inside.charges c.self.inside.events.items c.self.inside.at meter c.pass-2.new.self None 2
          k (ap (λ (h : Held). h.app) whole) (omega arith) (omega arith) same (c.finish_call.ensures.sound _ (c.put_own_word.ensures.sound _ k.sound)) early short c.pass-2.ensures,
      subst (λ n. AreBuffers held buffers (copies_of c.set_copy-2.new.copies.items) n) (sym count)
          (subst (λ (h : Held). AreBuffers h buffers (copies_of c.set_copy-2.new.copies.items) meter.count) (sym whole)
          (subst (λ cs. AreBuffers (held_answered c.args.t.0 0 put) buffers cs meter.count) (sym c.set_copy-2.ensures) are)),
    )

pub returns-clause-step : goal.returns-clause-step
returns-clause-step c = λ places s st.
    let sys = c.self.inside.system in
    let k = c.self.invariant.0 in
    let b = c.self.invariant.1 in
    let buffers = c.self.inside.buffers.items in
    let copies = copies_of c.self.inside.copies.items in
    let meter = c.self.inside.meter in
    let runs : selected_of sys ≡ Some c.args.t.0 = subst (λ (kept : Kept). selected_of (held_by kept) ≡ Some c.args.t.0) (sym c.self.view_is) c.requires.selected in
    let within = runner_inside sys c.args.t.0 runs in
    let place : c.args.t.0 < length copies = omega (arith, within, b.tasks) in
    let copy : copy_at copies c.args.t.0 ≡ Some (Reads c.args.msg c.args.at c.args.noted c.args.done) =
    subst (λ (kept : Kept). copy_at kept.copies c.args.t.0 ≡ Some (Reads c.args.msg c.args.at c.args.noted c.args.done)) (sym c.self.view_is) c.requires.copy in
    let r = read_of sys buffers copies meter.count c.args.t.0 c.args.msg c.args.at c.args.noted c.args.done copy b in
    let exists : c.args.msg.0 < length buffers = omega (arith, r.inside.exists, b.messages) in
    let made = b.made c.args.msg.0 exists in
    let tested : c.has_more.result ≡ nat_lt (c.args.done + 1) (words_of sys.app.table c.args.msg.0) =
    c.has_more.ensures ∙ ap (λ bs. nat_lt (c.args.done + 1) (buffer_at bs c.args.msg.0).words) c.deref.ensures.value ∙ ap (nat_lt (c.args.done + 1)) made.words in
    let put = held_word_put c.args.t.0 c.args.at c.args.done c.args.word sys in
    let left = drop c.self.inside.at c.self.inside.events.items in
    let stood = stood_by sys.app sys (mail_of buffers copies) places s meter left (subst (λ (kept : Kept). Stands kept places s) (sym c.self.view_is) st) in
    let app_is = ap (λ (kept : Kept). kept.app) c.self.view_is in
    let word : c.args.word ≡ noted_word s.plain.values c.args.msg.0 c.args.noted c.args.done =
    subst (λ (kept : Kept). (values : List Value) → StandsFor (buffer_at kept.buffers c.args.msg.0) values → c.args.word ≡ word_of values c.args.noted c.args.done) (sym c.self.view_is) c.requires.word
    (values_at s.plain.values c.args.msg.0) (stood.carries.values.stand c.args.msg.0 exists) in
    let held = c.finish_call.new.self in
    let whole : held ≡ held_answered c.args.t.0 0 put = c.finish_call.ensures.whole ∙ ap (held_answered c.args.t.0 0) c.put_own_word.ensures.whole in
    let app_same = ap (λ (h : Held). h.app) whole in
    let same = c.finish_call.ensures.same ∙ c.put_own_word.ensures.same in
    let told = ends_read sys.app held.app sys held buffers copies places s c.args.t c.args.msg c.args.at c.args.noted c.args.done c.args.word meter c.pass-2.new.self left
    app_same whole c.pass-2.ensures k.runs stood (k.selects ∙ sym same ∙ by_app held sys.app app_same) within word in
    let mailed = subst (λ cs. Shows (keeps held.app held (mail_of buffers cs) left c.pass-2.new.self) places (stepped sys.app s c.args.t (EndsRead c.args.msg c.args.at c.args.noted c.args.done))
    (did_of (Stepped c.args.t CopyStep) None 2 c.pass-2.new.self.clock false))
    (sym c.set_copy-2.ensures) told in
    by_rest _ places sys.app c.args.self.now.app s c.args.t c.args.msg c.args.at c.args.noted c.args.done false c.did-2.result app_is (sym tested ∙ c.if-has_more.false)
    (mailed.0, c.did-2.ensures ∙ mailed.1)

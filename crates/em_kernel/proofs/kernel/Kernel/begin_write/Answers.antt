use Rattle.std.proofs.Common.{◌≡◌, ◌∙◌, ◌<◌, drop, length, None, Some, false, true, sym, ap, subst, refl, arith}
use Rattle.em_gate.specs.Calls.{writes}
use Rattle.em_system.specs.Asked.{IsInside}
use Rattle.em_base.specs.declared.apps.App.{App}
use Rattle.em_system.specs.Held.{selected_of}
use Rattle.em_kernel.specs.declared.did.StepKind.TheVariants.{BeginWrite}
use Rattle.em_kernel.specs.declared.did.What.TheVariants.{Stepped}
use Rattle.em_kernel.specs.declared.meter.Meter.{Meter}
use Rattle.em_kernel.specs.Buffers.{AreBuffers}
use Rattle.em_kernel.specs.Copyings.{copies_of}
use Rattle.em_kernel.specs.Kept.{Kept, Stands, held_by}
use Rattle.em_kernel.specs.Metered.{did_of}
use Rattle.em_kernel.specs.Moves.{StartsWrite, copy_at}
use Rattle.em_kernel.specs.Step.{stepped}
use Rattle.em_kernel.proofs.Copying.{begun, resting}
use Rattle.em_kernel.proofs.Passing.{passed_kernel, runner_inside, same_mail}
use Rattle.em_kernel.proofs.Steps.{Mail, keeps}
use Rattle.em_kernel.proofs.Transfers.{mail_of, starts_write, stood_by}
use Rattle.em_kernel.proofs.kernel.Kernel.begin_write.Goals as goal

pub begin_write-requires-clause-inside : goal.begin_write-requires-clause-inside
begin_write-requires-clause-inside c =
    let sys = c.self.inside.system in
    let k = c.self.invariant.0 in
    let b = c.self.invariant.1 in
    let buffers = c.self.inside.buffers.items in
    let copies = copies_of c.self.inside.copies.items in
    let meter = c.self.inside.meter in
    let granted : IsInside sys.app.table c.args.msg.0 c.args.at = subst (λ (kept : Kept). IsInside kept.app.table c.args.msg.0 c.args.at) (sym c.self.view_is) c.requires.inside in
    let exists : c.args.msg.0 < length buffers = omega (arith, granted.exists, b.messages) in
    exists

pub begin_write-requires-clause-resting : goal.begin_write-requires-clause-resting
begin_write-requires-clause-resting c =
    let sys = c.self.inside.system in
    let k = c.self.invariant.0 in
    let b = c.self.invariant.1 in
    let buffers = c.self.inside.buffers.items in
    let copies = copies_of c.self.inside.copies.items in
    let meter = c.self.inside.meter in
    let none : copy_at copies c.args.t.0 ≡ None = subst (λ (kept : Kept). copy_at kept.copies c.args.t.0 ≡ None) (sym c.self.view_is) c.requires.none in
    let granted : IsInside sys.app.table c.args.msg.0 c.args.at = subst (λ (kept : Kept). IsInside kept.app.table c.args.msg.0 c.args.at) (sym c.self.view_is) c.requires.inside in
    let exists : c.args.msg.0 < length buffers = omega (arith, granted.exists, b.messages) in
    let writer : writes sys.app.table c.args.t.0 c.args.msg.0 ≡ true = subst (λ (kept : Kept). writes kept.app.table c.args.t.0 c.args.msg.0 ≡ true) (sym c.self.view_is) c.requires.writes in
    resting sys buffers copies meter.count c.args.t.0 c.args.msg exists none writer b

pub begin_write-requires-clause-early : goal.begin_write-requires-clause-early
begin_write-requires-clause-early c =
    let sys = c.self.inside.system in
    let k = c.self.invariant.0 in
    let b = c.self.invariant.1 in
    let buffers = c.self.inside.buffers.items in
    let copies = copies_of c.self.inside.copies.items in
    let meter = c.self.inside.meter in
    let none : copy_at copies c.args.t.0 ≡ None = subst (λ (kept : Kept). copy_at kept.copies c.args.t.0 ≡ None) (sym c.self.view_is) c.requires.none in
    let granted : IsInside sys.app.table c.args.msg.0 c.args.at = subst (λ (kept : Kept). IsInside kept.app.table c.args.msg.0 c.args.at) (sym c.self.view_is) c.requires.inside in
    let exists : c.args.msg.0 < length buffers = omega (arith, granted.exists, b.messages) in
    let writer : writes sys.app.table c.args.t.0 c.args.msg.0 ≡ true = subst (λ (kept : Kept). writes kept.app.table c.args.t.0 c.args.msg.0 ≡ true) (sym c.self.view_is) c.requires.writes in
    let rest = resting sys buffers copies meter.count c.args.t.0 c.args.msg exists none writer b in
    omega (arith, rest, (b.made c.args.msg.0 exists).early, k.short)

pub set_copy-requires : goal.set_copy-requires
set_copy-requires c =
    let sys = c.self.inside.system in
    let k = c.self.invariant.0 in
    let b = c.self.invariant.1 in
    let buffers = c.self.inside.buffers.items in
    let copies = copies_of c.self.inside.copies.items in
    let meter = c.self.inside.meter in
    let runs : selected_of sys ≡ Some c.args.t.0 = subst (λ (kept : Kept). selected_of (held_by kept) ≡ Some c.args.t.0) (sym c.self.view_is) c.requires.selected in
    let within = runner_inside sys c.args.t.0 runs in
    let place : c.args.t.0 < length copies = omega (arith, within, b.tasks) in
    record { inside = place }

pub invariant_of-self : goal.invariant_of-self
invariant_of-self c =
    let sys = c.self.inside.system in
    let k = c.self.invariant.0 in
    let b = c.self.invariant.1 in
    let buffers = c.self.inside.buffers.items in
    let copies = copies_of c.self.inside.copies.items in
    let meter = c.self.inside.meter in
    let runs : selected_of sys ≡ Some c.args.t.0 = subst (λ (kept : Kept). selected_of (held_by kept) ≡ Some c.args.t.0) (sym c.self.view_is) c.requires.selected in
    let within = runner_inside sys c.args.t.0 runs in
    let none : copy_at copies c.args.t.0 ≡ None = subst (λ (kept : Kept). copy_at kept.copies c.args.t.0 ≡ None) (sym c.self.view_is) c.requires.none in
    let granted : IsInside sys.app.table c.args.msg.0 c.args.at = subst (λ (kept : Kept). IsInside kept.app.table c.args.msg.0 c.args.at) (sym c.self.view_is) c.requires.inside in
    let exists : c.args.msg.0 < length buffers = omega (arith, granted.exists, b.messages) in
    let writer : writes sys.app.table c.args.t.0 c.args.msg.0 ≡ true = subst (λ (kept : Kept). writes kept.app.table c.args.t.0 c.args.msg.0 ≡ true) (sym c.self.view_is) c.requires.writes in
    let early = subst (λ (kept : Kept). kept.clock < kept.app.table.horizon) (sym c.self.view_is) c.requires.early in
    let short = subst (λ (kept : Kept). kept.count < 1000000) (sym c.self.view_is) c.requires.short in
    let place : c.args.t.0 < length copies = omega (arith, within, b.tasks) in
    let after = c.begin_write.ensures.0 in
    let rest = resting sys buffers copies meter.count c.args.t.0 c.args.msg exists none writer b in
    let are = begun sys buffers copies meter.count c.args.t.0 c.args.msg c.args.at after place exists none granted writer rest c.begin_write.ensures.2 b in
    let count : c.pass.new.self.count ≡ meter.count = ap (λ (m : Meter). m.count) c.pass.ensures in (
      passed_kernel sys sys c.self.inside.charges c.self.inside.events.items c.self.inside.at meter c.pass.new.self None c.self.inside.charges.call
          k refl k.cheap.charged (omega (arith, k.cheap.call)) refl k.sound early short c.pass.ensures,
      subst (λ n. AreBuffers sys c.begin_write.new.buffers.items (copies_of c.set_copy.new.copies.items) n) (sym count)
          (subst (λ (mail : Mail). AreBuffers sys mail.buffers mail.copies meter.count) (same_mail _ _ _ _ (sym c.begin_write.ensures.1) (sym c.set_copy.ensures)) are),
    )

pub returns-clause-step : goal.returns-clause-step
returns-clause-step c = λ places s st.
    let sys = c.self.inside.system in
    let k = c.self.invariant.0 in
    let b = c.self.invariant.1 in
    let buffers = c.self.inside.buffers.items in
    let copies = copies_of c.self.inside.copies.items in
    let meter = c.self.inside.meter in
    let granted : IsInside sys.app.table c.args.msg.0 c.args.at = subst (λ (kept : Kept). IsInside kept.app.table c.args.msg.0 c.args.at) (sym c.self.view_is) c.requires.inside in
    let exists : c.args.msg.0 < length buffers = omega (arith, granted.exists, b.messages) in
    let left = drop c.self.inside.at c.self.inside.events.items in
    let meter' = c.pass.new.self in
    let stood = stood_by sys.app sys (mail_of buffers copies) places s meter left (subst (λ (kept : Kept). Stands kept places s) (sym c.self.view_is) st) in
    let told = starts_write sys.app sys.app sys buffers copies places s c.args.t c.args.msg c.args.at c.begin_write.ensures.0 c.self.inside.charges.call meter meter' left
    refl (ap (λ charges. charges.call) (sym k.charged)) c.pass.ensures k.runs stood k.selects exists c.begin_write.ensures.2 in
    let mailed = subst (λ (mail : Mail). Stands (keeps sys.app sys mail left meter') places (stepped sys.app s c.args.t (StartsWrite c.args.msg c.args.at)).state
    × (did_of (Stepped c.args.t BeginWrite) None c.self.inside.charges.call meter'.clock false ≡ (stepped sys.app s c.args.t (StartsWrite c.args.msg c.args.at)).did))
    (same_mail _ _ _ _ (sym c.begin_write.ensures.1) (sym c.set_copy.ensures)) told in
    let here = subst (λ (a : App). Stands (keeps sys.app sys (mail_of c.begin_write.new.buffers.items (copies_of c.set_copy.new.copies.items)) left meter') places
    (stepped a s c.args.t (StartsWrite c.args.msg c.args.at)).state
    × (did_of (Stepped c.args.t BeginWrite) None c.self.inside.charges.call meter'.clock false ≡ (stepped a s c.args.t (StartsWrite c.args.msg c.args.at)).did))
    (ap (λ (kept : Kept). kept.app) c.self.view_is) mailed in
    (here.0, c.did.ensures ∙ here.1)

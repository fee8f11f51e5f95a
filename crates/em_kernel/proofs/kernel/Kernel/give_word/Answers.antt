-- What the kernel owes of the next word of a read.
use Rattle.std.proofs.Common.{◌≡◌, ◌∙◌, inl, inr, ℕ, ◌<◌, ◌≤◌, ◌+◌, nat_le, drop, length, Result, Ok, Err, Some, false, true, sym, ap, subst, arith}
use Rattle.std.proofs.lemmas.Bool.{cases_lt, false≢true}
use Rattle.std.proofs.lemmas.Bool.Decides.{nat_tests}
use Rattle.em_base.specs.declared.apps.App.{App}
use Rattle.em_admit.specs.Depth.{depth}
use Rattle.em_gate.specs.State.{Reads}
use Rattle.em_kernel.specs.Copyings.{copies_of}
use Rattle.em_kernel.specs.Kept.{Kept, Stands, buffer_at}
use Rattle.em_kernel.specs.Moves.{begun_at, copy_at}
use Rattle.em_state.specs.Buffers.{Kept as Buffer}
use Rattle.em_state.specs.declared.buffers.Lapped.{Lapped as LappedRead}
use Rattle.em_kernel.specs.declared.did.End.TheVariants.{Lapped}
use Rattle.em_kernel.specs.Step.{ended}
use Rattle.em_kernel.proofs.Carrying.{begun_here}
use Rattle.em_kernel.proofs.Copying.{read_of}
use Rattle.em_kernel.proofs.Passing.{by_kept, by_lapse}
use Rattle.em_kernel.proofs.Transfers.{mail_of, stood_by}
use Rattle.em_kernel.proofs.kernel.Kernel.give_word.Goals as goal

not_lapsed : (a b a' b' : ℕ) → a ≡ a' → b ≡ b' → b' < a' → nat_le a b ≡ false
not_lapsed a b a' b' ea eb h = grind (arith, nat_tests, ea, eb, h)

is_lapsed : (a b a' b' : ℕ) → a ≡ a' → b ≡ b' → a' ≤ b' → nat_le a b ≡ true
is_lapsed a b a' b' ea eb h = grind (arith, nat_tests, ea, eb, h)

ok_err : (word : ℕ) (lapsed : LappedRead) → Ok word ≡ Err lapsed → ⊥
ok_err word lapsed e = cc

abbrev the_result : LappedRead → Result ℕ LappedRead
the_result lapsed = Err lapsed

same_lapse : (lapsed other : LappedRead) → the_result lapsed ≡ the_result other → lapsed ≡ other
same_lapse lapsed other e = cc

pub returns-in-Ok-clause-step : goal.returns-in-Ok-clause-step
returns-in-Ok-clause-step c = λ places s st.
    let sys = c.self.inside.system in
    let k = c.self.invariant.0 in
    let b = c.self.invariant.1 in
    let buffers = c.self.inside.buffers.items in
    let copies = copies_of c.self.inside.copies.items in
    let meter = c.self.inside.meter in
    let copy : copy_at copies c.args.t.0 ≡ Some (Reads c.args.msg c.args.at c.args.noted c.args.done) =
    subst (λ (kept : Kept). copy_at kept.copies c.args.t.0 ≡ Some (Reads c.args.msg c.args.at c.args.noted c.args.done)) (sym c.self.view_is) c.requires.copy in
    let r = read_of sys buffers copies meter.count c.args.t.0 c.args.msg c.args.at c.args.noted c.args.done copy b in
    let exists : c.args.msg.0 < length buffers = omega (arith, r.inside.exists, b.messages) in
    let made = b.made c.args.msg.0 exists in
    let left = drop c.self.inside.at c.self.inside.events.items in
    let stood = stood_by sys.app sys (mail_of buffers copies) places s meter left (subst (λ (kept : Kept). Stands kept places s) (sym c.self.view_is) st) in
    let app_is = ap (λ (kept : Kept). kept.app) c.self.view_is in
    let seen = buffer_at c.deref.result.now c.args.msg.0 in
    let same : buffer_at buffers c.args.msg.0 ≡ seen = ap (λ bs. buffer_at bs c.args.msg.0) (sym c.deref.ensures.value) in
    let begun_is : begun_at s.begun c.args.msg.0 ≡ seen.begun =
    ap (λ bs. begun_at bs c.args.msg.0) (sym stood.carries.begun) ∙ begun_here buffers c.args.msg.0 exists ∙ ap (λ (x : Buffer). x.begun) same in
    let depth_is : depth c.args.self.now.app.table c.args.msg.0 ≡ seen.depth =
    ap (λ (a : App). depth a.table c.args.msg.0) (sym app_is) ∙ sym made.depth ∙ ap (λ (x : Buffer). x.depth) same in
    let test : nat_le (c.args.noted + depth c.args.self.now.app.table c.args.msg.0) (begun_at s.begun c.args.msg.0) ≡ false =
    elim (cases_lt seen.begun (c.args.noted + seen.depth)) as (λ _. nat_le (c.args.noted + depth c.args.self.now.app.table c.args.msg.0) (begun_at s.begun c.args.msg.0) ≡ false) [
      | inl less ↦ not_lapsed _ _ (c.args.noted + seen.depth) seen.begun (ap (λ n. c.args.noted + n) depth_is) begun_is less
      | inr late ↦ absurd (ok_err c.in-Ok.word _ (c.in-Ok.ensures.lapped late))
    ] in
    by_kept c.put_noted.new.self places c.args.self.now.app s c.args.t c.args.msg c.args.at c.args.noted c.args.done c.put_noted.result test (c.put_noted.ensures.step places s st)

pub returns-in-Err-clause-step : goal.returns-in-Err-clause-step
returns-in-Err-clause-step c = λ places s st.
    let sys = c.self.inside.system in
    let k = c.self.invariant.0 in
    let b = c.self.invariant.1 in
    let buffers = c.self.inside.buffers.items in
    let copies = copies_of c.self.inside.copies.items in
    let meter = c.self.inside.meter in
    let copy : copy_at copies c.args.t.0 ≡ Some (Reads c.args.msg c.args.at c.args.noted c.args.done) =
    subst (λ (kept : Kept). copy_at kept.copies c.args.t.0 ≡ Some (Reads c.args.msg c.args.at c.args.noted c.args.done)) (sym c.self.view_is) c.requires.copy in
    let r = read_of sys buffers copies meter.count c.args.t.0 c.args.msg c.args.at c.args.noted c.args.done copy b in
    let exists : c.args.msg.0 < length buffers = omega (arith, r.inside.exists, b.messages) in
    let made = b.made c.args.msg.0 exists in
    let left = drop c.self.inside.at c.self.inside.events.items in
    let stood = stood_by sys.app sys (mail_of buffers copies) places s meter left (subst (λ (kept : Kept). Stands kept places s) (sym c.self.view_is) st) in
    let app_is = ap (λ (kept : Kept). kept.app) c.self.view_is in
    let seen = buffer_at c.deref.result.now c.args.msg.0 in
    let same : buffer_at buffers c.args.msg.0 ≡ seen = ap (λ bs. buffer_at bs c.args.msg.0) (sym c.deref.ensures.value) in
    let begun_is : begun_at s.begun c.args.msg.0 ≡ seen.begun =
    ap (λ bs. begun_at bs c.args.msg.0) (sym stood.carries.begun) ∙ begun_here buffers c.args.msg.0 exists ∙ ap (λ (x : Buffer). x.begun) same in
    let depth_is : depth c.args.self.now.app.table c.args.msg.0 ≡ seen.depth =
    ap (λ (a : App). depth a.table c.args.msg.0) (sym app_is) ∙ sym made.depth ∙ ap (λ (x : Buffer). x.depth) same in
    let late : c.args.noted + seen.depth ≤ seen.begun =
    elim (cases_lt seen.begun (c.args.noted + seen.depth)) as (λ _. c.args.noted + seen.depth ≤ seen.begun) [
      | inl less ↦ absurd (false≢true (c.in-Err.ensures.kept less))
      | inr late ↦ late
    ] in
    let test : nat_le (c.args.noted + depth c.args.self.now.app.table c.args.msg.0) (begun_at s.begun c.args.msg.0) ≡ true =
    is_lapsed _ _ (c.args.noted + seen.depth) seen.begun (ap (λ n. c.args.noted + n) depth_is) begun_is late in
    let told : c.in-Err.lapsed ≡ record { noted = c.args.noted; begun = seen.begun } = same_lapse _ _ (c.in-Err.ensures.lapped late) in
    by_lapse c.args.self.now places c.args.self.now.app s c.args.t c.args.msg c.args.at c.args.noted c.args.done c.end.result test (
      st,
      c.end.ensures.did s places st
          ∙ ap (λ (l : LappedRead). (ended s (Lapped c.args.msg l.noted l.begun)).did) told
          ∙ ap (λ n. (ended s (Lapped c.args.msg c.args.noted n)).did) (sym begun_is),
    )

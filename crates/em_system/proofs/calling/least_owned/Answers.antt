use Rattle.std.proofs.Common.{◌≡◌, ◌∙◌, ℕ, Bool, true, false, length, sym, ap, arith}
use Rattle.em_base.specs.Selection.{is_task, owner_at}
use Rattle.em_system.proofs.Scans.{passing, passing_all, passing_here, passing_later, passing_none, first_semaphore}
use Rattle.em_system.proofs.calling.least_owned.Goals as goal

pub returns-then-is_owner : goal.returns-then-is_owner
returns-then-is_owner c =
    let owners = c.args.owners.now in
    let test : (ℕ → Bool) = λ r. is_task c.args.t.0 (owner_at owners r) in
    let here : test c.loop-s.s ≡ true = ap test (sym c.from.ensures) ∙ sym c.is_owner.ensures ∙ c.if-is_owner.true in
    sym (ap first_semaphore (passing_all test (length owners) ∙ c.loop-s.invariant ∙ passing_here test c.loop-s.s (length owners) c.loop-s-test.true here))

pub returns : goal.returns
returns c =
    let owners = c.args.owners.now in
    let test : (ℕ → Bool) = λ r. is_task c.args.t.0 (owner_at owners r) in
    let end : c.loop-s.s ≡ length owners = omega (arith, c.loop-s-test.false, c.loop-s.auto.s-end) in
    sym (ap first_semaphore (passing_all test (length owners) ∙ c.loop-s.invariant ∙ ap (λ s. passing test s (length owners)) end ∙ passing_none test (length owners)))

pub loop-s-preserved : goal.loop-s-preserved
loop-s-preserved c =
    let owners = c.args.owners.now in
    let test : (ℕ → Bool) = λ r. is_task c.args.t.0 (owner_at owners r) in
    let here : test c.loop-s.s ≡ false = ap test (sym c.from.ensures) ∙ sym c.is_owner.ensures ∙ c.if-is_owner.false in
    c.loop-s.invariant ∙ passing_later test c.loop-s.s (length owners) c.loop-s-test.true here

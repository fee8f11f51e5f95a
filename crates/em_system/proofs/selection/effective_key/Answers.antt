use Rattle.std.proofs.Common.{rules, ◌≡◌, ◌∙◌, ℕ, ◌-◌, Bool, true, length, sym, arith}
use Rattle.em_base.specs.Selection.{Scene, counts_for}
use Rattle.em_system.specs.Standings.{scene_from}
use Rattle.em_system.proofs.Scans.{least_from, better_found}
use Rattle.em_system.proofs.selection.effective_key.Goals as goal

pub loop-u-preserved-then-counts_for : goal.loop-u-preserved-then-counts_for
loop-u-preserved-then-counts_for c =
    let standings = c.args.standings.now in
    let scene : Scene = scene_from c.args.depth standings in
    let test : (ℕ → Bool) = counts_for scene c.args.t in
    let passes : test (c.loop-u.u - 1) ≡ true = sym c.counts_for.ensures ∙ c.if-counts_for.true in
    record {
      within = omega (arith, c.loop-u.invariant.within);
      best = better_found test scene.key (c.loop-u.u - 1) c.loop-u.u (length standings) c.better-best.result
          (omega (arith, c.loop-u.invariant.within, c.loop-u-test.true)) (omega (arith, c.loop-u-test.true)) passes
          (c.better-best.ensures scene.key (least_from test scene.key c.loop-u.u (length standings)) c.loop-u.invariant.best (search rules));
    }

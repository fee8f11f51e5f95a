use Rattle.std.proofs.Common.{rules, ◌≡◌, ◌-◌, true, length, arith}
use Rattle.em_base.specs.Selection.{Scene, effective_key}
use Rattle.em_system.specs.Standings.{scene_from}
use Rattle.em_system.proofs.Scans.{least_from, better_found}
use Rattle.em_system.proofs.selection.select.Goals as goal

pub loop-t-preserved-then-standings-from : goal.loop-t-preserved-then-standings-from
loop-t-preserved-then-standings-from c =
    let standings = c.args.standings.now in
    let scene : Scene = scene_from c.args.depth standings in
    let passes : scene.ready (c.loop-t.t - 1) ≡ true = search rules in
    record {
      within = omega (arith, c.loop-t.invariant.within);
      best = better_found scene.ready (effective_key scene) (c.loop-t.t - 1) c.loop-t.t (length standings) c.better-best.result
          (omega (arith, c.loop-t.invariant.within, c.loop-t-test.true)) (omega (arith, c.loop-t-test.true)) passes
          (c.better-best.ensures (effective_key scene) (least_from scene.ready (effective_key scene) c.loop-t.t (length standings)) c.loop-t.invariant.best c.effective_key.ensures);
    }

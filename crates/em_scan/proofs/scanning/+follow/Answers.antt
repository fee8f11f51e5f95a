use Rattle.std.proofs.Common.{◌∙◌, ◌-◌, ap, ap₂, sym}
use Rattle.em_scan.specs.Computed.{agreed, hint_from}
use Rattle.em_scan.specs.Private.{learned, next}
use Rattle.em_scan.proofs.Steps.{hint_forks, hint_goes}
use Rattle.em_scan.proofs.scanning.+follow.Goals as goal

pub returns-else-left-eq0 : goal.returns-else-left-eq0
returns-else-left-eq0 t c =
    let nexts = next c.args.code.now c.args.bounds.sems c.args.bounds.own in
    let learns = learned c.args.code.now in
    let seen = c.look-next.ensures in
    c.follow.ensures
    ∙ ap (hint_from nexts learns (c.args.left - 1) c.args.most c.in-Goes.y) seen.known
    ∙ hint_goes nexts learns c.args.left c.args.most c.args.x c.in-Goes.y c.args.known.now.values c.if-left-eq0.false (sym seen.next ∙ c.in-Goes.is)

pub returns-else-most-eq0 : goal.returns-else-most-eq0
returns-else-most-eq0 t c =
    let nexts = next c.args.code.now c.args.bounds.sems c.args.bounds.own in
    let learns = learned c.args.code.now in
    let seen = c.look-next.ensures in
    let some = c.if-most-eq0.false in
    let here = c.follow-else-most-eq0.ensures ∙ ap (hint_from nexts learns (c.args.left - 1) (c.args.most - 1) c.in-Forks.y) seen.known in
    let there = c.follow-else-most-eq0-2.ensures ∙ ap (hint_from nexts learns (c.args.left - 1) (c.args.most - 1) c.in-Forks.z) seen.known in
    c.agreed_on.ensures
    ∙ ap₂ agreed here there
    ∙ hint_forks nexts learns c.args.left c.args.most c.args.x c.in-Forks.y c.in-Forks.z c.args.known.now.values some.0 some.1 (sym seen.next ∙ c.in-Forks.is)

use Rattle.std.proofs.Common.{◌∙◌, ap, sym}
use Rattle.em_scan.specs.Computed.{hint_from}
use Rattle.em_scan.specs.Hint.{most_branches, most_members}
use Rattle.em_scan.specs.Known.{nothing_known}
use Rattle.em_scan.specs.Private.{learned, next}
use Rattle.em_scan.proofs.Back.{says_what_all_say}
use Rattle.em_scan.proofs.scanning.scan.Goals as goal

pub returns : goal.returns
returns c = λ s.
    let nexts = next c.args.code.now c.args.sems c.args.own in
    let learns = learned c.args.code.now in
    let law = says_what_all_say nexts learns most_members most_branches c.args.after nothing_known s in
    let found = c.follow.ensures ∙ ap (hint_from nexts learns most_members most_branches c.args.after) c.nothing.ensures in
    (λ e. law.0 (sym found ∙ e), λ all. found ∙ law.1 all)

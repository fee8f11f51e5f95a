use Rattle.em_run.proofs.OneAnswer.{BundleLaws, same_answer, some_answer}
use Rattle.em_run.proofs.OneCommand.{command_or_none, one_command}
use Rattle.em_run.proofs.laws.one_answer.Goals as goal

pub returns-clause-command : goal.returns-clause-command
returns-clause-command c = command_or_none

pub returns-clause-same_command : goal.returns-clause-same_command
returns-clause-same_command c = one_command

pub returns-clause-some : goal.returns-clause-some
returns-clause-some c =
    let bundles : BundleLaws = record { some = c.one_application.ensures.some; app = c.one_application.ensures.app; refusal = c.one_application.ensures.refusal; either = c.one_application.ensures.either } in
    some_answer bundles record { some = c.one_listing.ensures.some; same = c.one_listing.ensures.same }

pub returns-clause-same : goal.returns-clause-same
returns-clause-same c =
    let bundles : BundleLaws = record { some = c.one_application.ensures.some; app = c.one_application.ensures.app; refusal = c.one_application.ensures.refusal; either = c.one_application.ensures.either } in
    same_answer bundles record { some = c.one_listing.ensures.some; same = c.one_listing.ensures.same }

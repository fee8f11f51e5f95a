use Rattle.std.proofs.Common.{◌≡◌, ◌∙◌, true, ap, ap₂, rules}
use Rattle.clap.specs.Simple.{on_top}
use Rattle.clap.specs.Words.{App, app_of, rule_of, with_rule}
use Rattle.em_run.specs.Commands.{bare_line, command_rule, number_rule}
use Rattle.em_run.proofs.commands.command_line.Goals as goal

pub returns : goal.returns
returns c =
    let command_is : rule_of c.action-command.result ≡ command_rule = search rules in
    let number_is : rule_of c.action-number.result ≡ number_rule = search rules in
    let bare_is : app_of c.no_binary_name.result ≡ bare_line = rw c.no_binary_name.ensures (rw c.disable_version_flag.ensures (rw c.disable_help_flag.ensures (ap (λ (a : App). on_top (λ s. record s { disable_help_flag = true; disable_version_flag = true; no_binary_name = true }) a) c.new-3.ensures.app))) in
    c.in_ok-line.ensures.shape (search rules)
    ∙ ap₂ with_rule (c.in_ok-arg.ensures.shape (search rules) ∙ ap₂ with_rule bare_is command_is) number_is

use Rattle.std.proofs.Common.{◌∙◌, ◌&&◌, sym, ap, refl}
use Rattle.em_base.specs.Selection.{is_task, owner_at}
use Rattle.em_system.proofs.Flags.{no_flag, none_below_zero}
use Rattle.em_system.proofs.owning.owned_by.Goals as goal

pub loop-s-init : goal.loop-s-init
loop-s-init c = record {
  flags = λ r. no_flag 32 r ∙ sym (ap (λ b. b && is_task c.args.t.0 (owner_at c.args.owners.now r)) (none_below_zero r));
  count = refl;
}

use Rattle.std.proofs.Common.{◌∙◌, true, false, replicate, slice_set, ap}
use Rattle.em_system.specs.Held.{has_flag}
use Rattle.em_system.proofs.Flags.{one_flag}
use Rattle.em_system.proofs.owning.only.Goals as goal

pub returns : goal.returns
returns c = λ r. ap (λ s. has_flag (slice_set (replicate 32 false) s true) r) c.from.ensures ∙ one_flag 32 c.args.s.0 c.requires r

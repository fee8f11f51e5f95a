use Rattle.em_bundle.proofs.DeepBuffers.{AreShallowTo}
use Rattle.em_bundle.proofs.loading.is_too_deep.Given as goal

-- no buffer so far is too deep
abbrev pub invariant-loop-m : goal.invariant-loop-m
invariant-loop-m l = AreShallowTo l.table l.m

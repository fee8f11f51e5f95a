use Rattle.em_gate.proofs.Bits.{bit_set, within_set}
use Rattle.em_gate.proofs.masks.with_bit.Goals as goal

pub returns-clause-bits : goal.returns-clause-bits
returns-clause-bits c = λ j. bit_set c.args.bits c.args.i j c.requires

pub returns-clause-within : goal.returns-clause-within
returns-clause-within c = λ k below small. within_set c.args.bits c.args.i k c.requires below small

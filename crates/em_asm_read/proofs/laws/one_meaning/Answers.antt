use Rattle.em_asm_read.proofs.OneMeaning.{fault-once, line-once, never-both, has-meaning}
use Rattle.em_asm_read.proofs.laws.one_meaning.Goals as goal

pub returns : goal.returns
returns c = record { some = has-meaning; line = line-once; fault = fault-once; either = never-both }

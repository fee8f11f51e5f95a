use Rattle.em_isa.proofs.InstructionOrNone.{decided}
use Rattle.em_isa.proofs.OneInstruction.{same}
use Rattle.em_isa.proofs.laws.one_instruction.Goals as goal

pub returns : goal.returns
returns c = record { same = same; decided = decided }

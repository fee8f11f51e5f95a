use Rattle.std.proofs.Common.{refl}
use Rattle.em_isa.specs.Encoding.{word_of}
use Rattle.em_hart.proofs.CarriesOut.{addition, upper}
use Rattle.em_hart.proofs.OutcomeOfWord.{outcome_of_word}
use Rattle.em_hart.proofs.laws.carries_out.Goals as goal

pub returns : goal.returns
returns c = record {
  fields = λ i fits registers own shared. outcome_of_word i fits (word_of i) refl registers own shared;
  upper = upper;
  addition = addition;
}

use Rattle.em_base.proofs.WrittenNumbers.{number_found, number_tells}
use Rattle.em_base.proofs.laws.written_numbers.Goals as goal

pub returns : goal.returns
returns c = λ text z. (number_found text z, number_tells text z)

use Rattle.em_show.proofs.TextsReadBack.{instruction-back, text-back, text-first}
use Rattle.em_show.proofs.laws.reads_back.Goals as goal

pub returns : goal.returns
returns c = record { instruction = instruction-back; word = text-back; no_header = text-first }

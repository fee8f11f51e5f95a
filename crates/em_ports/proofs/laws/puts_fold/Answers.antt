use Rattle.em_ports.proofs.Puts.{some-after_words, some-after_puts, none-after_puts}
use Rattle.em_ports.proofs.laws.puts_fold.Goals as goal

pub returns-clause-words : goal.returns-clause-words
returns-clause-words c = some-after_words

pub returns-clause-puts : goal.returns-clause-puts
returns-clause-puts c = some-after_puts

pub returns-clause-unplugged : goal.returns-clause-unplugged
returns-clause-unplugged c = none-after_puts

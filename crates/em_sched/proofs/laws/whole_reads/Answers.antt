use Rattle.em_sched.proofs.Agreeing.{simple}
use Rattle.em_sched.proofs.WholeReads.{reads_whole}
use Rattle.em_sched.proofs.laws.whole_reads.Goals as goal

pub returns : goal.returns
returns c = λ app ports is none n t m at noted ends. reads_whole app ports n t m at noted (simple app is none) ends

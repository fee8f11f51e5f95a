-- What a step of a task was, by its outcome.
use Rattle.em_hart.specs.declared.answers.Stepped.{Stepped}
use Rattle.em_hart.specs.declared.answers.Stepped.TheVariants.{Ran, Call, Fault}
use Rattle.em_gate.specs.Outcome.{Outcome, Works, Falls}

-- an instruction of its class, a fault, or a call
abbrev pub stepped_of : Outcome → Stepped
stepped_of (Works class core shared) = Ran class
stepped_of (Falls cause) = Fault cause
stepped_of _ = Call

-- How the answer of a step, and what stands after it, report what the instruction came to.
use Rattle.std.specs.Prelude.{◌≡◌}
use Rattle.em_hart.specs.declared.answers.Stepped.{Stepped}
use Rattle.em_hart.specs.declared.answers.Stepped.TheVariants.{Ran as RanStep, Call as CallStep, Fault as FaultStep}
use Rattle.em_hart.specs.Hart.{Registers, Memory}
use Rattle.em_hart.specs.Instruction.{Outcome, Ran, Call, Fault}

-- nothing has changed
pub record IsUnchanged (registers : Registers) (own shared : Memory) (registers' : Registers) (own' shared' : Memory) : Type 0 where
  pub same_registers : registers' ≡ registers
  pub same_own : own' ≡ own
  pub same_shared : shared' ≡ shared

-- the answer, with what stood before (unprimed) and what stands after (primed), is the outcome
abbrev pub Reports : Stepped → Outcome → Registers → Memory → Memory → Registers → Memory → Memory → Type 0
Reports (RanStep class) outcome registers own shared registers' own' shared' = outcome ≡ Ran class registers' own' shared'
Reports CallStep outcome registers own shared registers' own' shared' =
    (outcome ≡ Call) × IsUnchanged registers own shared registers' own' shared'
Reports (FaultStep cause) outcome registers own shared registers' own' shared' =
    (outcome ≡ Fault cause) × IsUnchanged registers own shared registers' own' shared'

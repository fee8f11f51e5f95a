-- What a hint is to the machine: where the program counter of a task is behind the call, the task comes to the acquire of the hint, by
-- instructions that change its registers alone. This project's own.
use Rattle.std.specs.Prelude.{◌≡◌, ℕ, zero, suc, List}
use Rattle.em_base.specs.declared.ids.SemId.{SemId}
use Rattle.em_hart.specs.declared.answers.Class.{Class}
use Rattle.em_hart.specs.Hart.{Memory, Registers, register}
use Rattle.em_hart.specs.Instruction.{Call, Ran, exec}

-- the task takes so many instructions to come from some registers to others, and they change nothing else
abbrev pub RunsTo : ℕ → List ℕ → Memory → Memory → Registers → Registers → Type 0
RunsTo zero code own shared registers last = registers ≡ last
RunsTo (suc n) code own shared registers last =
    (class : Class) × (after : Registers) × (exec registers own shared code ≡ Ran class after own shared) × RunsTo n code own shared after last

-- the next instruction is a call, and its registers ask for the acquire of s
pub record IsAtAcquire (code : List ℕ) (own shared : Memory) (s : SemId) (registers : Registers) : Type 0 where
  pub calls : exec registers own shared code ≡ Call
  pub number : register registers 17 ≡ 2
  pub semaphore : register registers 10 ≡ s.0

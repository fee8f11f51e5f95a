pub mod InstructionOrNone
pub mod Joined
pub mod OneInstruction
pub mod Signs

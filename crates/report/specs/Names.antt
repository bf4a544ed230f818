-- The declared types and constructors that this crate names, each under the name that the declaring crate gives it.
pub use Rattle.isa.specs.declared.Exception.{Exception}
pub use Rattle.isa.specs.declared.Exception.TheVariants.{PrivilegedInstruction, IllegalInstruction}
pub use Rattle.isa.specs.declared.Exception.TheVariants.{Syscall as SyscallException}
pub use Rattle.refusal.specs.declared.Refusal.{Refusal}
pub use Rattle.refusal.specs.declared.Refusal.TheVariants.{BadRegister, BadCommand, BadLength, Faulty}
pub use Rattle.sheet.specs.declared.End.{End}
pub use Rattle.sheet.specs.declared.End.TheVariants.{Halted, Spent, Refused as EndRefused, Loads}
pub use Rattle.sheet.specs.declared.End.TheVariants.{Numbered}
pub use Rattle.latch.specs.declared.MemWb.{MemWb}
pub use Rattle.stages.specs.declared.Stages.{Stages}
pub use Rattle.runs.specs.declared.Ran.{Ran}

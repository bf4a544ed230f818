-- The declared types and constructors that this crate names, each under the name that the declaring crate gives it.
pub use Rattle.isa.specs.declared.Mode.{Mode}
pub use Rattle.isa.specs.declared.Mode.TheVariants.{Normal}
pub use Rattle.isa.specs.declared.Start.{Start}
pub use Rattle.isa.specs.declared.Instruction.{Instruction}
pub use Rattle.isa.specs.declared.Instruction.TheVariants.{Addi, Cpuid, Div, Halt, Ld, Ldb, St, Stb}
pub use Rattle.isa.specs.declared.Decoded.{Decoded}
pub use Rattle.isa.specs.declared.Request.{Request}
pub use Rattle.isa.specs.declared.Request.TheVariants.{Load, Store}
pub use Rattle.latch.specs.declared.ExMem.{ExMem}
pub use Rattle.latch.specs.declared.MemWb.{MemWb}
pub use Rattle.refusal.specs.declared.Refusal.{Refusal}
pub use Rattle.refusal.specs.declared.Refusal.TheVariants.{BadEntry, LogFull, ShortLog}
pub use Rattle.cardlog.specs.declared.Event.{Event}
pub use Rattle.cardlog.specs.declared.Event.TheVariants.{Retired, Written, Load as Loaded, Store as Stored}
pub use Rattle.cardlog.specs.declared.Read.{Read}
pub use Rattle.pipeline.specs.declared.PipelineCpu.{PipelineCpu}
pub use Rattle.pipeline.specs.declared.Given.{Given}

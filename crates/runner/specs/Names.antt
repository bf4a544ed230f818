-- The declared types and constructors that this crate names, each under the name that the declaring crate gives it.
pub use Rattle.isa.specs.declared.Instruction.TheVariants.{Nop}
pub use Rattle.isa.specs.declared.Place.{Place}
pub use Rattle.isa.specs.declared.RawInstr.{RawInstr}
pub use Rattle.isa.specs.declared.RawInstr.TheVariants.{Normal as RawNormal}
pub use Rattle.sheet.specs.declared.End.{End}
pub use Rattle.sheet.specs.declared.End.TheVariants.{Halted, Spent}
pub use Rattle.stages.specs.declared.Move.TheVariants.{KeepWaiting as keep_waiting}
pub use Rattle.stages.specs.declared.Stages.{Stages}
pub use Rattle.stages.specs.declared.Counters.{Counters}
pub use Rattle.stages.specs.declared.Plan.{Plan}
pub use Rattle.pipeline.specs.declared.PipelineCpu.{PipelineCpu}
pub use Rattle.pipeline.specs.declared.Given.{Given}
pub use Rattle.runs.specs.declared.Ran.{Ran}
